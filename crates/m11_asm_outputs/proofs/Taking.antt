-- A loop over items, each of which writes the records that it completes.
use Rattle.std.proofs.Common.{◌≡◌, List, [], ◌∷◌, ◌++◌, refl, sym, ap, subst, ◌∙◌, append_assoc, append-nil}
use Rattle.m11_asm_faults.specs.declared.fault.AsmFault.{AsmFault}
use Rattle.m11_obj.specs.Records.{Content}
use Rattle.m11_base_writes.specs.States.{OutputState}
use Rattle.m11_asm_outputs.specs.Object.{added, content_writes, AllFit}
use Rattle.m11_asm_outputs.specs.Outputs.{Gains, Stops, assembly}
use Rattle.m11_base_writes.specs.Outputs.{Outputs}
use Rattle.m11_asm_outputs.proofs.Fitting.{all_fit-append, fit_as}
use Rattle.m11_asm_outputs.proofs.Growing.{added-append, added-nil}
use Rattle.m11_base_writes.proofs.Looping.{Leads, stopped_there, wrote_all, wrote_one}
use Rattle.m11_asm_outputs.proofs.Looping.{content_writes-append, no_contents}

-- after some of the items: the state is the one after them, the records completed by the others are left to write, and if those fit,
-- all fit
pub record Taken {A S : Type 0} (made : List A → List Content) (Holds : List A → S → Type 0)
    (start now : OutputState → OutputState → Outputs) (old new : S) (all left : List A) : Type 0 where
  pub done : List A
  pub split : all ≡ done ++ left
  pub holds : (before : List A) → Holds before old → Holds (before ++ done) new
  pub leads : (before : List A) → Holds before old → (listing messages : OutputState)
      → Leads assembly (Unit {0}) (start listing messages) (now listing messages)
      (content_writes (added made (before ++ done) left)) (content_writes (added made before all))
  pub fits : (before : List A) → Holds before old → AllFit (added made (before ++ done) left) → AllFit (added made before all)

module _ {A S : Type 0} (made : List A → List Content)
    (grows : (xs ys : List A) → (more : List Content) × (made (xs ++ ys) ≡ made xs ++ more))
    (Holds : List A → S → Type 0) (start : OutputState → OutputState → Outputs) (old : S) (all : List A) where
  pub none_taken : Taken made Holds start start old old all all
  none_taken = record {
    done = [];
    split = refl;
    holds = λ before h. let P : List A → Type 0 = λ items. Holds items old in subst P (sym (append-nil before)) h;
    leads = λ before h listing messages.
        let P : List A → Type 0 =
        λ items. Leads assembly (Unit {0}) (start listing messages) (start listing messages) (content_writes (added made items all))
        (content_writes (added made before all)) in
        subst P (sym (append-nil before)) (λ new result writes. writes);
    fits = λ before h fit. fit_as _ _ (ap (λ (items : List A). added made items all) (append-nil before)) fit;
  }

  module _ (now : OutputState → OutputState → Outputs) (new : S) (item : A) (rest left : List A) (e : left ≡ item ∷ rest)
      (taken : Taken made Holds start now old new all left) where
    left_is : (before : List A) → content_writes (added made before left)
        ≡ content_writes (added made before (item ∷ [])) ++ content_writes (added made (before ++ item ∷ []) rest)
    left_is before =
        ap (λ (t : List A). content_writes (added made before t)) e
        ∙ ap content_writes (added-append made grows before (item ∷ []) rest)
        ∙ content_writes-append (added made before (item ∷ [])) (added made (before ++ item ∷ []) rest)

    pub one_taken : (later : OutputState → OutputState → Outputs) (new' : S)
        → ((before : List A) → Holds before new → (listing messages : OutputState)
        → Gains (now listing messages) (later listing messages) (content_writes (added made before (item ∷ []))))
        → ((before : List A) → Holds before new → Holds (before ++ item ∷ []) new')
        → ((before : List A) → Holds before new → AllFit (added made before (item ∷ [])))
        → Taken made Holds start later old new' all rest
    one_taken later new' gains holds fit = record {
      done = taken.done ++ item ∷ [];
      split = taken.split ∙ ap (λ (t : List A). taken.done ++ t) e ∙ sym (append_assoc taken.done (item ∷ []) rest);
      holds = λ before h.
          let P : List A → Type 0 = λ items. Holds items new' in
          subst P (append_assoc before taken.done (item ∷ [])) (holds (before ++ taken.done) (taken.holds before h));
      leads = λ before h listing messages.
          wrote_one assembly (start listing messages) (now listing messages) (content_writes (added made before all))
          (later listing messages) (content_writes (added made (before ++ taken.done) (item ∷ [])))
          (content_writes (added made (before ++ (taken.done ++ item ∷ [])) rest))
          (content_writes (added made (before ++ taken.done) left))
          (left_is (before ++ taken.done)
          ∙ ap (λ (t : List A). content_writes (added made (before ++ taken.done) (item ∷ []))
          ++ content_writes (added made t rest)) (append_assoc before taken.done (item ∷ [])))
          (taken.leads before h listing messages)
          (gains (before ++ taken.done) (taken.holds before h) listing messages);
      fits = λ before h rest_fits.
          let here = before ++ taken.done in
          taken.fits before h
          (fit_as _ _ (sym (ap (λ (t : List A). added made here t) e ∙ added-append made grows here (item ∷ []) rest))
          (all_fit-append _ _ (fit here (taken.holds before h))
          (fit_as _ _ (ap (λ (t : List A). added made t rest) (sym (append_assoc before taken.done (item ∷ [])))) rest_fits)));
    }

    pub stopped_at : (before : List A) → Holds before old → (listing messages : OutputState) (end : Outputs) (stopped : AsmFault)
        → ((done : List A) → Holds done new
        → Stops (now listing messages) end (content_writes (added made done (item ∷ []))) stopped)
        → Stops (start listing messages) end (content_writes (added made before all)) stopped
    stopped_at before h listing messages end stopped stops =
        stopped_there assembly (start listing messages) (now listing messages) (content_writes (added made before all)) end
        (content_writes (added made (before ++ taken.done) (item ∷ [])))
        (content_writes (added made ((before ++ taken.done) ++ item ∷ []) rest))
        (content_writes (added made (before ++ taken.done) left)) stopped (left_is (before ++ taken.done))
        (taken.leads before h listing messages) (stops (before ++ taken.done) (taken.holds before h))

  module _ (now : OutputState → OutputState → Outputs) (new : S) (left : List A) (e : left ≡ [])
      (taken : Taken made Holds start now old new all left) where
    pub all_written : (before : List A) → Holds before old → (listing messages : OutputState)
        → Gains (start listing messages) (now listing messages) (content_writes (added made before all))
    all_written before h listing messages =
        wrote_all assembly {A = Unit {0}} (start listing messages) (now listing messages) (content_writes (added made before all))
        (content_writes (added made (before ++ taken.done) left)) tt
        (ap (λ (t : List A). content_writes (added made (before ++ taken.done) t)) e
        ∙ ap content_writes (sym (added-nil made grows (before ++ taken.done))) ∙ no_contents)
        (taken.leads before h listing messages)

    pub all_fit : (before : List A) → Holds before old → AllFit (added made before all)
    all_fit before h =
        taken.fits before h
        (fit_as [] _ (added-nil made grows (before ++ taken.done)
        ∙ sym (ap (λ (t : List A). added made (before ++ taken.done) t) e)) tt)

    pub all_held : (before : List A) → Holds before old → Holds (before ++ all) new
    all_held before h =
        let P : List A → Type 0 = λ items. Holds (before ++ items) new in
        subst P (sym (taken.split ∙ ap (λ (t : List A). taken.done ++ t) e ∙ append-nil taken.done)) (taken.holds before h)
