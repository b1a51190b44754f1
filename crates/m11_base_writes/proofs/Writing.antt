-- Writes one after another. (This project's own.)
use Rattle.std.proofs.Common.{◌≡◌, ◌≢◌, ℕ, Bool, true, false, List, [], ◌∷◌, ◌++◌, Option, Some, None, Result, Ok, Err, IsErrAnd, sym, ap, ◌∙◌, append_assoc, append-nil, refl, subst, if◌then◌else◌}
use Rattle.std.proofs.lemmas.Grind.{flat_map-append}
use Rattle.std.specs.Io.KnownBytes.{Appends}
use Rattle.m11_base.proofs.Known.{Appends-Appends}
use Rattle.m11_base_writes.specs.States.{OutputState, Puts}
use Rattle.m11_base_writes.specs.Writes.{Kinds, Stop, In, Between, Write, to_output, gained, gained_by, GainTexts, Gains, StopsIn, StopsBetween, StopsAt, Stops, Writes, LeavesBeginnings, Finishes, flushes}

pub keeps : (text : Option (List ℕ)) → Appends text text []
keeps None = tt
keeps (Some bytes) = sym (append-nil bytes)

module _ {O E : Type 0} (kinds : Kinds O E) where
  -- ---- texts

  pub gained-append : (output : O) (xs ys : List (Write O))
      → gained kinds output (xs ++ ys) ≡ gained kinds output xs ++ gained kinds output ys
  unfolding gained
  gained-append output xs ys = flat_map-append (gained_by kinds output) xs ys

  pub texts_stay : (a : O → OutputState) → GainTexts kinds a a []
  unfolding gained
  texts_stay a output = keeps (a output).text

  pub texts_then : (a b c : O → OutputState) (xs ys : List (Write O)) → GainTexts kinds a b xs → GainTexts kinds b c ys
      → GainTexts kinds a c (xs ++ ys)
  texts_then a b c xs ys h k output = rw (gained-append output xs ys)
      (Appends-Appends (a output).text (b output).text (c output).text (gained kinds output xs) (gained kinds output ys)
      (h output) (k output))

  -- ---- writes

  pub gains_nothing : (a : O → OutputState) → Gains kinds a a []
  gains_nothing a = record { texts = texts_stay a; faults = λ output. refl }

  pub gains_then : (a b c : O → OutputState) (xs ys : List (Write O)) → Gains kinds a b xs → Gains kinds b c ys
      → Gains kinds a c (xs ++ ys)
  gains_then a b c xs ys h k = record {
    texts = texts_then a b c xs ys h.texts k.texts;
    faults = λ output. k.faults output ∙ h.faults output;
  }

  ends_before : (a b : O → OutputState) (xs ys : List (Write O)) (stop : Option (Stop O)) → StopsAt kinds a b xs stop
      → StopsAt kinds a b (xs ++ ys) stop
  ends_before a b xs ys (Some (In failed)) h = record {
    done = h.done;
    part = h.part;
    rest = h.rest;
    more = h.more ++ ys;
    split = ap (λ (t : List (Write O)). t ++ ys) h.split
        ∙ append_assoc h.done (to_output failed (h.part ++ h.rest) ∷ h.more) ys;
    texts = h.texts;
    failure = h.failure;
    others = h.others;
  }
  ends_before a b xs ys (Some Between) h = record {
    done = h.done;
    more = h.more ++ ys;
    split = ap (λ (t : List (Write O)). t ++ ys) h.split ∙ append_assoc h.done h.more ys;
    gains = h.gains;
  }
  ends_before a b xs ys None h = absurd h

  ends_after : (a b c : O → OutputState) (xs ys : List (Write O)) (stop : Option (Stop O)) → Gains kinds a b xs
      → StopsAt kinds b c ys stop → StopsAt kinds a c (xs ++ ys) stop
  ends_after a b c xs ys (Some (In failed)) g h = record {
    done = xs ++ h.done;
    part = h.part;
    rest = h.rest;
    more = h.more;
    split = ap (λ (t : List (Write O)). xs ++ t) h.split
        ∙ sym (append_assoc xs h.done (to_output failed (h.part ++ h.rest) ∷ h.more));
    texts = rw (append_assoc xs h.done (to_output failed h.part ∷ []))
        (texts_then a b c xs (h.done ++ to_output failed h.part ∷ []) g.texts h.texts);
    failure = rw (g.faults failed) at h.failure;
    others = λ output other. h.others output other ∙ g.faults output;
  }
  ends_after a b c xs ys (Some Between) g h = record {
    done = xs ++ h.done;
    more = h.more;
    split = ap (λ (t : List (Write O)). xs ++ t) h.split ∙ sym (append_assoc xs h.done h.more);
    gains = gains_then a b c xs h.done g h.gains;
  }
  ends_after a b c xs ys None g h = absurd h

  -- if a call stopped among some writes, it stopped among these and any more
  pub stops_before : (a b : O → OutputState) (xs ys : List (Write O)) (fault : E) → Stops kinds a b xs fault
      → Stops kinds a b (xs ++ ys) fault
  stops_before a b xs ys fault h = ends_before a b xs ys (kinds.stop fault) h

  -- if some writes were made, and the writes after them ended early, then all of them together ended early
  pub stops_after : (a b c : O → OutputState) (xs ys : List (Write O)) (fault : E) → Gains kinds a b xs
      → Stops kinds b c ys fault → Stops kinds a c (xs ++ ys) fault
  stops_after a b c xs ys fault g h = ends_after a b c xs ys (kinds.stop fault) g h

  pub writes_then : {A : Type 0} (a b c : O → OutputState) (xs ys : List (Write O)) (result : Result A E)
      → Gains kinds a b xs → Writes kinds b c ys result → Writes kinds a c (xs ++ ys) result
  writes_then a b c xs ys (Ok done) g h = gains_then a b c xs ys g h
  writes_then a b c xs ys (Err fault) g h = stops_after a b c xs ys fault g h

  -- if writes ended early with a fault and a call returned this fault, they are the writes of the call
  pub stopped_alone : {A : Type 0} (a b : O → OutputState) (xs : List (Write O)) (fault : E) (result : Result A E)
      → Stops kinds a b xs fault → IsErrAnd result (λ f. f ≡ fault) → Writes kinds a b xs result
  stopped_alone a b xs fault (Ok x) h e = absurd e
  stopped_alone a b xs fault (Err f) h e = let P : E → Type 0 = λ g. Stops kinds a b xs g in subst P (sym e) h

  pub stopped_first : {A : Type 0} (a b : O → OutputState) (xs ys : List (Write O)) (fault : E) (result : Result A E)
      → Stops kinds a b xs fault → IsErrAnd result (λ f. f ≡ fault) → Writes kinds a b (xs ++ ys) result
  stopped_first a b xs ys fault result h e =
      stopped_alone a b (xs ++ ys) fault result (stops_before a b xs ys fault h) e

  -- if no write was made and nothing changed, the writes ended between two of them
  pub refused_between : (a : O → OutputState) (xs : List (Write O)) → StopsBetween kinds a a xs
  refused_between a xs = record { done = []; more = xs; split = refl; gains = gains_nothing a }

  pub refused_before : (a : O → OutputState) (xs : List (Write O)) (fault : E) → kinds.stop fault ≡ Some Between
      → Stops kinds a a xs fault
  refused_before a xs fault e =
      let P : Option (Stop O) → Type 0 = λ s. StopsAt kinds a a xs s in subst P (sym e) (refused_between a xs)

  pub refused_first : {A : Type 0} (a : O → OutputState) (xs : List (Write O)) (fault : E) (result : Result A E)
      → kinds.stop fault ≡ Some Between → IsErrAnd result (λ f. f ≡ fault) → Writes kinds a a xs result
  refused_first a xs fault result s e = stopped_alone a a xs fault result (refused_before a xs fault s) e

  -- ---- one output

  module _ (output : O) (old new : O → OutputState)
      (others : (other : O) → kinds.is other output ≡ false → new other ≡ old other) where
    by_whether : (other : O) (bytes : List ℕ) (b : Bool) → kinds.is other output ≡ b
        → Appends (old output).text (new output).text bytes
        → Appends (old other).text (new other).text ((if b then bytes else []) ++ [])
    by_whether other bytes true e h =
        let P : O → Type 0 = λ o. Appends (old o).text (new o).text (bytes ++ []) in
        subst P (sym (kinds.same other output e)) (rw (append-nil bytes) h)
    by_whether other bytes false e h =
        let P : OutputState → Type 0 = λ o. Appends (old other).text o.text [] in
        subst P (sym (others other e)) (keeps (old other).text)

    texts_put : (bytes : List ℕ) → Appends (old output).text (new output).text bytes
        → GainTexts kinds old new (to_output output bytes ∷ [])
    unfolding gained
    texts_put bytes h other = by_whether other bytes (kinds.is other output) refl h

    faults_stay : (other : O) (b : Bool) → kinds.is other output ≡ b → (new output).faults ≡ (old output).faults
        → (new other).faults ≡ (old other).faults
    faults_stay other true e h =
        let P : O → Type 0 = λ o. (new o).faults ≡ (old o).faults in subst P (sym (kinds.same other output e)) h
    faults_stay other false e h = ap (λ o. o.faults) (others other e)

    others_stay : (other : O) (b : Bool) → kinds.is other output ≡ b → other ≢ output
        → (new other).faults ≡ (old other).faults
    others_stay other true e h = absurd (h (kinds.same other output e))
    others_stay other false e h = ap (λ o. o.faults) (others other e)

    -- bytes put to one output are a write to it
    pub put_writes : {A : Type 0} (bytes : List ℕ) (fault : E) (result : Result A E)
        → kinds.stop fault ≡ Some (In output) → Puts (old output) (new output) bytes fault result
        → Writes kinds old new (to_output output bytes ∷ []) result
    put_writes bytes fault (Ok done) e h = record {
      texts = texts_put bytes h.0;
      faults = λ other. faults_stay other (kinds.is other output) refl h.1;
    }
    put_writes bytes fault (Err stopped) e h =
        let stop : StopsIn kinds output old new (to_output output bytes ∷ []) = record {
          done = [];
          part = h.1.0;
          rest = h.1.1;
          more = [];
          split = ap (λ (t : List ℕ). to_output output t ∷ []) h.1.2;
          texts = texts_put h.1.0 h.1.3;
          failure = h.2;
          others = λ other different. others_stay other (kinds.is other output) refl different;
        } in
        let P : Option (Stop O) → Type 0 = λ s. StopsAt kinds old new (to_output output bytes ∷ []) s in
        subst P (sym (ap kinds.stop h.0 ∙ e)) stop

  -- ---- beginnings

  gained_one : (output failed : O) (part rest : List ℕ) (b : Bool)
      → (more : List ℕ) × ((if b then part ++ rest else []) ≡ (if b then part else []) ++ more)
  gained_one output failed part rest true = (rest, refl)
  gained_one output failed part rest false = ([], refl)

  begun_one : (output failed : O) (part rest : List ℕ)
      → (more : List ℕ) × (gained kinds output (to_output failed (part ++ rest) ∷ [])
      ≡ gained kinds output (to_output failed part ∷ []) ++ more)
  unfolding gained
  begun_one output failed part rest =
      let one = gained_one output failed part rest (kinds.is output failed) in
      (one.0, append-nil _ ∙ one.1 ∙ ap (λ (t : List ℕ). t ++ one.0) (sym (append-nil _)))

  begun : (output : O) (writes some more : List (Write O)) → writes ≡ some ++ more
      → (rest : List ℕ) × (gained kinds output writes ≡ gained kinds output some ++ rest)
  begun output writes some more e =
      (gained kinds output more, ap (gained kinds output) e ∙ gained-append output some more)

  begun_in : (output failed : O) (part rest : List ℕ) (done more : List (Write O))
      → (left : List ℕ) × (gained kinds output (done ++ to_output failed (part ++ rest) ∷ more)
      ≡ gained kinds output (done ++ to_output failed part ∷ []) ++ left)
  begun_in output failed part rest done more =
      let one = begun_one output failed part rest in
      let all : gained kinds output (done ++ to_output failed (part ++ rest) ∷ more)
      ≡ gained kinds output done ++ ((gained kinds output (to_output failed part ∷ []) ++ one.0) ++ gained kinds output more) =
      gained-append output done (to_output failed (part ++ rest) ∷ more)
      ∙ ap (λ (t : List ℕ). gained kinds output done ++ t)
      (gained-append output (to_output failed (part ++ rest) ∷ []) more
      ∙ ap (λ (t : List ℕ). t ++ gained kinds output more) one.1) in (
        one.0 ++ gained kinds output more,
        all
            ∙ ap (λ (t : List ℕ). gained kinds output done ++ t)
            (append_assoc (gained kinds output (to_output failed part ∷ [])) one.0 (gained kinds output more))
            ∙ sym (append_assoc (gained kinds output done) (gained kinds output (to_output failed part ∷ []))
            (one.0 ++ gained kinds output more))
            ∙ ap (λ (t : List ℕ). t ++ (one.0 ++ gained kinds output more))
            (sym (gained-append output done (to_output failed part ∷ []))),
      )

  left : (old new : O → OutputState) (writes : List (Write O)) (stop : Option (Stop O)) → StopsAt kinds old new writes stop
      → LeavesBeginnings kinds old new writes
  left old new writes (Some (In failed)) h = λ output.
      let begin = begun_in output failed h.part h.rest h.done h.more in (
        gained kinds output (h.done ++ to_output failed h.part ∷ []),
        begin.0,
        ap (gained kinds output) h.split ∙ begin.1,
        h.texts output,
      )
  left old new writes (Some Between) h = λ output.
      let begin = begun output writes h.done h.more h.split in
      (gained kinds output h.done, begin.0, begin.1, h.gains.texts output)
  left old new writes None h = absurd h

  pub beginnings_left : (old new : O → OutputState) (writes : List (Write O)) (fault : E) → Stops kinds old new writes fault
      → LeavesBeginnings kinds old new writes
  beginnings_left old new writes fault h = left old new writes (kinds.stop fault) h

  -- ---- a flush

  nothing_by : (b : Bool) → ◌≡◌ {A = List ℕ} (if b then [] else []) []
  nothing_by true = refl
  nothing_by false = refl

  pub flushes_add_nothing : (output : O) (outputs : List O) → gained kinds output (flushes outputs) ≡ []
  unfolding gained
  flushes_add_nothing output [] = refl
  flushes_add_nothing output (first ∷ outputs) =
      ap (λ (t : List ℕ). t ++ gained kinds output (flushes outputs)) (nothing_by (kinds.is output first))
      ∙ flushes_add_nothing output outputs

  gained_still : (output : O) (xs : List (Write O)) (outputs : List O)
      → gained kinds output (xs ++ flushes outputs) ≡ gained kinds output xs
  gained_still output xs outputs = gained-append output xs (flushes outputs)
      ∙ ap (λ (t : List ℕ). gained kinds output xs ++ t) (flushes_add_nothing output outputs)
      ∙ append-nil (gained kinds output xs)

  pub gains_still : (a b : O → OutputState) (xs : List (Write O)) (outputs : List O) → Gains kinds a b (xs ++ flushes outputs)
      → Gains kinds a b xs
  gains_still a b xs outputs g = record {
    texts = λ output. subst (λ (t : List ℕ). Appends (a output).text (b output).text t) (gained_still output xs outputs)
        (g.texts output);
    faults = g.faults;
  }

  -- if writes were made and the flush after them ended early, and a call returned the fault, then the call finishes early
  pub flush_stops : {A : Type 0} (a b c : O → OutputState) (xs : List (Write O)) (outputs : List O) (fault : E) (result : Result A E)
      → Gains kinds a b xs → Stops kinds b c (flushes outputs) fault → IsErrAnd result (λ f. f ≡ fault)
      → Finishes kinds a c xs outputs result
  flush_stops a b c xs outputs fault (Ok done) g h e = absurd e
  flush_stops a b c xs outputs fault (Err stopped) g h e =
      let P : E → Type 0 = λ these. Stops kinds a c (xs ++ flushes outputs) these in
      subst P (sym e) (stops_after a b c xs (flushes outputs) fault g h)

  -- if writes ended early and a call returned the fault, the call finishes early
  pub finishes_early : {A : Type 0} (a b : O → OutputState) (xs : List (Write O)) (outputs : List O) (fault : E) (result : Result A E)
      → Stops kinds a b xs fault → IsErrAnd result (λ f. f ≡ fault) → Finishes kinds a b xs outputs result
  finishes_early a b xs outputs fault (Ok done) h e = absurd e
  finishes_early a b xs outputs fault (Err stopped) h e =
      let P : E → Type 0 = λ these. Stops kinds a b (xs ++ flushes outputs) these in
      subst P (sym e) (stops_before a b xs (flushes outputs) fault h)

  pub beginnings_still : (old new : O → OutputState) (writes : List (Write O)) (outputs : List O)
      → LeavesBeginnings kinds old new (writes ++ flushes outputs) → LeavesBeginnings kinds old new writes
  beginnings_still old new writes outputs left = λ output.
      let begun = left output in (begun.0, begun.1, sym (gained_still output writes outputs) ∙ begun.2, begun.3)

  pub flushed_beginnings : (old new : O → OutputState) (writes : List (Write O)) (outputs : List O) (fault : E)
      → Stops kinds old new (writes ++ flushes outputs) fault → LeavesBeginnings kinds old new writes
  flushed_beginnings old new writes outputs fault h =
      beginnings_still old new writes outputs (beginnings_left old new (writes ++ flushes outputs) fault h)
