-- The outcome of known objects decides the result of a run.
use Rattle.std.proofs.Common.{◌≡◌, ◌∙◌, ℕ, Bool, true, false, if◌then◌else◌, List, [], ◌∷◌, Option, Some, None, Result, Ok, Err, ◌⊎◌, inl, inr, refl, sym, ap, ap₂, subst}
use Rattle.std.specs.Prelude.{⊤}
use Rattle.m11_base.specs.Feed.{GiveAll, HasBytes, Text}
use Rattle.m11_link_modules.specs.Parts.{Part}
use Rattle.m11_link_layout.specs.Sections.{is_too_large}
use Rattle.m11_link_layout.specs.declared.fault.LinkFault.{LinkFault}
use Rattle.m11_link_layout.specs.declared.fault.LinkFault.TheVariants as fault
use Rattle.m11_link_text.specs.Findings.{Findings, findings_of}
use Rattle.m11_base_writes.specs.Passes.{AreKnown, IsKnown, pass_of}
use Rattle.m11_link.specs.FirstPass.{ReadsFirst}
use Rattle.m11_link.specs.Objects.{◌>>=◌, AreItems, GiveItems, Item, outcome, taken, unless_too_large}
use Rattle.m11_link.specs.Outputs.{Gains, link}
use Rattle.m11_base_writes.specs.Outputs.{AreFlushed, Outputs, Write}
use Rattle.m11_link.specs.SecondPass.{LinkRuns, ReadsSecond}
use Rattle.m11_link.specs.Written.{counted, link_writes}
use Rattle.m11_link.specs.declared.emit.LinkDone.{LinkDone}
use Rattle.m11_link.proofs.ItemsAccepted.{PartsOrFault}
use Rattle.m11_link.proofs.SecondRead.{refused_first}
use Rattle.m11_link.proofs.Sole.{objects_same}
use Rattle.m11_base_writes.specs.Writes.{LeavesBeginnings}
use Rattle.m11_link_laws.specs.Runs.{IsDecided, IsRefusal, MayStop}
use Rattle.m11_link_laws.proofs.RunsBegun.{nothing_begun, read_begun, stop_begun}

-- ---- results

no_both : (r : PartsOrFault) (parts : List Part) (stopped : LinkFault) → r ≡ Ok parts → r ≡ Err stopped → ⊥
no_both r parts stopped e f = let g : ◌≡◌ {A = PartsOrFault} (Ok parts) (Err stopped) = sym e ∙ f in cc

one_parts : (r : PartsOrFault) (xs ys : List Part) → r ≡ Ok xs → r ≡ Ok ys → xs ≡ ys
one_parts r xs ys e f = let g : ◌≡◌ {A = PartsOrFault} (Ok xs) (Ok ys) = sym e ∙ f in cc

one_fault : (r : PartsOrFault) (x y : LinkFault) → r ≡ Err x → r ≡ Err y → x ≡ y
one_fault r x y e f = let g : ◌≡◌ {A = PartsOrFault} (Err x) (Err y) = sym e ∙ f in cc

small : (b : Bool) (these parts : List Part) → ◌≡◌ {A = PartsOrFault} (if b then Err fault.TooLarge else Ok these) (Ok parts)
    → ◌≡◌ {A = PartsOrFault} (Ok these) (Ok parts)
small true these parts e = absurd cc
small false these parts e = e

pub taken_of : (bottom : ℕ) (r : PartsOrFault) (parts : List Part) → (r >>= unless_too_large bottom) ≡ Ok parts → r ≡ Ok parts
taken_of bottom (Ok these) parts e = small (is_too_large bottom these) these parts e
taken_of bottom (Err stopped) parts e = absurd cc

-- ---- known bytes decide the items

known_bytes : (text : Option Text) (source other : List ℕ) → IsKnown text source → HasBytes text other → other ≡ source
known_bytes None source other k h = absurd k
known_bytes (Some text) source other k h = sym h ∙ k

known_sources : {F : Type 0} (text : F → Option Text) (feeds : List F) (sources others : List (List ℕ))
    → AreKnown text feeds sources → GiveAll text feeds others → others ≡ sources
known_sources text [] [] [] k h = refl
known_sources text [] [] (other ∷ others) k h = absurd h
known_sources text [] (source ∷ sources) others k h = absurd k
known_sources text (feed ∷ feeds) [] others k h = absurd k
known_sources text (feed ∷ feeds) (source ∷ sources) [] k h = absurd h
known_sources text (feed ∷ feeds) (source ∷ sources) (other ∷ others) k h =
    ap₂ (λ (x : List ℕ) (xs : List (List ℕ)). x ∷ xs) (known_bytes (text feed) source other k.0 h.0)
    (known_sources text feeds sources others k.1 h.1)

module _ {F : Type 0} (text : F → Option Text) (faults : F → ℕ) (bottom : ℕ) (sources : List (List ℕ))
    (items : List Item) (are : AreItems sources items) where
  same_items : (feeds : List F) → AreKnown text feeds sources → (others : List Item) → GiveItems text feeds others
      → others ≡ items
  same_items feeds k others g =
      let P : List (List ℕ) → Type 0 = λ these. AreItems these others in
      objects_same sources others items (subst P (known_sources text feeds sources g.sources k g.given) g.are) are

  -- ---- the statement of each pass

  abbrev IsDevice : LinkFault → Type 0
  IsDevice fault.Read = ⊤
  IsDevice fault.NoMemory = ⊤
  IsDevice stopped = ⊥

  module _ (first first' : List F) (known : AreKnown text first sources) where
    first_says : (stopped : LinkFault) → ReadsFirst (pass_of text faults first first') bottom (Err stopped)
        → IsDevice stopped ⊎ (outcome bottom items ≡ Err stopped)
    first_says fault.Read h = inl tt
    first_says fault.NoMemory h = inl tt
    first_says stopped h = inr (ap (outcome bottom) (sym (same_items first known h.1 h.2)) ∙ h.3)

    first_gives : (parts : List Part) → ReadsFirst (pass_of text faults first first') bottom (Ok parts)
        → outcome bottom items ≡ Ok parts
    first_gives parts h = ap (outcome bottom) (sym (same_items first known h.1 h.2)) ∙ h.3

  module _ (second second' : List F) (known : AreKnown text second sources) (found : Findings) (old new : Outputs) where
    second_says : (stopped : LinkFault) → ReadsSecond (pass_of text faults second second') found old new (Err stopped)
        → MayStop stopped ⊎ (taken [] items ≡ Err stopped)
    second_says fault.Read h = inl tt
    second_says (fault.Write output) h = inl tt
    second_says fault.NoMemory h = inl tt
    second_says stopped h =
        inr (ap (taken []) (sym (same_items second known h.1 h.2)) ∙ refused_first found false [] h.1 stopped old new h.3)

    second_writes : (done : LinkDone) → ReadsSecond (pass_of text faults second second') found old new (Ok done)
        → (parts : List Part) × (taken [] items ≡ Ok parts) × Gains old new (link_writes found parts)
        × (done.messages ≡ counted 0 (link_writes found parts)) × AreFlushed new
    second_writes done h = (h.3, ap (taken []) (sym (same_items second known h.1 h.2)) ∙ h.4, h.5, h.6, h.7)

    -- if the run stops, each output has a beginning of the writes of all parts
    abbrev Begun : List Part → Type 0
    Begun parts = LeavesBeginnings link old new (link_writes found parts)

    second_begins : (parts : List Part) → taken [] items ≡ Ok parts → (stopped : LinkFault)
        → ReadsSecond (pass_of text faults second second') found old new (Err stopped) → Begun parts
    second_begins parts e fault.Read h =
        read_begun text faults second second' sources items are known found parts e old new h
    second_begins parts e (fault.Write output) h =
        stop_begun text faults second second' sources items are known found parts e old new (fault.Write output)
        h.1 (same_items second known h.1 h.2) h.3 h.4 h.5
    second_begins parts e fault.NoMemory h =
        stop_begun text faults second second' sources items are known found parts e old new fault.NoMemory
        h.1 (same_items second known h.1 h.2) h.3 h.4 h.5
    second_begins parts e stopped h =
        let refused = ap (taken []) (sym (same_items second known h.1 h.2))
        ∙ refused_first found false [] h.1 stopped old new h.3 in
        absurd (no_both (taken [] items) parts stopped e refused)

  -- ---- the run

  device_stops : (stopped : LinkFault) → IsDevice stopped → MayStop stopped
  device_stops fault.Read h = tt
  device_stops fault.NoMemory h = tt
  device_stops stopped h = absurd h

  device_refuses : (refused stopped : LinkFault) → IsDevice stopped → IsRefusal refused stopped
  device_refuses refused fault.Read h = tt
  device_refuses refused fault.NoMemory h = tt
  device_refuses refused stopped h = absurd h

  same_refused : (refused stopped : LinkFault) → stopped ≡ refused → IsRefusal refused stopped
  same_refused refused fault.Read e = tt
  same_refused refused fault.NoMemory e = tt
  same_refused refused stopped e = e

  stops_or : (stopped : LinkFault) (r : PartsOrFault) (parts : List Part) → r ≡ Ok parts → MayStop stopped ⊎ (r ≡ Err stopped)
      → MayStop stopped
  stops_or stopped r parts e (inl h) = h
  stops_or stopped r parts e (inr f) = absurd (no_both r parts stopped e f)

  refuses_or : (refused stopped : LinkFault) → outcome bottom items ≡ Err refused
      → IsDevice stopped ⊎ (outcome bottom items ≡ Err stopped) → IsRefusal refused stopped
  refuses_or refused stopped e (inl h) = device_refuses refused stopped h
  refuses_or refused stopped e (inr f) =
      same_refused refused stopped (one_fault (outcome bottom items) stopped refused f e)

  first_or : (stopped : LinkFault) → IsDevice stopped ⊎ (outcome bottom items ≡ Err stopped)
      → MayStop stopped ⊎ (outcome bottom items ≡ Err stopped)
  first_or stopped (inl h) = inl (device_stops stopped h)
  first_or stopped (inr e) = inr e

  module _ (first first' second second' : List F) (known : AreKnown text first sources)
      (again : AreKnown text second sources) (old new : Outputs) where
    all_written : (parts : List Part) (done : LinkDone) → outcome bottom items ≡ Ok parts → (these : List Part)
        → ReadsFirst (pass_of text faults first first') bottom (Ok these)
        → ReadsSecond (pass_of text faults second second') (findings_of bottom these) old new (Ok done)
        → IsDecided bottom (Ok parts) old new (Ok done)
    all_written parts done e these h k =
        let wrote = second_writes second second' again (findings_of bottom these) old new done k in
        let same = one_parts (taken [] items) wrote.0 parts wrote.1 (taken_of bottom (taken [] items) parts e) in
        let here = one_parts (outcome bottom items) these parts (first_gives first first' known these h) e in
        let ws : link_writes (findings_of bottom these) wrote.0 ≡ link_writes (findings_of bottom parts) parts =
        ap₂ (λ (xs ys : List Part). link_writes (findings_of bottom xs) ys) here same in
        let G : List Write → Type 0 = λ writes. Gains old new writes in
        (subst G ws wrote.2, wrote.3 ∙ ap (λ writes. counted 0 writes) ws, wrote.4)

    begun : (parts : List Part) → outcome bottom items ≡ Ok parts → (stopped : LinkFault) → (these : List Part)
        → ReadsFirst (pass_of text faults first first') bottom (Ok these) → taken [] items ≡ Ok parts
        → ReadsSecond (pass_of text faults second second') (findings_of bottom these) old new (Err stopped)
        → LeavesBeginnings link old new (link_writes (findings_of bottom parts) parts)
    begun parts e stopped these h are-taken k =
        let here = one_parts (outcome bottom items) these parts (first_gives first first' known these h) e in
        let P : List Part → Type 0 = λ xs. LeavesBeginnings link old new (link_writes (findings_of bottom xs) parts) in
        subst P here (second_begins second second' again (findings_of bottom these) old new parts are-taken stopped k)

    decided : (o : PartsOrFault) → outcome bottom items ≡ o → (result : Result LinkDone LinkFault)
        → LinkRuns (pass_of text faults first first') (pass_of text faults second second') bottom old new result → IsDecided bottom o old new result
    decided (Ok parts) e (Ok done) h = all_written parts done e h.0 h.1 h.2
    decided (Ok parts) e (Err stopped) (inl h) = (
      stops_or stopped (outcome bottom items) parts e (first_or stopped (first_says first first' known stopped h.0)),
      nothing_begun old new (link_writes (findings_of bottom parts) parts) h.2,
    )
    decided (Ok parts) e (Err stopped) (inr h) =
        let are-taken = taken_of bottom (taken [] items) parts e in (
          stops_or stopped (taken [] items) parts are-taken (second_says second second' again (findings_of bottom h.0) old new stopped h.2),
          begun parts e stopped h.0 h.1 are-taken h.2,
        )
    decided (Err refused) e (Ok done) h =
        no_both (outcome bottom items) h.0 refused (first_gives first first' known h.0 h.1) e
    decided (Err refused) e (Err stopped) (inl h) =
        (refuses_or refused stopped e (first_says first first' known stopped h.0), h.2)
    decided (Err refused) e (Err stopped) (inr h) =
        absurd (no_both (outcome bottom items) h.0 refused (first_gives first first' known h.0 h.1) e)

pub run_decided : {F : Type 0} (text : F → Option Text) (faults : F → ℕ) (first first' second second' : List F)
    (bottom : ℕ) (sources : List (List ℕ)) (items : List Item) (old new : Outputs) (result : Result LinkDone LinkFault)
    → AreItems sources items → AreKnown text first sources → AreKnown text second sources
    → LinkRuns (pass_of text faults first first') (pass_of text faults second second') bottom old new result
    → IsDecided bottom (outcome bottom items) old new result
run_decided text faults first first' second second' bottom sources items old new result are known again h =
    decided text faults bottom sources items are first first' second second' known again old new
    (outcome bottom items) refl result h
