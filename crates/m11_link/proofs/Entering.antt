-- Entries whose messages are written one after another, and the reporter's state after them. (This project's own.)
use Rattle.std.proofs.Common.{◌≡◌, ◌≤◌, ℕ, ◌+◌, cond, Bool, true, false, ◌&&◌, List, [], ◌∷◌, ◌++◌, length, drop, slice_get, Option, Some, None, Result, Ok, Err, IsErrAnd, sym, subst, ap, refl, arith}
use Rattle.std.specs.Bool.{◌==◌}
use Rattle.std.proofs.lemmas.Bool.{eqb-true, true≢false}
use Rattle.std.proofs.lemmas.List.{drop_all}
use Rattle.m11_link_modules.proofs.Indexing.{drop_at}
use Rattle.m11_link_layout.specs.declared.fault.LinkFault.{LinkFault}
use Rattle.m11_link_layout.specs.declared.fault.LinkFault.TheVariants as fault
use Rattle.m11_link_layout.specs.Plan.{planned_attributes, planned_module}
use Rattle.m11_link_layout.specs.Sections.{attributes_by}
use Rattle.m11_link_modules.specs.Names.{is_among}
use Rattle.m11_link_modules.specs.Rules.{defines}
use Rattle.m11_obj_blocks.specs.Tapes.{tape_block}
use Rattle.m11_obj.specs.declared.gsd.GsdEntry.{GsdEntry}
use Rattle.m11_obj.specs.declared.gsd.GsdKind.{GsdKind}
use Rattle.m11_obj.specs.declared.gsd.GsdKind.TheVariants as kind
use Rattle.m11_link.specs.Emit.{Goes, EmitBecomes, ReporterState, defined_by, defined_with, defined_with_all, entries_writes, held_writes, with_count, with_entries, with_entry, with_held, with_name, with_symbol, with_text}
use Rattle.m11_link_text.specs.Findings.{planned}
use Rattle.m11_link_text.specs.Lines.{different_line, multiple_line}
use Rattle.m11_link.specs.Front.{front_writes}
use Rattle.m11_link.specs.Outputs.{Gains, Stops, link}
use Rattle.m11_base_writes.specs.Outputs.{Outputs, Write, to_messages, to_product}
use Rattle.m11_link.specs.Written.{PlacedText, attributes_agree, block_at, counted, different_writes, entry_writes, placed_text, symbol_writes, writes_by}
use Rattle.m11_link.proofs.Counting.{counted-append}
use Rattle.m11_base_writes.proofs.Writing.{gains_nothing, gains_then, stops_before, stops_after, refused_between}

-- ---- calls one after another

module _ {A : Type 0} {S : Type 0} where
  pub goes_then : (a b c : Outputs) (xs ys : List Write) (state expected : S) (result : Result A LinkFault) → Gains a b xs
      → Goes b c ys state expected result → Goes a c (xs ++ ys) state expected result
  goes_then a b c xs ys state expected (Ok x) g h = (gains_then link a b c xs ys g h.0, h.1)
  goes_then a b c xs ys state expected (Err stopped) g h = stops_after link a b c xs ys stopped g h

  pub goes_stopped : (a b : Outputs) (xs ys : List Write) (state expected : S) (stopped : LinkFault)
      (result : Result A LinkFault) → Stops a b xs stopped → IsErrAnd result (λ f. f ≡ stopped)
      → Goes a b (xs ++ ys) state expected result
  goes_stopped a b xs ys state expected stopped (Ok x) h e = absurd e
  goes_stopped a b xs ys state expected stopped (Err f) h e =
      let P : LinkFault → Type 0 = λ g. Stops a b (xs ++ ys) g in subst P (sym e) (stops_before link a b xs ys stopped h)

  pub goes_stopped_alone : (a b : Outputs) (xs : List Write) (state expected : S) (stopped : LinkFault)
      (result : Result A LinkFault) → Stops a b xs stopped → IsErrAnd result (λ f. f ≡ stopped)
      → Goes a b xs state expected result
  goes_stopped_alone a b xs state expected stopped (Ok x) h e = absurd e
  goes_stopped_alone a b xs state expected stopped (Err f) h e =
      let P : LinkFault → Type 0 = λ g. Stops a b xs g in subst P (sym e) h

  pub goes_refused : (a : Outputs) (xs : List Write) (state expected : S) (result : Result A LinkFault)
      → IsErrAnd result (λ f. f ≡ fault.NoMemory) → Goes a a xs state expected result
  goes_refused a xs state expected result e =
      goes_stopped_alone a a xs state expected fault.NoMemory result (refused_between link a xs) e

pub ruleset entering = (gains_nothing, goes_then, goes_stopped, goes_stopped_alone, goes_refused)

-- ---- entries

-- the result of going on through the remaining entries is the result of going through all entries from the start
abbrev pub LeadsEntries : ℕ → Outputs → ReporterState → Outputs → ReporterState → List GsdEntry → List GsdEntry → Type 0
LeadsEntries index start first now state left all = (new : Outputs) (later : ReporterState) (result : Result (Unit {0}) LinkFault)
    → Goes now new (entries_writes (planned state.plan) index state.defined left) later (with_entries index left state) result
    → Goes start new (entries_writes (planned first.plan) index first.defined all) later (with_entries index all first) result

-- the state after an entry and then the others is the state after all of them
one_then : (index : ℕ) (entry : GsdEntry) (entries : List GsdEntry) (t : ReporterState)
    → with_entries index entries (with_entry index entry t) ≡ with_entries index (entry ∷ entries) t
one_then index entry entries t = ap (λ n. let all : ReporterState = record t {
  defined = defined_with_all t.defined (entry ∷ entries);
  messages = n;
} in all) (counted-append t.messages (entry_writes (planned t.plan) index t.defined entry)
    (entries_writes (planned t.plan) index (defined_with t.defined entry) entries))

module _ (index : ℕ) (start now : Outputs) (first state : ReporterState) (entries : List GsdEntry) (at : ℕ)
    (leads : LeadsEntries index start first now state (drop at entries) entries) where
  pub entry_went : (later : Outputs) (following : ReporterState) (entry : GsdEntry) → slice_get entries at ≡ Some entry
      → Gains now later (entry_writes (planned state.plan) index state.defined entry)
      → following ≡ with_entry index entry state
      → LeadsEntries index start first later following (drop (at + 1) entries) entries
  entry_went later following entry e gains b = λ new after result h.
      let rest = drop (at + 1) entries in
      let P : List GsdEntry → Type 0 = λ left.
      Goes now new (entries_writes (planned state.plan) index state.defined left) after (with_entries index left state) result in
      let Q : ReporterState → Type 0 = λ t.
      Goes later new (entries_writes (planned t.plan) index t.defined rest) after (with_entries index rest t) result in
      let k = subst Q b h in
      let R : ReporterState → Type 0 = λ t.
      Goes now new (entries_writes (planned state.plan) index state.defined (entry ∷ rest)) after t result in
      let whole = goes_then now later new (entry_writes (planned state.plan) index state.defined entry)
      (entries_writes (planned state.plan) index (defined_with state.defined entry) rest) after
      (with_entries index rest (with_entry index entry state)) result gains k in
      leads new after result (subst P (sym (drop_at entries at entry e)) (subst R (one_then index entry rest state) whole))

  pub entry_stopped : (later : Outputs) (after : ReporterState) (entry : GsdEntry) (stopped : LinkFault)
      → slice_get entries at ≡ Some entry
      → Stops now later (entry_writes (planned state.plan) index state.defined entry) stopped
      → Stops start later (entries_writes (planned first.plan) index first.defined entries) stopped
  entry_stopped later after entry stopped e h =
      let P : List GsdEntry → Type 0 = λ left.
      Goes {A = Unit {0}} now later (entries_writes (planned state.plan) index state.defined left) after
      (with_entries index left state) (Err stopped) in
      leads later after (Err stopped) (subst P (sym (drop_at entries at entry e))
      (stops_before link now later (entry_writes (planned state.plan) index state.defined entry)
      (entries_writes (planned state.plan) index (defined_with state.defined entry) (drop (at + 1) entries)) stopped h))

  pub entries_went : (done : Unit {0}) → length entries ≤ at
      → Goes start now (entries_writes (planned first.plan) index first.defined entries) state
      (with_entries index entries first) (Ok done)
  entries_went done le =
      let P : List GsdEntry → Type 0 = λ left.
      Goes {A = Unit {0}} now now (entries_writes (planned state.plan) index state.defined left) state
      (with_entries index left state) (Ok done) in
      leads now state (Ok done) (subst P (sym (drop_all at entries le)) (gains_nothing link now, refl))

-- ---- what one call sets

pub count_set : {seen : ReporterState} (old : ReporterState) (count : ℕ) (writes : List Write) → seen ≡ old
    → count ≡ counted seen.messages writes → (let t : ReporterState = record seen { messages = count } in t) ≡ with_count writes old
count_set {seen} old count writes v e =
    let P : ReporterState → Type 0 = λ o. (let t : ReporterState = record seen { messages = count } in t) ≡ with_count writes o in
    subst P v (ap (λ n. let t : ReporterState = record seen { messages = n } in t) e)

pub held_set : {seen : ReporterState} (old : ReporterState) (held : Option PlacedText) → seen ≡ old
    → (let t : ReporterState = record seen { held = held } in t) ≡ with_held held old
held_set {seen} old held v = ap (λ o. let t : ReporterState = record o { held = held } in t) v

pub front_set : {seen : ReporterState} (old : ReporterState) (count : ℕ) (a b : Outputs) → seen ≡ old
    → Gains a b (front_writes (planned seen.plan)) → count ≡ counted seen.messages (front_writes (planned seen.plan))
    → Gains a b (front_writes (planned old.plan))
    × ((let t : ReporterState = record seen { messages = count } in t) ≡ with_count (front_writes (planned old.plan)) old)
front_set {seen} old count a b v h e =
    let P : ReporterState → Type 0 = λ o. Gains a b (front_writes (planned o.plan))
    × ((let t : ReporterState = record seen { messages = count } in t) ≡ with_count (front_writes (planned o.plan)) o) in
    subst P v (h, ap (λ n. let t : ReporterState = record seen { messages = n } in t) e)

-- ---- texts

pub block_none : (address : ℕ) (bytes : List ℕ) → (length bytes == 0) ≡ true → block_at address bytes ≡ []
block_none address [] e = refl
block_none address (byte ∷ bytes) e = absurd (omega (arith, eqb-true (length (byte ∷ bytes)) 0 e))

pub block_some : (address : ℕ) (bytes : List ℕ) → (length bytes == 0) ≡ false
    → block_at address bytes ≡ to_product (tape_block address bytes) ∷ []
block_some address [] e = absurd (true≢false e)
block_some address (byte ∷ bytes) e = refl

pub text_then : (a b : Outputs) (t s s' : ReporterState) (index : ℕ) (section : ℕ × ℕ) (address : ℕ) (bytes : List ℕ)
    → Gains a b (held_writes t.held) × (s ≡ with_held None t)
    → s' ≡ with_held (Some (placed_text (planned s.plan) index section address bytes)) s
    → Gains a b (held_writes t.held) × (s' ≡ with_text index section address bytes t)
text_then a b t s s' index section address bytes h k =
    let Q : ReporterState → Type 0 = λ x. s' ≡ with_held (Some (placed_text (planned x.plan) index section address bytes)) x in
    (h.0, subst Q h.1 k)

pub directory_then : (a b c : Outputs) (t s s' : ReporterState) (index : ℕ) (entries : List GsdEntry) (result : Result (Unit {0}) LinkFault)
    → Gains a b (held_writes t.held) × (s ≡ with_held None t)
    → Goes b c (entries_writes (planned s.plan) index s.defined entries) s' (with_entries index entries s) result
    → Goes a c (held_writes t.held ++ entries_writes (planned t.plan) index t.defined entries) s'
    (with_entries index entries (with_held None t)) result
directory_then a b c t s s' index entries result h k =
    let P : ReporterState → Type 0 = λ x. Goes b c (entries_writes (planned x.plan) index x.defined entries) s'
    (with_entries index entries x) result in
    goes_then a b c (held_writes t.held) (entries_writes (planned t.plan) index t.defined entries) s'
    (with_entries index entries (with_held None t)) result h.0 (subst P h.1 k)

-- ---- one entry

abbrev section_test : ReporterState → (ℕ × ℕ) × ℕ → Bool
section_test t section = attributes_agree (planned_attributes t.plan section.0) section.1

abbrev section_reported : ReporterState → ℕ → (ℕ × ℕ) × ℕ → List Write
section_reported t index section = to_messages (different_line section.0 (planned_module t.plan index)) ∷ []

pub section_same : (a : Outputs) (t : ReporterState) (index : ℕ) (section : (ℕ × ℕ) × ℕ) → section_test t section ≡ true
    → Gains a a (different_writes (planned t.plan) index (Some section))
    × (t ≡ with_count (different_writes (planned t.plan) index (Some section)) t)
section_same a t index section e =
    let P : Bool → Type 0 = λ x. Gains a a (cond x [] (section_reported t index section))
    × (t ≡ with_count (cond x [] (section_reported t index section)) t) in
    subst P (sym e) (gains_nothing link a, refl)

pub section_differs : {A : Type 0} (a b : Outputs) (t s : ReporterState) (index : ℕ) (section : (ℕ × ℕ) × ℕ) (result : Result A LinkFault)
    → section_test t section ≡ false
    → Goes a b (section_reported t index section) s (with_count (section_reported t index section) t) result
    → Goes a b (different_writes (planned t.plan) index (Some section)) s
    (with_count (different_writes (planned t.plan) index (Some section)) t) result
section_differs a b t s index section result e h =
    let P : Bool → Type 0 = λ x. Goes a b (cond x [] (section_reported t index section)) s
    (with_count (cond x [] (section_reported t index section)) t) result in
    subst P (sym e) h

-- the message about a definition of a symbol that was defined before
abbrev symbol_reported : ReporterState → ℕ → GsdEntry → List Write
symbol_reported t index entry = to_messages (multiple_line entry.name (planned_module t.plan index)) ∷ []

abbrev reported_by : Bool → Bool → ReporterState → ℕ → GsdEntry → List Write
reported_by defines before t index entry = cond (defines && before) (symbol_reported t index entry) []

abbrev kept_by : Bool → Bool → ReporterState → ℕ → GsdEntry → ReporterState
kept_by defines before t index entry = record t {
  defined = cond defines (cond before t.defined (t.defined ++ entry.name ∷ [])) t.defined;
  messages = counted t.messages (reported_by defines before t index entry);
}

pub symbol_refers : (a : Outputs) (t : ReporterState) (index : ℕ) (entry : GsdEntry) → defines entry ≡ false
    → Gains a a (symbol_writes (planned t.plan) index t.defined entry) × (t ≡ with_symbol index entry t)
symbol_refers a t index entry e =
    let m = is_among t.defined entry.name in
    let P : Bool → Type 0 = λ d. Gains a a (reported_by d m t index entry) × (t ≡ kept_by d m t index entry) in
    subst P (sym e) (gains_nothing link a, refl)

kept_or_refused : (a : Outputs) (s expected : ReporterState) (xs : List Write) (result : Result (Unit {0}) LinkFault)
    → EmitBecomes s expected result → xs ≡ [] → Goes a a xs s expected result
kept_or_refused a s expected xs (Ok done) h e = (rw e (gains_nothing link a), h)
kept_or_refused a s expected xs (Err fault.NoMemory) h e = refused_between link a xs
kept_or_refused a s expected xs (Err fault.Read) h e = absurd h
kept_or_refused a s expected xs (Err (fault.Write output)) h e = absurd h
kept_or_refused a s expected xs (Err (fault.Block inner)) h e = absurd h
kept_or_refused a s expected xs (Err (fault.Record inner)) h e = absurd h
kept_or_refused a s expected xs (Err fault.BadOrder) h e = absurd h
kept_or_refused a s expected xs (Err fault.NoText) h e = absurd h
kept_or_refused a s expected xs (Err fault.BadDisplacement) h e = absurd h
kept_or_refused a s expected xs (Err fault.UnknownSection) h e = absurd h
kept_or_refused a s expected xs (Err fault.TooLarge) h e = absurd h
kept_or_refused a s expected xs (Err fault.TooManyGlobals) h e = absurd h
kept_or_refused a s expected xs (Err fault.TooManySections) h e = absurd h
kept_or_refused a s expected xs (Err fault.TooManyModules) h e = absurd h
kept_or_refused a s expected xs (Err fault.TooMuch) h e = absurd h
kept_or_refused a s expected xs (Err fault.TextOutside) h e = absurd h

pub symbol_first : (a : Outputs) (t s : ReporterState) (index : ℕ) (entry : GsdEntry) (result : Result (Unit {0}) LinkFault)
    → defines entry ≡ true → is_among t.defined entry.name ≡ false → EmitBecomes s (with_name entry.name t) result
    → Goes a a (symbol_writes (planned t.plan) index t.defined entry) s (with_symbol index entry t) result
symbol_first a t s index entry result d m h =
    let P : Bool → Type 0 = λ x. Goes a a (reported_by x (is_among t.defined entry.name) t index entry) s
    (kept_by x (is_among t.defined entry.name) t index entry) result in
    let Q : Bool → Type 0 = λ x. Goes a a (reported_by true x t index entry) s (kept_by true x t index entry) result in
    let R : Bool → Type 0 = λ x.
    EmitBecomes s (let k : ReporterState = record t { defined = cond x t.defined (t.defined ++ entry.name ∷ []) } in k) result in
    subst P (sym d) (subst Q (sym m) (kept_or_refused a s (kept_by true false t index entry) [] result (subst R m h) refl))

pub symbol_again : {A : Type 0} (a b : Outputs) (t s : ReporterState) (index : ℕ) (entry : GsdEntry) (result : Result A LinkFault)
    → defines entry ≡ true → is_among t.defined entry.name ≡ true
    → Goes a b (symbol_reported t index entry) s (with_count (symbol_reported t index entry) t) result
    → Goes a b (symbol_writes (planned t.plan) index t.defined entry) s (with_symbol index entry t) result
symbol_again a b t s index entry result d m h =
    let P : Bool → Type 0 = λ x. Goes a b (reported_by x (is_among t.defined entry.name) t index entry) s
    (kept_by x (is_among t.defined entry.name) t index entry) result in
    let Q : Bool → Type 0 = λ x. Goes a b (reported_by true x t index entry) s (kept_by true x t index entry) result in
    subst P (sym d) (subst Q (sym m) h)

-- ---- an entry, by its kind

module _ {A : Type 0} (a b : Outputs) (t s : ReporterState) (index : ℕ) (entry : GsdEntry) (result : Result A LinkFault) where
  abbrev Noted : GsdKind → Type 0
  Noted k = Goes a b (writes_by k (planned t.plan) index t.defined entry) s
      (let n : ReporterState = record t {
        defined = defined_by k t.defined entry;
        messages = counted t.messages (writes_by k (planned t.plan) index t.defined entry);
      } in n) result

  abbrev ByAttributes : GsdKind → Type 0
  ByAttributes k = Goes a b (different_writes (planned t.plan) index (attributes_by k entry)) s
      (with_count (different_writes (planned t.plan) index (attributes_by k entry)) t) result

  pub entry_control : entry.kind ≡ kind.ControlSection → ByAttributes entry.kind → Noted entry.kind
  entry_control e = let P : GsdKind → Type 0 = λ k. ByAttributes k → Noted k in subst P (sym e) (λ h. h)

  pub entry_program : entry.kind ≡ kind.ProgramSection → ByAttributes entry.kind → Noted entry.kind
  entry_program e = let P : GsdKind → Type 0 = λ k. ByAttributes k → Noted k in subst P (sym e) (λ h. h)

  pub entry_symbol : entry.kind ≡ kind.GlobalSymbol
      → Goes a b (symbol_writes (planned t.plan) index t.defined entry) s (with_symbol index entry t) result
      → Noted entry.kind
  entry_symbol e h = subst Noted (sym e) h

module _ (a : Outputs) (t : ReporterState) (index : ℕ) (entry : GsdEntry) where
  abbrev Silent : GsdKind → Type 0
  Silent k = Gains a a (writes_by k (planned t.plan) index t.defined entry) × (t ≡ (let n : ReporterState = record t {
    defined = defined_by k t.defined entry;
    messages = counted t.messages (writes_by k (planned t.plan) index t.defined entry);
  } in n))

  pub entry_named : entry.kind ≡ kind.ModuleName → Silent entry.kind
  entry_named e = subst Silent (sym e) (gains_nothing link a, refl)

  pub entry_internal : entry.kind ≡ kind.InternalSymbol → Silent entry.kind
  entry_internal e = subst Silent (sym e) (gains_nothing link a, refl)

  pub entry_transfer : entry.kind ≡ kind.TransferAddress → Silent entry.kind
  entry_transfer e = subst Silent (sym e) (gains_nothing link a, refl)

  pub entry_identified : entry.kind ≡ kind.Identification → Silent entry.kind
  entry_identified e = subst Silent (sym e) (gains_nothing link a, refl)
