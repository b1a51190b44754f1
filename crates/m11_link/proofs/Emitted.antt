-- The state of a second pass after some parts, and after further ones.
use Rattle.std.proofs.Common.{◌≡◌, ℕ, Bool, true, false, if◌then◌else◌, List, [], ◌∷◌, ◌++◌, append_assoc, append-nil, Option, Some, None, Result, Ok, Err, IsErrAnd, inl, inr, refl, sym, subst, ap, ap₂, ◌∙◌}
use Rattle.std.proofs.lemmas.Bool.{true≢false}
use Rattle.std.specs.Prelude.{is_ok}
use Rattle.m11_obj.specs.Reading.{IsRecord, content_of}
use Rattle.m11_obj.specs.declared.gsd.GsdEntry.{GsdEntry}
use Rattle.m11_obj.specs.declared.relocations.Relocation.{Relocation}
use Rattle.m11_obj.specs.Records as records
use Rattle.m11_obj.specs.declared.fault.RecordFault.{RecordFault}
use Rattle.m11_link_modules.specs.Grammar.{directory_parts}
use Rattle.m11_link_modules.specs.Laws.{AcceptsAfter}
use Rattle.m11_link_modules.specs.declared.stage.Stage.{Stage}
use Rattle.m11_link_modules.specs.declared.stage.Stage.TheVariants.{Between, InDirectory, InBody}
use Rattle.m11_link_modules.specs.Parts.{Part, Directory, Entry, EndOfDirectory, Text, Relocations, Relocated, EndOfModule, EndOfFile, parts_in, parts_of, record_parts}
use Rattle.m11_link_modules.specs.Steps.{RulesAccept, known_after, with_optional_global}
use Rattle.m11_link_modules.proofs.Taking.{none_taken}
use Rattle.m11_link_modules.proofs.KnownAfter.{known_after_part, accepted_after}
use Rattle.m11_link_layout.specs.Globals.{definitions_of}
use Rattle.m11_link_modules.specs.Positions.{RulesState, current_section, distinct, global_of, known_of, modules_in, this_module}
use Rattle.m11_link_modules.specs.Rules.{fault_known, fault_of, first_fault, may_occur}
use Rattle.m11_link_modules.specs.declared.fault.ModuleFault.{ModuleFault}
use Rattle.m11_link_modules.specs.declared.fault.ModuleFault.TheVariants as rule
use Rattle.m11_link_layout.proofs.Standing.{sound_after}
use Rattle.m11_link_layout.proofs.Walking.{head_none, walked}
use Rattle.m11_link_layout.specs.Fault.{of_module}
use Rattle.m11_link_layout.specs.Plan.{PlanTables}
use Rattle.m11_link_layout.specs.Tables.{LayoutTables, nothing_collected}
use Rattle.m11_link_layout.specs.declared.fault.LinkFault.{LinkFault}
use Rattle.m11_link_layout.specs.declared.fault.LinkFault.TheVariants as fault
use Rattle.m11_link.specs.Emit.{EmitAfter, EmitState, Goes, GoesOn, ReporterState, AcceptsBlock, AcceptsParts, begin_writes, begun_reporting, call_of, directory_writes, entries_writes, held_at, held_text, held_with, held_with_all, held_writes, relocated_parts, with_count, with_directory, with_held, with_reporting, with_text, written}
use Rattle.m11_link_text.specs.Findings.{Findings, planned}
use Rattle.m11_link.specs.Front.{front_writes}
use Rattle.m11_link.specs.Outputs.{Gains, Stops, StopsBetween, StopsIn, Writes, link}
use Rattle.m11_base_writes.specs.Outputs.{Outputs, Write}
use Rattle.m11_link.specs.Written.{PlacedText, block_at, counted, defined_names, parts_writes}
use Rattle.m11_link.proofs.Counting.{counted-append}
use Rattle.m11_link.proofs.Entering.{goes_stopped_alone}
use Rattle.m11_base_writes.proofs.Writing.{gains_nothing, gains_then, stops_after, writes_then}
use Rattle.m11_link.proofs.WritesAfter.{content_defined_is, content_held, content_held_is, content_reported, content_reported_is, file_defined, held_more, parts_more, reported_all}

-- ---- the state of the reporter

pub record Holds (plan : PlanTables) (parts : List Part) (t : ReporterState) : Type 0 where
  pub planned_so : t.plan ≡ plan
  pub defined : t.defined ≡ defined_names parts
  pub held : t.held ≡ held_text (planned plan) parts

-- in any state of the reporter after the earlier parts, `ws` yields the writes of these parts, and `u` the state after them, which
-- counts the messages among these writes
pub record Makes (plan : PlanTables) (before parts : List Part) (ws : ReporterState → List Write) (u : ReporterState → ReporterState) : Type 0
  where
    pub reported : (t : ReporterState) → Holds plan before t
        → ws t ≡ reported_all (planned plan) before (held_text (planned plan) before) parts
    pub holds : (t : ReporterState) → Holds plan before t → Holds plan (before ++ parts) (u t)
    pub counts : (t : ReporterState) → (u t).messages ≡ counted t.messages (ws t)

-- a block of the tape isn't counted as a message
block_uncounted : (count address : ℕ) (bytes : List ℕ) (ws : List Write)
    → counted count (block_at address bytes ++ ws) ≡ counted count ws
block_uncounted count address [] ws = refl
block_uncounted count address (byte ∷ bytes) ws = refl

held_uncounted : (count : ℕ) (held : Option PlacedText) (ws : List Write)
    → counted count (held_writes held ++ ws) ≡ counted count ws
held_uncounted count None ws = refl
held_uncounted count (Some text) ws = block_uncounted count text.address text.bytes ws

held_alone : (count : ℕ) (held : Option PlacedText) → counted count (held_writes held) ≡ count
held_alone count held =
    ap (λ ws. counted count ws) (sym (append-nil (held_writes held))) ∙ held_uncounted count held []

-- ---- a record

-- the writes for a record with this content, given the parts before it and the reporter's state
abbrev pub made_by : List Part → records.Content → ReporterState → List Write
made_by before (records.Gsd entries) t = directory_writes (modules_in before) entries t
made_by before records.EndOfGsd t = held_writes t.held
made_by before (records.Text address bytes) t = held_writes t.held
made_by before (records.Relocations relocations) t = []
made_by before records.InternalSymbols t = []
made_by before records.EndOfModule t = held_writes t.held

abbrev pub relocating : List Relocation → ReporterState → ReporterState
relocating relocations t = with_held (held_with_all (planned t.plan) t.held relocations) t

-- the reporter's state after a record with this content, given the parts and the state before it
abbrev pub following : List Part → records.Content → ReporterState → ReporterState
following before (records.Gsd entries) t = with_directory (modules_in before) entries t
following before records.EndOfGsd t = with_held None t
following before (records.Text address bytes) t =
    with_text (modules_in before) (current_section (this_module before)) address bytes t
following before (records.Relocations relocations) t = relocating relocations t
following before records.InternalSymbols t = t
following before records.EndOfModule t = with_held None t

content_reported_by : (plan : PlanTables) (before : List Part) (t : ReporterState) (c : records.Content) → Holds plan before t
    → made_by before c t ≡ content_reported (planned plan) before (held_text (planned plan) before) c
content_reported_by plan before t (records.Gsd entries) h = rw (h.planned_so, h.defined, h.held) refl
content_reported_by plan before t records.EndOfGsd h = ap held_writes h.held
content_reported_by plan before t (records.Text address bytes) h = ap held_writes h.held
content_reported_by plan before t (records.Relocations relocations) h = refl
content_reported_by plan before t records.InternalSymbols h = refl
content_reported_by plan before t records.EndOfModule h = ap held_writes h.held

after_plan : (before : List Part) (c : records.Content) (t : ReporterState) → (following before c t).plan ≡ t.plan
after_plan before (records.Gsd entries) t = refl
after_plan before records.EndOfGsd t = refl
after_plan before (records.Text address bytes) t = refl
after_plan before (records.Relocations relocations) t = refl
after_plan before records.InternalSymbols t = refl
after_plan before records.EndOfModule t = refl

after_held : (before : List Part) (c : records.Content) (t : ReporterState)
    → (following before c t).held ≡ content_held (planned t.plan) before t.held c
after_held before (records.Gsd entries) t = refl
after_held before records.EndOfGsd t = refl
after_held before (records.Text address bytes) t = refl
after_held before (records.Relocations relocations) t = refl
after_held before records.InternalSymbols t = refl
after_held before records.EndOfModule t = refl

after_defined : (plan : PlanTables) (before : List Part) (c : records.Content) (t : ReporterState) → Holds plan before t
    → (following before c t).defined ≡ defined_names (before ++ parts_of c)
after_defined plan before (records.Gsd entries) t h =
    rw h.defined (sym (content_defined_is before (records.Gsd entries)))
after_defined plan before records.EndOfGsd t h = h.defined ∙ sym (content_defined_is before records.EndOfGsd)
after_defined plan before (records.Text address bytes) t h =
    h.defined ∙ sym (content_defined_is before (records.Text address bytes))
after_defined plan before (records.Relocations relocations) t h =
    h.defined ∙ sym (content_defined_is before (records.Relocations relocations))
after_defined plan before records.InternalSymbols t h =
    h.defined ∙ sym (content_defined_is before records.InternalSymbols)
after_defined plan before records.EndOfModule t h = h.defined ∙ sym (content_defined_is before records.EndOfModule)

after_counts : (before : List Part) (c : records.Content) (t : ReporterState)
    → (following before c t).messages ≡ counted t.messages (made_by before c t)
after_counts before (records.Gsd entries) t = sym (held_uncounted t.messages t.held
    (entries_writes (planned t.plan) (modules_in before) t.defined entries))
after_counts before records.EndOfGsd t = sym (held_alone t.messages t.held)
after_counts before (records.Text address bytes) t = sym (held_alone t.messages t.held)
after_counts before (records.Relocations relocations) t = refl
after_counts before records.InternalSymbols t = refl
after_counts before records.EndOfModule t = sym (held_alone t.messages t.held)

content_makes : (plan : PlanTables) (before : List Part) (c : records.Content)
    → Makes plan before (parts_of c) (made_by before c) (following before c)
content_makes plan before c = record {
  reported = λ t h. content_reported_by plan before t c h
      ∙ sym (content_reported_is (planned plan) before (held_text (planned plan) before) c);
  holds = λ t h. record {
    planned_so = after_plan before c t ∙ h.planned_so;
    defined = after_defined plan before c t h;
    held = after_held before c t
        ∙ ap₂ (λ p o. content_held (planned p) before o c) h.planned_so h.held
        ∙ sym (content_held_is (planned plan) before (held_text (planned plan) before) c)
        ∙ sym (held_more (planned plan) before (parts_of c));
  };
  counts = λ t. after_counts before c t;
}

-- at the end of an object the pending text, if there is one, is written, and no text is pending afterwards
pub end_makes : (plan : PlanTables) (before : List Part)
    → Makes plan before (EndOfFile ∷ []) (λ t. held_writes t.held) (with_held None)
end_makes plan before = record {
  reported = λ t h. ap held_writes h.held ∙ sym (append-nil (held_writes (held_text (planned plan) before)));
  holds = λ t h. record {
    planned_so = h.planned_so;
    defined = h.defined ∙ sym (file_defined before);
    held = sym (held_more (planned plan) before (EndOfFile ∷ []));
  };
  counts = λ t. sym (held_alone t.messages t.held);
}

-- ---- with the front

pub begun_holds : (plan : PlanTables) (parts : List Part) (b : Bool) (t : ReporterState) (ws : List Write) → Holds plan parts t
    → Holds plan parts (if b then t else with_count ws t)
begun_holds plan parts true t ws h = h
begun_holds plan parts false t ws h = record { planned_so = h.planned_so; defined = h.defined; held = h.held }

pub begun_counts : (b : Bool) (t : ReporterState) (ws : List Write)
    → (if b then t else with_count ws t).messages ≡ counted t.messages (if b then [] else ws)
begun_counts true t ws = refl
begun_counts false t ws = refl

pub none_written : (plan : PlanTables) (before : List Part) → before ≡ [] → parts_writes (planned plan) before ≡ []
unfolding parts_writes
none_written plan before e = ap (λ parts. parts_writes (planned plan) parts) e

-- the writes after further parts are those so far, then the front if it wasn't written yet, and then those of the further parts
all_split : (plan : PlanTables) (before parts : List Part) (b : Bool) (ws : List Write)
    → ws ≡ reported_all (planned plan) before (held_text (planned plan) before) parts → (b ≡ false → before ≡ [])
    → written (planned plan) true (before ++ parts)
    ≡ written (planned plan) b before ++ ((if b then [] else front_writes (planned plan)) ++ ws)
all_split plan before parts true ws e first =
    ap (λ these. front_writes (planned plan) ++ these) (parts_more (planned plan) before parts)
    ∙ sym (append_assoc (front_writes (planned plan)) (parts_writes (planned plan) before) _)
    ∙ ap (λ these. (front_writes (planned plan) ++ parts_writes (planned plan) before) ++ these) (sym e)
all_split plan before parts false ws e first =
    ap (λ these. front_writes (planned plan) ++ these) (parts_more (planned plan) before parts
    ∙ ap (λ done. done ++ reported_all (planned plan) before (held_text (planned plan) before) parts)
    (none_written plan before (first refl)) ∙ sym e)

-- a second pass that knows no parts, has written nothing and has no fault is in the state after no parts
pub stands_first : (plan : PlanTables) (s : EmitState) → s.known ≡ known_of []
    → s.reporting ≡ record { plan = plan; defined = []; held = None; messages = 0 } → s.has_begun ≡ false → s.fault ≡ None
    → EmitAfter plan [] s
unfolding first_fault defined_names definitions_of distinct held_text
stands_first plan s k t b f = record {
  sound = refl;
  known = k;
  planned_so = ap (λ x. x.plan) t;
  defined = ap (λ x. x.defined) t;
  held = ap (λ x. x.held) t;
  messages = ap (λ x. x.messages) t ∙ ap (λ x. counted 0 (written (planned plan) x [])) (sym b);
  begun = λ e. refl;
  fault = f;
}

module _ (plan : PlanTables) (before parts : List Part) (ws : ReporterState → List Write) (u : ReporterState → ReporterState)
    (makes : Makes plan before parts ws u) (s : EmitState) (stands : EmitAfter plan before s) where
  holds_now : Holds plan before s.reporting
  holds_now = record { planned_so = stands.planned_so; defined = stands.defined; held = stands.held }

  abbrev front : List Write
  front = front_writes (planned s.reporting.plan)

  holds_begun : Holds plan before (begun_reporting s)
  holds_begun = begun_holds plan before s.has_begun s.reporting front holds_now

  abbrev made : List Write
  made = begin_writes s ++ ws (begun_reporting s)

  split : written (planned plan) true (before ++ parts) ≡ written (planned plan) s.has_begun before ++ made
  split = all_split plan before parts s.has_begun (ws (begun_reporting s)) (makes.reported (begun_reporting s) holds_begun) stands.begun
      ∙ ap (λ p. written (planned plan) s.has_begun before
      ++ ((if s.has_begun then [] else front_writes (planned p)) ++ ws (begun_reporting s))) (sym stands.planned_so)

  stands_after : (s' : EmitState) → first_fault before parts ≡ None → s'.known ≡ known_of (before ++ parts)
      → s'.reporting ≡ u (begun_reporting s) → s'.has_begun ≡ true → s'.fault ≡ s.fault → EmitAfter plan (before ++ parts) s'
  stands_after s' sound k t b f =
      let h = makes.holds (begun_reporting s) holds_begun in
      let P : ReporterState → Type 0 = λ x. Holds plan (before ++ parts) x in
      let h' = subst P (sym t) h in
      record {
        sound = sound_after [] before parts stands.sound sound;
        known = k;
        planned_so = h'.planned_so;
        defined = h'.defined;
        held = h'.held;
        messages = ap (λ x. x.messages) t ∙ makes.counts (begun_reporting s)
            ∙ ap (λ n. counted n (ws (begun_reporting s))) (begun_counts s.has_begun s.reporting front
            ∙ ap (λ n. counted n (begin_writes s)) stands.messages)
            ∙ counted-append (counted 0 (written (planned plan) s.has_begun before)) (begin_writes s) (ws (begun_reporting s))
            ∙ counted-append 0 (written (planned plan) s.has_begun before) made
            ∙ ap (λ these. counted 0 these) (sym split)
            ∙ ap (λ x. counted 0 (written (planned plan) x (before ++ parts))) (sym b);
        begun = λ e. absurd (true≢false (sym b ∙ e));
        fault = f ∙ stands.fault;
      }

  went_on : (Went : List Write → Type 0) → Went made
      → GoesOn Went (written (planned plan) s.has_begun before) (written (planned plan) true (before ++ parts))
  went_on Went w = record { more = made; split = split; went = w }

  -- if parts have no fault, the result of making their writes is a result of accepting them
  pub parts_taken : (a b : Outputs) (s' : EmitState) (known : RulesState) (result : Result (Unit {0}) LinkFault)
      → first_fault before parts ≡ None → known ≡ known_of (before ++ parts)
      → Goes a b made s' (let now : EmitState = record s { known = known } in with_reporting (u (begun_reporting s)) now) result
      → AcceptsParts plan before (call_of a b s s') parts result
  parts_taken a b s' known (Ok done) sound k (gains, is) = (
    stands_after s' sound (ap (λ x. x.known) is ∙ k) (ap (λ x. x.reporting) is) (ap (λ x. x.has_begun) is)
        (ap (λ x. x.fault) is),
    ap (λ x. x.has_begun) is,
    went_on (λ more. Gains a b more) gains,
  )
  parts_taken a b s' known (Err (fault.Write output)) sound k h = (sound, went_on (λ more. StopsIn output a b more) h)
  parts_taken a b s' known (Err fault.NoMemory) sound k h = inr (sound, went_on (λ more. StopsBetween a b more) h)
  parts_taken a b s' known (Err fault.Read) sound k h = absurd h
  parts_taken a b s' known (Err (fault.Block inner)) sound k h = absurd h
  parts_taken a b s' known (Err (fault.Record inner)) sound k h = absurd h
  parts_taken a b s' known (Err fault.BadOrder) sound k h = absurd h
  parts_taken a b s' known (Err fault.NoText) sound k h = absurd h
  parts_taken a b s' known (Err fault.BadDisplacement) sound k h = absurd h
  parts_taken a b s' known (Err fault.UnknownSection) sound k h = absurd h
  parts_taken a b s' known (Err fault.TooLarge) sound k h = absurd h
  parts_taken a b s' known (Err fault.TooManyGlobals) sound k h = absurd h
  parts_taken a b s' known (Err fault.TooManySections) sound k h = absurd h
  parts_taken a b s' known (Err fault.TooManyModules) sound k h = absurd h
  parts_taken a b s' known (Err fault.TooMuch) sound k h = absurd h
  parts_taken a b s' known (Err fault.TextOutside) sound k h = absurd h

  -- if parts are refused and nothing is written, their fault is a result of accepting them
  refused_by : (a : Outputs) (s' : EmitState) (new : RulesState) (broken : ModuleFault)
      → AcceptsAfter before new parts (Err broken) → AcceptsParts plan before (call_of a a s s') parts (Err (of_module broken))
  refused_by a s' new rule.BadOrder h = ((rule.BadOrder, h, refl), refl)
  refused_by a s' new rule.NoText h = ((rule.NoText, h, refl), refl)
  refused_by a s' new rule.BadDisplacement h = ((rule.BadDisplacement, h, refl), refl)
  refused_by a s' new rule.UnknownSection h = ((rule.UnknownSection, h, refl), refl)
  refused_by a s' new rule.TextOutside h = ((rule.TextOutside, h, refl), refl)
  refused_by a s' new rule.TooManyGlobals h = ((rule.TooManyGlobals, h, refl), refl)
  refused_by a s' new rule.TooManySections h = ((rule.TooManySections, h, refl), refl)
  refused_by a s' new rule.TooManyModules h = ((rule.TooManyModules, h, refl), refl)
  refused_by a s' new rule.NoMemory h = inl (h, refl)

  pub parts_refused : (a : Outputs) (s' : EmitState) (new : RulesState) (broken : ModuleFault) (result : Result (Unit {0}) LinkFault)
      → AcceptsAfter before new parts (Err broken) → IsErrAnd result (λ e. e ≡ of_module broken)
      → AcceptsParts plan before (call_of a a s s') parts result
  parts_refused a s' new broken (Ok done) h e = absurd e
  parts_refused a s' new broken (Err stopped) h e =
      let P : LinkFault → Type 0 = λ x. AcceptsParts plan before (call_of a a s s') parts (Err x) in
      subst P (sym e) (refused_by a s' new broken h)

-- ---- the front, call by call

module _ {seen : EmitState} (old : EmitState) (is : seen ≡ old) where
  pub begun_before : (a : Outputs) → seen.has_begun ≡ true
      → Gains a a (begin_writes old) × (old ≡ with_reporting (begun_reporting old) old)
  begun_before a e =
      let P : EmitState → Type 0 = λ x. Gains a a (begin_writes x) × (x ≡ with_reporting (begun_reporting x) x) in
      let front = front_writes (planned seen.reporting.plan) in
      let Q : Bool → Type 0 = λ b. Gains a a (if b then [] else front)
      × (seen ≡ (let x : EmitState = record seen {
        reporting = if b then seen.reporting else with_count front seen.reporting;
        has_begun = true;
      } in x)) in
      subst P is (subst Q (sym e) (gains_nothing link a, ap (λ b. let x : EmitState = record seen { has_begun = b } in x) e))

  pub begin_stopped : (a b : Outputs) (stopped : LinkFault) (state expected : EmitState) (result : Result (Unit {0}) LinkFault)
      → seen.has_begun ≡ false → Stops a b (front_writes (planned seen.reporting.plan)) stopped
      → IsErrAnd result (λ f. f ≡ stopped) → Goes a b (begin_writes old) state expected result
  begin_stopped a b stopped state expected result e h f =
      let P : EmitState → Type 0 = λ x. Goes a b (begin_writes x) state expected result in
      let Q : Bool → Type 0 = λ x.
      Goes a b (if x then [] else front_writes (planned seen.reporting.plan)) state expected result in
      subst P is (subst Q (sym e) (goes_stopped_alone a b _ state expected stopped result h f))

  pub begun_now : (a b : Outputs) (reporting : ReporterState) → seen.has_begun ≡ false
      → Gains a b (front_writes (planned seen.reporting.plan))
      × (reporting ≡ with_count (front_writes (planned seen.reporting.plan)) seen.reporting)
      → Gains a b (begin_writes old)
      × ((let x : EmitState = record seen { reporting = reporting; has_begun = true } in x) ≡ with_reporting (begun_reporting old) old)
  begun_now a b reporting e h =
      let front = front_writes (planned seen.reporting.plan) in
      let P : EmitState → Type 0 = λ x. Gains a b (begin_writes x)
      × ((let y : EmitState = record seen { reporting = reporting; has_begun = true } in y) ≡ with_reporting (begun_reporting x) x) in
      let Q : Bool → Type 0 = λ x. Gains a b (if x then [] else front)
      × ((let y : EmitState = record seen { reporting = reporting; has_begun = true } in y) ≡ (let z : EmitState = record seen {
        reporting = if x then seen.reporting else with_count front seen.reporting;
        has_begun = true;
      } in z)) in
      subst P is (subst Q (sym e) (h.0, ap (λ t. let y : EmitState = record seen { reporting = t; has_begun = true } in y) h.1))

goes_in : {A S T : Type 0} (a b c : Outputs) (xs ys : List Write) (of : T → S) (t u : T) (result : Result A LinkFault)
    → Gains a b xs → Goes b c ys t u result → Goes a c (xs ++ ys) (of t) (of u) result
goes_in a b c xs ys of t u (Ok x) g h = (gains_then link a b c xs ys g h.0, ap of h.1)
goes_in a b c xs ys of t u (Err stopped) g h = stops_after link a b c xs ys stopped g h

-- if the front was written where necessary, and then other writes went on to this result, all of them together have this result
pub written_then : {seen : EmitState} (old mid : EmitState) (a b c : Outputs) (ws : ReporterState → List Write)
    (u : ReporterState → ReporterState) (reporting : ReporterState) (result : Result (Unit {0}) LinkFault) → seen ≡ mid
    → Gains a b (begin_writes old) × (mid ≡ with_reporting (begun_reporting old) old)
    → Goes b c (ws seen.reporting) reporting (u seen.reporting) result
    → Goes a c (begin_writes old ++ ws (begun_reporting old)) (let x : EmitState = record seen { reporting = reporting } in x)
    (with_reporting (u (begun_reporting old)) old) result
written_then old mid a b c ws u reporting result is h k =
    let P : EmitState → Type 0 = λ x. Goes b c (ws x.reporting) reporting (u x.reporting) result
    → Goes a c (begin_writes old ++ ws (begun_reporting old)) (let y : EmitState = record x { reporting = reporting } in y)
    (with_reporting (u (begun_reporting old)) old) result in
    subst P (sym (is ∙ h.1)) (λ g. goes_in a b c (begin_writes old) (ws (begun_reporting old)) (λ t. with_reporting t old) reporting
    (u (begun_reporting old)) result h.0 g) k

-- ---- no text is pending where an object may end

abbrev NoneHeld : Findings → List Part → Type 0
NoneHeld found before = (known_of before).stage ≡ Between → held_text found before ≡ None

some_fault : (broken : ModuleFault) → Some broken ≡ None → ⊥
some_fault broken e = cc

-- a text between modules has a fault
text_in_body : (address : ℕ) (bytes : List ℕ) (stage : Stage) (later : Option ModuleFault)
    → (if may_occur (Text address bytes) stage then later else Some rule.BadOrder) ≡ None → stage ≡ Between → ⊥
text_in_body address bytes Between later e b = some_fault rule.BadOrder e
text_in_body address bytes InDirectory later e b = some_fault rule.BadOrder e
text_in_body address bytes InBody later e b = cc

with_none : (found : Findings) (held : Option PlacedText) (relocation : Relocation) → held ≡ None
    → held_with found held relocation ≡ None
with_none found held relocation e = ap (λ these. held_with found these relocation) e

global_leaves : (global : Option (ℕ × ℕ)) (known : RulesState) → (with_optional_global global known).stage ≡ known.stage
global_leaves None known = refl
global_leaves (Some name) known = refl

held_step : (found : Findings) (before : List Part) (part : Part) → fault_known (known_of before) part ≡ None
    → NoneHeld found before → (known_after (known_of before) part).stage ≡ Between
    → held_at found before (held_text found before) part ≡ None
unfolding fault_known known_after
held_step found before Directory n h b = refl
held_step found before (Entry entry) n h b = refl
held_step found before EndOfDirectory n h b = refl
held_step found before (Text address bytes) n h b =
    absurd (text_in_body address bytes (known_of before).stage _ n b)
held_step found before Relocations n h b = h b
held_step found before (Relocated relocation) n h b =
    with_none found (held_text found before) relocation (h (sym (global_leaves (global_of relocation.target) _) ∙ b))
held_step found before EndOfModule n h b = refl
held_step found before EndOfFile n h b = refl

held_on : (found : Findings) (before : List Part) (g : LayoutTables) (part : Part)
    → fault_of before part ≡ None → NoneHeld found before → NoneHeld found (before ++ part ∷ [])
held_on found before g part n h b =
    let P : RulesState → Type 0 = λ known. known.stage ≡ Between in
    held_more found before (part ∷ []) ∙ held_step found before part n h (subst P (known_after_part before part n) b)

ends_between : (stage : Stage) (later : Option ModuleFault)
    → (if may_occur EndOfFile stage then later else Some rule.BadOrder) ≡ None → stage ≡ Between
ends_between Between later e = refl
ends_between InDirectory later e = absurd (some_fault rule.BadOrder e)
ends_between InBody later e = absurd (some_fault rule.BadOrder e)

held_first : (found : Findings) → held_text found [] ≡ None
unfolding held_text
held_first found = refl

none_held : (found : Findings) (before : List Part) → first_fault [] before ≡ None → fault_of before EndOfFile ≡ None
    → held_text found before ≡ None
unfolding fault_known
none_held found before n e =
    walked 0 (λ these g. NoneHeld found these) (held_on found) [] before nothing_collected n (λ b. held_first found)
    (ends_between (known_of before).stage _ e)

-- if no text is pending, ending the pending text adds no write
nothing_held : (a b : Outputs) (ws : List Write) (t : ReporterState) (now s' : EmitState) (result : Result (Unit {0}) LinkFault)
    → t.held ≡ None → Goes a b ws s' (with_reporting t now) result
    → Goes a b (ws ++ held_writes t.held) s' (with_reporting (with_held None t) now) result
nothing_held a b ws t now s' result e h =
    let P : List Write → Type 0 = λ all. Goes a b all s' (with_reporting (with_held None t) now) result in
    let Q : ReporterState → Type 0 = λ u. Goes a b ws s' (with_reporting u now) result in
    subst P (sym (ap (λ held. ws ++ held_writes held) e ∙ append-nil ws))
    (subst Q (ap (λ held. with_held held t) e) h)

-- ---- the end of an object, call by call

module _ {seen : EmitState} (plan : PlanTables) (before : List Part) (s : EmitState) (is : seen ≡ s)
    (stands : EmitAfter plan before s) where
  pub here : EmitAfter plan before seen
  here = let P : EmitState → Type 0 = λ x. EmitAfter plan before x in subst P (sym is) stands

  pub end_refused : (a : Outputs) (s' : EmitState) (new : RulesState) (broken : ModuleFault) (result : Result (Unit {0}) LinkFault)
      → (seen.known ≡ known_of before → AcceptsAfter before new (EndOfFile ∷ []) (Err broken))
      → IsErrAnd result (λ e. e ≡ of_module broken) → AcceptsParts plan before (call_of a a s s') (EndOfFile ∷ []) result
  end_refused a s' new broken result h e =
      let P : EmitState → Type 0 = λ x. AcceptsParts plan before (call_of a a x s') (EndOfFile ∷ []) result in
      subst P is (parts_refused plan before (EndOfFile ∷ []) (λ t. held_writes t.held) (with_held None) (end_makes plan before)
      seen here a s' new broken result (h here.known) e)

  ends_there : first_fault before (EndOfFile ∷ []) ≡ None → fault_of before EndOfFile ≡ None
  unfolding first_fault
  ends_there e = head_none (fault_of before EndOfFile) None e

  pub end_taken : (a b : Outputs) (s' : EmitState) (known : RulesState) (result : Result (Unit {0}) LinkFault)
      → (seen.known ≡ known_of before → AcceptsAfter before known (EndOfFile ∷ []) (Ok tt))
      → Goes a b (begin_writes seen) s'
      (let now : EmitState = record seen { known = known } in with_reporting (begun_reporting seen) now) result
      → AcceptsParts plan before (call_of a b s s') (EndOfFile ∷ []) result
  end_taken a b s' known result h k =
      let P : EmitState → Type 0 = λ x. AcceptsParts plan before (call_of a b x s') (EndOfFile ∷ []) result in
      let t = h here.known in
      let now : EmitState = record seen { known = known } in
      let none = none_held (planned plan) before here.sound (ends_there t.0) in
      let held = (begun_holds plan before seen.has_begun seen.reporting (front_writes (planned seen.reporting.plan))
      (record { planned_so = here.planned_so; defined = here.defined; held = here.held })).held in
      let k = nothing_held a b (begin_writes seen) (begun_reporting seen) now s' result (held ∙ none) k in
      subst P is (parts_taken plan before (EndOfFile ∷ []) (λ t. held_writes t.held) (with_held None) (end_makes plan before)
      seen here a b s' known result t.0 t.1 k)

-- ---- a record, call by call

module _ {seen : EmitState} (plan : PlanTables) (before : List Part) (s : EmitState) (c : records.Content) (is : seen ≡ s)
    (stands : EmitAfter plan before s) where
  pub content_refused : (a : Outputs) (s' : EmitState) (new : RulesState) (broken : ModuleFault) (result : Result (Unit {0}) LinkFault)
      → RulesAccept seen.known new (parts_of c) (Err broken) → IsErrAnd result (λ f. f ≡ of_module broken)
      → AcceptsParts plan before (call_of a a s s') (parts_of c) result
  content_refused a s' new broken result h f =
      let P : EmitState → Type 0 = λ x. AcceptsParts plan before (call_of a a x s') (parts_of c) result in
      let now = here plan before s is stands in
      subst P is (parts_refused plan before (parts_of c) (made_by before c) (following before c) (content_makes plan before c)
      seen now a s' new broken result (accepted_after before seen.known new (parts_of c) (Err broken) now.known h) f)

  pub content_taken : (a b : Outputs) (s' : EmitState) (known : RulesState) (result : Result (Unit {0}) LinkFault)
      → RulesAccept seen.known known (parts_of c) (Ok tt)
      → Goes a b (begin_writes seen ++ made_by before c (begun_reporting seen)) s'
      (let now : EmitState = record seen { known = known } in with_reporting (following before c (begun_reporting seen)) now) result
      → AcceptsParts plan before (call_of a b s s') (parts_of c) result
  content_taken a b s' known result h k =
      let P : EmitState → Type 0 = λ x. AcceptsParts plan before (call_of a b x s') (parts_of c) result in
      let now = here plan before s is stands in
      let t = accepted_after before seen.known known (parts_of c) (Ok tt) now.known h in
      subst P is (parts_taken plan before (parts_of c) (made_by before c) (following before c) (content_makes plan before c)
      seen now a b s' known result t.0 t.1 k)

-- the result of writing the front alone is a result of accepting a record without parts
pub nothing_taken : (plan : PlanTables) (before : List Part) (s : EmitState) → EmitAfter plan before s → (a b : Outputs) (s' : EmitState)
    (result : Result (Unit {0}) LinkFault) → Goes a b (begin_writes s) s' (with_reporting (begun_reporting s) s) result
    → AcceptsParts plan before (call_of a b s s') [] result
nothing_taken plan before s stands a b s' result k =
    let P : List Write → Type 0 = λ ws. Goes a b ws s' (with_reporting (begun_reporting s) s) result in
    content_taken plan before s records.InternalSymbols refl stands a b s' s.known result (none_taken s.known tt)
    (subst P (sym (append-nil (begin_writes s))) k)

-- the number of modules that the rules know is the index of the module of the next record
index_of : (before : List Part) (known : RulesState) → known ≡ known_of before → known.modules ≡ modules_in before
unfolding known_of
index_of before known e = ap (λ k. k.modules) e

-- the result of making the writes of a directory record in the module with this index is a result of accepting its parts
pub directory_taken : {seen : EmitState} (plan : PlanTables) (before : List Part) (s : EmitState) (entries : List GsdEntry) → seen ≡ s
    → EmitAfter plan before s → (a b : Outputs) (s' : EmitState) (known : RulesState) (index : ℕ) (result : Result (Unit {0}) LinkFault)
    → index ≡ seen.known.modules → RulesAccept seen.known known (directory_parts entries) (Ok tt)
    → Goes a b (begin_writes seen ++ directory_writes index entries (begun_reporting seen)) s'
    (let now : EmitState = record seen { known = known } in
    with_reporting (with_directory index entries (begun_reporting seen)) now) result
    → AcceptsParts plan before (call_of a b s s') (directory_parts entries) result
directory_taken {seen} plan before s entries is stands a b s' known index result l h k =
    let expected : ℕ → EmitState = λ i. let x : EmitState = record seen { known = known } in
    with_reporting (with_directory i entries (begun_reporting seen)) x in
    let G : ℕ → Type 0 = λ i.
    Goes a b (begin_writes seen ++ directory_writes i entries (begun_reporting seen)) s' (expected i) result in
    content_taken plan before s (records.Gsd entries) is stands a b s' known result h
    (subst G (l ∙ index_of before seen.known (here plan before s is stands).known) k)

-- the index of a module, and the section that its texts go to
abbrev Entered : Type 0
Entered = ℕ × (ℕ × ℕ)

location_of : (before : List Part) (known : RulesState) → known ≡ known_of before
    → ◌≡◌ {A = Entered} (known.modules, known.section) (modules_in before, current_section (this_module before))
unfolding known_of
location_of before known e = ap (λ k. (k.modules, k.section)) e

-- the result of writing the pending text before a text at this location is a result of accepting the new text
pub text_taken : {seen : EmitState} (plan : PlanTables) (before : List Part) (s : EmitState) (address : ℕ) (text : List ℕ) → seen ≡ s
    → EmitAfter plan before s → (a b : Outputs) (s' : EmitState) (known : RulesState) (location : Entered)
    (result : Result (Unit {0}) LinkFault) → ◌≡◌ {A = Entered} location (s.known.modules, s.known.section)
    → RulesAccept seen.known known (Text address text ∷ []) (Ok tt)
    → Goes a b (begin_writes seen ++ held_writes (begun_reporting seen).held) s'
    (let now : EmitState = record seen { known = known } in
    with_reporting (with_text location.0 location.1 address text (begun_reporting seen)) now) result
    → AcceptsParts plan before (call_of a b s s') (Text address text ∷ []) result
text_taken {seen} plan before s address text is stands a b s' known location result l h k =
    let expected : Entered → EmitState = λ at. let x : EmitState = record seen { known = known } in
    with_reporting (with_text at.0 at.1 address text (begun_reporting seen)) x in
    let G : Entered → Type 0 = λ at.
    Goes a b (begin_writes seen ++ held_writes (begun_reporting seen).held) s' (expected at) result in
    content_taken plan before s (records.Text address text) is stands a b s' known result h
    (subst G (l ∙ location_of before s.known stands.known) k)

-- ---- relocations, call by call

-- counting the messages of the front doesn't change the pending text
begun_after : (b : Bool) (t : ReporterState) (ws : List Write) (relocations : List Relocation)
    → (if b then relocating relocations t else with_count ws (relocating relocations t))
    ≡ relocating relocations (if b then t else with_count ws t)
begun_after true t ws relocations = refl
begun_after false t ws relocations = refl

same_but : (mid old : EmitState) (reporting : ReporterState) → mid.reporting ≡ reporting → mid.has_begun ≡ old.has_begun
    → mid.fault ≡ old.fault → mid ≡ (let x : EmitState = record old { known = mid.known; reporting = reporting } in x)
same_but mid old reporting e f g =
    let with_these : ReporterState → Bool → Option LinkFault → EmitState =
    λ t b o. let x : EmitState = record { known = mid.known; reporting = t; has_begun = b; fault = o } in x in
    ap (λ t. with_these t mid.has_begun mid.fault) e ∙ ap (λ b. with_these reporting b mid.fault) f
    ∙ ap (λ o. with_these reporting old.has_begun o) g

module _ (plan : PlanTables) (before : List Part) (relocations : List Relocation) (old mid : EmitState)
    (stands : EmitAfter plan before old) where
  abbrev parts : List Part
  parts = Relocations ∷ relocated_parts relocations

  relocations_make : Makes plan before parts (λ t. []) (relocating relocations)
  relocations_make = content_makes plan before (records.Relocations relocations)

  pub relocations_refused : (a : Outputs) (s' : EmitState) (broken : ModuleFault) (result : Result (Unit {0}) LinkFault)
      → RulesAccept old.known mid.known parts (Err broken) → IsErrAnd result (λ f. f ≡ of_module broken)
      → AcceptsParts plan before (call_of a a old s') parts result
  relocations_refused a s' broken result h f =
      parts_refused plan before parts (λ t. []) (relocating relocations) relocations_make old stands a s' mid.known
      broken result (accepted_after before old.known mid.known parts (Err broken) stands.known h) f

  pub relocations_taken : (a b : Outputs) (s' : EmitState) (result : Result (Unit {0}) LinkFault)
      → RulesAccept old.known mid.known parts (Ok tt) → mid.reporting ≡ relocating relocations old.reporting
      → mid.has_begun ≡ old.has_begun → mid.fault ≡ old.fault
      → Goes a b (begin_writes mid) s' (with_reporting (begun_reporting mid) mid) result
      → AcceptsParts plan before (call_of a b old s') parts result
  relocations_taken a b s' result h e f g k =
      let t = accepted_after before old.known mid.known parts (Ok tt) stands.known h in
      let P : EmitState → Type 0 = λ x. Goes a b (begin_writes x) s' (with_reporting (begun_reporting x) x) result in
      let Q : ReporterState → Type 0 = λ u. Goes a b (begin_writes old) s'
      (let x : EmitState = record old { known = mid.known } in with_reporting u x) result in
      let R : List Write → Type 0 = λ ws. Goes a b ws s'
      (let x : EmitState = record old { known = mid.known } in
      with_reporting (relocating relocations (begun_reporting old)) x) result in
      parts_taken plan before parts (λ t. []) (relocating relocations) relocations_make old stands a b s' mid.known result
      t.0 t.1 (subst R (sym (append-nil (begin_writes old)))
      (subst Q (begun_after old.has_begun old.reporting (front_writes (planned old.reporting.plan)) relocations)
      (subst P (same_but mid old (relocating relocations old.reporting) e f g) k)))

-- if storing the remaining relocations leads to a state, so does storing the first of them and then the others
pub stored_more : (now later target : ReporterState) (rest following : List Relocation) (item : Relocation)
    → rest ≡ item ∷ following → relocating rest now ≡ target
    → later ≡ with_held (held_with (planned now.plan) now.held item) now → relocating following later ≡ target
stored_more now later target rest following item e i h =
    let P : List Relocation → Type 0 = λ left. relocating left now ≡ target in
    let Q : ReporterState → Type 0 = λ t. relocating following t ≡ target in
    subst Q (sym h) (subst P e i)

-- ---- a block

no_record : (broken : ModuleFault) (inner : RecordFault) → fault.Record inner ≡ of_module broken → ⊥
no_record rule.NoMemory inner e = cc
no_record rule.BadOrder inner e = cc
no_record rule.NoText inner e = cc
no_record rule.BadDisplacement inner e = cc
no_record rule.UnknownSection inner e = cc
no_record rule.TextOutside inner e = cc
no_record rule.TooManyGlobals inner e = cc
no_record rule.TooManySections inner e = cc
no_record rule.TooManyModules inner e = cc

-- a result of accepting the parts of a valid record is a result of accepting its block
of_record : (plan : PlanTables) (before : List Part) (a b : Outputs) (s s' : EmitState) (items : List ℕ)
    (result : Result (Unit {0}) LinkFault) → IsRecord items
    → AcceptsParts plan before (call_of a b s s') (record_parts items) result → AcceptsBlock plan before (call_of a b s s') items result
of_record plan before a b s s' items (Ok done) is h = h
of_record plan before a b s s' items (Err (fault.Write output)) is h = (is, h)
of_record plan before a b s s' items (Err fault.NoMemory) is h = (is, h)
of_record plan before a b s s' items (Err (fault.Record inner)) is h = absurd (no_record h.0.0 inner h.0.2)
of_record plan before a b s s' items (Err stopped) is h = h

-- a result of accepting the parts of a block's content is a result of accepting the block
pub content_block : (plan : PlanTables) (before : List Part) (a b : Outputs) (s s' : EmitState) (items : List ℕ)
    (content : records.Content) (result : Result (Unit {0}) LinkFault) → content_of items ≡ Ok content
    → AcceptsParts plan before (call_of a b s s') (parts_of content) result → AcceptsBlock plan before (call_of a b s s') items result
content_block plan before a b s s' items content result e h =
    let P : Result records.Content RecordFault → Type 0 = λ r. AcceptsParts plan before (call_of a b s s') (parts_in r) result in
    of_record plan before a b s s' items result (ap (λ (r : Result records.Content RecordFault). is_ok r) e)
    (subst P (sym e) h)

-- ---- the transfer block, call by call

pub reporting_after : {seen : EmitState} (old mid : EmitState) → seen ≡ mid → mid ≡ with_reporting (begun_reporting old) old
    → seen.reporting ≡ begun_reporting old
reporting_after old mid is e = ap (λ x. x.reporting) (is ∙ e)

pub transfer_then : {seen : EmitState} {A : Type 0} (old mid : EmitState) (a b c : Outputs) (ws : PlanTables → List Write)
    (result : Result A LinkFault) → seen ≡ mid
    → Gains a b (begin_writes old) × (mid ≡ with_reporting (begun_reporting old) old)
    → Writes b c (ws seen.reporting.plan) result → Writes a c (begin_writes old ++ ws (begun_reporting old).plan) result
transfer_then {seen} old mid a b c ws result is h k =
    let P : ReporterState → Type 0 = λ t. Writes b c (ws t.plan) result in
    writes_then link a b c (begin_writes old) (ws (begun_reporting old).plan) result h.0
    (subst P (reporting_after old mid is h.1) k)
