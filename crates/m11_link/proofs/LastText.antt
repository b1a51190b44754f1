-- A pending text is the last text of its module, and keeps its length while relocations are stored in it.
use Rattle.std.proofs.Common.{◌≡◌, ◌∙◌, ℕ, ◌+◌, ◌-◌, List, [], ◌∷◌, ◌++◌, length, Option, Some, None, Result, Ok, Err, IfOk, refl, sym, ap, subst}
use Rattle.m11_obj.specs.declared.fault.RecordFault.{RecordFault}
use Rattle.m11_obj.specs.declared.relocations.Relocation.{Relocation}
use Rattle.m11_obj.specs.declared.relocations.Target.{Target}
use Rattle.m11_obj.specs.declared.relocations.Target.TheVariants as target
use Rattle.m11_link_modules.specs.declared.fault.ModuleFault.{ModuleFault}
use Rattle.m11_link_modules.specs.Parts.{Part, Directory, Entry, EndOfDirectory, Text, Relocations, Relocated, EndOfModule, EndOfFile}
use Rattle.m11_link_modules.specs.Positions.{RulesState, global_of, known_of}
use Rattle.m11_link_modules.specs.Rules.{fault_of, lies_within}
use Rattle.m11_link_modules.specs.Steps.{AcceptsOne, known_after, with_optional_global}
use Rattle.m11_link_modules.specs.TextRelocation.{InText, in_text, stored_by, stored_in}
use Rattle.m11_link_modules.proofs.KnownAfter.{known_after_part}
use Rattle.m11_link_layout.specs.Plan.{PlanTables}
use Rattle.m11_link_layout.specs.Tables.{LayoutTables, nothing_collected}
use Rattle.m11_link_layout.proofs.Walking.{walked}
use Rattle.m11_link_text.specs.Findings.{Findings, planned}
use Rattle.m11_link_text.specs.Relocation.{modulo}
use Rattle.m11_link_text.proofs.Stored.{none_relocated, nothing_stored, size_kept}
use Rattle.m11_link.specs.Emit.{EmitAfter, EmitState, HoldsLastText, IsAsLong, ReporterState, held_at, held_text, held_with, with_held}
use Rattle.m11_link.specs.Written.{PlacedText}
use Rattle.m11_link.proofs.Emitted.{relocating}
use Rattle.m11_link.proofs.WritesAfter.{held_more}

-- ---- after parts

as_long_with : (found : Findings) (count : Option ℕ) (held : Option PlacedText) (relocation : Relocation)
    → IsAsLong count held → IsAsLong count (held_with found held relocation)
as_long_with found count None relocation h = tt
as_long_with found count (Some text) relocation h =
    h ∙ ap (λ n. Some n) (sym (size_kept found text.module_index text.base text.address relocation text.bytes
    (lies_within relocation (length text.bytes)) refl))

global_leaves : (global : Option (ℕ × ℕ)) (known : RulesState) → (with_optional_global global known).text ≡ known.text
global_leaves None known = refl
global_leaves (Some name) known = refl

relocated_leaves : (known : RulesState) (relocation : Relocation) → (known_after known (Relocated relocation)).text ≡ known.text
unfolding known_after
relocated_leaves known relocation = global_leaves (global_of relocation.target) _

as_long_step : (found : Findings) (before : List Part) (part : Part)
    → IsAsLong (known_of before).text (held_text found before)
    → IsAsLong (known_after (known_of before) part).text (held_at found before (held_text found before) part)
unfolding known_after
as_long_step found before Directory h = tt
as_long_step found before (Entry entry) h = tt
as_long_step found before EndOfDirectory h = tt
as_long_step found before (Text address bytes) h = refl
as_long_step found before Relocations h = h
as_long_step found before (Relocated relocation) h =
    let P : Option ℕ → Type 0 = λ count. IsAsLong count (held_with found (held_text found before) relocation) in
    subst P (sym (global_leaves (global_of relocation.target) _))
    (as_long_with found (known_of before).text (held_text found before) relocation h)
as_long_step found before EndOfModule h = tt
as_long_step found before EndOfFile h = tt

abbrev AsLongAfter : Findings → List Part → Type 0
AsLongAfter found before = IsAsLong (known_of before).text (held_text found before)

as_long_on : (found : Findings) (before : List Part) (g : LayoutTables) (part : Part)
    → fault_of before part ≡ None → AsLongAfter found before → AsLongAfter found (before ++ part ∷ [])
as_long_on found before g part n h =
    let P : RulesState → Type 0 = λ known. IsAsLong known.text (held_text found (before ++ part ∷ [])) in
    let Q : Option PlacedText → Type 0 = λ held. IsAsLong (known_after (known_of before) part).text held in
    subst P (sym (known_after_part before part n))
    (subst Q (sym (held_more found before (part ∷ []))) (as_long_step found before part h))

as_long_first : (found : Findings) → AsLongAfter found []
unfolding held_text
as_long_first found = tt

-- after any parts, a pending text is as long as the last text that the rules know
pub held_is_last : (plan : PlanTables) (before : List Part) (state : EmitState) → EmitAfter plan before state
    → HoldsLastText state
held_is_last plan before state stands =
    let found = planned plan in
    let P : RulesState → Type 0 = λ known. IsAsLong known.text state.reporting.held in
    let Q : Option PlacedText → Type 0 = λ held. IsAsLong (known_of before).text held in
    subst P (sym stands.known) (subst Q (sym stands.held)
    (walked 0 (λ these g. AsLongAfter found these) (as_long_on found) [] before nothing_collected stands.sound
    (as_long_first found)))

-- ---- a relocation that was checked against the last text

same_stored : (one other : InText) → ◌≡◌ {A = Option InText} (Some one) (Some other) → one ≡ other
same_stored one other e = cc

stored_of : (t : Target) (relocation : Relocation) (text : Option ℕ) (stored : InText)
    → Some stored ≡ stored_by t relocation text → (text ≡ Some stored.text_length) × (stored.relocation ≡ relocation)
stored_of (target.LocationCounterDefinition name constant) relocation text stored e = absurd cc
stored_of (target.LocationCounterModification constant) relocation text stored e = absurd cc
stored_of other relocation None stored e = absurd cc
stored_of other relocation (Some count) stored e =
    let is = same_stored stored (in_text relocation count) e in
    (ap (λ (s : InText). Some s.text_length) (sym is), ap (λ (s : InText). s.relocation) is)

pub stored_as : (found : Findings) (now later : ReporterState) (relocation : Relocation) (text : Option ℕ) (stored : InText)
    → Some stored ≡ stored_in relocation text
    → (IsAsLong (Some stored.text_length) now.held → later ≡ with_held (held_with found now.held stored.relocation) now)
    → IsAsLong text now.held → later ≡ with_held (held_with found now.held relocation) now
stored_as found now later relocation text stored e h holds =
    let is = stored_of relocation.target relocation text stored e in
    let P : Option ℕ → Type 0 = λ count. IsAsLong count now.held in
    h (subst P is.0 holds) ∙ ap (λ r. with_held (held_with found now.held r) now) is.1

same_held : (found : Findings) (held : Option PlacedText) (relocation : Relocation) (text : Option ℕ)
    → None ≡ stored_in relocation text → IsAsLong text held → held_with found held relocation ≡ held
same_held found None relocation text e holds = refl
same_held found (Some placed) relocation text e holds =
    let P : Option ℕ → Type 0 = λ count. None ≡ stored_in relocation count in
    ap (λ bytes. let t : PlacedText = record placed { bytes = bytes } in Some t)
    (none_relocated found placed.module_index placed.base placed.address relocation placed.bytes
    (nothing_stored found placed.module_index placed.base
    (modulo (placed.address + (relocation.displacement - 4))) (length placed.bytes) relocation.is_byte relocation
    relocation.target (sym (subst P holds e))))

pub nothing_changed : (found : Findings) (now : ReporterState) (relocation : Relocation) (text : Option ℕ)
    → None ≡ stored_in relocation text → IsAsLong text now.held
    → now ≡ with_held (held_with found now.held relocation) now
nothing_changed found now relocation text e holds =
    ap (λ held. with_held held now) (sym (same_held found now.held relocation text e holds))

-- the beginning of a relocation record doesn't change the length of the last text, by which its relocations are stored
pub stored_after : {seen : EmitState} (state : EmitState) (begun : RulesState) (done : Unit {0}) (later : ReporterState)
    (relocations : List Relocation) (result : Result (Result (Unit {0}) ModuleFault) RecordFault) → seen ≡ state
    → AcceptsOne seen.known begun Relocations (Ok done)
    → IfOk result (λ judged. IfOk judged (λ _. IsAsLong begun.text seen.reporting.held → later ≡ relocating relocations seen.reporting))
    → IfOk result (λ judged. IfOk judged (λ _. HoldsLastText state → later ≡ relocating relocations state.reporting))
unfolding AcceptsOne known_after
stored_after {seen} state begun done later relocations (Ok (Ok stored)) is h go = λ holds.
    let P : RulesState → Type 0 = λ known. IsAsLong known.text seen.reporting.held in
    let Q : EmitState → Type 0 = λ x. later ≡ relocating relocations x.reporting in
    subst Q is (go (subst P (sym h.1) (subst HoldsLastText (sym is) holds)))
stored_after state begun done later relocations (Ok (Err fault)) is h go = tt
stored_after state begun done later relocations (Err fault) is h go = tt

-- after a relocation is stored, a pending text is still as long as the last text
pub holds_after : (old new : EmitState) (relocation : Relocation) (done : Unit {0})
    → AcceptsOne old.known new.known (Relocated relocation) (Ok done)
    → new.reporting ≡ with_held (held_with (planned old.reporting.plan) old.reporting.held relocation) old.reporting
    → HoldsLastText old → HoldsLastText new
unfolding AcceptsOne
holds_after old new relocation done h e holds =
    let found = planned old.reporting.plan in
    let P : Option ℕ → Type 0 = λ count. IsAsLong count new.reporting.held in
    let Q : ReporterState → Type 0 = λ t. IsAsLong old.known.text t.held in
    subst P (sym (ap (λ (known : RulesState). known.text) h.1 ∙ relocated_leaves old.known relocation))
    (subst Q (sym e) (as_long_with found old.known.text old.reporting.held relocation holds))
