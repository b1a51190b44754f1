-- In records, sections are entered only in modules that have begun.
use Rattle.std.proofs.Common.{◌≡◌, ◌≢◌, ℕ, ◌+◌, ◌*◌, ◌<◌, ◌≤◌, mul-le-mul, List, [], ◌∷◌, ◌++◌, map, length, append-nil, Option, Some, None, refl, sym, ap, ◌∙◌, subst, arith}
use Rattle.std.proofs.Math.Seq.{append_snoc}
use Rattle.m11_obj.specs.declared.gsd.GsdEntry.{GsdEntry}
use Rattle.m11_obj.specs.declared.gsd.GsdKind.{GsdKind}
use Rattle.m11_obj.specs.declared.gsd.GsdKind.TheVariants.{ModuleName, ControlSection, InternalSymbol, TransferAddress, GlobalSymbol, ProgramSection, Identification}
use Rattle.m11_obj.specs.declared.relocations.Relocation.{Relocation}
use Rattle.m11_obj.specs.Records as records
use Rattle.m11_link_modules.specs.declared.stage.Stage.{Stage}
use Rattle.m11_link_modules.specs.declared.stage.Stage.TheVariants.{Between, InDirectory, InBody}
use Rattle.m11_link_modules.specs.Grammar.{FileEnds, Item, RecordOf, items_parts}
use Rattle.m11_link_modules.specs.Parts.{Part, Directory, Entry, EndOfDirectory, Text, Relocations, Relocated, EndOfModule, EndOfFile, parts_of}
use Rattle.m11_link_modules.specs.Positions.{RulesState, global_of, known_of, modules_in, section_names, sections_in, stage_after, this_module}
use Rattle.m11_link_modules.specs.Rules.{InLimits, fault_of, first_fault, most_modules, most_sections}
use Rattle.m11_link_modules.specs.Steps.{known_after, with_entry, with_optional_global}
use Rattle.m11_link_modules.proofs.KnownAfter.{known_after_part}
use Rattle.m11_link_layout.proofs.Walking.{head_none, rest_none}
use Rattle.m11_link_laws.specs.Tables.{collected_of}
use Rattle.m11_link_layout.specs.Plan.{IsPlanOf, PlanTables}
use Rattle.m11_link_layout.proofs.TablesBounded.{in_all, no_less, tables_of, entered_few}

-- ---- entries come after the beginning of a directory record

-- these parts, of which the first comes at this stage, have no entry between modules
abbrev Filled : Stage → List Part → Type 0
Filled stage [] = Unit {0}
Filled stage (Directory ∷ parts) = Filled InDirectory parts
Filled stage (Entry entry ∷ parts) = (stage ≢ Between) × Filled stage parts
Filled stage (EndOfDirectory ∷ parts) = Filled InBody parts
Filled stage (EndOfModule ∷ parts) = Filled Between parts
Filled stage (part ∷ parts) = Filled stage parts

in_directory : InDirectory ≡ Between → ⊥
in_directory e = cc

in_body : InBody ≡ Between → ⊥
in_body e = cc

entries_filled : (entries : List GsdEntry) (following : List Part) (stage : Stage) → stage ≢ Between → Filled stage following
    → Filled stage (map (λ entry. Entry entry) entries ++ following)
entries_filled [] following stage n f = f
entries_filled (entry ∷ entries) following stage n f = (n, entries_filled entries following stage n f)

relocations_filled : (relocations : List Relocation) (following : List Part) (stage : Stage) → Filled stage following
    → Filled stage (map (λ relocation. Relocated relocation) relocations ++ following)
relocations_filled [] following stage f = f
relocations_filled (relocation ∷ relocations) following stage f = relocations_filled relocations following stage f

record_filled : (content : records.Content) (following : List Part) (stage : Stage)
    → ((later : Stage) → Filled later following) → Filled stage (parts_of content ++ following)
record_filled (records.Gsd entries) following stage f =
    entries_filled entries following InDirectory in_directory (f InDirectory)
record_filled records.EndOfGsd following stage f = f InBody
record_filled (records.Text address bytes) following stage f = f stage
record_filled (records.Relocations relocations) following stage f = relocations_filled relocations following stage (f stage)
record_filled records.InternalSymbols following stage f = f stage
record_filled records.EndOfModule following stage f = f Between

items_filled : (items : List Item) (stage : Stage) → Filled stage (items_parts items)
items_filled [] stage = tt
items_filled (RecordOf content ∷ items) stage =
    record_filled content (items_parts items) stage (λ later. items_filled items later)
items_filled (FileEnds ∷ items) stage = items_filled items stage

-- ---- between modules, no section was entered since the end of the last one

abbrev Entering : RulesState → Type 0
Entering known = known.stage ≡ Between → known.entered ≡ []

entry_stage : (kind : GsdKind) (entry : GsdEntry) (known : RulesState) → (with_entry kind entry known).stage ≡ known.stage
entry_stage ControlSection entry known = refl
entry_stage ProgramSection entry known = refl
entry_stage GlobalSymbol entry known = refl
entry_stage ModuleName entry known = refl
entry_stage InternalSymbol entry known = refl
entry_stage TransferAddress entry known = refl
entry_stage Identification entry known = refl

global_alone : (global : Option (ℕ × ℕ)) (known : RulesState) → ((with_optional_global global known).stage ≡ known.stage)
    × ((with_optional_global global known).entered ≡ known.entered)
global_alone None known = (refl, refl)
global_alone (Some name) known = (refl, refl)

-- if no entry comes between modules, no section is entered between modules after one more part, and the following parts still have
-- no such entry
entering_step : (known : RulesState) (part : Part) (parts : List Part) → Filled known.stage (part ∷ parts) → Entering known
    → Entering (known_after known part) × Filled (known_after known part).stage parts
unfolding known_after
entering_step known Directory parts f h = ((λ e. absurd (in_directory e)), f)
entering_step known (Entry entry) parts f h =
    let same = entry_stage entry.kind entry known in
    let P : Stage → Type 0 = λ stage. Filled stage parts in
    ((λ e. absurd (f.0 (sym same ∙ e))), subst P (sym same) f.1)
entering_step known EndOfDirectory parts f h = ((λ e. absurd (in_body e)), f)
entering_step known (Text address bytes) parts f h = (h, f)
entering_step known Relocations parts f h = (h, f)
entering_step known (Relocated relocation) parts f h =
    let same = global_alone (global_of relocation.target) _ in
    let P : Stage → Type 0 = λ stage. Filled stage parts in
    ((λ e. same.1 ∙ h (sym same.0 ∙ e)), subst P (sym same.0) f)
entering_step known EndOfModule parts f h = ((λ e. refl), f)
entering_step known EndOfFile parts f h = (h, f)

entering_after : (before parts : List Part) → first_fault before parts ≡ None
    → Filled (known_of before).stage parts → Entering (known_of before) → Entering (known_of (before ++ parts))
unfolding first_fault
entering_after before [] n f h =
    let P : List Part → Type 0 = λ all. Entering (known_of all) in subst P (sym (append-nil before)) h
entering_after before (part ∷ parts) n f h =
    let head = head_none (fault_of before part) (first_fault (before ++ part ∷ []) parts) n in
    let rest = rest_none (fault_of before part) (first_fault (before ++ part ∷ []) parts) n in
    let P : List Part → Type 0 = λ all. Entering (known_of all) in
    let Q : RulesState → Type 0 = λ known. Entering known × Filled known.stage parts in
    let step = subst Q (sym (known_after_part before part head)) (entering_step (known_of before) part parts f h) in
    subst P (append_snoc before part parts) (entering_after (before ++ part ∷ []) parts rest step.1 step.0)

entering_none : Entering (known_of [])
unfolding known_of this_module sections_in
entering_none e = refl

records_enter : (items : List Item) → first_fault [] (items_parts items) ≡ None
    → Entering (known_of (items_parts items))
records_enter items n =
    entering_after [] (items_parts items) n (items_filled items (known_of []).stage) entering_none

-- ---- the limits bound the number of section entries of all modules

one_more : (m n : ℕ) → m < n → m + 1 ≤ n
one_more m n h = omega (arith, h)

within_limits : (stage : Stage) (modules names entered total : ℕ) → InLimits stage modules → names ≤ most_sections
    → total ≤ modules * names + entered → entered ≤ names → (stage ≡ Between → entered ≡ 0)
    → total ≤ most_modules * most_sections
within_limits Between modules names entered total l s h k b =
    let product : modules * names ≤ most_modules * most_sections = mul-le-mul l s in
    ended (modules * names) (most_modules * most_sections) product h (b refl)
  where
    ended : (a b : ℕ) → a ≤ b → total ≤ a + entered → entered ≡ 0 → total ≤ b
    ended a b p h e = omega (arith, p, h, e)
within_limits InDirectory modules names entered total l s h k b =
    no_less total ((modules + 1) * names) (most_modules * most_sections) (in_all total modules names entered h k)
    (mul-le-mul (one_more modules most_modules l) s)
within_limits InBody modules names entered total l s h k b =
    no_less total ((modules + 1) * names) (most_modules * most_sections) (in_all total modules names entered h k)
    (mul-le-mul (one_more modules most_modules l) s)

-- whole records and files without a fault have at most the allowed number of modules times the allowed number of sections as
-- entries of sections
records_enter_few : (items : List Item) → first_fault [] (items_parts items) ≡ None
    → length (sections_in (items_parts items)) ≤ most_modules * most_sections
unfolding known_of
records_enter_few items n =
    let parts = items_parts items in
    let t = tables_of 0 parts n in
    within_limits (stage_after parts) (modules_in parts) (length (section_names parts))
    (length (sections_in (this_module parts))) (length (sections_in parts)) t.known.modules t.known.sections t.entered
    (entered_few parts t.known) (λ e. ap length (records_enter items n e))

pub records_contribute : (bottom : ℕ) (items : List Item) → first_fault [] (items_parts items) ≡ None
    → length (collected_of bottom (items_parts items)).contributions ≤ most_modules * most_sections
records_contribute bottom items n =
    let parts = items_parts items in
    no_less (length (collected_of bottom parts).contributions) (length (sections_in parts))
    (most_modules * most_sections) (tables_of bottom parts n).contributions (records_enter_few items n)

pub whole_plan_contributes : (bottom : ℕ) (items : List Item) (plan : PlanTables) → first_fault [] (items_parts items) ≡ None
    → IsPlanOf bottom (items_parts items) plan
    → length plan.gathered.contributions ≤ most_modules * most_sections
whole_plan_contributes bottom items plan n p =
    no_less (length plan.gathered.contributions) (length (sections_in (items_parts items)))
    (most_modules * most_sections) p.grow.contributions (records_enter_few items n)
