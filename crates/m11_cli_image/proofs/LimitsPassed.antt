-- If a limit of names is the first fault of parts, the parts have more names than it allows.
use Rattle.std.proofs.Common.{◌≡◌, ◌∙◌, ℕ, ◌<◌, ◌≤◌, ◌&&◌, Bool, true, false, not, if◌then◌else◌, List, [], ◌∷◌, ◌++◌, length, Option, Some, None, refl, sym, ap, subst, arith}
use Rattle.std.specs.Prelude.{⊤, nat_le}
use Rattle.std.specs.List.{cons_option, filter_map}
use Rattle.std.specs.Map.{keys_of}
use Rattle.std.specs.Option.{option_or}
use Rattle.std.proofs.Math.Seq.{append_snoc}
use Rattle.std.proofs.lemmas.Bool.Decides.{nat_tests}
use Rattle.std.proofs.lemmas.List.{length-append, map-append}
use Rattle.std.proofs.lemmas.List.Elements.{filter_map-append}
use Rattle.indexmap.specs.IndexSet.{insert_key}
use Rattle.m11_base.specs.Rad50.{Name, is_same_name}
use Rattle.m11_link_modules.specs.Names.{is_among}
use Rattle.m11_link_modules.specs.Parts.{Part, Directory, Entry, EndOfDirectory, Text, Relocations, Relocated, EndOfModule, EndOfFile}
use Rattle.m11_link_modules.specs.Positions.{RulesState, distinct, distinct_after, global_by, global_in, global_names, global_of, known_of, section_by, section_in, section_names, sections_in}
use Rattle.m11_link_modules.specs.Rules.{begin_fault, entry_fault, fault_in_order, fault_known, fault_of, first_fault, first_there, global_fault, is_past, location_fault, may_occur, most_globals, most_sections, relocation_by, target_fault}
use Rattle.m11_link_modules.specs.declared.fault.ModuleFault.{ModuleFault}
use Rattle.m11_link_modules.specs.declared.fault.ModuleFault.TheVariants.{BadOrder, BadDisplacement, UnknownSection, TextOutside, TooManyGlobals, TooManySections, TooManyModules}
use Rattle.m11_link_modules.specs.declared.stage.Stage.{Stage}
use Rattle.m11_link_modules.specs.declared.stage.Stage.TheVariants.{Between, InDirectory, InBody}
use Rattle.m11_obj.specs.declared.gsd.GsdEntry.{GsdEntry}
use Rattle.m11_obj.specs.declared.gsd.GsdKind.{GsdKind}
use Rattle.m11_obj.specs.declared.gsd.GsdKind.TheVariants.{ModuleName, ControlSection, InternalSymbol, TransferAddress, GlobalSymbol, ProgramSection, Identification}
use Rattle.m11_obj.specs.declared.relocations.Relocation.{Relocation}
use Rattle.m11_obj.specs.declared.relocations.Target.{Target}
use Rattle.m11_obj.specs.declared.relocations.Target.TheVariants as target

-- ---- names that are counted once

new_longer : (b : Bool) (names : List Name) (name : Name) → length names ≤ length (if b then names else names ++ name ∷ [])
new_longer true names name = omega arith
new_longer false names name = let size = length-append names (name ∷ []) in omega (arith, size)

longer : (seen names : List Name) → length seen ≤ length (distinct_after seen names)
longer seen [] = omega arith
longer seen (name ∷ names) =
    let one = new_longer (is_among seen name) seen name in
    let rest = longer (insert_key is_same_name seen name) names in
    omega (arith, one, rest)

distinct_more : (seen names more : List Name) → distinct_after seen (names ++ more) ≡ distinct_after (distinct_after seen names) more
distinct_more seen [] more = refl
distinct_more seen (name ∷ names) more = distinct_more (insert_key is_same_name seen name) names more

abbrev IsNew : ℕ → List Name → Name → Type 0
IsNew most seen name = is_past most seen name ≡ true

added_past : (b c : Bool) (most : ℕ) (seen : List Name) (name : Name) → c ≡ nat_le most (length seen) → (not b && c) ≡ true
    → most < length (if b then seen else seen ++ name ∷ [])
added_past true c most seen name e h = absurd cc
added_past false true most seen name e h =
    let size = length-append seen (name ∷ []) in
    let le : most ≤ length seen = le_of (length seen) e in
    omega (arith, size, le)
  where
    le_of : (n : ℕ) → true ≡ nat_le most n → most ≤ n
    le_of n e = grind (arith, nat_tests)
added_past false false most seen name e h = absurd cc

-- if there is no room for a name, it and the names before and after it are more than the limit allows
past_by : (most : ℕ) (names more : List Name) (name : Name) → IsNew most (distinct names) name → most < length (distinct (names ++ name ∷ more))
unfolding distinct
past_by most names more name new =
    let seen = distinct_after [] names in
    let here = added_past (is_among seen name) (nat_le most (length seen)) most seen name refl new in
    let rest = longer (insert_key is_same_name seen name) more in
    let P : List Name → Type 0 = λ these. most < length these in
    subst P (sym (distinct_more [] names (name ∷ more))) (omega (arith, here, rest))

-- ---- the fault of one part

-- if the fault is a limit of names, a name of the part exceeds this limit
abbrev Says : List Name → List Name → Option Name → Option Name → Option ModuleFault → Type 0
Says sections globals section global (Some TooManySections) = (name : Name) × (section ≡ Some name) × IsNew most_sections sections name
Says sections globals section global (Some TooManyGlobals) = (name : Name) × (global ≡ Some name) × IsNew most_globals globals name
Says sections globals section global other = ⊤

abbrev section_named : Option (Name × ℕ) → Option Name
section_named (Some section) = Some section.0
section_named None = None

module _ (sections globals : List Name) where
  abbrev Told : Option Name → Option Name → Option ModuleFault → Type 0
  Told section global fault = Says sections globals section global fault

  -- what is true of a fault is true of a rule that reports this fault or none
  plain : (section global : Option Name) (b : Bool) (fault : ModuleFault) → Told section global (Some fault)
      → Told section global (first_there ((b, fault) ∷ []))
  plain section global true fault h = h
  plain section global false fault h = tt

  sections_told : (name : Name) (global : Option Name) (b : Bool) → is_past most_sections sections name ≡ b
      → Told (Some name) global (first_there ((b, TooManySections) ∷ []))
  sections_told name global true e = (name, refl, e)
  sections_told name global false e = tt

  globals_told : (section : Option Name) (name : Name) (b : Bool) → is_past most_globals globals name ≡ b
      → Told section (Some name) (first_there ((b, TooManyGlobals) ∷ []))
  globals_told section name true e = (name, refl, e)
  globals_told section name false e = tt

  entering_told : (name : Name) (global : Option Name) (b : Bool)
      → Told (Some name) global (first_there ((b, BadOrder) ∷ (is_past most_sections sections name, TooManySections) ∷ []))
  entering_told name global true = tt
  entering_told name global false = sections_told name global (is_past most_sections sections name) refl

  or_told : (section global : Option Name) (first rest : Option ModuleFault) → Told section global first → Told section global rest
      → Told section global (option_or first rest)
  or_told section global None rest h k = k
  or_told section global (Some fault) rest h k = h

  begin_told : (section global : Option Name) (stage : Stage) (modules : ℕ) → Told section global (begin_fault stage modules)
  begin_told section global Between modules = plain section global _ TooManyModules tt
  begin_told section global InDirectory modules = tt
  begin_told section global InBody modules = tt

  entry_told : (kind : GsdKind) (entry : GsdEntry) (entered : List (Name × ℕ))
      → Told (section_named (section_by kind entry)) (global_by kind entry) (entry_fault kind entry entered sections globals)
  entry_told ModuleName entry entered = tt
  entry_told ControlSection entry entered = entering_told entry.name None _
  entry_told InternalSymbol entry entered = tt
  entry_told TransferAddress entry entered = plain None None _ UnknownSection tt
  entry_told GlobalSymbol entry entered =
      or_told None (Some entry.name) (first_there ((_, BadOrder) ∷ [])) (global_fault globals entry.name)
      (plain None (Some entry.name) _ BadOrder tt) (globals_told None entry.name (is_past most_globals globals entry.name) refl)
  entry_told ProgramSection entry entered = entering_told entry.name None _
  entry_told Identification entry entered = tt

  location_told : (global : Option Name) (relocation : Relocation) (text : Option ℕ) → Told None global (location_fault relocation text)
  location_told global relocation (Some count) = plain None global _ BadDisplacement tt
  location_told global relocation None = tt

  target_told : (to : Target) (entered : List (Name × ℕ)) → Told None (global_of to) (target_fault to entered globals)
  target_told (target.Section name) entered = plain None None _ UnknownSection tt
  target_told (target.SectionDisplaced name) entered = plain None None _ UnknownSection tt
  target_told (target.SectionAdditive name constant) entered = plain None None _ UnknownSection tt
  target_told (target.SectionAdditiveDisplaced name constant) entered = plain None None _ UnknownSection tt
  target_told (target.Global name) entered = globals_told None name (is_past most_globals globals name) refl
  target_told (target.GlobalDisplaced name) entered = globals_told None name (is_past most_globals globals name) refl
  target_told (target.GlobalAdditive name constant) entered = globals_told None name (is_past most_globals globals name) refl
  target_told (target.GlobalAdditiveDisplaced name constant) entered = globals_told None name (is_past most_globals globals name) refl
  target_told (target.Internal constant) entered = tt
  target_told (target.InternalDisplaced constant) entered = tt
  target_told target.ProgramLimits entered = tt
  target_told (target.LocationCounterDefinition name constant) entered = tt
  target_told (target.LocationCounterModification constant) entered = tt

  relocation_told : (to : Target) (relocation : Relocation) (entered : List (Name × ℕ)) (text : Option ℕ)
      → Told None (global_of to) (relocation_by to relocation entered text globals)
  relocation_told (target.LocationCounterDefinition name constant) relocation entered text = plain None None _ UnknownSection tt
  relocation_told (target.LocationCounterModification constant) relocation entered text = tt
  relocation_told other relocation entered text =
      or_told None (global_of other) (location_fault relocation text) (target_fault other entered globals)
      (location_told (global_of other) relocation text) (target_told other entered)

abbrev PartTold : RulesState → Part → Option ModuleFault → Type 0
PartTold known part fault = Says known.sections known.globals (section_named (section_in part)) (global_in part) fault

order_told : (known : RulesState) (part : Part) → PartTold known part (fault_in_order known part)
order_told known Directory = begin_told known.sections known.globals None None known.stage known.modules
order_told known EndOfDirectory = begin_told known.sections known.globals None None known.stage known.modules
order_told known (Entry entry) = entry_told known.sections known.globals entry.kind entry known.entered
order_told known (Text address bytes) = plain known.sections known.globals None None _ TextOutside tt
order_told known (Relocated relocation) = relocation_told known.sections known.globals relocation.target relocation known.entered known.text
order_told known Relocations = tt
order_told known EndOfModule = tt
order_told known EndOfFile = tt

may_told : (known : RulesState) (part : Part) (b : Bool) (fault : Option ModuleFault) → PartTold known part fault
    → PartTold known part (if b then fault else Some BadOrder)
may_told known part true fault h = h
may_told known part false fault h = tt

part_told : (before : List Part) (part : Part) → Says (section_names before) (global_names before) (section_named (section_in part))
    (global_in part) (fault_of before part)
unfolding fault_known known_of
part_told before part =
    may_told (known_of before) part (may_occur part (known_of before).stage) (fault_in_order (known_of before) part) (order_told (known_of before) part)

-- ---- the first fault

-- if the fault is a limit of names, the parts have more names than this limit allows
abbrev pub Passes : List Part → ModuleFault → Type 0
Passes parts TooManySections = most_sections < length (section_names parts)
Passes parts TooManyGlobals = most_globals < length (global_names parts)
Passes parts other = ⊤

found_first : {X : Type 0} (found : Option X) (x : X) (more : List X) → found ≡ Some x → cons_option found more ≡ x ∷ more
found_first None x more e = absurd cc
found_first (Some y) x more e = ap (λ found. cons_option found more) e

globals_past : (before : List Part) (part : Part) (parts : List Part) (name : Name) → global_in part ≡ Some name
    → IsNew most_globals (global_names before) name → most_globals < length (global_names (before ++ part ∷ parts))
unfolding global_names
globals_past before part parts name e new =
    let P : List Name → Type 0 = λ names. most_globals < length (distinct names) in
    subst P (sym (filter_map-append global_in before (part ∷ parts)
    ∙ ap (λ (these : List Name). filter_map global_in before ++ these) (found_first (global_in part) name (filter_map global_in parts) e)))
    (past_by most_globals (filter_map global_in before) (filter_map global_in parts) name new)

keys_first : (found : Option (Name × ℕ)) (name : Name) (more : List (Name × ℕ)) → section_named found ≡ Some name
    → keys_of (cons_option found more) ≡ name ∷ keys_of more
keys_first None name more e = absurd cc
keys_first (Some section) name more e = found_first (Some section.0) name (keys_of more) e

sections_past : (before : List Part) (part : Part) (parts : List Part) (name : Name) → section_named (section_in part) ≡ Some name
    → IsNew most_sections (section_names before) name → most_sections < length (section_names (before ++ part ∷ parts))
unfolding section_names sections_in
sections_past before part parts name e new =
    let some : List (Name × ℕ) = filter_map section_in before in
    let more : List (Name × ℕ) = filter_map section_in parts in
    let P : List Name → Type 0 = λ names. most_sections < length (distinct names) in
    subst P (sym (ap keys_of (filter_map-append section_in before (part ∷ parts))
    ∙ map-append (λ e. e.0) some (cons_option (section_in part) more)
    ∙ ap (λ (these : List Name). keys_of some ++ these) (keys_first (section_in part) name more e)))
    (past_by most_sections (keys_of some) (keys_of more) name new)

part_passes : (before : List Part) (part : Part) (parts : List Part) (fault : ModuleFault)
    → Says (section_names before) (global_names before) (section_named (section_in part)) (global_in part) (Some fault)
    → Passes (before ++ part ∷ parts) fault
part_passes before part parts TooManySections told = sections_past before part parts told.0 told.1 told.2
part_passes before part parts TooManyGlobals told = globals_past before part parts told.0 told.1 told.2
part_passes before part parts fault told = tt

some_same : (one other : ModuleFault) → Some one ≡ Some other → one ≡ other
some_same one other e = cc

pub first_passes : (before parts : List Part) (fault : ModuleFault) → first_fault before parts ≡ Some fault → Passes (before ++ parts) fault
unfolding first_fault
first_passes before [] fault e = absurd cc
first_passes before (part ∷ parts) fault e =
    by (fault_of before part) (part_told before part) e (λ h. first_passes (before ++ part ∷ []) parts fault h)
  where
    by : (found : Option ModuleFault)
        → Says (section_names before) (global_names before) (section_named (section_in part)) (global_in part) found
        → option_or found (first_fault (before ++ part ∷ []) parts) ≡ Some fault
        → (first_fault (before ++ part ∷ []) parts ≡ Some fault → Passes ((before ++ part ∷ []) ++ parts) fault)
        → Passes (before ++ part ∷ parts) fault
    by (Some found) told e later =
        let P : ModuleFault → Type 0 = λ these. Passes (before ++ part ∷ parts) these in
        subst P (some_same found fault e) (part_passes before part parts found told)
    by None told e later =
        let P : List Part → Type 0 = λ these. Passes these fault in
        subst P (append_snoc before part parts) (later e)
