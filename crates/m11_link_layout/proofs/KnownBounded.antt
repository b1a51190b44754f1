-- What is known about parts without a fault stays within the limits.
use Rattle.std.proofs.Common.{◌≡◌, ℕ, ◌+◌, ◌<◌, ◌≤◌, nat_le, Bool, true, false, ◌||◌, ◌&&◌, not, if◌then◌else◌, List, [], ◌∷◌, ◌++◌, length, is_some, Some, None, refl, sym, ap, ◌∙◌, subst, arith, true≢false}
use Rattle.std.specs.Map.{keys_of, lookup}
use Rattle.std.proofs.lemmas.Bool.Decides.{nat_tests}
use Rattle.std.proofs.lemmas.List.{length_push}
use Rattle.indexmap.specs.IndexSet.{insert_key}
use Rattle.indexmap.proofs.SetLemmas.{keys_insert_entry}
use Rattle.m11_base.specs.Rad50.{is_same_name}
use Rattle.m11_base.proofs.SameNames.{same_name_itself, same_name_equal}
use Rattle.m11_obj.specs.declared.gsd.GsdEntry.{GsdEntry}
use Rattle.m11_obj.specs.declared.gsd.GsdKind.{GsdKind}
use Rattle.m11_obj.specs.declared.gsd.GsdKind.TheVariants.{ModuleName, ControlSection, InternalSymbol, TransferAddress, GlobalSymbol, ProgramSection, Identification}
use Rattle.m11_obj.specs.declared.relocations.Relocation.{Relocation}
use Rattle.m11_obj.specs.declared.relocations.Target.{Target}
use Rattle.m11_obj.specs.declared.relocations.Target.TheVariants as target
use Rattle.m11_link_modules.specs.declared.fault.ModuleFault.{ModuleFault}
use Rattle.m11_link_modules.specs.declared.fault.ModuleFault.TheVariants.{BadOrder, TooManyGlobals, TooManyModules, TooManySections}
use Rattle.m11_link_modules.specs.declared.stage.Stage.{Stage}
use Rattle.m11_link_modules.specs.declared.stage.Stage.TheVariants.{Between, InDirectory, InBody}
use Rattle.m11_link_modules.specs.Names.{is_among}
use Rattle.m11_link_modules.specs.Parts.{Part, Directory, Entry, EndOfDirectory, Text, Relocations, Relocated, EndOfModule, EndOfFile}
use Rattle.m11_link_modules.specs.Positions.{RulesState}
use Rattle.m11_link_modules.specs.Rules.{InLimits, begin_fault, entering_fault, entry_fault, fault_known, first_there, global_fault, is_past, location_fault, may_occur, most_globals, most_modules, most_sections, relocation_by}
use Rattle.m11_link_modules.specs.Steps.{known_after, with_entry, with_global, with_section, with_target}
use Rattle.m11_link_layout.proofs.Finding.{Apart, apart_inserted}
use Rattle.m11_link_layout.proofs.Walking.{rest_none}
use Rattle.m11_link_layout.proofs.ReferenceSteps.{among_inserted}
use Rattle.m11_link_layout.proofs.FewerNames.{Within}

-- modules, sections and globals are within their limits, and the sections that the module entered are distinct and among all sections
pub record BoundsOf (stage : Stage) (count : ℕ) (names symbols : List (ℕ × ℕ)) (entered : List ((ℕ × ℕ) × ℕ))
    : Type 0 where
  pub modules : InLimits stage count
  pub sections : length names ≤ most_sections
  pub globals : length symbols ≤ most_globals
  pub apart : Apart is_same_name (keys_of entered)
  pub within : Within (keys_of entered) names

abbrev pub Bounded : RulesState → Type 0
Bounded known = BoundsOf known.stage known.modules known.sections known.globals known.entered

-- ---- faults that parts don't have

first_none : (b : Bool) (fault : ModuleFault) (faults : List (Bool × ModuleFault))
    → first_there ((b, fault) ∷ faults) ≡ None → (b ≡ false) × (first_there faults ≡ None)
first_none true fault faults e = search
first_none false fault faults e = (refl, e)

room_for : (most : ℕ) (names : List (ℕ × ℕ)) (name : ℕ × ℕ) → is_past most names name ≡ false → length names ≤ most
    → length (insert_key is_same_name names name) ≤ most
room_for most names name e h = by (is_among names name) e
  where
    below : nat_le most (length names) ≡ false → length names + 1 ≤ most
    below f = grind (arith, nat_tests)

    by : (b : Bool) → (not b && nat_le most (length names)) ≡ false
        → length (if b then names else names ++ name ∷ []) ≤ most
    by true f = h
    by false f =
        let P : ℕ → Type 0 = λ n. n ≤ most in subst P (sym (length_push names name)) (below f)

-- ---- one more name

or_within : (a b c : Bool) → (a ≡ true → b ≡ true) → (a || c) ≡ true → (b || c) ≡ true
or_within true b c h e = ap (λ x. x || c) (h refl)
or_within false true c h e = refl
or_within false false c h e = e

inserted_within : (names others : List (ℕ × ℕ)) (name : ℕ × ℕ) → Within names others
    → Within (insert_key is_same_name names name) (insert_key is_same_name others name)
inserted_within names others name w other a =
    among_inserted others name other
    ∙ or_within (is_among names other) (is_among others other) (is_same_name other name || false) (w other)
    (sym (among_inserted names name other) ∙ a)

section_bounded : (entry : GsdEntry) (known : RulesState) → entering_fault known.entered known.sections entry.name ≡ None
    → Bounded known → Bounded (with_section entry known)
section_bounded entry known e b =
    let once = first_none (is_some (lookup (is_same_name entry.name) known.entered)) BadOrder
    ((is_past most_sections known.sections entry.name, TooManySections) ∷ []) e in
    let room = first_none (is_past most_sections known.sections entry.name) TooManySections [] once.1 in
    let keys = keys_insert_entry is_same_name known.entered entry.name entry.value in
    let P : List (ℕ × ℕ) → Type 0 = λ names. Apart is_same_name names in
    let Q : List (ℕ × ℕ) → Type 0 = λ names. Within names (insert_key is_same_name known.sections entry.name) in
    record {
      modules = b.modules;
      sections = room_for most_sections known.sections entry.name room.0 b.sections;
      globals = b.globals;
      apart = subst P (sym keys)
          (apart_inserted is_same_name same_name_equal same_name_itself (keys_of known.entered) entry.name b.apart);
      within = subst Q (sym keys) (inserted_within (keys_of known.entered) known.sections entry.name b.within);
    }

global_bounded : (name : ℕ × ℕ) (known : RulesState) → global_fault known.globals name ≡ None → Bounded known
    → Bounded (with_global name known)
global_bounded name known e b =
    let room = first_none (is_past most_globals known.globals name) TooManyGlobals [] e in
    record {
      modules = b.modules;
      sections = b.sections;
      globals = room_for most_globals known.globals name room.0 b.globals;
      apart = b.apart;
      within = b.within;
    }

-- ---- one more part

entry_bounded : (kind : GsdKind) (entry : GsdEntry) (known : RulesState)
    → entry_fault kind entry known.entered known.sections known.globals ≡ None → Bounded known
    → Bounded (with_entry kind entry known)
entry_bounded ControlSection entry known e b = section_bounded entry known e b
entry_bounded ProgramSection entry known e b = section_bounded entry known e b
entry_bounded GlobalSymbol entry known e b = global_bounded entry.name known (rest_none _ _ e) b
entry_bounded ModuleName entry known e b = b
entry_bounded InternalSymbol entry known e b = b
entry_bounded TransferAddress entry known e b = b
entry_bounded Identification entry known e b = b

target_bounded : (t : Target) (relocation : Relocation) (known : RulesState)
    → relocation_by t relocation known.entered known.text known.globals ≡ None → Bounded known
    → Bounded (with_target t known)
target_bounded (target.Global name) relocation known e b =
    global_bounded name known (rest_none (location_fault relocation known.text) (global_fault known.globals name) e) b
target_bounded (target.GlobalDisplaced name) relocation known e b =
    global_bounded name known (rest_none (location_fault relocation known.text) (global_fault known.globals name) e) b
target_bounded (target.GlobalAdditive name constant) relocation known e b =
    global_bounded name known (rest_none (location_fault relocation known.text) (global_fault known.globals name) e) b
target_bounded (target.GlobalAdditiveDisplaced name constant) relocation known e b =
    global_bounded name known (rest_none (location_fault relocation known.text) (global_fault known.globals name) e) b
target_bounded (target.Internal constant) relocation known e b = b
target_bounded (target.InternalDisplaced constant) relocation known e b = b
target_bounded (target.LocationCounterDefinition name constant) relocation known e b = b
target_bounded (target.LocationCounterModification constant) relocation known e b = b
target_bounded target.ProgramLimits relocation known e b = b
target_bounded (target.Section name) relocation known e b = b
target_bounded (target.SectionDisplaced name) relocation known e b = b
target_bounded (target.SectionAdditive name constant) relocation known e b = b
target_bounded (target.SectionAdditiveDisplaced name constant) relocation known e b = b

-- if a module may begin without a fault, fewer modules have ended than a link accepts
one_more : (modules : ℕ) → begin_fault Between modules ≡ None → modules < most_modules
one_more modules e =
    let past = first_none (nat_le most_modules modules) TooManyModules [] e in below past.0
  where
    below : nat_le most_modules modules ≡ false → modules < most_modules
    below f = grind (arith, nat_tests)

directory_begins : (stage : Stage) (modules : ℕ)
    → (if may_occur Directory stage then begin_fault stage modules else Some BadOrder) ≡ None → InLimits stage modules
    → modules < most_modules
directory_begins Between modules e l = one_more modules e
directory_begins InDirectory modules e l = l
directory_begins InBody modules e l = l

directory_ends : (stage : Stage) (modules : ℕ)
    → (if may_occur EndOfDirectory stage then begin_fault stage modules else Some BadOrder) ≡ None
    → InLimits stage modules → modules < most_modules
directory_ends Between modules e l = one_more modules e
directory_ends InDirectory modules e l = l
directory_ends InBody modules e l = l

some_fault : (fault : ModuleFault) → Some fault ≡ None → ⊥
some_fault fault e = cc

module_ends : (stage : Stage) (modules : ℕ) → (if may_occur EndOfModule stage then None else Some BadOrder) ≡ None
    → InLimits stage modules → modules + 1 ≤ most_modules
module_ends Between modules e l = absurd (some_fault BadOrder e)
module_ends InDirectory modules e l = absurd (some_fault BadOrder e)
module_ends InBody modules e l = omega (arith, l)

none_within : (names : List (ℕ × ℕ)) → Within [] names
none_within names name a = absurd (true≢false (sym a))

pub bounded_step : (known : RulesState) (part : Part) → fault_known known part ≡ None → Bounded known
    → Bounded (known_after known part)
unfolding known_after fault_known
bounded_step known Directory e b = record {
  modules = directory_begins known.stage known.modules e b.modules;
  sections = b.sections;
  globals = b.globals;
  apart = b.apart;
  within = b.within;
}
bounded_step known (Entry entry) e b = entry_bounded entry.kind entry known e b
bounded_step known EndOfDirectory e b = record {
  modules = directory_ends known.stage known.modules e b.modules;
  sections = b.sections;
  globals = b.globals;
  apart = b.apart;
  within = b.within;
}
bounded_step known (Text address bytes) e b = b
bounded_step known Relocations e b = b
bounded_step known (Relocated relocation) e b = target_bounded relocation.target relocation known e b
bounded_step known EndOfModule e b = record {
  modules = module_ends known.stage known.modules e b.modules;
  sections = b.sections;
  globals = b.globals;
  apart = tt;
  within = none_within known.sections;
}
bounded_step known EndOfFile e b = b

-- no more modules have ended than a link accepts
pub modules_within : (stage : Stage) (modules : ℕ) → InLimits stage modules → modules ≤ most_modules
modules_within Between modules l = l
modules_within InDirectory modules l = omega (arith, l)
modules_within InBody modules l = omega (arith, l)
