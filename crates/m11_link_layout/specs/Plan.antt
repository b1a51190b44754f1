-- The plan that follows from the collected tables. (This project's own. It is proved that the plan agrees with Sections.antt,
-- Globals.antt, Transfers.antt and Modules.antt about all parts.)
use Rattle.std.specs.Prelude.{◌≡◌, get_or, slice_get, map, min, option_and_then, true, false, ℕ, ◌+◌, ◌*◌, ◌%◌, ◌≤◌, nat_lt, length, List, [], ◌∷◌, ◌++◌, Option, Some, None, Result, Ok, Err, if◌then◌else◌}
use Rattle.std.specs.Map.{keys_of, lookup}
use Rattle.std.specs.Option.{is_some, unwrap_or}
use Rattle.indexmap.specs.IndexMap.{insert_entry}
use Rattle.m11_base.specs.Names.{blank_name}
use Rattle.m11_base.specs.Rad50.{Name, is_same_name}
use Rattle.m11_link_layout.specs.Tables.{LayoutTables, collected_after_all, is_contribution, nothing_collected, settled}
use Rattle.m11_link_layout.specs.Globals.{definitions_of, first_definition, global_value, globals_of, referred}
use Rattle.m11_link_layout.specs.Modules.{name_at}
use Rattle.m11_link_layout.specs.Sections.{entered_attributes, is_relocatable, is_too_large, module_base, most_size, sections_of, top}
use Rattle.m11_link_layout.specs.Transfers.{transfer_address}
use Rattle.m11_link_layout.specs.declared.definition.Definition.{Definition}
use Rattle.m11_link_layout.specs.declared.definition.GlobalLocation.{GlobalLocation}
use Rattle.m11_link_layout.specs.declared.definition.GlobalLocation.TheVariants.{Absolute, In}
use Rattle.m11_link_layout.specs.declared.definition.Total.{Total}
use Rattle.m11_link_layout.specs.declared.definition.Transfer.{Transfer}
use Rattle.m11_link_layout.specs.declared.planned.PlannedGlobal.{PlannedGlobal}
use Rattle.m11_link_layout.specs.declared.planned.PlannedSection.{PlannedSection}
use Rattle.m11_link_layout.specs.declared.fault.LinkFault.{LinkFault}
use Rattle.m11_link_layout.specs.declared.fault.LinkFault.TheVariants.{BadOrder, TooLarge, NoMemory}
use Rattle.m11_link_modules.specs.declared.fault.ModuleFault.TheVariants as rule
use Rattle.m11_link_modules.specs.Parts.{Part, EndOfFile}
use Rattle.m11_link_modules.specs.Positions.{distinct, global_names, modules_in, section_names, sections_in}
use Rattle.m11_link_modules.specs.Rules.{fault_of, most_globals, most_modules, most_sections}

-- ---- bases

-- octal 160000, the first address of the device registers
abbrev pub address_limit : ℕ
address_limit = 0o160000

-- the bases of sections, and the address after the relocatable ones
pub record Bases : Type 0 where
  pub bases : List (Name × ℕ)
  pub top : ℕ

-- the bases after one more section: a relocatable section is placed at the next address, and an absolute one at 0; None if a relocatable
-- section ends past the limit
abbrev pub placed : List (Name × ℕ) → ℕ → Name × Total → Option Bases
placed bases next section =
    if is_relocatable section.1.attributes.0
    then (if nat_lt address_limit (next + section.1.size) then None
    else Some (record { bases = insert_entry is_same_name bases section.0 next; top = next + section.1.size }))
    else Some (record { bases = insert_entry is_same_name bases section.0 0; top = next })

-- the bases after all these sections; None if a relocatable one ends past the limit
abbrev pub bases_onto : List (Name × ℕ) → ℕ → List (Name × Total) → Option Bases
bases_onto bases next [] = Some (record { bases = bases; top = next })
bases_onto bases next (section ∷ sections) =
    option_and_then (λ following. bases_onto following.bases following.top sections) (placed bases next section)

-- a section was placed; or it is relocatable and ends past the limit; or it has a place within the limit, but memory was refused for it
abbrev pub Places : Option Bases → List (Name × ℕ) → Result ℕ LinkFault → Type 0
Places placed new (Ok top) = placed ≡ Some (record { bases = new; top = top })
Places placed new (Err TooLarge) = placed ≡ None
Places placed new (Err NoMemory) = is_some placed ≡ true
Places placed new (Err fault) = ⊥

-- memory was refused for one of these sections or later, and neither that section nor one before it ends past the limit
pub record StopsAtSection (bases : List (Name × ℕ)) (next : ℕ) (sections : List (Name × Total)) : Type 0 where
  pub before : List (Name × Total)
  pub section : Name × Total
  pub left : List (Name × Total)
  pub split : sections ≡ before ++ section ∷ left
  pub fits : is_some (bases_onto bases next (before ++ section ∷ [])) ≡ true

-- sections were placed, or a relocatable one ends past the limit; or memory was refused for a section, and neither that section nor one
-- before it ends past the limit
abbrev pub PlacesAll : List (Name × ℕ) → ℕ → List (Name × Total) → List (Name × ℕ) → Result ℕ LinkFault → Type 0
PlacesAll bases next sections new (Ok top) = bases_onto bases next sections ≡ Some (record { bases = new; top = top })
PlacesAll bases next sections new (Err TooLarge) = bases_onto bases next sections ≡ None
PlacesAll bases next sections new (Err NoMemory) = StopsAtSection bases next sections
PlacesAll bases next sections new (Err fault) = ⊥

-- ---- a plan

pub record PlanTables : Type 0 where
  pub gathered : LayoutTables
  pub bases : List (Name × ℕ)
  pub bottom : ℕ
  pub top : ℕ

-- the base of a section; 0 if there is no section with this name
abbrev pub planned_section_base : PlanTables → Name → ℕ
planned_section_base plan name = unwrap_or (lookup (is_same_name name) plan.bases) 0

abbrev pub after_offset : Option ℕ → ℕ → ℕ
after_offset None base = 0
after_offset (Some offset) base = (base + offset) % 0o200000

-- the base of a module's contribution to a section, modulo octal 200000; 0 if the module makes none
abbrev pub planned_base : PlanTables → ℕ → Name → ℕ
planned_base plan module_index name = after_offset
    (lookup (is_contribution (module_index, name)) plan.gathered.contributions)
    (planned_section_base plan name)

-- the bases of all contributions, in the order of their table
abbrev pub contribution_bases : PlanTables → List ℕ
contribution_bases plan = map (λ entry. after_offset (Some entry.1) (planned_section_base plan entry.0.1))
    plan.gathered.contributions

abbrev pub value_at : PlanTables → ℕ → GlobalLocation → ℕ
value_at plan module_index (Absolute value) = value
value_at plan module_index (In section value) = (planned_base plan module_index section + value) % 0o200000

-- the values of all defined globals, in the order of first definitions
abbrev pub definition_values : PlanTables → List ℕ
definition_values plan = map (λ entry. value_at plan entry.1.module_index entry.1.location) plan.gathered.definitions

abbrev pub defined_value : PlanTables → Option Definition → Option ℕ
defined_value plan None = None
defined_value plan (Some definition) = Some (value_at plan definition.module_index definition.location)

-- the value of a global; None if it is not defined
abbrev pub planned_value : PlanTables → Name → Option ℕ
planned_value plan name = defined_value plan (lookup (is_same_name name) plan.gathered.definitions)

-- the address in a transfer entry, modulo octal 200000; 1, which starts no program, if there is no entry
abbrev pub transfer_at : PlanTables → Option Transfer → ℕ
transfer_at plan None = 1
transfer_at plan (Some transfer) =
    (planned_base plan transfer.module_index transfer.section + transfer.value) % 0o200000

abbrev pub planned_transfer : PlanTables → ℕ
planned_transfer plan = transfer_at plan (settled plan.gathered)

-- the name of the module with this index; blank past the last module
abbrev pub planned_module : PlanTables → ℕ → Name
planned_module plan module_index = get_or plan.gathered.names module_index blank_name

abbrev pub attributes_reported : Option Total → Option ℕ
attributes_reported None = None
attributes_reported (Some total) = Some total.attributes.0

-- the attributes of a section's first entry; None if there is no section with this name
abbrev pub planned_attributes : PlanTables → Name → Option ℕ
planned_attributes plan name = attributes_reported (lookup (is_same_name name) plan.gathered.sections)

abbrev pub section_planned : PlanTables → Name × Total → PlannedSection
section_planned plan section = record {
  name = section.0;
  base = planned_section_base plan section.0;
  size = min most_size section.1.size;
  attributes = section.1.attributes;
}

-- the sections, in the order of first entries
unfoldable pub planned_sections : PlanTables → List PlannedSection
planned_sections plan = map (section_planned plan) plan.gathered.sections

-- the first list is a prefix of the second: each of its items is at the same index of the second
abbrev pub Agrees : List ℕ → List ℕ → Type 0
Agrees some all = (index value : ℕ) → slice_get some index ≡ Some value → slice_get all index ≡ Some value

-- these are the first bases of contributions and the first values of globals in a plan; either list may be shorter than its table
pub record Lists (plan : PlanTables) (bases values : List ℕ) : Type 0 where
  pub bases_agree : Agrees bases (contribution_bases plan)
  pub values_agree : Agrees values (definition_values plan)

abbrev pub global_planned : PlanTables → Name × Definition → PlannedGlobal
global_planned plan global = record {
  name = global.0;
  value = value_at plan global.1.module_index global.1.location;
  module_name = planned_module plan global.1.module_index;
}

-- the defined globals, in the order of first definitions
unfoldable pub planned_globals : PlanTables → List PlannedGlobal
planned_globals plan = map (global_planned plan) plan.gathered.definitions

-- ---- the sizes of a plan's tables

-- the tables grow only with the names in parts: there is at most one contribution for each section entry, exactly one name for each
-- module that ended, no more weak names than globals, and at most one base for each section
pub record TablesGrow (parts : List Part) (plan : PlanTables) : Type 0 where
  pub contributions : length plan.gathered.contributions ≤ length (sections_in parts)
  pub names : length plan.gathered.names ≡ modules_in parts
  pub weak : length plan.gathered.weak ≤ length (global_names parts)
  pub bases : length plan.bases ≤ length (section_names parts)

-- the tables stay within the limits of a link, even if a module hasn't ended
pub record TablesBounded (plan : PlanTables) : Type 0 where
  pub contributions : length plan.gathered.contributions ≤ (most_modules + 1) * most_sections
  pub names : length plan.gathered.names ≤ most_modules
  pub weak : length plan.gathered.weak ≤ most_globals
  pub bases : length plan.bases ≤ most_sections

-- ---- the end of the first pass

-- the plan has the tables of all parts, and places the relocatable sections beginning at the bottom
pub record IsPlan (bottom : ℕ) (parts : List Part) (plan : PlanTables) : Type 0 where
  pub gathered : plan.gathered ≡ collected_after_all bottom nothing_collected parts
  pub bases : bases_onto [] bottom plan.gathered.sections ≡ Some (record { bases = plan.bases; top = plan.top })
  pub bottom_is : plan.bottom ≡ bottom

-- no relocatable section ends past octal 160000, and the plan agrees with the definitions about all parts: it has the bases of
-- contributions, the values of globals and the transfer address; the sections, the globals, the definitions and the references in
-- order; the attributes of sections, the names of modules and the limits; and the sizes of its tables are bounded
pub record IsPlanOf (bottom : ℕ) (parts : List Part) (plan : PlanTables) : Type 0 where
  pub fits : is_too_large bottom parts ≡ false
  pub bases : (module_index : ℕ) (name : Name)
      → planned_base plan module_index name ≡ module_base bottom parts module_index name
  pub values : (name : Name) → planned_value plan name ≡ global_value bottom parts name
  pub transfer : planned_transfer plan ≡ transfer_address bottom parts
  pub sections : planned_sections plan ≡ sections_of bottom parts
  pub globals : planned_globals plan ≡ globals_of bottom parts
  pub attributes : (name : Name) → planned_attributes plan name ≡ entered_attributes parts name
  pub definitions : (name : Name) → lookup (is_same_name name) plan.gathered.definitions ≡ first_definition parts name
  pub defined : keys_of plan.gathered.definitions ≡ distinct (keys_of (definitions_of parts))
  pub references : plan.gathered.references ≡ referred parts
  pub names : (module_index : ℕ) → planned_module plan module_index ≡ name_at parts module_index
  pub limits : (plan.bottom ≡ bottom) × (plan.top ≡ top bottom parts)
  pub grow : TablesGrow parts plan
  pub bounded : TablesBounded plan

-- the result is a plan of the collected tables; or a relocatable section ends past the limit; or memory was refused for a section or
-- later, and neither that section nor one before it ends past the limit
abbrev pub Plans : ℕ → LayoutTables → Result PlanTables LinkFault → Type 0
Plans bottom gathered (Ok plan) = (plan.gathered ≡ gathered) × (plan.bottom ≡ bottom)
    × (bases_onto [] bottom gathered.sections ≡ Some (record { bases = plan.bases; top = plan.top }))
Plans bottom gathered (Err TooLarge) = bases_onto [] bottom gathered.sections ≡ None
Plans bottom gathered (Err NoMemory) = StopsAtSection [] bottom gathered.sections
Plans bottom gathered (Err fault) = ⊥

-- the result of reading all parts: a plan; or the fault of an end inside a module; or, without that fault, a relocatable section
-- ends past the limit, or memory was refused for a section or later and neither that section nor one before it ends past the limit
abbrev pub LayoutEnds : ℕ → List Part → Result PlanTables LinkFault → Type 0
LayoutEnds bottom parts (Ok plan) = (fault_of parts EndOfFile ≡ None) × IsPlanOf bottom parts plan
LayoutEnds bottom parts (Err BadOrder) = fault_of parts EndOfFile ≡ Some rule.BadOrder
LayoutEnds bottom parts (Err TooLarge) = (fault_of parts EndOfFile ≡ None) × (is_too_large bottom parts ≡ true)
LayoutEnds bottom parts (Err NoMemory) = (fault_of parts EndOfFile ≡ None)
    × StopsAtSection [] bottom (collected_after_all bottom nothing_collected parts).sections
LayoutEnds bottom parts (Err fault) = ⊥
