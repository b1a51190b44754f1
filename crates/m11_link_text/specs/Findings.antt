-- What the definitions of tape, map and messages need to know about all parts of a link: the bases of contributions, the values of globals,
-- the attributes of sections, the names of modules, the rows of the map, the transfer address and the limits. (This project's own: one name
-- for the results of Sections.antt, Globals.antt, Modules.antt and Transfers.antt of the layout.)
use Rattle.std.specs.Prelude.{◌≡◌, ℕ, Bool, List, Option}
use Rattle.m11_base.specs.Rad50.{Name}
use Rattle.m11_link_modules.specs.Parts.{Part}
use Rattle.m11_link_layout.specs.Globals.{global_value, globals_of, referred}
use Rattle.m11_link_layout.specs.Modules.{name_at}
use Rattle.m11_link_layout.specs.Plan.{PlanTables, planned_base, planned_value, planned_transfer, planned_attributes, planned_module, planned_sections, planned_globals}
use Rattle.m11_link_layout.specs.Sections.{entered_attributes, module_base, sections_of, top}
use Rattle.m11_link_layout.specs.Transfers.{transfer_address}
use Rattle.m11_link_layout.specs.declared.planned.PlannedGlobal.{PlannedGlobal}
use Rattle.m11_link_layout.specs.declared.planned.PlannedSection.{PlannedSection}

pub record Findings : Type 0 where
  -- the base of a module's contribution to a section, and the value of a global if it is defined
  pub base : ℕ → Name → ℕ
  pub value : Name → Option ℕ
  -- the attributes of a section's first entry, if there is one, and the name of a module
  pub attributes : Name → Option ℕ
  pub module_name : ℕ → Name
  -- sections and globals, and the names that modules refer to, each with whether a strong reference to it exists
  pub sections : List PlannedSection
  pub globals : List PlannedGlobal
  pub references : List (Name × Bool)
  -- the transfer address, the first address of the relocatable sections, and the address after the last relocatable section
  pub transfer : ℕ
  pub bottom : ℕ
  pub top : ℕ

-- the findings that the definitions yield for the parts of all objects
unfoldable pub findings_of : ℕ → List Part → Findings
findings_of bottom parts = record {
  base = λ module_index name. module_base bottom parts module_index name;
  value = λ name. global_value bottom parts name;
  attributes = λ name. entered_attributes parts name;
  module_name = λ module_index. name_at parts module_index;
  sections = sections_of bottom parts;
  globals = globals_of bottom parts;
  references = referred parts;
  transfer = transfer_address bottom parts;
  bottom = bottom;
  top = top bottom parts;
}

-- the findings that the plan of a first pass yields
abbrev pub planned : PlanTables → Findings
planned plan = record {
  base = λ module_index name. planned_base plan module_index name;
  value = λ name. planned_value plan name;
  attributes = λ name. planned_attributes plan name;
  module_name = λ module_index. planned_module plan module_index;
  sections = planned_sections plan;
  globals = planned_globals plan;
  references = plan.gathered.references;
  transfer = planned_transfer plan;
  bottom = plan.bottom;
  top = plan.top;
}

-- two findings are equal in every field; fields that are functions have equal values for all arguments
pub record Agree (some others : Findings) : Type 0 where
  pub base : (module_index : ℕ) (name : Name) → some.base module_index name ≡ others.base module_index name
  pub value : (name : Name) → some.value name ≡ others.value name
  pub attributes : (name : Name) → some.attributes name ≡ others.attributes name
  pub module_name : (module_index : ℕ) → some.module_name module_index ≡ others.module_name module_index
  pub sections : some.sections ≡ others.sections
  pub globals : some.globals ≡ others.globals
  pub references : some.references ≡ others.references
  pub transfer : some.transfer ≡ others.transfer
  pub bottom : some.bottom ≡ others.bottom
  pub top : some.top ≡ others.top
