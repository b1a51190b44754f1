-- The load map of objects: a line for each module's contribution to each section, at its address in a link, and a line for each
-- global at its value. (The definition of a link says where contributions lie and which values globals have. The lines and their
-- order are this project's own.)
use Rattle.std.specs.Prelude.{◌≡◌, ℕ, Bool, nat_eq, List, [], ◌∷◌, ◌++◌, codes, Option, Some, None, if◌then◌else◌}
use Rattle.std.specs.List.{filter, filter_map, flat_map}
use Rattle.std.specs.List.Sorted.{IsNonDecreasingBy, IsPermutation}
use Rattle.std.specs.Option.{option_map}
use Rattle.m11_base.specs.Devices.{Bytes}
use Rattle.m11_base.specs.Octal.{octal_text}
use Rattle.m11_base.specs.Rad50.{Name, name_text}
use Rattle.m11_obj_print.specs.Lines.{line_of}
use Rattle.m11_link_modules.specs.Parts.{Part}
use Rattle.m11_link_modules.specs.Positions.{section_in}
use Rattle.m11_link_layout.specs.Globals.{globals_of}
use Rattle.m11_link_layout.specs.Modules.{indexed, name_at}
use Rattle.m11_link_layout.specs.Sections.{module_base, top}
use Rattle.m11_link_layout.specs.declared.planned.PlannedGlobal.{PlannedGlobal}
use Rattle.m11_link_text.specs.Lines as line

-- ---- contributions

-- the contribution of a module to a section, from a section entry: the index of the module, the name of the section, and its size in
-- that module, in bytes
pub record Contribution : Type 0 where
  pub module_index : ℕ
  pub section : Name
  pub size : ℕ

abbrev pub contribution : ℕ → Name × ℕ → Contribution
contribution index entered = record { module_index = index; section = entered.0; size = entered.1 }

abbrev pub contribution_at : ℕ × Part → Option Contribution
contribution_at indexed = option_map (contribution indexed.0) (section_in indexed.1)

-- all contributions of modules to sections, in the order of their entries
unfoldable pub contributions_of : List Part → List Contribution
contributions_of parts = filter_map contribution_at (indexed 0 parts)

-- the section and size of a contribution, if it is that of the module with this index
abbrev pub contribution_in : ℕ → Contribution → Option (Name × ℕ)
contribution_in index c = if nat_eq c.module_index index then Some (c.section, c.size) else None

-- ---- the order of globals

abbrev pub lies_at : ℕ → PlannedGlobal → Bool
lies_at address global = nat_eq global.value address

-- `order` holds the globals in the order of their values, the lowest first; those of equal value keep their order
pub record IsByValue (globals order : List PlannedGlobal) : Type 0 where
  pub same : IsPermutation globals order
  pub rise : IsNonDecreasingBy (λ (global : PlannedGlobal). global.value) order
  pub ties : (address : ℕ) → filter (lies_at address) order ≡ filter (lies_at address) globals

-- ---- lines

-- the line for a module's contribution to a section: its address and size, the section and the module
abbrev pub section_line : ℕ → ℕ → Name → Name → Bytes
section_line base size section module_name =
    line_of (((((((codes "  " ++ octal_text base) ++ 32 ∷ []) ++ octal_text size) ++ 32 ∷ []) ++ name_text section)
    ++ 32 ∷ []) ++ name_text module_name)

-- the line for a global: its value, its name, and the first module that defines it
abbrev pub global_line : ℕ → Name → Name → Bytes
global_line value name module_name =
    line_of (((((codes "  " ++ octal_text value) ++ 32 ∷ []) ++ name_text name) ++ 32 ∷ []) ++ name_text module_name)

-- ---- the text

-- the line for a contribution; `base` gives the addresses of contributions and `module_name` the names of modules
abbrev pub contribution_line : (ℕ → Name → ℕ) → (ℕ → Name) → Contribution → Bytes
contribution_line base module_name c =
    section_line (base c.module_index c.section) c.size c.section (module_name c.module_index)

abbrev pub line_of_global : PlannedGlobal → Bytes
line_of_global global = global_line global.value global.name global.module_name

-- the map: the addresses that bound the relocatable sections, then the contributions, then the globals
unfoldable pub map_text : (ℕ → Name → ℕ) → (ℕ → Name) → ℕ → ℕ → List Contribution → List PlannedGlobal → Bytes
map_text base module_name bottom top contributions globals =
    (((line.limit_line bottom top ++ codes "SECTIONS\n") ++ flat_map (contribution_line base module_name) contributions)
    ++ codes "GLOBALS\n") ++ flat_map line_of_global globals

-- the text is the load map of objects with these parts, with relocatable sections beginning at `bottom`
abbrev pub IsLoadMap : ℕ → List Part → Bytes → Type 0
IsLoadMap bottom parts text = (order : List PlannedGlobal) × IsByValue (globals_of bottom parts) order
    × (text ≡ map_text (module_base bottom parts) (name_at parts) bottom (top bottom parts) (contributions_of parts) order)
