-- The front, which is written before the tape: the messages about undefined globals, and the map. (This project's own.)
use Rattle.std.specs.Prelude.{Bool, true, false, ◌&&◌, not, is_none, List, [], ◌∷◌, ◌++◌, map, codes, Option, Some, None, if◌then◌else◌}
use Rattle.std.specs.List.{filter_map}
use Rattle.m11_base.specs.Rad50.{Name}
use Rattle.m11_link_layout.specs.declared.planned.PlannedGlobal.{PlannedGlobal}
use Rattle.m11_link_layout.specs.declared.planned.PlannedSection.{PlannedSection}
use Rattle.m11_link_text.specs.Findings.{Findings}
use Rattle.m11_link_text.specs.Lines as line
use Rattle.m11_base_writes.specs.Outputs.{Write, to_messages, to_report}

-- ---- undefined globals

abbrev pub is_strength : Bool → Bool → Bool
is_strength true is_strong = is_strong
is_strength false is_strong = not is_strong

-- the name of a referenced global if it is undefined and has this strength, otherwise None; a global is strong if any reference to it is
abbrev pub undefined_by : Findings → Bool → Name × Bool → Option Name
undefined_by found is_strong reference =
    if is_none (found.value reference.0) && is_strength is_strong reference.1 then Some reference.0 else None

-- the write for a name, if there is a name
abbrev pub written_if : (Name → Write) → Option Name → List Write
written_if write None = []
written_if write (Some name) = write name ∷ []

-- the names of undefined globals with this strength, in the order of first references
unfoldable pub undefined_names : Findings → Bool → List (Name × Bool) → List Name
undefined_names found is_strong references = filter_map (undefined_by found is_strong) references

-- ---- the map

abbrev pub section_write : PlannedSection → Write
section_write section = to_report (line.section_line section.name section.base section.size section.attributes.0)

abbrev pub global_write : PlannedGlobal → Write
global_write global = to_report (line.global_line global.name global.value global.module_name)

abbrev pub name_write : Name → Write
name_write name = to_report (line.name_line name)

unfoldable pub section_writes : List PlannedSection → List Write
section_writes sections = map section_write sections

unfoldable pub global_writes : List PlannedGlobal → List Write
global_writes globals = map global_write globals

unfoldable pub name_writes : Findings → Bool → List (Name × Bool) → List Write
name_writes found is_strong references = map name_write (undefined_names found is_strong references)

abbrev pub is_empty : List Write → Bool
is_empty [] = true
is_empty (write ∷ writes) = false

-- the writes for undefined names with only weak references, after a heading of their own; none if there are no such names
abbrev pub weak_writes : List Write → List Write
weak_writes [] = []
weak_writes (name ∷ names) = to_report (codes "WEAK\n") ∷ name ∷ names

abbrev pub last_writes : Findings → List Write
last_writes found =
    to_report (line.transfer_line found.transfer) ∷ to_report (line.limit_line found.bottom found.top) ∷ []

unfoldable pub map_writes : Findings → List Write
map_writes found = (to_report (codes "SECTIONS\n") ∷ section_writes found.sections)
    ++ ((to_report (codes "GLOBALS\n") ∷ global_writes found.globals)
    ++ ((to_report (codes "UNDEFINED\n") ∷ name_writes found true found.references)
    ++ (weak_writes (name_writes found false found.references) ++ last_writes found)))

-- ---- the writes in their order

abbrev pub undefined_write : Name → Write
undefined_write name = to_messages (line.undefined_line name)

-- a message for each undefined global with a strong reference
unfoldable pub undefined_writes : Findings → List (Name × Bool) → List Write
undefined_writes found references = map undefined_write (undefined_names found true references)

unfoldable pub front_writes : Findings → List Write
front_writes found = undefined_writes found found.references ++ map_writes found
