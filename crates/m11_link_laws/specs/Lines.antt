-- The lines of a link's map, and of its messages. (This project's own.)
use Rattle.std.specs.Prelude.{ℕ, ◌&&◌, true, false, List, [], ◌∷◌, ◌++◌, map, codes, Option, Some, None, if◌then◌else◌}
use Rattle.m11_base.specs.Devices.{Bytes}
use Rattle.m11_base.specs.Rad50.{Name}
use Rattle.m11_obj.specs.declared.gsd.GsdEntry.{GsdEntry}
use Rattle.m11_obj.specs.declared.gsd.GsdKind.{GsdKind}
use Rattle.m11_obj.specs.declared.gsd.GsdKind.TheVariants.{GlobalSymbol}
use Rattle.m11_link_modules.specs.Names.{is_among}
use Rattle.m11_link_modules.specs.Parts.{Part, Entry}
use Rattle.m11_link_modules.specs.Positions.{modules_in}
use Rattle.m11_link_modules.specs.Rules.{defines}
use Rattle.m11_link_layout.specs.Modules.{reported_after}
use Rattle.m11_link_layout.specs.Sections.{attributes_by}
use Rattle.m11_link_layout.specs.declared.planned.PlannedGlobal.{PlannedGlobal}
use Rattle.m11_link_layout.specs.declared.planned.PlannedSection.{PlannedSection}
use Rattle.m11_link_text.specs.Findings.{Findings}
use Rattle.m11_link_text.specs.Lines.{different_line, global_line, limit_line, multiple_line, name_line, section_line, transfer_line, undefined_line}
use Rattle.m11_link.specs.Front.{undefined_names}
use Rattle.m11_link.specs.Written.{attributes_agree, defined_names}

-- ---- the map

abbrev pub line_of_section : PlannedSection → Bytes
line_of_section section = section_line section.name section.base section.size section.attributes.0

abbrev pub line_of_global : PlannedGlobal → Bytes
line_of_global global = global_line global.name global.value global.module_name

-- the lines of undefined names with only weak references, under a heading of their own; none if there are no such names
abbrev pub weak_lines : List Name → List Bytes
weak_lines [] = []
weak_lines (name ∷ names) = codes "WEAK\n" ∷ map name_line (name ∷ names)

-- the lines of the map: under headings, each section, each global with its value, and the names with references that are defined
-- nowhere; then the transfer address, and the limits of the relocatable sections
abbrev pub map_lines : Findings → List Bytes
map_lines found = (codes "SECTIONS\n" ∷ map line_of_section found.sections)
    ++ ((codes "GLOBALS\n" ∷ map line_of_global found.globals)
    ++ ((codes "UNDEFINED\n" ∷ map name_line (undefined_names found true found.references))
    ++ (weak_lines (undefined_names found false found.references)
    ++ (transfer_line found.transfer ∷ limit_line found.bottom found.top ∷ []))))

-- ---- the messages

-- the message about a definition of a name that an earlier entry defines; None for any other entry
abbrev pub multiple_of : Findings → List Part → GsdEntry → Option Bytes
multiple_of found before entry = if defines entry && is_among (defined_names before) entry.name
    then Some (multiple_line entry.name (found.module_name (modules_in before))) else None

-- the message about an entry of a section with attributes other than those of its first entry; None for any other entry
abbrev pub different_of : Findings → List Part → Option (Name × ℕ) → Option Bytes
different_of found before None = None
different_of found before (Some section) = if attributes_agree (found.attributes section.0) section.1 then None
    else Some (different_line section.0 (found.module_name (modules_in before)))

abbrev pub line_by : GsdKind → Findings → List Part → GsdEntry → Option Bytes
line_by GlobalSymbol found before entry = multiple_of found before entry
line_by kind found before entry = different_of found before (attributes_by kind entry)

-- the message about an entry, given the parts before it; None if there is no message
abbrev pub entry_line : Findings → List Part → Part → Option Bytes
entry_line found before (Entry entry) = line_by entry.kind found before entry
entry_line found before part = None

-- a line for each global that has a strong reference and is defined nowhere, and then one for each entry that defines a name again
-- or gives a section attributes other than those of its first entry
abbrev pub message_lines : Findings → List Part → List Bytes
message_lines found parts = map undefined_line (undefined_names found true found.references)
    ++ reported_after (entry_line found) [] parts
