-- The attributes, sizes and bases of sections, and the bases of modules' contributions to them. (MACRO-11 Language Reference Manual,
-- ".PSECT directive": CON and OVR, REL and ABS; RT-11 Volume and File Formats Manual, "Object file format", GSD block. Rounding
-- contributions up to even in every relocated section, but not in absolute ones, is this project's own choice.)
use Rattle.std.specs.Prelude.{ℕ, ◌+◌, ◌%◌, max, min, sum, sum_by, Bool, ◌&&◌, not, nat_lt, List, [], ◌∷◌, map, Option, Some, None, if◌then◌else◌}
use Rattle.std.specs.Int.RustNames.{bit_and}
use Rattle.std.specs.List.{filter_map, list_any}
use Rattle.std.specs.Map.{lookup}
use Rattle.std.specs.Option.{unwrap_or}
use Rattle.m11_base.specs.Rad50.{Name, is_same_name}
use Rattle.m11_base.specs.Names.{absolute_name, blank_name}
use Rattle.m11_obj.specs.declared.gsd.GsdEntry.{GsdEntry}
use Rattle.m11_obj.specs.declared.gsd.GsdKind.{GsdKind}
use Rattle.m11_obj.specs.declared.gsd.GsdKind.TheVariants.{ControlSection, ProgramSection}
use Rattle.m11_link_modules.specs.Parts.{Part, Entry}
use Rattle.m11_link_modules.specs.Positions.{sections_in, section_names}
use Rattle.m11_obj.specs.Gsd.{has_bits}
use Rattle.m11_obj.specs.Attributes.{of_absolute, of_program, of_control, overlaid_bit, relocatable_bit}
pub use Rattle.m11_obj.specs.Attributes.{attribute_bits, flags_of}
use Rattle.m11_link_layout.specs.Modules.{module_at, modules_before}
use Rattle.m11_link_layout.specs.declared.planned.PlannedSection.{PlannedSection}

-- ---- attributes

-- the attributes of a control section, which are those of its directive: `.ASECT`, or `.CSECT` with or without a name
abbrev pub control_attributes : Name → ℕ
control_attributes name =
    if is_same_name name absolute_name then of_absolute
    else if is_same_name name blank_name then of_program else of_control

abbrev pub attributes_by : GsdKind → GsdEntry → Option (Name × ℕ)
attributes_by ControlSection entry = Some (entry.name, control_attributes entry.name)
attributes_by ProgramSection entry = Some (entry.name, bit_and entry.flags attribute_bits)
attributes_by kind entry = None

abbrev pub attributes_in : Part → Option (Name × ℕ)
attributes_in (Entry entry) = attributes_by entry.kind entry
attributes_in part = None

-- the attributes of a section's first entry; None if it has no entry
unfoldable pub entered_attributes : List Part → Name → Option ℕ
entered_attributes parts name = lookup (is_same_name name) (filter_map attributes_in parts)

-- the attributes of a section's first entry; 0 if it has no entry
unfoldable pub first_attributes : List Part → Name → ℕ
first_attributes parts name = unwrap_or (lookup (is_same_name name) (filter_map attributes_in parts)) 0

abbrev pub is_relocatable : ℕ → Bool
is_relocatable attributes = has_bits relocatable_bit attributes

abbrev pub is_overlaid : ℕ → Bool
is_overlaid attributes = has_bits overlaid_bit attributes

-- ---- sizes

-- the size in an entry of the section with this name; None for an entry of another section
abbrev pub size_under : Name → Name × ℕ → Option ℕ
size_under name entered = if is_same_name name entered.0 then Some entered.1 else None

-- the sizes in bytes of a section in the modules that enter it, in their order
unfoldable pub sizes_of : List Part → Name → List ℕ
sizes_of parts name = filter_map (size_under name) (sections_in parts)

abbrev pub rounded : ℕ → ℕ
rounded size = size + size % 2

abbrev pub greatest : List ℕ → ℕ
greatest [] = 0
greatest (size ∷ sizes) = max size (greatest sizes)

-- the size of a section: the sum of its contributions if it is concatenated, the greatest if it is overlaid, each rounded up to
-- even; the greatest without rounding if it is absolute
abbrev pub total : ℕ → List ℕ → ℕ
total attributes sizes =
    if is_relocatable attributes
    then (if is_overlaid attributes then greatest (map rounded sizes) else sum (map rounded sizes)) else greatest sizes

unfoldable pub section_size : List Part → Name → ℕ
section_size parts name = total (first_attributes parts name) (sizes_of parts name)

-- ---- bases

-- the number of bytes that a section occupies among the relocatable sections; 0 for an absolute section
abbrev pub room_of : List Part → Name → ℕ
room_of parts name = if is_relocatable (first_attributes parts name) then section_size parts name else 0

abbrev pub names_before : Name → List Name → List Name
names_before name [] = []
names_before name (other ∷ others) = if is_same_name name other then [] else other ∷ names_before name others

-- the base of a section: relocatable sections begin at the bottom and follow one another in the order of their first entries;
-- absolute ones begin at 0
unfoldable pub section_base : ℕ → List Part → Name → ℕ
section_base bottom parts name =
    if is_relocatable (first_attributes parts name)
    then bottom + sum_by (room_of parts) (names_before name (section_names parts)) else 0

-- the address after the last relocatable section; the bottom if there are none
unfoldable pub top : ℕ → List Part → ℕ
top bottom parts = bottom + sum_by (room_of parts) (section_names parts)

-- whether a relocatable section ends past octal 160000, where the device registers begin
abbrev pub ends_too_high : ℕ → List Part → Name → Bool
ends_too_high bottom parts name = is_relocatable (first_attributes parts name)
    && nat_lt 0o160000 (section_base bottom parts name + section_size parts name)

unfoldable pub is_too_large : ℕ → List Part → Bool
is_too_large bottom parts = list_any (ends_too_high bottom parts) (section_names parts)

-- ---- all sections

-- octal 177777, the highest number in a word; no section of a plan is larger: an absolute one isn't, since no entry has a larger
-- size, and relocatable ones end at octal 160000 or below
abbrev pub most_size : ℕ
most_size = 0o177777

abbrev pub section_reported : ℕ → List Part → Name → PlannedSection
section_reported bottom parts name = record {
  name = name;
  base = section_base bottom parts name;
  size = min most_size (section_size parts name);
  attributes = flags_of (first_attributes parts name);
}

-- the sections in the order of first entries, each with its base, its size and the attributes of its first entry
unfoldable pub sections_of : ℕ → List Part → List PlannedSection
sections_of bottom parts = map (section_reported bottom parts) (section_names parts)

-- ---- contributions

-- the offset of a module's contribution in its section, after contributions of these sizes by earlier modules; 0 unless
-- contributions are concatenated
abbrev pub offset_after : ℕ → List ℕ → ℕ
offset_after attributes sizes =
    if is_relocatable attributes && not (is_overlaid attributes) then sum (map rounded sizes) else 0

-- this base, or 0 for a section that the module doesn't enter
abbrev pub base_entered : Option ℕ → ℕ → ℕ
base_entered None base = 0
base_entered (Some size) base = base

-- the base of a module's contribution to a section, given the parts of all modules, of the earlier ones and of the module itself; 0
-- if the module has no entry for the section
unfoldable pub contribution_base : ℕ → List Part → List Part → List Part → Name → ℕ
contribution_base bottom parts earlier own name = base_entered (lookup (is_same_name name) (sections_in own))
    (section_base bottom parts name + offset_after (first_attributes parts name) (sizes_of earlier name))

-- the base of the contribution that the module with this index makes to a section, modulo octal 200000
unfoldable pub module_base : ℕ → List Part → ℕ → Name → ℕ
module_base bottom parts index name =
    contribution_base bottom parts (modules_before parts index) (module_at parts index) name % 0o200000
