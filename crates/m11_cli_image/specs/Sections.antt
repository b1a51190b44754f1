-- The addresses of sections in a linked program, and of the contribution of each source to a section. (MACRO-11 Language Reference Manual,
-- ".PSECT directive": CON and OVR, REL and ABS. The sizes of contributions add up as the linker's layout defines for modules; each source
-- is a module.)
use Rattle.std.specs.Prelude.{ℕ, ◌+◌, sum_by, if◌then◌else◌, List, map, take, slice_get}
use Rattle.std.specs.Int.RustNames.{bit_and}
use Rattle.std.specs.List.{enumerate_from, filter_map, flat_map}
use Rattle.std.specs.Map.{lookup}
use Rattle.std.specs.Option.{option_to_list, unwrap_or}
use Rattle.m11_base.specs.Rad50.{Name, is_same_name}
use Rattle.m11_asm_directory.specs.FirstPass.{DirectoryFacts}
use Rattle.m11_link_layout.specs.Sections.{attribute_bits, base_entered, is_relocatable, names_before, offset_after, size_under, total}
use Rattle.m11_link_text.specs.Relocation.{modulo}
use Rattle.m11_link_modules.specs.Positions.{distinct}
use Rattle.m11_asm_rules.specs.Tables as tables
use Rattle.m11_asm_rules.specs.declared.sections.Section.{Section}
use Rattle.m11_cli_image.specs.Sources.{Source}

-- ---- the sections that sources have

-- a section of one source: its name, the attributes that a linker stores, and its size in bytes
pub record OwnSection : Type 0 where
  pub name : Name
  pub attributes : ℕ
  pub size : ℕ

abbrev pub own_section : DirectoryFacts → ℕ × Section → OwnSection
own_section facts numbered = record {
  name = numbered.1.name;
  attributes = bit_and numbered.1.attributes attribute_bits;
  size = tables.size_of numbered.0 facts.table;
}

-- the sections of a source, in the order of their numbers
abbrev pub sections_of : Source → List OwnSection
sections_of source = map (own_section source.facts) (enumerate_from 0 source.facts.table.sections)

-- the sections of all sources, source by source
abbrev pub all_sections : List Source → List OwnSection
all_sections sources = flat_map sections_of sources

abbrev pub name_of : OwnSection → Name
name_of section = section.name

abbrev pub attributes_entered : OwnSection → Name × ℕ
attributes_entered section = (section.name, section.attributes)

abbrev pub size_entered : OwnSection → Name × ℕ
size_entered section = (section.name, section.size)

-- ---- a section over all sources

-- the attributes of the section in the first source that has it; 0 if none does
abbrev pub attributes_of : List Source → Name → ℕ
attributes_of sources name = unwrap_or (lookup (is_same_name name) (map attributes_entered (all_sections sources))) 0

-- the sizes of a section in the sources that have it
abbrev pub sizes_of : List Source → Name → List ℕ
sizes_of sources name = filter_map (size_under name) (map size_entered (all_sections sources))

abbrev pub size_of : List Source → Name → ℕ
size_of sources name = total (attributes_of sources name) (sizes_of sources name)

-- the number of addresses that a section takes up among the relocatable sections; 0 for an absolute section
abbrev pub room_of : List Source → Name → ℕ
room_of sources name = if is_relocatable (attributes_of sources name) then size_of sources name else 0

-- the names of all sections, each once, in order of first appearance
abbrev pub names_of : List Source → List Name
names_of sources = distinct (map name_of (all_sections sources))

-- ---- addresses of sections

-- the address of a section: the first relocatable one is at `bottom`, and each other one after those that appeared before it; an absolute
-- one is at 0
abbrev pub base_of : ℕ → List Source → Name → ℕ
base_of bottom sources name =
    if is_relocatable (attributes_of sources name)
    then bottom + sum_by (room_of sources) (names_before name (names_of sources)) else 0

-- the address after all relocatable sections; the bottom if there are none
abbrev pub top_of : ℕ → List Source → ℕ
top_of bottom sources = bottom + sum_by (room_of sources) (names_of sources)

-- ---- the contribution of one source

abbrev pub source_at : List Source → ℕ → List Source
source_at sources index = option_to_list (slice_get sources index)

-- the address, modulo 65536, of the contribution of the source with this index to a section: after the contributions of the sources before
-- it if contributions are concatenated, otherwise at the address of the section; 0 if the source doesn't have the section
unfoldable pub contribution : ℕ → List Source → ℕ → Name → ℕ
contribution bottom sources index name = modulo (base_entered
    (lookup (is_same_name name) (map size_entered (all_sections (source_at sources index))))
    (base_of bottom sources name
    + offset_after (attributes_of sources name) (sizes_of (take index sources) name)))
