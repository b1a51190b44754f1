-- The globals that sources define, and the value of each in a linked program. (MACRO-11 Language Reference Manual, ".GLOBL directive" and
-- "Relocation and linking". This project's own: the value of a name is that of the first source that defines it, or 0 if none does.)
use Rattle.std.specs.Prelude.{ℕ, ◌+◌, if◌then◌else◌, List, map, Option, Some, None, option_map}
use Rattle.std.specs.List.{enumerate_from, filter_map, flat_map}
use Rattle.std.specs.Map.{lookup}
use Rattle.std.specs.Option.{unwrap_or}
use Rattle.m11_base.specs.Rad50.{Name, is_same_name}
use Rattle.m11_asm_directory.specs.Definitions.{lies_in}
use Rattle.m11_asm_directory.specs.FirstPass.{DirectoryFacts}
use Rattle.m11_asm_directory.specs.Names.{ordered}
use Rattle.m11_link_layout.specs.declared.definition.Definition as layout
use Rattle.m11_link_layout.specs.declared.definition.GlobalLocation.{GlobalLocation}
use Rattle.m11_link_layout.specs.declared.definition.GlobalLocation.TheVariants.{Absolute, In}
use Rattle.m11_link_text.specs.Relocation.{modulo}
use Rattle.m11_asm_rules.specs.declared.definitions.Definition.{Definition}
use Rattle.m11_asm_rules.specs.declared.definitions.Key.TheVariants.{Named}
use Rattle.m11_asm_rules.specs.declared.definitions.Standing.{Standing}
use Rattle.m11_asm_rules.specs.declared.definitions.Standing.TheVariants.{Known, Unknown}
use Rattle.m11_asm_rules.specs.Definitions.{last_definition}
use Rattle.m11_asm_rules.specs.declared.sections.Section.{Section}
use Rattle.m11_asm_rules.specs.Tables.{Table}
use Rattle.m11_scan_expressions.specs.declared.kinds.Kind.{Kind}
use Rattle.m11_scan_expressions.specs.declared.kinds.Kind.TheVariants as kind
use Rattle.m11_cli_image.specs.Sections.{contribution}
use Rattle.m11_cli_image.specs.Sources.{Source}

-- ---- globals of one source

-- the location of a global: a distance in bytes from the start of the source's contribution to a section, or a number
abbrev pub location_of : ℕ → Kind → GlobalLocation
location_of number (kind.Section section) = In section number
location_of number other = Absolute number

abbrev pub global_known : Name → Name → ℕ → Kind → Option (Name × GlobalLocation)
global_known section name number kind =
    if lies_in section kind then Some (name, location_of number kind) else None

abbrev pub global_standing : Name → Name → Standing → Option (Name × GlobalLocation)
global_standing section name (Known number kind) = global_known section name number kind
global_standing section name Unknown = None

abbrev pub global_by : Name → Name → Option Definition → Option (Name × GlobalLocation)
global_by section name (Some definition) = global_standing section name definition.standing
global_by section name None = None

-- The name and the location of a global, or None if it isn't listed under this section. It is listed there if the value of its last
-- definition is known and is in the section. An absolute value is in `. ABS.`.
abbrev pub global_under : Table → Name → Name → Option (Name × GlobalLocation)
global_under table section name = global_by section name (last_definition (Named name) table.definitions)

abbrev pub globals_under : Table → Section → List (Name × GlobalLocation)
globals_under table section = filter_map (global_under table section.name) (ordered table.globals)

-- the globals of a source with their locations, section by section, and in each section in the order of names
abbrev pub globals_of : DirectoryFacts → List (Name × GlobalLocation)
globals_of facts = flat_map (globals_under facts.table) facts.table.sections

-- ---- globals of all sources, each global with the index of its source

abbrev pub in_source : ℕ → Name × GlobalLocation → Name × layout.Definition
in_source index global = (global.0, record { module_index = index; location = global.1 })

abbrev pub globals_at : ℕ × Source → List (Name × layout.Definition)
globals_at numbered = map (in_source numbered.0) (globals_of numbered.1.facts)

abbrev pub all_globals : List Source → List (Name × layout.Definition)
all_globals sources = flat_map globals_at (enumerate_from 0 sources)

-- ---- values

abbrev pub address_of : ℕ → List Source → ℕ → GlobalLocation → ℕ
address_of bottom sources index (Absolute number) = number
address_of bottom sources index (In section number) = modulo (contribution bottom sources index section + number)

abbrev pub definition_value : ℕ → List Source → layout.Definition → ℕ
definition_value bottom sources definition = address_of bottom sources definition.module_index definition.location

-- the value of a name: that of its first definition, or 0 if no source defines it
unfoldable pub global : ℕ → List Source → Name → ℕ
global bottom sources name =
    unwrap_or (option_map (definition_value bottom sources) (lookup (is_same_name name) (all_globals sources))) 0
