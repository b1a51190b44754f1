-- Globals that another object has to define. (RT-11 Volume and File Formats Manual, "Object file format", global symbol entry; MACRO-11
-- Language Reference Manual, ".GLOBL directive" and ".WEAK directive". This project's own: a global whose value isn't known is written as a
-- reference.)
use Rattle.std.specs.Prelude.{◌&&◌, Bool, true, List, ◌++◌, filter, map, Some, None}
use Rattle.m11_base.specs.Rad50.{Name}
use Rattle.m11_obj.specs.declared.directory.DirectoryRow.{DirectoryRow}
use Rattle.m11_obj.specs.declared.directory.DirectoryRow.TheVariants as row
use Rattle.m11_asm_rules.specs.Assigning.{is_unknown_as}
use Rattle.m11_asm_rules.specs.declared.definitions.Key.TheVariants.{Named}
use Rattle.m11_asm_rules.specs.Definitions.{last_definition}
use Rattle.m11_asm_rules.specs.Tables.{Table}
use Rattle.m11_asm_directory.specs.FirstPass.{DirectoryFacts}
use Rattle.m11_asm_directory.specs.Names.{has_name, ordered}

-- whether a name is open: no line defines it, or it is global and its last definition has an unknown value
abbrev pub is_open : Table → Name → Bool
is_open table name = elim (last_definition (Named name) table.definitions) [
  | None ↦ true
  | Some definition ↦ is_unknown_as definition.standing && has_name name table.globals
]

-- the open names that lines refer to or make global, each once, in order
abbrev pub references : DirectoryFacts → List Name
references facts = ordered (filter (is_open facts.table) (facts.referred ++ facts.table.globals))

-- the rows of the references to these names; a reference is weak if its name is among the weak ones
abbrev pub reference_rows : List Name → List Name → List DirectoryRow
reference_rows weak names = map (λ name. row.Reference name (has_name name weak)) names
