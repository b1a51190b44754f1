-- The directory rows of defined globals, each after the row of the section of its value. (RT-11 Volume and File Formats Manual, "Object
-- file format", global symbol entry; MACRO-11 Language Reference Manual, ".GLOBL directive". This project's own: absolute globals follow
-- the absolute section, and a global register isn't written.)
use Rattle.std.specs.Prelude.{Bool, true, false, if◌then◌else◌, List, Option, Some, None}
use Rattle.std.specs.List.{filter_map}
use Rattle.m11_base.specs.Names.{absolute_name}
use Rattle.m11_base.specs.Rad50.{Name, is_same_name}
use Rattle.m11_obj.specs.declared.directory.DirectoryRow.{DirectoryRow}
use Rattle.m11_obj.specs.declared.directory.DirectoryRow.TheVariants as row
use Rattle.m11_asm_rules.specs.declared.definitions.Definition.{Definition}
use Rattle.m11_asm_rules.specs.declared.definitions.Key.TheVariants.{Named}
use Rattle.m11_asm_rules.specs.declared.definitions.Standing.TheVariants.{Known, Unknown}
use Rattle.m11_asm_rules.specs.Definitions.{last_definition}
use Rattle.m11_asm_rules.specs.Tables.{Table}
use Rattle.m11_scan_expressions.specs.declared.kinds.Kind.{Kind}
use Rattle.m11_scan_expressions.specs.declared.kinds.Kind.TheVariants as kind

-- whether a value of this kind belongs to the section with this name; an absolute value belongs to the absolute section, and a register or
-- a reference to none
abbrev pub lies_in : Name → Kind → Bool
lies_in section kind.Absolute = is_same_name absolute_name section
lies_in section (kind.Section other) = is_same_name other section
lies_in section _ = false

-- whether a value of this kind moves with its section
abbrev pub is_relocatable : Kind → Bool
is_relocatable (kind.Section name) = true
is_relocatable other = false

-- the row of a name among those that follow a section's row; none unless the value of its last definition is known and belongs to the
-- section
abbrev pub row_by : Name → Name → Option Definition → Option DirectoryRow
row_by section name None = None
row_by section name (Some definition) = elim (definition.standing) [
  | Known value kind ↦ if lies_in section kind then Some (row.Definition name (is_relocatable kind) value) else None
  | Unknown ↦ None
]

-- the rows of the names in a list whose values are known and belong to a section, in the order of the list
abbrev pub definition_rows : Table → Name → List Name → List DirectoryRow
definition_rows table section names =
    filter_map (λ name. row_by section name (last_definition (Named name) table.definitions)) names
