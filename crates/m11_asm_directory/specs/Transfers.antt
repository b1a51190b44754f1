-- The transfer address of an object. (RT-11 Volume and File Formats Manual, "Object file format", transfer address entry; MACRO-11 Language
-- Reference Manual, ".END directive". This project's own: a register counts as its number.)
use Rattle.std.specs.Prelude.{Option, Some, None}
use Rattle.m11_base.specs.Names.{absolute_name}
use Rattle.m11_base.specs.Rad50.{Name}
use Rattle.m11_obj.specs.declared.directory.DirectoryRow.{DirectoryRow}
use Rattle.m11_obj.specs.declared.directory.DirectoryRow.TheVariants as row
use Rattle.m11_scan_expressions.specs.declared.kinds.Kind.{Kind}
use Rattle.m11_scan_expressions.specs.declared.kinds.Kind.TheVariants as kind
use Rattle.m11_scan_expressions.specs.Quantities.{Quantity}

-- the section of a value: the absolute one for any value that isn't a location in a section
abbrev pub home : Kind → Name
home (kind.Section name) = name
home other = absolute_name

-- the row of the transfer address; a source without a transfer address gets the absolute address 1, since no program begins there
abbrev pub transfer_row : Option Quantity → DirectoryRow
transfer_row (Some value) = row.Transfer (home value.kind) value.number
transfer_row None = row.Transfer absolute_name 1
