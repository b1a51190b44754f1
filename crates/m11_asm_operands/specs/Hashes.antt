-- How the row of an instruction is found from its name, by a hash of the name. (This project's own.)
use Rattle.std.specs.Prelude.{ℕ, ◌+◌, ◌*◌, ◌%◌, if◌then◌else◌, Option, Some, None, slice_index}
use Rattle.std.specs.Str.{bytes_eq}
use Rattle.m11_base.specs.Devices.{Bytes}
use Rattle.m11_base.specs.declared.instruction.Op.{Op}
use Rattle.m11_base.specs.declared.instruction_list.Row.{Row}

-- a hash of the first four characters of a name, from 0 to 255
abbrev pub hash_of : Bytes → ℕ
hash_of name = (slice_index name 0 * 3 + slice_index name 1 * 240 + slice_index name 2 * 25 + slice_index name 3 * 7) % 256

-- the operation of a row, if the row has this name
abbrev pub operation_named : Option Row → Bytes → Option Op
operation_named (Some row) name = if bytes_eq row.name name then Some row.operation else None
operation_named None name = None
