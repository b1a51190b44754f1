-- The values that a source states in a linked program, each an address or a number; and the bytes of these values. (MACRO-11 Language
-- Reference Manual, "Relocation and linking"; PDP-11/40 Processor Handbook, "Addressing modes": a relative operand is counted from the
-- location after its word.)
use Rattle.std.specs.Prelude.{ℕ, ◌+◌, ◌%◌, [], ◌∷◌, ◌++◌}
use Rattle.m11_base.specs.Devices.{Bytes}
use Rattle.m11_obj_blocks.specs.Frames.{word_bytes}
use Rattle.m11_link_text.specs.Relocation.{following, less, modulo}
use Rattle.m11_scan_expressions.specs.declared.kinds.Kind.{Kind}
use Rattle.m11_scan_expressions.specs.declared.kinds.Kind.TheVariants as kind
use Rattle.m11_scan_expressions.specs.Quantities.{Quantity}
use Rattle.m11_cli_image.specs.Addresses.{Addresses}
use Rattle.m11_cli_image.specs.Stated.{Stated, PlainWord, PlainByte, ValueWord, ValueByte, DistanceWord, LimitWords}

-- the target of a value: the address at a distance in bytes from the start of the source's contribution to a section, or from a global; or
-- the number itself
abbrev pub target_by : Addresses → ℕ → ℕ → Kind → ℕ
target_by program source number (kind.Section name) = modulo (program.base source name + number)
target_by program source number (kind.Reference name) = modulo (program.global name + number)
target_by program source number other = number

abbrev pub target : Addresses → ℕ → Quantity → ℕ
target program source value = target_by program source value.number value.kind

-- the bytes of a stated value that lies at this address
abbrev pub stated_bytes : Addresses → ℕ → ℕ → Stated → Bytes
stated_bytes program source address (PlainWord number) = word_bytes number
stated_bytes program source address (PlainByte number) = (number % 256) ∷ []
stated_bytes program source address (ValueWord value) = word_bytes (target program source value)
stated_bytes program source address (ValueByte value) = (target program source value % 256) ∷ []
stated_bytes program source address (DistanceWord value) = word_bytes (less (target program source value) (following address))
stated_bytes program source address LimitWords = word_bytes program.bottom ++ word_bytes program.top
