-- The values of operations. (MACRO-11 Language Reference Manual, "Unary operators" and "Binary operators". That division is signed and
-- rounds towards 0, and that a division by 0 yields 0, flagged A, are this project's own choices.)
use Rattle.std.specs.Prelude.{ℕ, ◌+◌, ◌-◌, ◌*◌, ◌%◌, ◌==◌, ◌&&◌, ◌||◌, Bool, nat_lt, if◌then◌else◌, Option, Some, None, int_div}
use Rattle.std.specs.Int.{cast_signed, w16}
use Rattle.std.specs.Int.RustNames.{bit_and, bit_or}
use Rattle.m11_base.specs.Words.{modulo}
use Rattle.m11_scan.specs.ErrorFlags.{flag_A}
use Rattle.m11_scan_expressions.specs.declared.kinds.Kind.{Kind}
use Rattle.m11_scan_expressions.specs.declared.kinds.Kind.TheVariants.{Register}
use Rattle.m11_scan_expressions.specs.declared.operators.Operator.{Operator}
use Rattle.m11_scan_expressions.specs.declared.operators.Operator.TheVariants.{Add, Subtract, Multiply, Divide, And, Or}
use Rattle.m11_scan_expressions.specs.Kinds.{is_absolute, is_register, kind_of, flag_R, refusal}
use Rattle.m11_scan_expressions.specs.Quantities.{Quantity, absolute}

-- the quotient of two signed words, rounded towards 0 and taken modulo 65536; 0 if the divisor is 0
abbrev pub quotient : ℕ → ℕ → ℕ
quotient left right =
    if right == 0 then 0 else modulo 65536 (int_div (cast_signed w16 left) (cast_signed w16 right))

-- the number that an operator yields from two words, modulo 65536
abbrev pub number_of : Operator → ℕ → ℕ → ℕ
number_of Add left right = (left + right) % 65536
number_of Subtract left right = (left + 65536 - right) % 65536
number_of Multiply left right = (left * right) % 65536
number_of Divide left right = quotient left right
number_of And left right = bit_and left right
number_of Or left right = bit_or left right

-- A if the operator divides by 0, otherwise no flags
abbrev pub division_flags : Operator → ℕ → ℕ
division_flags Divide right = if right == 0 then flag_A else 0
division_flags operator right = 0

-- the value unchanged, but a register above 7 becomes an absolute number flagged R
abbrev pub limited : Quantity → Quantity
limited value =
    if is_register value.kind && nat_lt 7 value.number then absolute value.number (bit_or value.flags flag_R) else value

-- the value with this number and kind; a register above 7 becomes an absolute number flagged R; if there is no kind, the operands
-- aren't allowed together, and the value is absolute, flagged R if one of them is a register, otherwise A
abbrev pub settled : Option Kind → ℕ → ℕ → Bool → Quantity
settled (Some kind) number flags has_register = limited (record { number = number; kind = kind; flags = flags })
settled None number flags has_register = absolute number (bit_or flags (refusal has_register))

-- the value of an operator applied to two values, with the flags of both and of the operation
abbrev pub combined : Operator → Quantity → Quantity → Quantity
combined operator left right =
    settled (kind_of operator left.kind right.kind) (number_of operator left.number right.number)
    (bit_or (bit_or left.flags right.flags) (division_flags operator right.number))
    (is_register left.kind || is_register right.kind)

-- the flag of a value of this kind where only an absolute number is allowed: none for an absolute number, R for a register, A for
-- any other kind
abbrev pub absence : Kind → ℕ
absence kind = if is_absolute kind then 0 else refusal (is_register kind)

-- an absolute value with this number and the flags of the old value; if the old value isn't absolute, R is added for a register,
-- and A for another kind
abbrev pub replaced : Quantity → ℕ → Quantity
replaced value number = absolute number (bit_or value.flags (absence value.kind))

-- the value of `-` before a term with this value
abbrev pub negated : Quantity → Quantity
negated value = replaced value ((65536 - value.number) % 65536)

-- the value of `^C` before a term with this value
abbrev pub complemented : Quantity → Quantity
complemented value = replaced value (0o177777 - value.number)

-- the value of `%` before a term with this value: a register, or above 7 an absolute number flagged R; a term that isn't absolute
-- is flagged R if it is a register, otherwise A
abbrev pub as_register : Quantity → Quantity
as_register value =
    limited (record { number = value.number; kind = Register; flags = bit_or value.flags (absence value.kind) })
