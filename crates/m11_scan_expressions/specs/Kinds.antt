-- What values are relative to, and which of them operators may join. (MACRO-11 Language Reference Manual, "Evaluating relocatable and
-- absolute expressions". That registers may be joined with absolute numbers, and the value of operands that aren't allowed together, are
-- this project's own choices.)
use Rattle.std.specs.Prelude.{ℕ, Bool, true, false, if◌then◌else◌, Option, Some, None}
use Rattle.m11_base.specs.Rad50.{is_same_name}
use Rattle.m11_scan.specs.ErrorFlags.{flag_A}
use Rattle.m11_scan_expressions.specs.declared.kinds.Kind.{Kind}
use Rattle.m11_scan_expressions.specs.declared.kinds.Kind.TheVariants.{Absolute, Section, Register}
use Rattle.m11_scan_expressions.specs.declared.operators.Operator.{Operator}
use Rattle.m11_scan_expressions.specs.declared.operators.Operator.TheVariants.{Add, Subtract}

-- the kind of an operator's result, by this table; none for any other pair of kinds, which isn't allowed
--   +  an absolute number and any kind, on either side   that kind
--   -  any kind, less an absolute number                 that kind
--   -  two numbers of one section                        absolute
--   any operator, two absolute numbers                   absolute
abbrev pub kind_of : Operator → Kind → Kind → Option Kind
kind_of Add kind Absolute = Some kind
kind_of Add Absolute kind = Some kind
kind_of Subtract kind Absolute = Some kind
kind_of Subtract (Section one) (Section other) = if is_same_name one other then Some Absolute else None
kind_of operator Absolute Absolute = Some Absolute
kind_of operator left right = None

abbrev pub is_absolute : Kind → Bool
is_absolute Absolute = true
is_absolute kind = false

abbrev pub is_register : Kind → Bool
is_register Register = true
is_register kind = false

-- the set of flags that has only R
abbrev pub flag_R : ℕ
flag_R = 0o4000

-- the flag of operands that aren't allowed: R if one of them is a register, otherwise A
abbrev pub refusal : Bool → ℕ
refusal has_register = if has_register then flag_R else flag_A
