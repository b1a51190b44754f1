-- The contents of the tables from the octal digits of a code to its operation. (PDP-11/40 Processor Handbook,
-- "Instruction set".)
use Rattle.std.specs.Prelude.{ℕ, ◌/◌, ◌%◌, ◌==◌, if◌then◌else◌, List, [], ◌∷◌, Option, Some, None, slice_index_or}
use Rattle.m11_base.specs.declared.instruction.DoubleOp.TheVariants.{Mov, Cmp, Bit, Bic, Bis, Add, Sub}
use Rattle.m11_base.specs.declared.instruction.ExtendedOp.TheVariants.{Mul, Div, Ash, Ashc}
use Rattle.m11_base.specs.declared.instruction.RegisterOp.TheVariants.{Jsr, Xor}
use Rattle.m11_base.specs.declared.instruction.SingleOp.TheVariants.{Jmp, Swab, Clr, Com, Inc, Dec, Neg, Adc, Sbc, Tst, Ror, Rol, Asr, Asl, Sxt}
use Rattle.m11_base.specs.declared.instruction.NumberOp.TheVariants.{Mark, Emt, Trap}
use Rattle.m11_base.specs.declared.instruction.BareOp.TheVariants.{Halt, Wait, Rti, Bpt, Iot, Reset, Rtt}
use Rattle.m11_base.specs.declared.instruction.ConditionOp.TheVariants.{Clear, Set}
use Rattle.m11_base.specs.declared.instruction.BranchOp.TheVariants.{Br, Bne, Beq, Bge, Blt, Bgt, Ble, Bpl, Bmi, Bhi, Blos, Bvc, Bvs, Bcc, Bcs}
use Rattle.m11_base.specs.declared.instruction.Op.{Op}
use Rattle.m11_base.specs.declared.instruction.Op.TheVariants as op
use Rattle.m11_base.specs.declared.operand.Size.TheVariants.{Word, Byte}

unfoldable pub doubles : List (Option Op)
doubles =
    None ∷ Some (op.Double Mov Word) ∷ Some (op.Double Cmp Word) ∷ Some (op.Double Bit Word) ∷
    Some (op.Double Bic Word) ∷ Some (op.Double Bis Word) ∷ Some (op.Double Add Word) ∷ None ∷
    None ∷ Some (op.Double Mov Byte) ∷ Some (op.Double Cmp Byte) ∷ Some (op.Double Bit Byte) ∷
    Some (op.Double Bic Byte) ∷ Some (op.Double Bis Byte) ∷ Some (op.Double Sub Word) ∷ None ∷ []

unfoldable pub extended : List (Option Op)
extended =
    Some (op.Extended Mul) ∷ Some (op.Extended Div) ∷ Some (op.Extended Ash) ∷ Some (op.Extended Ashc) ∷
    Some (op.Register Xor) ∷ None ∷ None ∷ Some op.Sob ∷ []

unfoldable pub bare : List (Option Op)
bare =
    Some (op.Bare Halt) ∷ Some (op.Bare Wait) ∷ Some (op.Bare Rti) ∷ Some (op.Bare Bpt) ∷
    Some (op.Bare Iot) ∷ Some (op.Bare Reset) ∷ Some (op.Bare Rtt) ∷ None ∷ []

unfoldable pub last : List (Option Op)
last =
    Some op.Rts ∷ None ∷ None ∷ None ∷
    Some (op.Condition Clear) ∷ Some (op.Condition Clear) ∷ Some (op.Condition Set) ∷ Some (op.Condition Set) ∷ []

unfoldable pub low : List (Option Op)
low =
    None ∷ Some (op.Single Jmp Word) ∷ None ∷ Some (op.Single Swab Word) ∷
    Some (op.Branch Br) ∷ Some (op.Branch Br) ∷ Some (op.Branch Br) ∷ Some (op.Branch Br) ∷
    Some (op.Branch Bne) ∷ Some (op.Branch Bne) ∷ Some (op.Branch Bne) ∷ Some (op.Branch Bne) ∷
    Some (op.Branch Beq) ∷ Some (op.Branch Beq) ∷ Some (op.Branch Beq) ∷ Some (op.Branch Beq) ∷
    Some (op.Branch Bge) ∷ Some (op.Branch Bge) ∷ Some (op.Branch Bge) ∷ Some (op.Branch Bge) ∷
    Some (op.Branch Blt) ∷ Some (op.Branch Blt) ∷ Some (op.Branch Blt) ∷ Some (op.Branch Blt) ∷
    Some (op.Branch Bgt) ∷ Some (op.Branch Bgt) ∷ Some (op.Branch Bgt) ∷ Some (op.Branch Bgt) ∷
    Some (op.Branch Ble) ∷ Some (op.Branch Ble) ∷ Some (op.Branch Ble) ∷ Some (op.Branch Ble) ∷
    Some (op.Register Jsr) ∷ Some (op.Register Jsr) ∷ Some (op.Register Jsr) ∷ Some (op.Register Jsr) ∷
    Some (op.Register Jsr) ∷ Some (op.Register Jsr) ∷ Some (op.Register Jsr) ∷ Some (op.Register Jsr) ∷
    Some (op.Single Clr Word) ∷ Some (op.Single Com Word) ∷ Some (op.Single Inc Word) ∷ Some (op.Single Dec Word) ∷
    Some (op.Single Neg Word) ∷ Some (op.Single Adc Word) ∷ Some (op.Single Sbc Word) ∷ Some (op.Single Tst Word) ∷
    Some (op.Single Ror Word) ∷ Some (op.Single Rol Word) ∷ Some (op.Single Asr Word) ∷ Some (op.Single Asl Word) ∷
    Some (op.Number Mark) ∷ None ∷ None ∷ Some (op.Single Sxt Word) ∷
    None ∷ None ∷ None ∷ None ∷
    None ∷ None ∷ None ∷ None ∷ []

unfoldable pub high : List (Option Op)
high =
    Some (op.Branch Bpl) ∷ Some (op.Branch Bpl) ∷ Some (op.Branch Bpl) ∷ Some (op.Branch Bpl) ∷
    Some (op.Branch Bmi) ∷ Some (op.Branch Bmi) ∷ Some (op.Branch Bmi) ∷ Some (op.Branch Bmi) ∷
    Some (op.Branch Bhi) ∷ Some (op.Branch Bhi) ∷ Some (op.Branch Bhi) ∷ Some (op.Branch Bhi) ∷
    Some (op.Branch Blos) ∷ Some (op.Branch Blos) ∷ Some (op.Branch Blos) ∷ Some (op.Branch Blos) ∷
    Some (op.Branch Bvc) ∷ Some (op.Branch Bvc) ∷ Some (op.Branch Bvc) ∷ Some (op.Branch Bvc) ∷
    Some (op.Branch Bvs) ∷ Some (op.Branch Bvs) ∷ Some (op.Branch Bvs) ∷ Some (op.Branch Bvs) ∷
    Some (op.Branch Bcc) ∷ Some (op.Branch Bcc) ∷ Some (op.Branch Bcc) ∷ Some (op.Branch Bcc) ∷
    Some (op.Branch Bcs) ∷ Some (op.Branch Bcs) ∷ Some (op.Branch Bcs) ∷ Some (op.Branch Bcs) ∷
    Some (op.Number Emt) ∷ Some (op.Number Emt) ∷ Some (op.Number Emt) ∷ Some (op.Number Emt) ∷
    Some (op.Number Trap) ∷ Some (op.Number Trap) ∷ Some (op.Number Trap) ∷ Some (op.Number Trap) ∷
    Some (op.Single Clr Byte) ∷ Some (op.Single Com Byte) ∷ Some (op.Single Inc Byte) ∷ Some (op.Single Dec Byte) ∷
    Some (op.Single Neg Byte) ∷ Some (op.Single Adc Byte) ∷ Some (op.Single Sbc Byte) ∷ Some (op.Single Tst Byte) ∷
    Some (op.Single Ror Byte) ∷ Some (op.Single Rol Byte) ∷ Some (op.Single Asr Byte) ∷ Some (op.Single Asl Byte) ∷
    None ∷ None ∷ None ∷ None ∷
    None ∷ None ∷ None ∷ None ∷
    None ∷ None ∷ None ∷ None ∷ []

-- the operation of a word 00xxxx whose third and fourth octal digits are these, if there is one
abbrev pub with_next_digits : ℕ → ℕ → Option Op
with_next_digits digits word =
    if digits == 0o00 then slice_index_or bare word None
    else if digits == 0o02 then slice_index_or last (word / 0o10 % 0o10) None
    else slice_index_or low digits None

-- the operation of a word whose first two octal digits are these, if there is one
abbrev pub with_first_digits : ℕ → ℕ → Option Op
with_first_digits digits word =
    if digits == 0o00 then with_next_digits (word / 0o100) word
    else if digits == 0o07 then slice_index_or extended (word / 0o1000 % 0o10) None
    else if digits == 0o10 then slice_index_or high (word / 0o100 % 0o100) None
    else slice_index_or doubles digits None

abbrev pub operation_by_tables : ℕ → Option Op
operation_by_tables word = with_first_digits (word / 0o10000) word
