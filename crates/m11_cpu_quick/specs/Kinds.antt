-- The kinds of instructions that have an arm of their own in the loop of quick steps. (This project's own.)
use Rattle.std.specs.Prelude.{◌≡◌, ℕ, ◌/◌, ◌%◌, ◌<◌, Some, true, false}
use Rattle.m11_base.specs.Instructions.{meaning}
use Rattle.m11_base.specs.Operand.{operand_of}
use Rattle.m11_base.specs.OperationTables.{operation_by_tables}
use Rattle.m11_base.specs.declared.instruction.BranchOp.{BranchOp}
use Rattle.m11_base.specs.declared.instruction.BranchOp.TheVariants as branch
use Rattle.m11_base.specs.declared.instruction.ConditionCodes.{ConditionCodes}
use Rattle.m11_base.specs.declared.instruction.ConditionOp.{ConditionOp}
use Rattle.m11_base.specs.declared.instruction.ConditionOp.TheVariants.{Clear, Set}
use Rattle.m11_base.specs.declared.instruction.DoubleOp.{DoubleOp}
use Rattle.m11_base.specs.declared.instruction.DoubleOp.TheVariants.{Add, Bic, Bis, Bit, Cmp, Mov, Sub}
use Rattle.m11_base.specs.declared.instruction.ExtendedOp.TheVariants.{Mul}
use Rattle.m11_base.specs.declared.instruction.Insn.TheVariants as instruction
use Rattle.m11_base.specs.declared.instruction.Op.TheVariants as op
use Rattle.m11_base.specs.declared.instruction.RegisterOp.TheVariants.{Jsr}
use Rattle.m11_base.specs.declared.instruction.SingleOp.{SingleOp}
use Rattle.m11_base.specs.declared.instruction.SingleOp.TheVariants.{Adc, Asl, Asr, Clr, Com, Dec, Inc, Jmp, Neg, Rol, Ror, Sbc, Swab, Sxt, Tst}
use Rattle.m11_base.specs.declared.operand.Size.{Size}
use Rattle.m11_base.specs.declared.operand.Size.TheVariants.{Word, Byte}
use Rattle.m11_cpu_quick.specs.Forms.{IsForm}
use Rattle.m11_cpu_quick.specs.declared.double_kinds.DoubleKind.{DoubleKind}
use Rattle.m11_cpu_quick.specs.declared.double_kinds.DoubleKind.TheVariants as two
use Rattle.m11_cpu_quick.specs.declared.forms.Form.{Form}
use Rattle.m11_cpu_quick.specs.declared.forms.Form.TheVariants as form
use Rattle.m11_cpu_quick.specs.declared.kinds.Kind.{Kind}
use Rattle.m11_cpu_quick.specs.declared.kinds.Kind.TheVariants as kind

-- the word is the code of this double operand instruction, with operands of these forms
pub record IsDouble (operation : DoubleOp) (size : Size) (source destination : Form) (word : ℕ) : Type 0 where
  pub operation_is : operation_by_tables word ≡ Some (op.Double operation size)
  pub source_is : IsForm source size (operand_of (word / 0o100 % 0o100))
  pub destination_is : IsForm destination size (operand_of (word % 0o100))

-- the word is the code of this single operand instruction, with an operand of this form
pub record IsSingle (operation : SingleOp) (size : Size) (form : Form) (word : ℕ) : Type 0 where
  pub operation_is : operation_by_tables word ≡ Some (op.Single operation size)
  pub operand_is : IsForm form size (operand_of (word % 0o100))

-- the word is the code of this branch
abbrev pub IsBranch : BranchOp → ℕ → Type 0
IsBranch operation word = operation_by_tables word ≡ Some (op.Branch operation)

-- the word is the code of an SOB whose register isn't the program counter
pub record IsCount (word : ℕ) : Type 0 where
  pub operation_is : operation_by_tables word ≡ Some op.Sob
  pub general : word / 0o100 % 0o10 < 7

-- the word is the code of a JSR PC with an operand of this form
pub record IsCall (form : Form) (word : ℕ) : Type 0 where
  pub operation_is : operation_by_tables word ≡ Some (op.Register Jsr)
  pub counter : word / 0o100 % 0o10 ≡ 7
  pub operand_is : IsForm form Word (operand_of (word % 0o100))

-- the word is the code of an RTS PC
pub record IsReturn (word : ℕ) : Type 0 where
  pub operation_is : operation_by_tables word ≡ Some op.Rts
  pub counter : word % 0o10 ≡ 7

-- the condition codes that CLC and SEC name: C alone
abbrev pub carry_alone : ConditionCodes
carry_alone = record { negative = false; zero = false; overflow = false; carry = true }

abbrev pub IsOnCarry : ConditionOp → ℕ → Type 0
IsOnCarry operation word = meaning (operation_by_tables word) word ≡ instruction.Condition operation carry_alone

-- the word is the code of a MUL of one of R0 to R5, with a source of this form
pub record IsProduct (source : Form) (word : ℕ) : Type 0 where
  pub operation_is : operation_by_tables word ≡ Some (op.Extended Mul)
  pub general : word / 0o100 % 0o10 < 6
  pub source_is : IsForm source Word (operand_of (word % 0o100))

-- a kind describes a word: the word is the code of a double operand instruction with the kind's operation and operand forms;
-- `Rarer` describes every word
abbrev pub DescribesDouble : DoubleKind → ℕ → Type 0
DescribesDouble two.MovRegisterRegister word = IsDouble Mov Word form.Register form.Register word
DescribesDouble two.MovDeferredRegister word = IsDouble Mov Word form.Deferred form.Register word
DescribesDouble two.MovIncrementRegister word = IsDouble Mov Word form.Increment form.Register word
DescribesDouble two.MovIndexRegister word = IsDouble Mov Word form.Index form.Register word
DescribesDouble two.MovIndexPointerRegister word = IsDouble Mov Word form.IndexPointer form.Register word
DescribesDouble two.MovAbsoluteRegister word = IsDouble Mov Word form.Absolute form.Register word
DescribesDouble two.MovRelativeRegister word = IsDouble Mov Word form.Relative form.Register word
DescribesDouble two.MovImmediateRegister word = IsDouble Mov Word form.Immediate form.Register word
DescribesDouble two.MovRegisterDeferred word = IsDouble Mov Word form.Register form.Deferred word
DescribesDouble two.MovRegisterIncrement word = IsDouble Mov Word form.Register form.Increment word
DescribesDouble two.MovRegisterDecrement word = IsDouble Mov Word form.Register form.Decrement word
DescribesDouble two.MovRegisterIndex word = IsDouble Mov Word form.Register form.Index word
DescribesDouble two.MovRegisterAbsolute word = IsDouble Mov Word form.Register form.Absolute word
DescribesDouble two.MovRegisterRelative word = IsDouble Mov Word form.Register form.Relative word
DescribesDouble two.MovDeferredDeferred word = IsDouble Mov Word form.Deferred form.Deferred word
DescribesDouble two.MovDeferredDecrement word = IsDouble Mov Word form.Deferred form.Decrement word
DescribesDouble two.MovIncrementDeferred word = IsDouble Mov Word form.Increment form.Deferred word
DescribesDouble two.MovIncrementIncrement word = IsDouble Mov Word form.Increment form.Increment word
DescribesDouble two.MovIncrementIndex word = IsDouble Mov Word form.Increment form.Index word
DescribesDouble two.MovIndexDeferred word = IsDouble Mov Word form.Index form.Deferred word
DescribesDouble two.MovIndexDecrement word = IsDouble Mov Word form.Index form.Decrement word
DescribesDouble two.MovIndexIndex word = IsDouble Mov Word form.Index form.Index word
DescribesDouble two.MovRelativeDecrement word = IsDouble Mov Word form.Relative form.Decrement word
DescribesDouble two.MovImmediateDeferred word = IsDouble Mov Word form.Immediate form.Deferred word
DescribesDouble two.MovImmediateDecrement word = IsDouble Mov Word form.Immediate form.Decrement word
DescribesDouble two.MovImmediateIndex word = IsDouble Mov Word form.Immediate form.Index word
DescribesDouble two.MovImmediateAbsolute word = IsDouble Mov Word form.Immediate form.Absolute word
DescribesDouble two.MovImmediateRelative word = IsDouble Mov Word form.Immediate form.Relative word
DescribesDouble two.CmpRegisterRegister word = IsDouble Cmp Word form.Register form.Register word
DescribesDouble two.CmpDeferredRegister word = IsDouble Cmp Word form.Deferred form.Register word
DescribesDouble two.CmpIncrementRegister word = IsDouble Cmp Word form.Increment form.Register word
DescribesDouble two.CmpIndexRegister word = IsDouble Cmp Word form.Index form.Register word
DescribesDouble two.CmpRelativeRegister word = IsDouble Cmp Word form.Relative form.Register word
DescribesDouble two.CmpImmediateRegister word = IsDouble Cmp Word form.Immediate form.Register word
DescribesDouble two.CmpRegisterIndex word = IsDouble Cmp Word form.Register form.Index word
DescribesDouble two.CmpRegisterRelative word = IsDouble Cmp Word form.Register form.Relative word
DescribesDouble two.CmpRegisterImmediate word = IsDouble Cmp Word form.Register form.Immediate word
DescribesDouble two.CmpIncrementIncrement word = IsDouble Cmp Word form.Increment form.Increment word
DescribesDouble two.CmpIndexIndex word = IsDouble Cmp Word form.Index form.Index word
DescribesDouble two.CmpIndexImmediate word = IsDouble Cmp Word form.Index form.Immediate word
DescribesDouble two.BitRegisterRegister word = IsDouble Bit Word form.Register form.Register word
DescribesDouble two.BitImmediateRegister word = IsDouble Bit Word form.Immediate form.Register word
DescribesDouble two.BitImmediateIndex word = IsDouble Bit Word form.Immediate form.Index word
DescribesDouble two.BicRegisterRegister word = IsDouble Bic Word form.Register form.Register word
DescribesDouble two.BicImmediateRegister word = IsDouble Bic Word form.Immediate form.Register word
DescribesDouble two.BisRegisterRegister word = IsDouble Bis Word form.Register form.Register word
DescribesDouble two.BisIndexRegister word = IsDouble Bis Word form.Index form.Register word
DescribesDouble two.BisImmediateRegister word = IsDouble Bis Word form.Immediate form.Register word
DescribesDouble two.AddRegisterRegister word = IsDouble Add Word form.Register form.Register word
DescribesDouble two.AddDeferredRegister word = IsDouble Add Word form.Deferred form.Register word
DescribesDouble two.AddIncrementRegister word = IsDouble Add Word form.Increment form.Register word
DescribesDouble two.AddIndexRegister word = IsDouble Add Word form.Index form.Register word
DescribesDouble two.AddRelativeRegister word = IsDouble Add Word form.Relative form.Register word
DescribesDouble two.AddImmediateRegister word = IsDouble Add Word form.Immediate form.Register word
DescribesDouble two.AddRegisterIndex word = IsDouble Add Word form.Register form.Index word
DescribesDouble two.AddRegisterRelative word = IsDouble Add Word form.Register form.Relative word
DescribesDouble two.AddImmediateIndex word = IsDouble Add Word form.Immediate form.Index word
DescribesDouble two.MovbRegisterRegister word = IsDouble Mov Byte form.Register form.Register word
DescribesDouble two.MovbDeferredRegister word = IsDouble Mov Byte form.Deferred form.Register word
DescribesDouble two.MovbIncrementRegister word = IsDouble Mov Byte form.Increment form.Register word
DescribesDouble two.MovbIndexRegister word = IsDouble Mov Byte form.Index form.Register word
DescribesDouble two.MovbIndexPointerRegister word = IsDouble Mov Byte form.IndexPointer form.Register word
DescribesDouble two.MovbRegisterDeferred word = IsDouble Mov Byte form.Register form.Deferred word
DescribesDouble two.MovbRegisterIncrement word = IsDouble Mov Byte form.Register form.Increment word
DescribesDouble two.MovbRegisterIndex word = IsDouble Mov Byte form.Register form.Index word
DescribesDouble two.MovbIncrementIncrement word = IsDouble Mov Byte form.Increment form.Increment word
DescribesDouble two.MovbDecrementIncrement word = IsDouble Mov Byte form.Decrement form.Increment word
DescribesDouble two.MovbIndexDeferred word = IsDouble Mov Byte form.Index form.Deferred word
DescribesDouble two.MovbIndexIncrement word = IsDouble Mov Byte form.Index form.Increment word
DescribesDouble two.MovbImmediateDeferred word = IsDouble Mov Byte form.Immediate form.Deferred word
DescribesDouble two.MovbImmediateIndex word = IsDouble Mov Byte form.Immediate form.Index word
DescribesDouble two.CmpbRegisterRegister word = IsDouble Cmp Byte form.Register form.Register word
DescribesDouble two.CmpbRegisterIndex word = IsDouble Cmp Byte form.Register form.Index word
DescribesDouble two.CmpbRegisterImmediate word = IsDouble Cmp Byte form.Register form.Immediate word
DescribesDouble two.CmpbDeferredImmediate word = IsDouble Cmp Byte form.Deferred form.Immediate word
DescribesDouble two.CmpbIncrementIncrement word = IsDouble Cmp Byte form.Increment form.Increment word
DescribesDouble two.CmpbIncrementImmediate word = IsDouble Cmp Byte form.Increment form.Immediate word
DescribesDouble two.CmpbIndexImmediate word = IsDouble Cmp Byte form.Index form.Immediate word
DescribesDouble two.BicbImmediateDeferred word = IsDouble Bic Byte form.Immediate form.Deferred word
DescribesDouble two.SubRegisterRegister word = IsDouble Sub Word form.Register form.Register word
DescribesDouble two.SubIncrementRegister word = IsDouble Sub Word form.Increment form.Register word
DescribesDouble two.SubIndexRegister word = IsDouble Sub Word form.Index form.Register word
DescribesDouble two.SubImmediateRegister word = IsDouble Sub Word form.Immediate form.Register word
DescribesDouble two.Rarer word = Unit {0}

-- a kind describes a word: the word is the code of an instruction with the kind's operation and operand forms; `Rarer` and `Unseen`
-- describe every word
abbrev pub Describes : Kind → ℕ → Type 0
Describes (kind.Double double) word = DescribesDouble double word
Describes kind.ClrRegister word = IsSingle Clr Word form.Register word
Describes kind.ClrDeferred word = IsSingle Clr Word form.Deferred word
Describes kind.ClrIncrement word = IsSingle Clr Word form.Increment word
Describes kind.ClrDecrement word = IsSingle Clr Word form.Decrement word
Describes kind.ClrIndex word = IsSingle Clr Word form.Index word
Describes kind.ClrRelative word = IsSingle Clr Word form.Relative word
Describes kind.ComRegister word = IsSingle Com Word form.Register word
Describes kind.IncRegister word = IsSingle Inc Word form.Register word
Describes kind.IncDeferred word = IsSingle Inc Word form.Deferred word
Describes kind.IncIndex word = IsSingle Inc Word form.Index word
Describes kind.IncAbsolute word = IsSingle Inc Word form.Absolute word
Describes kind.IncRelative word = IsSingle Inc Word form.Relative word
Describes kind.DecRegister word = IsSingle Dec Word form.Register word
Describes kind.DecDeferred word = IsSingle Dec Word form.Deferred word
Describes kind.DecIndex word = IsSingle Dec Word form.Index word
Describes kind.DecRelative word = IsSingle Dec Word form.Relative word
Describes kind.NegRegister word = IsSingle Neg Word form.Register word
Describes kind.AdcRegister word = IsSingle Adc Word form.Register word
Describes kind.AdcIndex word = IsSingle Adc Word form.Index word
Describes kind.SbcRegister word = IsSingle Sbc Word form.Register word
Describes kind.TstRegister word = IsSingle Tst Word form.Register word
Describes kind.TstDeferred word = IsSingle Tst Word form.Deferred word
Describes kind.TstIncrement word = IsSingle Tst Word form.Increment word
Describes kind.TstIndex word = IsSingle Tst Word form.Index word
Describes kind.TstRelative word = IsSingle Tst Word form.Relative word
Describes kind.RorRegister word = IsSingle Ror Word form.Register word
Describes kind.RorIndex word = IsSingle Ror Word form.Index word
Describes kind.RolRegister word = IsSingle Rol Word form.Register word
Describes kind.RolIndex word = IsSingle Rol Word form.Index word
Describes kind.AsrRegister word = IsSingle Asr Word form.Register word
Describes kind.AslRegister word = IsSingle Asl Word form.Register word
Describes kind.AslIndex word = IsSingle Asl Word form.Index word
Describes kind.SxtRegister word = IsSingle Sxt Word form.Register word
Describes kind.SwabRegister word = IsSingle Swab Word form.Register word
Describes kind.ClrbRegister word = IsSingle Clr Byte form.Register word
Describes kind.CombRegister word = IsSingle Com Byte form.Register word
Describes kind.IncbRegister word = IsSingle Inc Byte form.Register word
Describes kind.DecbRegister word = IsSingle Dec Byte form.Register word
Describes kind.NegbRegister word = IsSingle Neg Byte form.Register word
Describes kind.TstbRegister word = IsSingle Tst Byte form.Register word
Describes kind.TstbDeferred word = IsSingle Tst Byte form.Deferred word
Describes kind.TstbIncrement word = IsSingle Tst Byte form.Increment word
Describes kind.TstbIndex word = IsSingle Tst Byte form.Index word
Describes kind.Br word = IsBranch branch.Br word
Describes kind.Bne word = IsBranch branch.Bne word
Describes kind.Beq word = IsBranch branch.Beq word
Describes kind.Bge word = IsBranch branch.Bge word
Describes kind.Blt word = IsBranch branch.Blt word
Describes kind.Bgt word = IsBranch branch.Bgt word
Describes kind.Ble word = IsBranch branch.Ble word
Describes kind.Bpl word = IsBranch branch.Bpl word
Describes kind.Bmi word = IsBranch branch.Bmi word
Describes kind.Bhi word = IsBranch branch.Bhi word
Describes kind.Blos word = IsBranch branch.Blos word
Describes kind.Bvc word = IsBranch branch.Bvc word
Describes kind.Bvs word = IsBranch branch.Bvs word
Describes kind.Bcc word = IsBranch branch.Bcc word
Describes kind.Bcs word = IsBranch branch.Bcs word
Describes kind.Sob word = IsCount word
Describes kind.JmpDeferred word = IsSingle Jmp Word form.Deferred word
Describes kind.JmpIndex word = IsSingle Jmp Word form.Index word
Describes kind.JmpAbsolute word = IsSingle Jmp Word form.Absolute word
Describes kind.JmpRelative word = IsSingle Jmp Word form.Relative word
Describes kind.JsrDeferred word = IsCall form.Deferred word
Describes kind.JsrIndex word = IsCall form.Index word
Describes kind.JsrAbsolute word = IsCall form.Absolute word
Describes kind.JsrRelative word = IsCall form.Relative word
Describes kind.Rts word = IsReturn word
Describes kind.Clc word = IsOnCarry Clear word
Describes kind.Sec word = IsOnCarry Set word
Describes kind.MulRegister word = IsProduct form.Register word
Describes kind.MulDeferred word = IsProduct form.Deferred word
Describes kind.MulIncrement word = IsProduct form.Increment word
Describes kind.MulIndex word = IsProduct form.Index word
Describes kind.MulAbsolute word = IsProduct form.Absolute word
Describes kind.MulRelative word = IsProduct form.Relative word
Describes kind.MulImmediate word = IsProduct form.Immediate word
Describes kind.Rarer word = Unit {0}
Describes kind.Unseen word = Unit {0}
