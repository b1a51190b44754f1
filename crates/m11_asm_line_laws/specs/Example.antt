-- One line, and all that is read from it. (MACRO-11 Language Reference Manual, "Source program format" and "Addressing modes".)
--
--     0  3    8     14     21
--     L:: MOV (R1)+,@-(R2) ;X
use Rattle.std.specs.Prelude.{[], ◌∷◌, codes}
use Rattle.m11_base.specs.Devices.{Bytes}
use Rattle.m11_base.specs.declared.instruction.DoubleOp.TheVariants.{Mov}
use Rattle.m11_base.specs.declared.instruction.Op.{Op}
use Rattle.m11_base.specs.declared.instruction.Op.TheVariants.{Double}
use Rattle.m11_base.specs.declared.operand.Mode.TheVariants.{AutodecrementDeferred, Autoincrement}
use Rattle.m11_base.specs.declared.operand.Size.TheVariants.{Word}
use Rattle.m11_scan.specs.declared.sort.Sort.TheVariants.{Name}
use Rattle.m11_scan_expressions.specs.Tokens.{Expression}
use Rattle.m11_scan_statements.specs.declared.labels.Label.{Label}
use Rattle.m11_scan_statements.specs.declared.labels.LabelKind.TheVariants.{Global}
use Rattle.m11_asm_rules.specs.Fields.{Fields}
use Rattle.m11_asm_rules.specs.declared.fields.Field.TheVariants.{Operand}
use Rattle.m11_asm_rules.specs.declared.operands.Form.TheVariants.{InRegister}

abbrev pub example : Bytes
example = codes "L:: MOV (R1)+,@-(R2) ;X"

-- the label `L`, which its two colons make global
abbrev pub global_label : Label
global_label = record { kind = Global; name = record { start = 0; end = 1 }; end = 3 }

abbrev pub move_words : Op
move_words = Double Mov Word

-- an expression that is one name
abbrev pub named : Bytes → Expression
named name = record { sort = Name; text = name } ∷ []

-- operands of the modes 2 and 5, and no flag
abbrev pub both_fields : Fields
both_fields = record {
  first = Operand (InRegister Autoincrement (named (codes "R1")));
  second = Operand (InRegister AutodecrementDeferred (named (codes "R2")));
  end = 20;
  flags = 0;
}
