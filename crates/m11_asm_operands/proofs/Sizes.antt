-- The size of an instruction follows from its fields, whatever their expressions are.
use Rattle.std.proofs.Common.{◌≡◌, ◌+◌, ◌*◌, ℕ, [], refl, ap, ◌∙◌, arith}
use Rattle.m11_base.specs.Devices.{Bytes}
use Rattle.m11_scan_expressions.specs.Tokens.{Expression}
use Rattle.m11_scan_expressions.specs.declared.exprs.Expr.{Expr}
use Rattle.m11_asm_rules.specs.Fields.{forms_of, with_form}
use Rattle.m11_asm_rules.specs.Operands.{instruction_size, words_of}
use Rattle.m11_asm_rules.specs.declared.fields.Field.{Field}
use Rattle.m11_asm_rules.specs.declared.fields.Field.TheVariants.{Operand, Register, Target, Number, Missing}
use Rattle.m11_asm_rules.specs.declared.operands.Form.{Form}
use Rattle.m11_asm_rules.specs.declared.operands.Form.TheVariants.{Absent, InRegister, Indexed, Unindexed, AfterCounter}
use Rattle.m11_asm_operands.specs.Reads.{bytes_in, field_model, fields_model, form_model}
use Rattle.m11_asm_operands.specs.declared.fields.Fields.{Fields}

pub words_seen : (line : Bytes) (form : Form Expr) → words_of form ≡ words_of (form_model line form)
words_seen line Absent = refl
words_seen line (InRegister kind register) = refl
words_seen line (Indexed kind register index) = refl
words_seen line (Unindexed register) = refl
words_seen line (AfterCounter kind number) = refl

bytes_seen : (line : Bytes) (field : Field Expr) → bytes_in field ≡ bytes_in (field_model line field)
bytes_seen line (Operand form) = ap (λ (n : ℕ). n * 2) (words_seen line form)
bytes_seen line (Register register) = refl
bytes_seen line (Target target) = refl
bytes_seen line (Number number) = refl
bytes_seen line Missing = refl

of_second : (second : Field Expression) → 2 + bytes_in second ≡ instruction_size (with_form second [])
of_second (Operand form) = omega arith
of_second (Register register) = refl
of_second (Target target) = refl
of_second (Number number) = refl
of_second Missing = refl

of_both : (first second : Field Expression)
    → 2 + bytes_in first + bytes_in second ≡ instruction_size (with_form first (with_form second []))
of_both (Operand form) second =
    let rest : 2 + bytes_in second ≡ instruction_size (with_form second []) = of_second second in
    omega (arith, rest)
of_both (Register register) second = of_second second
of_both (Target target) second = of_second second
of_both (Number number) second = of_second second
of_both Missing second = of_second second

pub size_of_model : (line : Bytes) (fields : Fields)
    → 2 + bytes_in fields.first + bytes_in fields.second ≡ instruction_size (forms_of (fields_model line fields))
size_of_model line fields =
    ap (λ (n : ℕ). 2 + n + bytes_in fields.second) (bytes_seen line fields.first)
    ∙ ap (λ (n : ℕ). 2 + bytes_in (field_model line fields.first) + n) (bytes_seen line fields.second)
    ∙ of_both (field_model line fields.first) (field_model line fields.second)
