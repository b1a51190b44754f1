-- The tables lead from the code of an instruction that fits back to that instruction.
use Rattle.std.proofs.Common.{◌≡◌, ℕ, ℤ, zero, suc, ◌+◌, ◌*◌, ◌/◌, ◌%◌, ◌<◌, ◌≤◌, Bool, true, false, Option, Some, None, refl, ap, ◌∙◌, arith}
use Rattle.std.specs.Prelude.{slice_index_or}
use Rattle.std.specs.Int.{cast_signed, cast_unsigned, from_bool, w8}
use Rattle.std.specs.Prelude.{⊤, FitsSigned}
use Rattle.std.proofs.lemmas.Bool.{false≢true, ltb-true}
use Rattle.std.proofs.lemmas.Int.{to_z-of_z}
use Rattle.std.proofs.Math.Facts.{Fits-lt-pow, Fits-of_z}
use Rattle.m11_base.specs.declared.instruction.DoubleOp.{DoubleOp}
use Rattle.m11_base.specs.declared.instruction.ExtendedOp.{ExtendedOp}
use Rattle.m11_base.specs.declared.instruction.RegisterOp.{RegisterOp}
use Rattle.m11_base.specs.declared.instruction.SingleOp.{SingleOp}
use Rattle.m11_base.specs.declared.instruction.NumberOp.{NumberOp}
use Rattle.m11_base.specs.declared.instruction.BareOp.{BareOp}
use Rattle.m11_base.specs.declared.instruction.ConditionOp.{ConditionOp}
use Rattle.m11_base.specs.declared.instruction.BranchOp.{BranchOp}
use Rattle.m11_base.specs.declared.instruction.DoubleOp.TheVariants.{Mov, Cmp, Bit, Bic, Bis, Add, Sub}
use Rattle.m11_base.specs.declared.instruction.ExtendedOp.TheVariants.{Mul, Div, Ash, Ashc}
use Rattle.m11_base.specs.declared.instruction.RegisterOp.TheVariants.{Jsr, Xor}
use Rattle.m11_base.specs.declared.instruction.SingleOp.TheVariants.{Jmp, Swab, Clr, Com, Inc, Dec, Neg, Adc, Sbc, Tst, Ror, Rol, Asr, Asl, Sxt}
use Rattle.m11_base.specs.declared.instruction.NumberOp.TheVariants.{Mark, Emt, Trap}
use Rattle.m11_base.specs.declared.instruction.BareOp.TheVariants.{Halt, Wait, Rti, Bpt, Iot, Reset, Rtt}
use Rattle.m11_base.specs.declared.instruction.ConditionOp.TheVariants.{Clear, Set}
use Rattle.m11_base.specs.declared.instruction.BranchOp.TheVariants.{Br, Bne, Beq, Bge, Blt, Bgt, Ble, Bpl, Bmi, Bhi, Blos, Bvc, Bvs, Bcc, Bcs}
use Rattle.m11_base.specs.declared.instruction.ConditionCodes.{ConditionCodes}
use Rattle.m11_base.specs.declared.instruction.Insn.{Insn}
use Rattle.m11_base.specs.declared.instruction.Insn.TheVariants as insn
use Rattle.m11_base.specs.declared.operand.Size.{Size}
use Rattle.m11_base.specs.declared.operand.Size.TheVariants.{Word, Byte}
use Rattle.m11_base.specs.declared.instruction.Op.{Op}
use Rattle.m11_base.specs.declared.instruction.Op.TheVariants as op
use Rattle.m11_base.specs.declared.operand.Mode.{Mode}
use Rattle.m11_base.specs.declared.operand.Mode.TheVariants as mode
use Rattle.m11_base.specs.declared.operand.Operand.{Operand}
use Rattle.m11_base.specs.declared.operand.Register.{Register}
use Rattle.m11_base.specs.declared.operand.Register.TheVariants.{R0, R1, R2, R3, R4, R5, Sp, Pc}
use Rattle.m11_base.specs.Operand.{modes, mode_code, operand_code, operand_of, register_number, register_of}
use Rattle.m11_base.specs.Instructions.{meaning}
use Rattle.m11_base.specs.Encoding.{double_value, extended_value, register_value, single_value, number_value, bare_value, condition_value, branch_value, size_value, condition_bits, code_of, has_double, has_single, number_limit, fits, IsHeld}
use Rattle.m11_base.specs.OperationTables.{operation_by_tables, with_first_digits, with_next_digits, doubles, extended, bare, last, low, high}

-- ---- operands

pub mode_below : (m : Mode) → mode_code m < 8
mode_below mode.Register = omega arith
mode_below mode.RegisterDeferred = omega arith
mode_below mode.Autoincrement = omega arith
mode_below mode.AutoincrementDeferred = omega arith
mode_below mode.Autodecrement = omega arith
mode_below mode.AutodecrementDeferred = omega arith
mode_below mode.Index = omega arith
mode_below mode.IndexDeferred = omega arith

mode_again : (m : Mode) → slice_index_or modes (mode_code m) mode.Register ≡ m
mode_again mode.Register = refl
mode_again mode.RegisterDeferred = refl
mode_again mode.Autoincrement = refl
mode_again mode.AutoincrementDeferred = refl
mode_again mode.Autodecrement = refl
mode_again mode.AutodecrementDeferred = refl
mode_again mode.Index = refl
mode_again mode.IndexDeferred = refl

pub register_below : (r : Register) → register_number r < 8
register_below R0 = omega arith
register_below R1 = omega arith
register_below R2 = omega arith
register_below R3 = omega arith
register_below R4 = omega arith
register_below R5 = omega arith
register_below Sp = omega arith
register_below Pc = omega arith

pub register_again : (r : Register) → register_of (register_number r) ≡ r
register_again R0 = refl
register_again R1 = refl
register_again R2 = refl
register_again R3 = refl
register_again R4 = refl
register_again R5 = refl
register_again Sp = refl
register_again Pc = refl

pub operand_below : (o : Operand) → operand_code o < 64
operand_below o = omega (arith, mode_below o.mode, register_below o.register)

high_of : (m r : ℕ) → r < 8 → (m * 8 + r) / 8 ≡ m
high_of m r h = omega arith

low_of : (m r : ℕ) → r < 8 → (m * 8 + r) % 8 ≡ r
low_of m r h = omega arith

pub operand_again : (o : Operand) → operand_of (operand_code o) ≡ o
operand_again o =
    ap (λ (n : ℕ). record { mode = slice_index_or modes n mode.Register; register = register_of (operand_code o % 8) }) (high_of (mode_code o.mode) (register_number o.register) (register_below o.register))
    ∙ ap (λ (m : Mode). record { mode = m; register = register_of (operand_code o % 8) }) (mode_again o.mode)
    ∙ ap (λ (n : ℕ). record { mode = o.mode; register = register_of n }) (low_of (mode_code o.mode) (register_number o.register) (register_below o.register))
    ∙ ap (λ (r : Register). record { mode = o.mode; register = r }) (register_again o.register)

-- ---- fields of a word

upper : (n s d : ℕ) → s < 64 → d < 64 → (n * 0o10000 + s * 0o100 + d) / 0o100 % 0o100 ≡ s
upper n s d h k = omega arith

-- in the sum of a multiple of octal 1000, a register's number times octal 100, and six bits, the third octal digit from the right is that
-- number
upper_three : (n r d : ℕ) → r < 8 → d < 64 → (n * 0o1000 + r * 0o100 + d) / 0o100 % 0o10 ≡ r
upper_three n r d h k = omega arith

lower : (n d : ℕ) → d < 64 → (n * 0o100 + d) % 0o100 ≡ d
lower n d h = omega arith

lower_eight : (n d : ℕ) → d < 256 → (n * 0o400 + d) % 0o400 ≡ d
lower_eight n d h = omega arith

-- ---- where the tables look

first_found : (n fields : ℕ) → fields < 0o10000 → operation_by_tables (n * 0o10000 + fields) ≡ with_first_digits n (n * 0o10000 + fields)
first_found n fields h = ap (λ (d : ℕ). with_first_digits d (n * 0o10000 + fields)) (quotient n fields h)
  where
    quotient : (n fields : ℕ) → fields < 0o10000 → (n * 0o10000 + fields) / 0o10000 ≡ n
    quotient n fields h = omega arith

low_found : (n fields : ℕ) → n < 64 → fields < 64 → operation_by_tables (n * 0o100 + fields) ≡ with_next_digits n (n * 0o100 + fields)
low_found n fields h k =
    ap (λ (d : ℕ). with_first_digits d (n * 0o100 + fields)) (none n fields h k)
    ∙ ap (λ (d : ℕ). with_next_digits d (n * 0o100 + fields)) (quotient n fields k)
  where
    none : (n fields : ℕ) → n < 64 → fields < 64 → (n * 0o100 + fields) / 0o10000 ≡ 0
    none n fields h k = omega arith

    quotient : (n fields : ℕ) → fields < 64 → (n * 0o100 + fields) / 0o100 ≡ n
    quotient n fields h = omega arith

high_found : (n fields : ℕ) → n < 64 → fields < 64 → operation_by_tables (0o100000 + n * 0o100 + fields) ≡ slice_index_or high n None
high_found n fields h k =
    ap (λ (d : ℕ). with_first_digits d (0o100000 + n * 0o100 + fields)) (eight n fields h k)
    ∙ ap (λ (d : ℕ). slice_index_or high d None) (digits n fields h k)
  where
    eight : (n fields : ℕ) → n < 64 → fields < 64 → (0o100000 + n * 0o100 + fields) / 0o10000 ≡ 0o10
    eight n fields h k = omega arith

    digits : (n fields : ℕ) → n < 64 → fields < 64 → (0o100000 + n * 0o100 + fields) / 0o100 % 0o100 ≡ n
    digits n fields h k = omega arith

extended_found : (n fields : ℕ) → n < 8 → fields < 0o1000 → operation_by_tables (0o070000 + n * 0o1000 + fields) ≡ slice_index_or extended n None
extended_found n fields h k =
    ap (λ (d : ℕ). with_first_digits d (0o070000 + n * 0o1000 + fields)) (seven n fields h k)
    ∙ ap (λ (d : ℕ). slice_index_or extended d None) (digits n fields h k)
  where
    seven : (n fields : ℕ) → n < 8 → fields < 0o1000 → (0o070000 + n * 0o1000 + fields) / 0o10000 ≡ 0o07
    seven n fields h k = omega arith

    digits : (n fields : ℕ) → n < 8 → fields < 0o1000 → (0o070000 + n * 0o1000 + fields) / 0o1000 % 0o10 ≡ n
    digits n fields h k = omega arith

-- a property of 0, 1, 2 and 3 holds of each number below 4
one_of_four : (P : ℕ → Type 0) → P 0 → P 1 → P 2 → P 3 → (q : ℕ) → q < 4 → P q
one_of_four P a b c d zero h = a
one_of_four P a b c d (suc zero) h = b
one_of_four P a b c d (suc (suc zero)) h = c
one_of_four P a b c d (suc (suc (suc zero))) h = d
one_of_four P a b c d (suc (suc (suc (suc q)))) h = absurd (omega arith)

-- a field of eight bits covers four entries of a table by six bits
parts : (n b : ℕ) → n * 0o100 + b ≡ (n + b / 0o100) * 0o100 + b % 0o100
parts n b = omega arith

parts_high : (n b : ℕ) → 0o100000 + n * 0o100 + b ≡ 0o100000 + (n + b / 0o100) * 0o100 + b % 0o100
parts_high n b = omega arith

quarter : (b : ℕ) → b < 256 → b / 0o100 < 4
quarter b h = omega arith

rest : (b : ℕ) → b % 0o100 < 64
rest b = omega arith

low_four : (n b : ℕ) → n + 3 < 64 → b < 256 → (o : Option Op) → ((q : ℕ) → q < 4 → (w : ℕ) → with_next_digits (n + q) w ≡ o) → operation_by_tables (n * 0o100 + b) ≡ o
low_four n b h k o all =
    ap operation_by_tables (parts n b) ∙ low_found (n + b / 0o100) (b % 0o100) (omega (arith, quarter b k)) (rest b) ∙ all (b / 0o100) (quarter b k) _

high_four : (n b : ℕ) → n + 3 < 64 → b < 256 → (o : Option Op) → ((q : ℕ) → q < 4 → slice_index_or high (n + q) None ≡ o) → operation_by_tables (0o100000 + n * 0o100 + b) ≡ o
high_four n b h k o all =
    ap operation_by_tables (parts_high n b) ∙ high_found (n + b / 0o100) (b % 0o100) (omega (arith, quarter b k)) (rest b) ∙ all (b / 0o100) (quarter b k)

-- ---- each form

abbrev double_number : DoubleOp → Size → ℕ
double_number Mov Word = 1
double_number Mov Byte = 9
double_number Cmp Word = 2
double_number Cmp Byte = 10
double_number Bit Word = 3
double_number Bit Byte = 11
double_number Bic Word = 4
double_number Bic Byte = 12
double_number Bis Word = 5
double_number Bis Byte = 13
double_number Add Word = 6
double_number Add Byte = 14
double_number Sub Word = 14
double_number Sub Byte = 22

double_bits : (o : DoubleOp) (s : Size) → double_value o + size_value s ≡ double_number o s * 0o10000
double_bits Mov Word = refl
double_bits Mov Byte = refl
double_bits Cmp Word = refl
double_bits Cmp Byte = refl
double_bits Bit Word = refl
double_bits Bit Byte = refl
double_bits Bic Word = refl
double_bits Bic Byte = refl
double_bits Bis Word = refl
double_bits Bis Byte = refl
double_bits Add Word = refl
double_bits Add Byte = refl
double_bits Sub Word = refl
double_bits Sub Byte = refl

double_found : (o : DoubleOp) (s : Size) → has_double o s ≡ true → (w : ℕ) → with_first_digits (double_number o s) w ≡ Some (op.Double o s)
unfolding doubles extended bare last low high
double_found Mov Word h w = refl
double_found Mov Byte h w = refl
double_found Cmp Word h w = refl
double_found Cmp Byte h w = refl
double_found Bit Word h w = refl
double_found Bit Byte h w = refl
double_found Bic Word h w = refl
double_found Bic Byte h w = refl
double_found Bis Word h w = refl
double_found Bis Byte h w = refl
double_found Add Word h w = refl
double_found Add Byte h w = absurd (false≢true h)
double_found Sub Word h w = refl
double_found Sub Byte h w = absurd (false≢true h)

module _ (o : DoubleOp) (s : Size) (a b : Operand) (h : has_double o s ≡ true) where
  abbrev word : ℕ
  word = double_number o s * 0o10000 + operand_code a * 0o100 + operand_code b

  double_word : code_of (insn.Double o s a b) ≡ word
  double_word = ap (λ (n : ℕ). n + operand_code a * 0o100 + operand_code b) (double_bits o s)

  double_operation : operation_by_tables word ≡ Some (op.Double o s)
  double_operation =
      ap operation_by_tables (sum (double_number o s * 0o10000) (operand_code a * 0o100) (operand_code b))
      ∙ first_found (double_number o s) (operand_code a * 0o100 + operand_code b) (omega (arith, operand_below a, operand_below b))
      ∙ double_found o s h (double_number o s * 0o10000 + (operand_code a * 0o100 + operand_code b))
    where
      sum : (x y z : ℕ) → x + y + z ≡ x + (y + z)
      sum x y z = omega arith

  double_again : meaning (operation_by_tables (code_of (insn.Double o s a b))) (code_of (insn.Double o s a b)) ≡ insn.Double o s a b
  double_again =
      ap (λ (w : ℕ). meaning (operation_by_tables w) w) double_word
      ∙ ap (λ (t : Option Op). meaning t word) double_operation
      ∙ ap (λ (n : ℕ). insn.Double o s (operand_of n) (operand_of (word % 0o100))) (upper (double_number o s) (operand_code a) (operand_code b) (operand_below a) (operand_below b))
      ∙ ap (λ (x : Operand). insn.Double o s x (operand_of (word % 0o100))) (operand_again a)
      ∙ ap (λ (n : ℕ). insn.Double o s a (operand_of n)) (ap (λ (w : ℕ). w % 0o100) (sum (double_number o s) (operand_code a) (operand_code b)) ∙ lower (double_number o s * 0o100 + operand_code a) (operand_code b) (operand_below b))
      ∙ ap (λ (x : Operand). insn.Double o s a x) (operand_again b)
    where
      sum : (n x y : ℕ) → n * 0o10000 + x * 0o100 + y ≡ (n * 0o100 + x) * 0o100 + y
      sum n x y = omega arith

double_most : (o : DoubleOp) (s : Size) → has_double o s ≡ true → double_value o + size_value s + 4096 ≤ 65536
double_most Mov Word h = omega arith
double_most Mov Byte h = omega arith
double_most Cmp Word h = omega arith
double_most Cmp Byte h = omega arith
double_most Bit Word h = omega arith
double_most Bit Byte h = omega arith
double_most Bic Word h = omega arith
double_most Bic Byte h = omega arith
double_most Bis Word h = omega arith
double_most Bis Byte h = omega arith
double_most Add Word h = omega arith
double_most Add Byte h = absurd (false≢true h)
double_most Sub Word h = omega arith
double_most Sub Byte h = absurd (false≢true h)

abbrev single_number : SingleOp → ℕ
single_number Jmp = 0o01
single_number Swab = 0o03
single_number Clr = 0o50
single_number Com = 0o51
single_number Inc = 0o52
single_number Dec = 0o53
single_number Neg = 0o54
single_number Adc = 0o55
single_number Sbc = 0o56
single_number Tst = 0o57
single_number Ror = 0o60
single_number Rol = 0o61
single_number Asr = 0o62
single_number Asl = 0o63
single_number Sxt = 0o67

single_bits : (o : SingleOp) → single_value o + size_value Word ≡ single_number o * 0o100
single_bits Jmp = refl
single_bits Swab = refl
single_bits Clr = refl
single_bits Com = refl
single_bits Inc = refl
single_bits Dec = refl
single_bits Neg = refl
single_bits Adc = refl
single_bits Sbc = refl
single_bits Tst = refl
single_bits Ror = refl
single_bits Rol = refl
single_bits Asr = refl
single_bits Asl = refl
single_bits Sxt = refl

single_byte_bits : (o : SingleOp) → single_value o + size_value Byte ≡ 0o100000 + single_number o * 0o100
single_byte_bits Jmp = refl
single_byte_bits Swab = refl
single_byte_bits Clr = refl
single_byte_bits Com = refl
single_byte_bits Inc = refl
single_byte_bits Dec = refl
single_byte_bits Neg = refl
single_byte_bits Adc = refl
single_byte_bits Sbc = refl
single_byte_bits Tst = refl
single_byte_bits Ror = refl
single_byte_bits Rol = refl
single_byte_bits Asr = refl
single_byte_bits Asl = refl
single_byte_bits Sxt = refl

single_below : (o : SingleOp) → single_number o < 64
single_below Jmp = omega arith
single_below Swab = omega arith
single_below Clr = omega arith
single_below Com = omega arith
single_below Inc = omega arith
single_below Dec = omega arith
single_below Neg = omega arith
single_below Adc = omega arith
single_below Sbc = omega arith
single_below Tst = omega arith
single_below Ror = omega arith
single_below Rol = omega arith
single_below Asr = omega arith
single_below Asl = omega arith
single_below Sxt = omega arith

single_most : (o : SingleOp) (s : Size) → single_value o + size_value s + 64 ≤ 65536
single_most Jmp Word = omega arith
single_most Jmp Byte = omega arith
single_most Swab Word = omega arith
single_most Swab Byte = omega arith
single_most Clr Word = omega arith
single_most Clr Byte = omega arith
single_most Com Word = omega arith
single_most Com Byte = omega arith
single_most Inc Word = omega arith
single_most Inc Byte = omega arith
single_most Dec Word = omega arith
single_most Dec Byte = omega arith
single_most Neg Word = omega arith
single_most Neg Byte = omega arith
single_most Adc Word = omega arith
single_most Adc Byte = omega arith
single_most Sbc Word = omega arith
single_most Sbc Byte = omega arith
single_most Tst Word = omega arith
single_most Tst Byte = omega arith
single_most Ror Word = omega arith
single_most Ror Byte = omega arith
single_most Rol Word = omega arith
single_most Rol Byte = omega arith
single_most Asr Word = omega arith
single_most Asr Byte = omega arith
single_most Asl Word = omega arith
single_most Asl Byte = omega arith
single_most Sxt Word = omega arith
single_most Sxt Byte = omega arith

single_found : (o : SingleOp) (w : ℕ) → with_next_digits (single_number o) w ≡ Some (op.Single o Word)
unfolding doubles extended bare last low high
single_found Jmp w = refl
single_found Swab w = refl
single_found Clr w = refl
single_found Com w = refl
single_found Inc w = refl
single_found Dec w = refl
single_found Neg w = refl
single_found Adc w = refl
single_found Sbc w = refl
single_found Tst w = refl
single_found Ror w = refl
single_found Rol w = refl
single_found Asr w = refl
single_found Asl w = refl
single_found Sxt w = refl

single_byte_found : (o : SingleOp) → has_single o Byte ≡ true → slice_index_or high (single_number o) None ≡ Some (op.Single o Byte)
unfolding doubles extended bare last low high
single_byte_found Jmp h = absurd (false≢true h)
single_byte_found Swab h = absurd (false≢true h)
single_byte_found Clr h = refl
single_byte_found Com h = refl
single_byte_found Inc h = refl
single_byte_found Dec h = refl
single_byte_found Neg h = refl
single_byte_found Adc h = refl
single_byte_found Sbc h = refl
single_byte_found Tst h = refl
single_byte_found Ror h = refl
single_byte_found Rol h = refl
single_byte_found Asr h = refl
single_byte_found Asl h = refl
single_byte_found Sxt h = absurd (false≢true h)

single_again : (o : SingleOp) (s : Size) (a : Operand) → has_single o s ≡ true
    → meaning (operation_by_tables (code_of (insn.Single o s a))) (code_of (insn.Single o s a)) ≡ insn.Single o s a
single_again o Word a h =
    let word = single_number o * 0o100 + operand_code a in
    ap (λ (n : ℕ). meaning (operation_by_tables (n + operand_code a)) (n + operand_code a)) (single_bits o)
    ∙ ap (λ (t : Option Op). meaning t word) (low_found (single_number o) (operand_code a) (single_below o) (operand_below a) ∙ single_found o word)
    ∙ ap (λ (n : ℕ). insn.Single o Word (operand_of n)) (lower (single_number o) (operand_code a) (operand_below a))
    ∙ ap (λ (x : Operand). insn.Single o Word x) (operand_again a)
single_again o Byte a h =
    let word = 0o100000 + single_number o * 0o100 + operand_code a in
    ap (λ (n : ℕ). meaning (operation_by_tables (n + operand_code a)) (n + operand_code a)) (single_byte_bits o)
    ∙ ap (λ (t : Option Op). meaning t word) (high_found (single_number o) (operand_code a) (single_below o) (operand_below a) ∙ single_byte_found o h)
    ∙ ap (λ (n : ℕ). insn.Single o Byte (operand_of n)) (ap (λ (w : ℕ). w % 0o100) (sum (single_number o) (operand_code a)) ∙ lower (0o1000 + single_number o) (operand_code a) (operand_below a))
    ∙ ap (λ (x : Operand). insn.Single o Byte x) (operand_again a)
  where
    sum : (n d : ℕ) → 0o100000 + n * 0o100 + d ≡ (0o1000 + n) * 0o100 + d
    sum n d = omega arith

-- ---- a register and six bits

three : (n r d : ℕ) → d < 64 → (n * 0o1000 + r * 0o100 + d) % 0o100 ≡ d
three n r d h = omega arith

apart : (n r d : ℕ) → n + r * 0o100 + d ≡ n + (r * 0o100 + d)
apart n r d = omega arith

nine_bits : (r : Register) (d : ℕ) → d < 64 → register_number r * 0o100 + d < 0o1000
nine_bits r d h = omega (arith, register_below r)

-- the register and the operand in a word whose other bits are a multiple of octal 1000
module _ (n : ℕ) (r : Register) where
  register_in : (d : ℕ) → d < 64 → register_of ((n * 0o1000 + register_number r * 0o100 + d) / 0o100 % 0o10) ≡ r
  register_in d h = ap register_of (upper_three n (register_number r) d (register_below r) h) ∙ register_again r

  operand_in : (a : Operand) → operand_of ((n * 0o1000 + register_number r * 0o100 + operand_code a) % 0o100) ≡ a
  operand_in a = ap operand_of (three n (register_number r) (operand_code a) (operand_below a)) ∙ operand_again a

abbrev extended_number : ExtendedOp → ℕ
extended_number Mul = 0o70
extended_number Div = 0o71
extended_number Ash = 0o72
extended_number Ashc = 0o73

extended_bits : (o : ExtendedOp) → extended_value o ≡ extended_number o * 0o1000
extended_bits Mul = refl
extended_bits Div = refl
extended_bits Ash = refl
extended_bits Ashc = refl

extended_operation : (o : ExtendedOp) (fields : ℕ) → fields < 0o1000 → operation_by_tables (extended_number o * 0o1000 + fields) ≡ Some (op.Extended o)
unfolding extended
extended_operation Mul fields h = extended_found 0 fields (omega arith) h
extended_operation Div fields h = extended_found 1 fields (omega arith) h
extended_operation Ash fields h = extended_found 2 fields (omega arith) h
extended_operation Ashc fields h = extended_found 3 fields (omega arith) h

extended_again : (o : ExtendedOp) (r : Register) (a : Operand)
    → meaning (operation_by_tables (code_of (insn.Extended o r a))) (code_of (insn.Extended o r a)) ≡ insn.Extended o r a
extended_again o r a =
    let word = extended_number o * 0o1000 + register_number r * 0o100 + operand_code a in
    ap (λ (n : ℕ). meaning (operation_by_tables (n + register_number r * 0o100 + operand_code a)) (n + register_number r * 0o100 + operand_code a)) (extended_bits o)
    ∙ ap (λ (t : Option Op). meaning t word) (ap operation_by_tables (apart (extended_number o * 0o1000) (register_number r) (operand_code a))
    ∙ extended_operation o (register_number r * 0o100 + operand_code a) (nine_bits r (operand_code a) (operand_below a)))
    ∙ ap (λ (x : Register). insn.Extended o x (operand_of (word % 0o100))) (register_in (extended_number o) r (operand_code a) (operand_below a))
    ∙ ap (λ (x : Operand). insn.Extended o r x) (operand_in (extended_number o) r a)

xor_again : (r : Register) (a : Operand)
    → meaning (operation_by_tables (code_of (insn.Register Xor r a))) (code_of (insn.Register Xor r a)) ≡ insn.Register Xor r a
unfolding extended
xor_again r a =
    let word = 0o74 * 0o1000 + register_number r * 0o100 + operand_code a in
    ap (λ (t : Option Op). meaning t word) (ap operation_by_tables (apart 0o074000 (register_number r) (operand_code a))
    ∙ extended_found 4 (register_number r * 0o100 + operand_code a) (omega arith) (nine_bits r (operand_code a) (operand_below a)))
    ∙ ap (λ (x : Register). insn.Register Xor x (operand_of (word % 0o100))) (register_in 0o74 r (operand_code a) (operand_below a))
    ∙ ap (λ (x : Operand). insn.Register Xor r x) (operand_in 0o74 r a)

jsr_found : (r : Register) (w : ℕ) → with_next_digits (0o40 + register_number r) w ≡ Some (op.Register Jsr)
unfolding low
jsr_found R0 w = refl
jsr_found R1 w = refl
jsr_found R2 w = refl
jsr_found R3 w = refl
jsr_found R4 w = refl
jsr_found R5 w = refl
jsr_found Sp w = refl
jsr_found Pc w = refl

jsr_again : (r : Register) (a : Operand)
    → meaning (operation_by_tables (code_of (insn.Register Jsr r a))) (code_of (insn.Register Jsr r a)) ≡ insn.Register Jsr r a
jsr_again r a =
    let word = 0o4 * 0o1000 + register_number r * 0o100 + operand_code a in
    ap (λ (t : Option Op). meaning t word) (ap operation_by_tables (sum (register_number r) (operand_code a))
    ∙ low_found (0o40 + register_number r) (operand_code a) (omega (arith, register_below r)) (operand_below a) ∙ jsr_found r _)
    ∙ ap (λ (x : Register). insn.Register Jsr x (operand_of (word % 0o100))) (register_in 0o4 r (operand_code a) (operand_below a))
    ∙ ap (λ (x : Operand). insn.Register Jsr r x) (operand_in 0o4 r a)
  where
    sum : (r d : ℕ) → 0o004000 + r * 0o100 + d ≡ (0o40 + r) * 0o100 + d
    sum r d = omega arith

register_form_again : (o : RegisterOp) (r : Register) (a : Operand)
    → meaning (operation_by_tables (code_of (insn.Register o r a))) (code_of (insn.Register o r a)) ≡ insn.Register o r a
register_form_again Jsr r a = jsr_again r a
register_form_again Xor r a = xor_again r a

sob_again : (r : Register) (n : ℕ) → n < 64 → meaning (operation_by_tables (code_of (insn.Sob r n))) (code_of (insn.Sob r n)) ≡ insn.Sob r n
unfolding extended
sob_again r n h =
    let word = 0o77 * 0o1000 + register_number r * 0o100 + n in
    ap (λ (t : Option Op). meaning t word) (ap operation_by_tables (apart 0o077000 (register_number r) n)
    ∙ extended_found 7 (register_number r * 0o100 + n) (omega arith) (nine_bits r n h))
    ∙ ap (λ (x : Register). insn.Sob x (word % 0o100)) (register_in 0o77 r n h)
    ∙ ap (λ (x : ℕ). insn.Sob r x) (three 0o77 (register_number r) n h)

rts_again : (r : Register) → meaning (operation_by_tables (code_of (insn.Rts r))) (code_of (insn.Rts r)) ≡ insn.Rts r
unfolding last
rts_again R0 = refl
rts_again R1 = refl
rts_again R2 = refl
rts_again R3 = refl
rts_again R4 = refl
rts_again R5 = refl
rts_again Sp = refl
rts_again Pc = refl

-- ---- numbers

-- if four consecutive entries of a table are the same, each of them is this entry
low_entries : (n : ℕ) (o : Option Op) → ((w : ℕ) → with_next_digits (n + 0) w ≡ o) → ((w : ℕ) → with_next_digits (n + 1) w ≡ o)
    → ((w : ℕ) → with_next_digits (n + 2) w ≡ o) → ((w : ℕ) → with_next_digits (n + 3) w ≡ o) → (q : ℕ) → q < 4 → (w : ℕ) → with_next_digits (n + q) w ≡ o
low_entries n o = one_of_four (λ q. (w : ℕ) → with_next_digits (n + q) w ≡ o)

high_entries : (n : ℕ) (o : Option Op) → slice_index_or high (n + 0) None ≡ o → slice_index_or high (n + 1) None ≡ o
    → slice_index_or high (n + 2) None ≡ o → slice_index_or high (n + 3) None ≡ o → (q : ℕ) → q < 4 → slice_index_or high (n + q) None ≡ o
high_entries n o = one_of_four (λ q. slice_index_or high (n + q) None ≡ o)

number_again : (o : NumberOp) (n : ℕ) → n < number_limit o → meaning (operation_by_tables (code_of (insn.Number o n))) (code_of (insn.Number o n)) ≡ insn.Number o n
unfolding low high
number_again Mark n h =
    ap (λ (t : Option Op). meaning t (0o64 * 0o100 + n)) (low_found 0o64 n (omega arith) h)
    ∙ ap (λ (x : ℕ). insn.Number Mark x) (lower 0o64 n h)
number_again Emt n h =
    ap (λ (t : Option Op). meaning t (0o104000 + n)) (high_four 0o40 n (omega arith) h (Some (op.Number Emt)) (high_entries 0o40 (Some (op.Number Emt)) refl refl refl refl))
    ∙ ap (λ (x : ℕ). insn.Number Emt x) (lower_eight 0o210 n h)
number_again Trap n h =
    ap (λ (t : Option Op). meaning t (0o104400 + n)) (high_four 0o44 n (omega arith) h (Some (op.Number Trap)) (high_entries 0o44 (Some (op.Number Trap)) refl refl refl refl))
    ∙ ap (λ (x : ℕ). insn.Number Trap x) (lower_eight 0o211 n h)

-- ---- branches

branch_found : (o : BranchOp) (b : ℕ) → b < 256 → operation_by_tables (branch_value o + b) ≡ Some (op.Branch o)
unfolding low high
branch_found Br b h = low_four 0o04 b (omega arith) h (Some (op.Branch Br)) (low_entries 0o04 (Some (op.Branch Br)) (λ w. refl) (λ w. refl) (λ w. refl) (λ w. refl))
branch_found Bne b h = low_four 0o10 b (omega arith) h (Some (op.Branch Bne)) (low_entries 0o10 (Some (op.Branch Bne)) (λ w. refl) (λ w. refl) (λ w. refl) (λ w. refl))
branch_found Beq b h = low_four 0o14 b (omega arith) h (Some (op.Branch Beq)) (low_entries 0o14 (Some (op.Branch Beq)) (λ w. refl) (λ w. refl) (λ w. refl) (λ w. refl))
branch_found Bge b h = low_four 0o20 b (omega arith) h (Some (op.Branch Bge)) (low_entries 0o20 (Some (op.Branch Bge)) (λ w. refl) (λ w. refl) (λ w. refl) (λ w. refl))
branch_found Blt b h = low_four 0o24 b (omega arith) h (Some (op.Branch Blt)) (low_entries 0o24 (Some (op.Branch Blt)) (λ w. refl) (λ w. refl) (λ w. refl) (λ w. refl))
branch_found Bgt b h = low_four 0o30 b (omega arith) h (Some (op.Branch Bgt)) (low_entries 0o30 (Some (op.Branch Bgt)) (λ w. refl) (λ w. refl) (λ w. refl) (λ w. refl))
branch_found Ble b h = low_four 0o34 b (omega arith) h (Some (op.Branch Ble)) (low_entries 0o34 (Some (op.Branch Ble)) (λ w. refl) (λ w. refl) (λ w. refl) (λ w. refl))
branch_found Bpl b h = high_four 0o00 b (omega arith) h (Some (op.Branch Bpl)) (high_entries 0o00 (Some (op.Branch Bpl)) refl refl refl refl)
branch_found Bmi b h = high_four 0o04 b (omega arith) h (Some (op.Branch Bmi)) (high_entries 0o04 (Some (op.Branch Bmi)) refl refl refl refl)
branch_found Bhi b h = high_four 0o10 b (omega arith) h (Some (op.Branch Bhi)) (high_entries 0o10 (Some (op.Branch Bhi)) refl refl refl refl)
branch_found Blos b h = high_four 0o14 b (omega arith) h (Some (op.Branch Blos)) (high_entries 0o14 (Some (op.Branch Blos)) refl refl refl refl)
branch_found Bvc b h = high_four 0o20 b (omega arith) h (Some (op.Branch Bvc)) (high_entries 0o20 (Some (op.Branch Bvc)) refl refl refl refl)
branch_found Bvs b h = high_four 0o24 b (omega arith) h (Some (op.Branch Bvs)) (high_entries 0o24 (Some (op.Branch Bvs)) refl refl refl refl)
branch_found Bcc b h = high_four 0o30 b (omega arith) h (Some (op.Branch Bcc)) (high_entries 0o30 (Some (op.Branch Bcc)) refl refl refl refl)
branch_found Bcs b h = high_four 0o34 b (omega arith) h (Some (op.Branch Bcs)) (high_entries 0o34 (Some (op.Branch Bcs)) refl refl refl refl)

branch_offset : (o : BranchOp) (b : ℕ) → b < 256 → (branch_value o + b) % 0o400 ≡ b
branch_offset Br b h = omega arith
branch_offset Bne b h = omega arith
branch_offset Beq b h = omega arith
branch_offset Bge b h = omega arith
branch_offset Blt b h = omega arith
branch_offset Bgt b h = omega arith
branch_offset Ble b h = omega arith
branch_offset Bpl b h = omega arith
branch_offset Bmi b h = omega arith
branch_offset Bhi b h = omega arith
branch_offset Blos b h = omega arith
branch_offset Bvc b h = omega arith
branch_offset Bvs b h = omega arith
branch_offset Bcc b h = omega arith
branch_offset Bcs b h = omega arith

branch_most : (o : BranchOp) → branch_value o + 256 ≤ 65536
branch_most Br = omega arith
branch_most Bne = omega arith
branch_most Beq = omega arith
branch_most Bge = omega arith
branch_most Blt = omega arith
branch_most Bgt = omega arith
branch_most Ble = omega arith
branch_most Bpl = omega arith
branch_most Bmi = omega arith
branch_most Bhi = omega arith
branch_most Blos = omega arith
branch_most Bvc = omega arith
branch_most Bvs = omega arith
branch_most Bcc = omega arith
branch_most Bcs = omega arith

-- ---- codes without operands

bare_again : (o : BareOp) → meaning (operation_by_tables (code_of (insn.Bare o))) (code_of (insn.Bare o)) ≡ insn.Bare o
unfolding bare
bare_again Halt = refl
bare_again Wait = refl
bare_again Rti = refl
bare_again Bpt = refl
bare_again Iot = refl
bare_again Reset = refl
bare_again Rtt = refl

condition_again : (o : ConditionOp) (n z v c : Bool) → let i = insn.Condition o (record { negative = n; zero = z; overflow = v; carry = c }) in
    meaning (operation_by_tables (code_of i)) (code_of i) ≡ i
unfolding last
condition_again Clear false false false false = refl
condition_again Clear false false false true = refl
condition_again Clear false false true false = refl
condition_again Clear false false true true = refl
condition_again Clear false true false false = refl
condition_again Clear false true false true = refl
condition_again Clear false true true false = refl
condition_again Clear false true true true = refl
condition_again Clear true false false false = refl
condition_again Clear true false false true = refl
condition_again Clear true false true false = refl
condition_again Clear true false true true = refl
condition_again Clear true true false false = refl
condition_again Clear true true false true = refl
condition_again Clear true true true false = refl
condition_again Clear true true true true = refl
condition_again Set false false false false = refl
condition_again Set false false false true = refl
condition_again Set false false true false = refl
condition_again Set false false true true = refl
condition_again Set false true false false = refl
condition_again Set false true false true = refl
condition_again Set false true true false = refl
condition_again Set false true true true = refl
condition_again Set true false false false = refl
condition_again Set true false false true = refl
condition_again Set true false true false = refl
condition_again Set true false true true = refl
condition_again Set true true false false = refl
condition_again Set true true false true = refl
condition_again Set true true true false = refl
condition_again Set true true true true = refl

branch_again : (o : BranchOp) (z : ℤ) → FitsSigned w8 z → meaning (operation_by_tables (code_of (insn.Branch o z))) (code_of (insn.Branch o z)) ≡ insn.Branch o z
branch_again o z h =
    let b = cast_unsigned w8 z in
    let below : b < 256 = Fits-lt-pow {w = w8} {n = b} (Fits-of_z h) in
    ap (λ (t : Option Op). meaning t (branch_value o + b)) (branch_found o b below)
    ∙ ap (λ (n : ℕ). insn.Branch o (cast_signed w8 n)) (branch_offset o b below)
    ∙ ap (λ (x : ℤ). insn.Branch o x) (to_z-of_z w8 z h)

-- ---- all forms

-- the fields are in the ranges of their types, and the tables have no operation for a reserved code
abbrev pub IsSound : Insn → Type 0
IsSound (insn.Branch o z) = FitsSigned w8 z
IsSound (insn.Reserved code) = operation_by_tables code ≡ None
IsSound _ = ⊤

pub again : (i : Insn) → fits i ≡ true → IsSound i → meaning (operation_by_tables (code_of i)) (code_of i) ≡ i
again (insn.Double o s a b) h k = double_again o s a b h
again (insn.Extended o r a) h k = extended_again o r a
again (insn.Register o r a) h k = register_form_again o r a
again (insn.Sob r n) h k = sob_again r n (ltb-true n 0o100 h)
again (insn.Single o s a) h k = single_again o s a h
again (insn.Rts r) h k = rts_again r
again (insn.Number o n) h k = number_again o n (ltb-true n (number_limit o) h)
again (insn.Bare o) h k = bare_again o
again (insn.Condition o codes) h k = condition_again o codes.negative codes.zero codes.overflow codes.carry
again (insn.Branch o z) h k = branch_again o z k
again (insn.Reserved code) h k = ap (λ (t : Option Op). meaning t code) k

-- ---- codes are words

register_form_most : (o : RegisterOp) → register_value o + 0o1000 ≤ 65536
register_form_most Jsr = omega arith
register_form_most Xor = omega arith

extended_most : (o : ExtendedOp) → extended_value o + 0o1000 ≤ 65536
extended_most Mul = omega arith
extended_most Div = omega arith
extended_most Ash = omega arith
extended_most Ashc = omega arith

number_most : (o : NumberOp) → number_value o + number_limit o ≤ 65536
number_most Mark = omega arith
number_most Emt = omega arith
number_most Trap = omega arith

bare_most : (o : BareOp) → bare_value o < 65536
bare_most Halt = omega arith
bare_most Wait = omega arith
bare_most Rti = omega arith
bare_most Bpt = omega arith
bare_most Iot = omega arith
bare_most Reset = omega arith
bare_most Rtt = omega arith

condition_most : (o : ConditionOp) → condition_value o + 16 ≤ 65536
condition_most Clear = omega arith
condition_most Set = omega arith

bit_most : (b : Bool) → from_bool b ≤ 1
bit_most true = omega arith
bit_most false = omega arith

pub condition_bits_below : (codes : ConditionCodes) → condition_bits codes < 16
condition_bits_below codes = omega (arith, bit_most codes.negative, bit_most codes.zero, bit_most codes.overflow, bit_most codes.carry)

pub code_below : (i : Insn) → fits i ≡ true → IsHeld i → code_of i < 65536
code_below (insn.Double o s a b) h k = omega (arith, double_most o s h, operand_below a, operand_below b)
code_below (insn.Extended o r a) h k = omega (arith, extended_most o, register_below r, operand_below a)
code_below (insn.Register o r a) h k = omega (arith, register_form_most o, register_below r, operand_below a)
code_below (insn.Sob r n) h k = omega (arith, ltb-true n 0o100 h, register_below r)
code_below (insn.Single o s a) h k = omega (arith, single_most o s, operand_below a)
code_below (insn.Rts r) h k = omega (arith, register_below r)
code_below (insn.Number o n) h k = omega (arith, number_most o, ltb-true n (number_limit o) h)
code_below (insn.Bare o) h k = bare_most o
code_below (insn.Condition o codes) h k = omega (arith, condition_most o, condition_bits_below codes)
code_below (insn.Branch o z) h k = let below : cast_unsigned w8 z < 256 = Fits-lt-pow {w = w8} {n = cast_unsigned w8 z} (Fits-of_z k) in omega (arith, branch_most o)
code_below (insn.Reserved code) h k = k
