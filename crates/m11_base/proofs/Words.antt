-- The tables and the list give each word the same meaning; a code and its instruction determine each other.
use Rattle.std.proofs.Common.{◌≡◌, ℕ, ◌%◌, ◌<◌, true, refl, sym, ap, ◌∙◌, arith}
use Rattle.std.specs.Prelude.{Bool, ◌↔◌, IsTrue, is_none, Option, Some, None}
use Rattle.std.proofs.lemmas.Bool.{false≢true}
use Rattle.std.proofs.Math.Facts.{Fits-of_lt, sfits_to_z}
use Rattle.std.specs.Int.{w8}
use Rattle.m11_base.specs.declared.instruction.Insn.{Insn}
use Rattle.m11_base.specs.declared.instruction.Insn.TheVariants as insn
use Rattle.m11_base.specs.declared.instruction.Op.{Op}
use Rattle.m11_base.specs.declared.instruction.Op.TheVariants as op
use Rattle.m11_base.specs.declared.instruction_list.Row.{Row}
use Rattle.m11_base.specs.Instructions.{row_of, operation_in, meaning, with_fields, instruction_of, HasCode}
use Rattle.m11_base.specs.Encoding.{code_of, fits, IsHeld}
use Rattle.m11_base.proofs.Codes.{IsSound, again, code_below}
use Rattle.m11_base.specs.OperationTables.{operation_by_tables}
use Rattle.m11_base.proofs.EachWord.{IsChecked, row_checked}

-- the fields of a word are in the ranges of their types
fields_sound : (o : Op) (word : ℕ) → IsSound (with_fields o word)
fields_sound (op.Double o s) word = tt
fields_sound (op.Extended o) word = tt
fields_sound (op.Register o) word = tt
fields_sound op.Sob word = tt
fields_sound (op.Single o s) word = tt
fields_sound op.Rts word = tt
fields_sound (op.Number o) word = tt
fields_sound (op.Bare o) word = tt
fields_sound (op.Condition o) word = tt
fields_sound (op.Branch o) word =
    sfits_to_z {w = w8} {n = word % 256} (Fits-of_lt {w = w8} {n = word % 256} (below word))
  where
    below : (word : ℕ) → word % 256 < 256
    below word = omega arith
fields_sound op.Call word = tt
fields_sound op.Return word = tt
fields_sound (op.Codes o codes) word = tt

-- the tables give each word the meaning that the list gives it
pub tables_meaning : (word : ℕ) → word < 65536 → meaning (operation_by_tables word) word ≡ instruction_of word
tables_meaning word h = by_row (row_of word) (row_checked word h)
  where
    by_row : (row : Option Row) → IsChecked row word
        → meaning (operation_by_tables word) word ≡ meaning (operation_in row) word
    by_row None e = ap (λ (t : Option Op). meaning t word) e
    by_row (Some row) e =
        let i = with_fields row.operation word in
        ap (λ (w : ℕ). meaning (operation_by_tables w) w) (sym e.0) ∙ again i e.1 (fields_sound row.operation word)

-- ---- a code and its instruction determine each other

pub code_again : (word : ℕ) → word < 65536 → code_of (instruction_of word) ≡ word
code_again word h = by_row (row_of word) (row_checked word h)
  where
    by_row : (row : Option Row) → IsChecked row word → code_of (meaning (operation_in row) word) ≡ word
    by_row None e = refl
    by_row (Some row) e = e.0

pub instruction_fits : (word : ℕ) → word < 65536 → fits (instruction_of word) ≡ true
instruction_fits word h = by_row (row_of word) (row_checked word h) refl
  where
    by_row : (row : Option Row) → IsChecked row word → row_of word ≡ row → fits (meaning (operation_in row) word) ≡ true
    by_row None e f = ap is_none f
    by_row (Some row) e f = e.1

reserved_again : (word : ℕ) → is_none (row_of word) ≡ true → instruction_of word ≡ insn.Reserved word
reserved_again word h = by_row (row_of word) h
  where
    by_row : (row : Option Row) → is_none row ≡ true → meaning (operation_in row) word ≡ insn.Reserved word
    by_row None e = refl
    by_row (Some row) e = absurd (false≢true e)

pub instruction_again : (i : Insn) → fits i ≡ true → IsHeld i → instruction_of (code_of i) ≡ i
instruction_again (insn.Reserved word) h k = reserved_again word h
instruction_again (insn.Double o s a b) h k =
    sym (tables_meaning (code_of (insn.Double o s a b)) (code_below (insn.Double o s a b) h k))
    ∙ again (insn.Double o s a b) h k
instruction_again (insn.Extended o r a) h k =
    sym (tables_meaning (code_of (insn.Extended o r a)) (code_below (insn.Extended o r a) h k))
    ∙ again (insn.Extended o r a) h k
instruction_again (insn.Register o r a) h k =
    sym (tables_meaning (code_of (insn.Register o r a)) (code_below (insn.Register o r a) h k))
    ∙ again (insn.Register o r a) h k
instruction_again (insn.Sob r n) h k =
    sym (tables_meaning (code_of (insn.Sob r n)) (code_below (insn.Sob r n) h k)) ∙ again (insn.Sob r n) h k
instruction_again (insn.Single o s a) h k =
    sym (tables_meaning (code_of (insn.Single o s a)) (code_below (insn.Single o s a) h k))
    ∙ again (insn.Single o s a) h k
instruction_again (insn.Rts r) h k =
    sym (tables_meaning (code_of (insn.Rts r)) (code_below (insn.Rts r) h k)) ∙ again (insn.Rts r) h k
instruction_again (insn.Number o n) h k =
    sym (tables_meaning (code_of (insn.Number o n)) (code_below (insn.Number o n) h k)) ∙ again (insn.Number o n) h k
instruction_again (insn.Bare o) h k =
    sym (tables_meaning (code_of (insn.Bare o)) (code_below (insn.Bare o) h k)) ∙ again (insn.Bare o) h k
instruction_again (insn.Condition o c) h k =
    sym (tables_meaning (code_of (insn.Condition o c)) (code_below (insn.Condition o c) h k))
    ∙ again (insn.Condition o c) h k
instruction_again (insn.Branch o z) h k =
    sym (tables_meaning (code_of (insn.Branch o z)) (code_below (insn.Branch o z) h k)) ∙ again (insn.Branch o z) h k

pub fits_exactly : (i : Insn) (b : Bool) → b ≡ fits i → IsHeld i → IsTrue b ↔ HasCode i
fits_exactly i b e held = (
  λ h. let fit = sym e ∙ h in (code_of i, (code_below i fit held, instruction_again i fit held)),
  λ h. e ∙ ap fits (sym h.1.1) ∙ instruction_fits h.0 h.1.0,
)
