use Rattle.std.proofs.Common.{◌∙◌, ◌+◌, ℕ, Some, sym, ap, arith, rules}
use Rattle.m11_base.proofs.Characters.{blank_coded, digit_coded, dollar_coded, letter_coded, others_uncoded, point_coded}
use Rattle.m11_base.proofs.rad50.Rad50.code.Goals as goal

pub returns-in-32-clause-code : goal.returns-in-32-clause-code
returns-in-32-clause-code c = rw c.in-32.is (sym blank_coded)

pub returns-in-36-clause-code : goal.returns-in-36-clause-code
returns-in-36-clause-code c = rw c.in-36.is (sym dollar_coded)

pub returns-in-46-clause-code : goal.returns-in-46-clause-code
returns-in-46-clause-code c = rw c.in-46.is (sym point_coded)

pub returns-in-48-to-57-clause-code : goal.returns-in-48-to-57-clause-code
returns-in-48-to-57-clause-code c =
    ap (λ (n : ℕ). Some (n + 30)) (search rules) ∙ sym (digit_coded c.args.character (omega arith) (omega arith))

pub returns-in-65-to-90-clause-code : goal.returns-in-65-to-90-clause-code
returns-in-65-to-90-clause-code c =
    ap (λ (n : ℕ). Some (n + 1)) (search rules) ∙ sym (letter_coded c.args.character (omega arith) (omega arith))

pub returns-in_default-clause-code : goal.returns-in_default-clause-code
returns-in_default-clause-code c = sym (others_uncoded c.args.character (omega arith) (omega arith) (omega arith) (λ l h. omega arith) (λ l h. omega arith))

pub returns-in_default-2-clause-code : goal.returns-in_default-2-clause-code
returns-in_default-2-clause-code c = sym (others_uncoded c.args.character (omega arith) (omega arith) (omega arith) (λ l h. omega arith) (λ l h. omega arith))

pub returns-in_default-3-clause-code : goal.returns-in_default-3-clause-code
returns-in_default-3-clause-code c = sym (others_uncoded c.args.character (omega arith) (omega arith) (omega arith) (λ l h. omega arith) (λ l h. omega arith))
