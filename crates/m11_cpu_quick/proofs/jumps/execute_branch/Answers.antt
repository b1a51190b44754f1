use Rattle.std.proofs.Common.{◌≡◌, true, arith, rules, sym, ◌∙◌, ap}
use Rattle.std.proofs.lemmas.Int.{to_z-of_z}
use Rattle.m11_cpu_arithmetic.specs.Branches.{is_taken}
use Rattle.m11_cpu_machine.specs.Jumps.{words_on}
use Rattle.m11_cpu_quick.proofs.JumpsMade.{beside, branch_taken}
use Rattle.m11_cpu_quick.proofs.jumps.execute_branch.Goals as goal

pub returns-then-is_taken : goal.returns-then-is_taken
returns-then-is_taken c =
    let taken : is_taken c.args.operation c.args.machine.now.status.codes ≡ true =
    ap (is_taken c.args.operation) (sym c.codes.ensures) ∙ sym c.is_taken.ensures ∙ c.if-is_taken.true in
    let target : c.words_on-target.result ≡ words_on c.args.counter c.cast_signed.result =
    grind (arith, to_z-of_z, c.words_on-target.ensures) in
    beside _ _ _ _ c.args.machine.now c.hold.ensures
    ∙ sym (branch_taken c.args.operation _ c.args.counter c.words_on-target.result c.args.registers.now c.args.machine.now
    (search rules) taken (rw c.cast_signed.ensures at target))
