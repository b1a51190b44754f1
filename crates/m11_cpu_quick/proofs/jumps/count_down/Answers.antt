use Rattle.std.proofs.Common.{rules, sym, ◌∙◌, arith, refl}
use Rattle.std.proofs.lemmas.Bool.Decides.{nat_tests}
use Rattle.m11_cpu_machine.specs.declared.machine.Machine.{Machine}
use Rattle.m11_cpu_quick.proofs.JumpsMade.{beside, counts_out, counts_to}
use Rattle.m11_cpu_quick.proofs.jumps.count_down.Goals as goal

pub returns-then-left-eq0 : goal.returns-then-left-eq0
returns-then-left-eq0 c =
    λ (m : Machine). sym (counts_out _ _ _ _ _ _ m c.requires (rw c.held-left.ensures) c.hold.ensures (grind (arith, nat_tests)))

pub returns-else-left-eq0 : goal.returns-else-left-eq0
returns-else-left-eq0 c =
    λ (m : Machine). beside _ _ _ _ m c.hold-else-left-eq0.ensures
    ∙ sym (counts_to _ _ _ _ _ _ _ m c.requires (search rules) (rw c.held-left.ensures) c.hold.ensures
    (grind (arith, nat_tests)) refl)
