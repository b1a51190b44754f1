use Rattle.std.proofs.Common.{ℕ, List, arith, rules}
use Rattle.std.proofs.lemmas.Bool.Decides.{nat_tests}
use Rattle.m11_base.specs.declared.operand.Size.{Size}
use Rattle.m11_cpu_quick.specs.Beside.{shown}
use Rattle.m11_cpu_quick.proofs.QuickDone.{receiver_fetched, transmitter_fetched}
use Rattle.m11_cpu_quick.proofs.near.status_at.Goals as goal

pub returns-then-address-eq65396-clause-value : goal.returns-then-address-eq65396-clause-value
returns-then-address-eq65396-clause-value c =
    λ (size : Size) (k : ℕ) (rs : List ℕ). transmitter_fetched _ _ (shown k rs c.args.machine.now) size
    (search rules) (search rules) c.status.ensures.bits

pub returns-clause-value : goal.returns-clause-value
returns-clause-value c =
    λ (size : Size) (k : ℕ) (rs : List ℕ). receiver_fetched _ _ (shown k rs c.args.machine.now) size
    (grind (arith, nat_tests)) (search rules) (search rules) c.status-2.ensures.bits
