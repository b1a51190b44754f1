-- Acts that yield their value with no exchange.
use Rattle.std.proofs.Common.{◌≡◌, Bool, false, cond, Result, Ok, ap}
use Rattle.m11_cpu_machine.specs.Acts.{Act, unless_aborted, ◌>>=◌}
use Rattle.m11_cpu_machine.specs.Dialogue.{after, Comes, Dialogue}
use Rattle.m11_cpu_machine.specs.Steps.{ended, turned}
use Rattle.m11_cpu_machine.specs.Traps.{trap}
use Rattle.m11_cpu_machine.specs.declared.abort.Abort.{Abort}
use Rattle.m11_cpu_machine.specs.declared.abort.Vector.TheVariants.{Breakpoint}
use Rattle.m11_cpu_machine.specs.declared.execution.Ending.TheVariants as ending
use Rattle.m11_cpu_machine.specs.declared.machine.Machine.{Machine}
use Rattle.m11_cpu_machine.specs.declared.stop.Turn.TheVariants.{Next}

pub cond_not : {A : Type 0} (test : Bool) (a b : A) → test ≡ false → cond test a b ≡ b
cond_not {A = A} test a b e = ap (λ (t : Bool). cond t a b) e

pub bind_at : {A B : Type 0} (act : Act A) (next : A → Act B) (m n : Machine) (x : A) → act m ≡ Comes (Ok x, n)
    → (act >>= next) m ≡ next x n
unfolding ◌>>=◌
bind_at {A = A} act next m n x e =
    ap (λ (d : Dialogue (Result A Abort × Machine)). after d (λ came. unless_aborted next came.0 came.1)) e

pub turned_next : (m : Machine) → m.status.trace ≡ false → turned (Ok ending.Next) m ≡ Comes (Next, m)
unfolding turned ended
turned_next m e = cond_not m.status.trace (trap Breakpoint m) (Comes (Next, m)) e
