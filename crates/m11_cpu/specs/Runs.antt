-- Runs: steps up to a stop or a limit. (This project's own.)
use Rattle.std.specs.Prelude.{ℕ, zero, suc, ◌+◌}
use Rattle.m11_cpu_machine.specs.Dialogue.{Dialogue, Comes, after}
use Rattle.m11_cpu_machine.specs.Steps.{step}
use Rattle.m11_cpu_machine.specs.declared.machine.Machine.{Machine}
use Rattle.m11_cpu.specs.declared.runs.Ran.{Ran}
use Rattle.m11_cpu_machine.specs.declared.stop.Stop.{Stop}
use Rattle.m11_cpu_machine.specs.declared.stop.Stop.TheVariants.{Limit}
use Rattle.m11_cpu_machine.specs.declared.stop.Turn.{Turn}
use Rattle.m11_cpu_machine.specs.declared.stop.Turn.TheVariants.{Next, Stopped}

-- the outcome of a run that makes one more step first: the same stop, and one more step begun
abbrev pub one_more : Ran → Ran
one_more ran = record { stop = ran.stop; steps = ran.steps + 1 }

-- the outcome of a run and the machine at its end, from the result of its first step and the machine after that step: the run ends if the
-- step stopped the machine, and otherwise goes on as `more` says; the first step is counted
abbrev pub following : (Machine → Dialogue (Ran × Machine)) → Turn → Machine → Dialogue (Ran × Machine)
following more Next m = after (more m) (λ ran. Comes (one_more ran.0, ran.1))
following more (Stopped stop) m = Comes (record { stop = stop; steps = 1 }, m)

-- the outcome of a run and the machine at its end: steps are made until one stops the machine, and that step is counted too, or until the
-- limit is reached
unfoldable pub run_counted : ℕ → Machine → Dialogue (Ran × Machine)
run_counted zero m = Comes (record { stop = Limit; steps = 0 }, m)
run_counted (suc left) m = after (step m) (λ came. following (run_counted left) came.0 came.1)

unfoldable pub run : ℕ → Machine → Dialogue (Stop × Machine)
run limit m = after (run_counted limit m) (λ ran. Comes (ran.0.stop, ran.1))
