use Rattle.std.proofs.Common.{◌∙◌, length, ap, arith}
use Rattle.m11_cpu_machine.specs.declared.machine.Machine.{Machine}
use Rattle.m11_cpu_states.proofs.NoState.{in_any_case, memory_length, no_length, no_receiver, no_status, no_stop, no_transmitter}
use Rattle.m11_cpu_states.proofs.StateBytes.{memory_of_new}
use Rattle.m11_cpu_states.proofs.states.machine_of.Goals as goal

pub fill_memory-requires-clause-memory : goal.fill_memory-requires-clause-memory
fill_memory-requires-clause-memory c =
    ap (λ (m : Machine). length m.memory) c.in_ok-machine.ensures ∙ memory_of_new c.in-Some.words

pub returns-in_default-clause-malformed : goal.returns-in_default-clause-malformed
returns-in_default-clause-malformed c = λ is. no_length c.args.state.now c.in_default.ensures

pub returns-then-head-from-clause-malformed : goal.returns-then-head-from-clause-malformed
returns-then-head-from-clause-malformed c =
    let head = c.in-Some-head_of.ensures in
    absurd (omega (arith, memory_length _ _ _ _ _ _ _ _ _ _ _ _ _ _ _ head.eight head.parts, c.in-Some.ensures.0))

pub returns-in_err-machine-2-clause-malformed : goal.returns-in_err-machine-2-clause-malformed
returns-in_err-machine-2-clause-malformed c =
    let head = c.in-Some-head_of.ensures in
    in_any_case _ _ (no_status _ _ _ _ _ _ _ _ _ _ _ _ _ _ _ head.eight head.parts c.in_err-machine-2.ensures.malformed.1)

pub returns-in_err-machine-3-clause-malformed : goal.returns-in_err-machine-3-clause-malformed
returns-in_err-machine-3-clause-malformed c =
    let head = c.in-Some-head_of.ensures in
    in_any_case _ _ (no_receiver _ _ _ _ _ _ _ _ _ _ _ _ _ _ _ head.eight head.parts c.in_err-machine-3.ensures.malformed.1)

pub returns-in_err-flag-clause-malformed : goal.returns-in_err-flag-clause-malformed
returns-in_err-flag-clause-malformed c =
    let head = c.in-Some-head_of.ensures in
    in_any_case _ _ (no_transmitter _ _ _ _ _ _ _ _ _ _ _ _ _ _ _ head.eight head.parts c.in_err-flag.ensures.malformed.1)

pub returns-in_err-machine-4-clause-malformed : goal.returns-in_err-machine-4-clause-malformed
returns-in_err-machine-4-clause-malformed c =
    let head = c.in-Some-head_of.ensures in
    in_any_case _ _ (no_stop _ _ _ _ _ _ _ _ _ _ _ _ _ _ _ head.eight head.parts c.in_err-machine-4.ensures.malformed.1)
