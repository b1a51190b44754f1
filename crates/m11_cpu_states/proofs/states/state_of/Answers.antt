use Rattle.std.proofs.Common.{◌∙◌, ◌++◌, List, ℕ, ap}
use Rattle.m11_cpu_machine.specs.Memory.{bytes_of}
use Rattle.m11_cpu_states.proofs.StateBytes.{three_joined}
use Rattle.m11_cpu_states.proofs.states.state_of.Goals as goal

pub returns-clause-state : goal.returns-clause-state
returns-clause-state c =
    three_joined _ _ _ _ _ _ _ c.new-state.ensures.items c.in_ok-put_registers.ensures.all c.in_ok-extend_from_slice.ensures.items
    c.in_ok-put_memory.ensures.all
    ∙ ap (λ (l : List ℕ). bytes_of c.args.machine.now.registers ++ (l ++ c.args.machine.now.memory)) c.rest_of_head.ensures
