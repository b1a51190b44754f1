use Rattle.m11_cpu_states.proofs.OneMachine.{state_one}
use Rattle.m11_cpu_states.proofs.laws.a_state_is_of_one_machine.Goals as goal

pub returns : goal.returns
returns c = state_one
