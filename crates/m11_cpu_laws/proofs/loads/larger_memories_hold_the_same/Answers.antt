use Rattle.std.proofs.Common.{Err, Ok}
use Rattle.m11_cpu.specs.declared.fault.LoadFault.TheVariants.{OutsideMemory}
use Rattle.m11_cpu_machine.specs.Machine.{new_machine}
use Rattle.m11_cpu_laws.proofs.LoadsYield.{yields}
use Rattle.m11_cpu_laws.proofs.TwoSizes.{both_hold, not_past}
use Rattle.m11_cpu_laws.proofs.loads.larger_memories_hold_the_same.Goals as goal

pub returns-clause-alike : goal.returns-clause-alike
returns-clause-alike c image text text' left left' f f' g g' words more_words small large start start' le tape tape' load load' =
    both_hold image words more_words small large start start' le
    (yields image text tape f left f' (new_machine words) small (Ok start) load)
    (yields image text' tape' g left' g' (new_machine more_words) large (Ok start') load')

pub returns-clause-taken : goal.returns-clause-taken
returns-clause-taken c image text text' left left' f f' g g' words more_words small large start le tape tape' load load' =
    not_past image words more_words small start le
    (yields image text tape f left f' (new_machine words) small (Ok start) load)
    (yields image text' tape' g left' g' (new_machine more_words) large (Err OutsideMemory) load')
