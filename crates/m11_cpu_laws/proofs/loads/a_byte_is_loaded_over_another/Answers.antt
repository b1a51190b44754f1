use Rattle.std.proofs.Common.{Ok}
use Rattle.m11_cpu_laws.specs.Example.{overlaid_tape}
use Rattle.m11_cpu_laws.proofs.LoadsYield.{yields}
use Rattle.m11_cpu_laws.proofs.OneByteTwice.{is_met, later_stands, overlaid, overlaid_image}
use Rattle.m11_cpu_laws.proofs.loads.a_byte_is_loaded_over_another.Goals as goal

pub returns-clause-later : goal.returns-clause-later
returns-clause-later c ending left faults faults' before after start load =
    later_stands before after start
    (yields overlaid_image (record { bytes = overlaid_tape; ending = ending }) overlaid faults left faults' before after
    (Ok start) load)

pub returns-clause-met : goal.returns-clause-met
returns-clause-met c = is_met
