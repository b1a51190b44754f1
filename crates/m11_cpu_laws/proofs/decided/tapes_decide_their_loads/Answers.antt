use Rattle.m11_cpu_laws.proofs.LoadsMet.{can_load}
use Rattle.m11_cpu_laws.proofs.LoadsSettled.{has_loaded, has_surely_loaded}
use Rattle.m11_cpu_laws.proofs.decided.tapes_decide_their_loads.Goals as goal

pub returns-clause-decided : goal.returns-clause-decided
returns-clause-decided c text left faults faults' before after result loads =
    has_loaded text left faults faults' before after result loads

pub returns-clause-loaded : goal.returns-clause-loaded
returns-clause-loaded c text faults before small may_end = can_load text faults may_end before small

pub returns-clause-sound : goal.returns-clause-sound
returns-clause-sound c text left faults faults' before after result ends fewer loads =
    has_surely_loaded text left faults faults' before after result loads ends fewer
