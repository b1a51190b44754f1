use Rattle.std.proofs.Common.{Ok}
use Rattle.m11_cpu_laws.proofs.LoadsYield.{is_loaded, not_loaded, yields}
use Rattle.m11_cpu_laws.proofs.loads.tapes_load_their_bytes.Goals as goal

pub returns-clause-yields : goal.returns-clause-yields
returns-clause-yields c image text left faults faults' before after result tape load =
    yields image text tape faults left faults' before after result load

pub returns-clause-loaded : goal.returns-clause-loaded
returns-clause-loaded c image text left faults faults' before after result tape load =
    is_loaded image text.bytes faults faults' before after result
    (yields image text tape faults left faults' before after result load)

pub returns-clause-refused : goal.returns-clause-refused
returns-clause-refused c image text left faults faults' before after start tape past load =
    not_loaded image text.bytes faults faults' before after start
    (yields image text tape faults left faults' before after (Ok start) load) past
