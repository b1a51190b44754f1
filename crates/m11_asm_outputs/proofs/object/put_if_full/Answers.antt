use Rattle.std.proofs.Common.{[], ◌∷◌, sym, ◌∙◌}
use Rattle.m11_asm_outputs.specs.Outputs.{assembly}
use Rattle.m11_asm_outputs.proofs.Blocks.{as_records, no_blocks, one_block}
use Rattle.m11_asm_outputs.proofs.Fitting.{records_fit}
use Rattle.m11_asm_outputs.proofs.Looping.{writes_as}
use Rattle.m11_base_writes.proofs.Writing.{gains_nothing}
use Rattle.m11_asm_outputs.proofs.object.put_if_full.Goals as goal

pub returns-in-Some-clause-writes : goal.returns-in-Some-clause-writes
returns-in-Some-clause-writes g c = λ contents h listing messages. writes_as _ _ _ _ _
    (sym (one_block c.in-Some.content) ∙ as_records (c.in-Some.content ∷ []) contents (rw c.in-Some.is at h))
    (c.put_record.ensures listing messages)

pub returns-in-None-clause-writes : goal.returns-in-None-clause-writes
returns-in-None-clause-writes g c = λ contents h listing messages.
    rw (sym (as_records [] contents (rw c.in-None.is at h)), no_blocks) (gains_nothing assembly _)

pub returns-in-Some-clause-fit : goal.returns-in-Some-clause-fit
returns-in-Some-clause-fit g c = λ contents h.
    records_fit (c.in-Some.content ∷ []) contents (c.what_is_read_fits.ensures, tt) (rw c.in-Some.is at h)

pub returns-in-None-clause-fit : goal.returns-in-None-clause-fit
returns-in-None-clause-fit g c = λ contents h. records_fit [] contents tt (rw c.in-None.is at h)
