use Rattle.std.proofs.Common.{[], ◌∷◌, ◌++◌, sym}
use Rattle.m11_obj.specs.Records.{EndOfModule}
use Rattle.m11_obj.specs.OpenText.{records_in}
use Rattle.m11_asm_outputs.specs.Object.{AllFit, closed_records, content_writes, last_records}
use Rattle.m11_asm_outputs.specs.Outputs.{assembly}
use Rattle.m11_asm_outputs.proofs.Blocks.{contents_gain, contents_stop}
use Rattle.m11_asm_outputs.proofs.Closing.{last_is}
use Rattle.m11_asm_outputs.proofs.Fitting.{all_fit-append, always, fit_as, on_ok}
use Rattle.m11_asm_outputs.proofs.Looping.{content_writes-append, one_content, writes_as}
use Rattle.m11_base_writes.proofs.Writing.{stopped_first, writes_then}
use Rattle.m11_asm_outputs.proofs.object.put_last.Goals as goal

pub returns-in_err-put_if_closed-clause-writes : goal.returns-in_err-put_if_closed-clause-writes
returns-in_err-put_if_closed-clause-writes g c = λ pieces h listing messages.
    rw (content_writes-append (last_records pieces) (EndOfModule ∷ []))
    (stopped_first assembly _ _ (content_writes (last_records pieces)) (content_writes (EndOfModule ∷ [])) _ _
    (contents_stop _ _ _ _ c.in_err-put_if_closed.field-0.0
    (last_is pieces (records_in c.end-last.result) (c.end-last.ensures pieces (closed_records pieces) h))
    (c.in_err-put_if_closed.ensures.writes listing messages))
    c.from_residual.ensures.1)

pub returns-clause-writes : goal.returns-clause-writes
returns-clause-writes g c = λ pieces h listing messages.
    rw (content_writes-append (last_records pieces) (EndOfModule ∷ []))
    (writes_then assembly _ _ _ (content_writes (last_records pieces)) (content_writes (EndOfModule ∷ [])) _
    (contents_gain _ _ _ _
    (last_is pieces (records_in c.end-last.result) (c.end-last.ensures pieces (closed_records pieces) h))
    (c.in_ok-put_if_closed.ensures.writes listing messages))
    (writes_as _ _ _ _ _ (sym (one_content EndOfModule))
    (rw c.end_of_module.ensures.bytes at (c.put_record.ensures listing messages))))

pub returns-clause-fit : goal.returns-clause-fit
returns-clause-fit g c = λ pieces h.
    on_ok _ (Unit {0}) (AllFit (last_records pieces ++ EndOfModule ∷ []))
    (λ done. all_fit-append (last_records pieces) (EndOfModule ∷ [])
    (fit_as _ _ (last_is pieces (records_in c.end-last.result) (c.end-last.ensures pieces (closed_records pieces) h))
    c.in_ok-put_if_closed.ensures.fit) (tt, tt)) (always _)
