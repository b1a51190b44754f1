use Rattle.std.proofs.Common.{[], ◌∷◌, ◌++◌, sym}
use Rattle.m11_obj.specs.Records.{EndOfGsd}
use Rattle.m11_asm_outputs.specs.Object.{AllFit, content_writes, full_records, rest_records}
use Rattle.m11_asm_outputs.specs.Outputs.{assembly}
use Rattle.m11_asm_outputs.proofs.Blocks.{contents_gain, contents_stop}
use Rattle.m11_asm_outputs.proofs.Closing.{rest_is}
use Rattle.m11_asm_outputs.proofs.Fitting.{all_fit-append, always, fit_as, on_ok}
use Rattle.m11_asm_outputs.proofs.Looping.{content_writes-append, one_content, writes_as}
use Rattle.m11_base_writes.proofs.Writing.{stopped_first, writes_then}
use Rattle.m11_asm_outputs.proofs.object.put_directory_end.Goals as goal

pub returns-in_err-put_if_full-clause-writes : goal.returns-in_err-put_if_full-clause-writes
returns-in_err-put_if_full-clause-writes g c = λ rows h listing messages.
    let ends = c.end-last.ensures rows (full_records rows) h in
    rw (content_writes-append (rest_records rows) (EndOfGsd ∷ []))
    (stopped_first assembly _ _ (content_writes (rest_records rows)) (content_writes (EndOfGsd ∷ [])) _ _
    (contents_stop _ _ _ _ c.in_err-put_if_full.field-0.0 (rest_is rows ends.0 ends.1)
    (c.in_err-put_if_full.ensures.writes ends.0 ends.2 listing messages))
    c.from_residual.ensures.1)

pub returns-clause-writes : goal.returns-clause-writes
returns-clause-writes g c = λ rows h listing messages.
    let ends = c.end-last.ensures rows (full_records rows) h in
    rw (content_writes-append (rest_records rows) (EndOfGsd ∷ []))
    (writes_then assembly _ _ _ (content_writes (rest_records rows)) (content_writes (EndOfGsd ∷ [])) _
    (contents_gain _ _ _ _ (rest_is rows ends.0 ends.1) (c.in_ok-put_if_full.ensures.writes ends.0 ends.2 listing messages))
    (writes_as _ _ _ _ _ (sym (one_content EndOfGsd))
    (rw c.end_of_gsd.ensures.bytes at (c.put_record.ensures listing messages))))

pub returns-clause-fit : goal.returns-clause-fit
returns-clause-fit g c = λ rows h.
    let ends = c.end-last.ensures rows (full_records rows) h in
    on_ok _ (Unit {0}) (AllFit (rest_records rows ++ EndOfGsd ∷ []))
    (λ done. all_fit-append (rest_records rows) (EndOfGsd ∷ [])
    (fit_as _ _ (rest_is rows ends.0 ends.1) (c.in_ok-put_if_full.ensures.fit ends.0 ends.2)) (tt, tt)) (always _)
