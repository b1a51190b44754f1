use Rattle.std.proofs.Common.{[], ◌∷◌, ◌++◌, sym}
use Rattle.m11_obj.specs.Records.{EndOfGsd}
use Rattle.m11_asm_outputs.specs.Object.{AllFit, content_writes, head_contents, records_filled_by, rest_records}
use Rattle.m11_asm_outputs.specs.Outputs.{assembly}
use Rattle.m11_asm_outputs.proofs.Blocks.{head_split}
use Rattle.m11_asm_outputs.proofs.Closing.{nothing_waits}
use Rattle.m11_asm_outputs.proofs.Fitting.{all_fit-append, fit_as, head_in_two, on_ok}
use Rattle.m11_asm_outputs.proofs.Looping.{writes_as}
use Rattle.m11_base_writes.proofs.Writing.{stopped_first, writes_then}
use Rattle.m11_asm_outputs.proofs.object.put_head.Goals as goal

pub returns-in_err-put_rows-clause-writes : goal.returns-in_err-put_rows-clause-writes
returns-in_err-put_rows-clause-writes g c = λ listing messages.
    let rows = c.args.rows.now in
    writes_as _ _ _ _ _ (sym (head_split rows))
    (stopped_first assembly _ _ (content_writes (records_filled_by [] rows))
    (content_writes (rest_records rows ++ EndOfGsd ∷ [])) _ _
    (c.in_err-put_rows.ensures.writes [] (nothing_waits c.new-waiting.result c.new-waiting.ensures.stands) listing messages)
    c.from_residual.ensures.1)

pub returns-clause-writes : goal.returns-clause-writes
returns-clause-writes g c = λ listing messages.
    let rows = c.args.rows.now in
    let begun = nothing_waits c.new-waiting.result c.new-waiting.ensures.stands in
    writes_as _ _ _ _ _ (sym (head_split rows))
    (writes_then assembly _ _ _ (content_writes (records_filled_by [] rows))
    (content_writes (rest_records rows ++ EndOfGsd ∷ [])) _
    (c.in_ok-put_rows.ensures.writes [] begun listing messages)
    (c.put_directory_end.ensures.writes rows (c.in_ok-put_rows.ensures.waits [] begun) listing messages))

pub returns-clause-fit : goal.returns-clause-fit
returns-clause-fit g c =
    let rows = c.args.rows.now in
    let begun = nothing_waits c.new-waiting.result c.new-waiting.ensures.stands in
    on_ok _ (AllFit (rest_records rows ++ EndOfGsd ∷ [])) (AllFit (head_contents rows))
    (λ rest. fit_as _ _ (head_in_two rows) (all_fit-append _ _ (c.in_ok-put_rows.ensures.fit [] begun) rest))
    (c.put_directory_end.ensures.fit rows (c.in_ok-put_rows.ensures.waits [] begun))
