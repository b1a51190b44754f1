use Rattle.m11_asm_outputs.specs.Object.{full_records}
use Rattle.m11_asm_outputs.proofs.Blocks.{contents_as}
use Rattle.m11_asm_outputs.proofs.Closing.{filled_by_row, waits_after_row}
use Rattle.m11_asm_outputs.proofs.Fitting.{fit_as}
use Rattle.m11_asm_outputs.proofs.object.put_row.Goals as goal

pub returns-clause-writes : goal.returns-clause-writes
returns-clause-writes g c = λ before h listing messages.
    let took = c.accept-full.ensures before (full_records before) h in
    contents_as _ _ _ _ _ (filled_by_row before c.args.row.now took.0 c.accept-full.new.self took.1)
    (c.put_if_full.ensures.writes took.0 took.2 listing messages)

pub returns-clause-waits : goal.returns-clause-waits
returns-clause-waits g c = λ before h.
    let took = c.accept-full.ensures before (full_records before) h in
    waits_after_row before c.args.row.now took.0 c.accept-full.new.self took.1

pub returns-clause-fit : goal.returns-clause-fit
returns-clause-fit g c = λ before h.
    let took = c.accept-full.ensures before (full_records before) h in
    fit_as _ _ (filled_by_row before c.args.row.now took.0 c.accept-full.new.self took.1) (c.put_if_full.ensures.fit took.0 took.2)
