use Rattle.std.proofs.lemmas.Result.{err_from_is_err_and}
use Rattle.m11_link_load_map.proofs.ReadOn.{block_lost, block_noted}
use Rattle.m11_link_load_map.proofs.reading.accept_block.Goals as goal

pub returns-in_err-block-clause-notes : goal.returns-in_err-block-clause-notes
returns-in_err-block-clause-notes c = λ bottom before s.
    let r = c.from_residual in
    let p = err_from_is_err_and r.result r.ensures.1 in
    rw (p.1, p.2) (c.in_err-block.ensures.takes bottom before s.laid)

pub returns-in_err-add_block-clause-notes : goal.returns-in_err-add_block-clause-notes
returns-in_err-add_block-clause-notes c = λ bottom before s.
    let r = c.from_residual-in_err-add_block in
    let p = err_from_is_err_and r.result r.ensures.1 in
    rw (p.1, p.2)
    (block_lost bottom before c.args.block.now.items c.block.new.self c.in_ok-block.ensures.is_record (c.in_ok-block.ensures.takes bottom before s.laid))

pub returns-clause-notes : goal.returns-clause-notes
returns-clause-notes c = λ bottom before s.
    block_noted bottom before c.args.block.now.items c.args.layout.now c.block.new.self c.args.noted.now.items
    c.add_block.new.noted.items s (c.in_ok-block.ensures.takes bottom before s.laid) c.in_ok-add_block.ensures
