use Rattle.std.proofs.Common.{◌∙◌}
use Rattle.std.proofs.lemmas.Result.{err_from_is_err_and}
use Rattle.m11_base_writes.specs.States.{output_of}
use Rattle.m11_dump.proofs.TextsLead.{other_lacks, other_refused, other_taken, other_unshown}
use Rattle.m11_dump.proofs.taking.dump_other.Goals as goal

pub returns-in_err-show_held : goal.returns-in_err-show_held
returns-in_err-show_held g c =
    let r = c.from_residual in
    let p = err_from_is_err_and r.result r.ensures.1 in
    rw (p.1, p.2)
    (other_unshown c.args.view c.args.address c.args.held.now c.args.record.now c.requires.other c.requires.at
    (output_of g.S.Sink c.args.sink.now) (output_of g.S.Sink c.show_held.new.sink) _ c.in_err-show_held.ensures)

pub returns-in_err-text : goal.returns-in_err-text
returns-in_err-text g c =
    let r = c.from_residual-in_err-text in
    let p = err_from_is_err_and r.result r.ensures.1 in
    rw (p.1, p.2)
    (other_lacks c.args.view c.args.address c.args.held.now c.args.record.now c.requires.other c.requires.at
    (output_of g.S.Sink c.args.sink.now) (output_of g.S.Sink c.show_held.new.sink) c.in_ok-show_held.field-0 c.in_ok-show_held.ensures)

pub returns : goal.returns
returns g c =
    other_taken c.args.view c.args.address c.args.held.now c.args.record.now c.requires.other c.requires.at
    (output_of g.S.Sink c.args.sink.now) (output_of g.S.Sink c.show_held.new.sink) c.in_ok-show_held.field-0 c.in_ok-show_held.ensures
    (output_of g.S.Sink c.put_or_fail.new.sink) c.deref.result.now (c.deref.ensures.value ∙ c.in_ok-text.ensures) c.in_ok-put_or_fail.ensures

pub returns-in_err-put_or_fail : goal.returns-in_err-put_or_fail
returns-in_err-put_or_fail g c =
    let r = c.from_residual-in_err-put_or_fail in
    let p = err_from_is_err_and r.result r.ensures.1 in
    rw (p.1, p.2)
    (other_refused c.args.view c.args.address c.args.held.now c.args.record.now c.requires.other c.requires.at
    (output_of g.S.Sink c.args.sink.now) (output_of g.S.Sink c.show_held.new.sink) c.in_ok-show_held.field-0 c.in_ok-show_held.ensures
    (output_of g.S.Sink c.put_or_fail.new.sink) c.deref.result.now _ (c.deref.ensures.value ∙ c.in_ok-text.ensures)
    c.in_err-put_or_fail.ensures)
