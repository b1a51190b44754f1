use Rattle.std.proofs.lemmas.Result.{err_from_is_err_and}
use Rattle.m11_base_writes.specs.States.{output_of}
use Rattle.m11_dump.proofs.Accepting.{judge_refuses, last_refuses}
use Rattle.m11_dump.proofs.objects.accept_record.Goals as goal

pub returns-in_err-show_last-in-Err-judge_record : goal.returns-in_err-show_last-in-Err-judge_record
returns-in_err-show_last-in-Err-judge_record g c = λ parts is known.
    let r = c.from_residual in
    let p = err_from_is_err_and r.result r.ensures.1 in
    rw (p.1, p.2)
    (last_refuses c.args.view c.args.stand parts c.judge_record.new.rules c.args.record.now c.args.read is
    (output_of g.S.Sink c.args.sink.now) (output_of g.S.Sink c.dump_record.new.sink) (output_of g.S.Sink c.show_last.new.sink)
    c.address_after-address.result c.address_after-address.ensures c.in-Ok.held c.in-Ok.ensures _
    c.in_err-show_last-in-Err-judge_record.ensures)

pub returns-in_ok-show_last-in-Err-judge_record : goal.returns-in_ok-show_last-in-Err-judge_record
returns-in_ok-show_last-in-Err-judge_record g c = λ parts is known.
    judge_refuses c.args.view c.args.stand parts c.judge_record.new.rules c.args.record.now c.args.read is
    (output_of g.S.Sink c.args.sink.now) (output_of g.S.Sink c.dump_record.new.sink) (output_of g.S.Sink c.show_last.new.sink)
    c.address_after-address.result c.address_after-address.ensures c.in-Ok.held c.in-Ok.ensures _ _
    (c.in-Err-judge_record.ensures parts is known) c.in_ok-show_last-in-Err-judge_record.ensures
