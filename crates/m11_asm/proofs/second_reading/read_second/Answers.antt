use Rattle.m11_asm_outputs.specs.Outputs.{assembly}
use Rattle.m11_base_writes.specs.Outputs.{Outputs, outputs_of}
use Rattle.m11_asm.specs.Program.{program_in}
use Rattle.m11_base_writes.proofs.Writing.{gains_nothing}
use Rattle.m11_base_writes.specs.Passes.{pass_of}
use Rattle.m11_asm.proofs.SecondLines.{none_read, second_ends}
use Rattle.m11_asm.proofs.second_reading.read_second.Goals as goal

pub returns-in_err-second : goal.returns-in_err-second
returns-in_err-second g c =
    none_read g.F.Feed.text g.F.Feed.faults (program_in c.args.symbols)
    (outputs_of g.S.Sink g.T.Sink g.U.Sink c.args.object.now c.args.listing.now c.args.messages.now) c.args.feeds.now
    c.from_residual.result c.from_residual.ensures.1

pub returns-in-Ok : goal.returns-in-Ok
returns-in-Ok g c =
    let old : Outputs = outputs_of g.S.Sink g.T.Sink g.U.Sink c.args.object.now c.args.listing.now c.args.messages.now in
    let now : Outputs =
    outputs_of g.S.Sink g.T.Sink g.U.Sink c.put_lines.new.object c.put_lines.new.listing c.put_lines.new.messages in
    let new : Outputs = outputs_of g.S.Sink g.T.Sink g.U.Sink c.end.new.object c.end.new.listing c.end.new.messages in
    let program = program_in c.args.symbols in
    let taken = c.in-Ok.ensures program old (c.in_ok-second.ensures old old (gains_nothing assembly old)) in
    second_ends g.F.Feed.text g.F.Feed.faults program old
    (pass_of g.F.Feed.text g.F.Feed.faults c.args.feeds.now c.put_lines.new.feeds) now new c.put_lines.new.second taken c.end.result
    (c.end.ensures.ends program taken.source old taken.stands)

pub returns-in-Err : goal.returns-in-Err
returns-in-Err g c =
    let old : Outputs = outputs_of g.S.Sink g.T.Sink g.U.Sink c.args.object.now c.args.listing.now c.args.messages.now in
    c.in-Err.ensures (program_in c.args.symbols) old (c.in_ok-second.ensures old old (gains_nothing assembly old))
