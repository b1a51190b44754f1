use Rattle.m11_base_writes.specs.Passes.{pass_of}
use Rattle.m11_asm.proofs.FirstLines.{all_given, none_given}
use Rattle.m11_asm.proofs.first_reading.read_first.Goals as goal

pub returns-in_err-first : goal.returns-in_err-first
returns-in_err-first g c = none_given g.F.Feed.text g.F.Feed.faults c.args.feeds.now c.from_residual.result c.from_residual.ensures.1

pub returns-in-Ok : goal.returns-in-Ok
returns-in-Ok g c =
    all_given (pass_of g.F.Feed.text g.F.Feed.faults c.args.feeds.now c.read_lines.new.feeds) c.read_lines.new.first
    (c.in-Ok.ensures c.in_ok-first.ensures) c.end.result c.end.ensures.symbols c.end.ensures.fault
