use Rattle.std.proofs.Common.{rules}
use Rattle.m11_base_writes.specs.States.{output_of}
use Rattle.m11_dump.proofs.TextsLead.{last_refused}
use Rattle.m11_dump.proofs.objects.show_last.Goals as goal

pub returns-in-Err : goal.returns-in-Err
returns-in-Err g c = (
  c.in-Err.fault,
  last_refused c.args.view c.args.address c.args.held.now (output_of g.S.Sink c.args.sink.now) (output_of g.S.Sink c.show_held.new.sink)
      c.in-Err.fault c.in-Err.ensures,
  search rules,
)
