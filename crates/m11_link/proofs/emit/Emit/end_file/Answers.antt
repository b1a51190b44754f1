use Rattle.std.proofs.Common.{rules}
use Rattle.m11_base_writes.specs.States.{output_of}
use Rattle.m11_link.proofs.emit.Emit.end_file.Goals as goal

pub returns-clause-takes : goal.returns-clause-takes
returns-clause-takes g c = let takes = c.accept_end-taken.ensures.takes (output_of g.S.Sink c.args.tape.now) in search rules
