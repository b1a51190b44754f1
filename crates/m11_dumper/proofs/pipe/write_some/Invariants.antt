use Rattle.std.specs.Io.KnownBytes.{Keeps}
use Rattle.m11_dumper.proofs.pipe.write_some.Given as goal

abbrev pub invariant-tries : goal.invariant-tries
invariant-tries g l = Keeps (g.W.Write.contents l.initial.writer) (g.W.Write.contents l.writer)
