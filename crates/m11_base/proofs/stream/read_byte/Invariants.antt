use Rattle.std.specs.Io.KnownBytes.{Keeps}
use Rattle.m11_base.proofs.stream.read_byte.Given as goal

abbrev pub invariant-tries : goal.invariant-tries
invariant-tries g l = Keeps (g.R.Read.remaining l.initial.reader) (g.R.Read.remaining l.reader)
