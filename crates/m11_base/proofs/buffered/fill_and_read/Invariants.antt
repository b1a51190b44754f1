use Rattle.std.specs.Io.Buffered.{reader_remaining}
use Rattle.std.specs.Io.KnownBytes.{Keeps}
use Rattle.m11_base.proofs.buffered.fill_and_read.Given as goal

abbrev pub invariant-tries : goal.invariant-tries
invariant-tries g l =
    Keeps (reader_remaining g.R.Read.remaining l.initial.reader) (reader_remaining g.R.Read.remaining l.reader)
