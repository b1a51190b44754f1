use Rattle.std.specs.Io.Buffered.{writer_contents}
use Rattle.std.specs.Io.KnownBytes.{Keeps}
use Rattle.m11_base.proofs.buffered_sink.write_some.Given as goal

abbrev pub invariant-tries : goal.invariant-tries
invariant-tries g l =
    Keeps (writer_contents g.W.Write.contents l.initial.writer) (writer_contents g.W.Write.contents l.writer)
