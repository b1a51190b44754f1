use Rattle.std.proofs.Common.{◌≡◌, [], None}
use Rattle.m11_base_writes.specs.Outputs.{Outputs, outputs_of}
use Rattle.m11_asm.specs.Program.{Program}
use Rattle.m11_asm.specs.Second.{SecondAfter}
use Rattle.m11_asm.proofs.SecondLines.{SecondSoFar}
use Rattle.m11_asm.proofs.second_reading.put_lines.Given as goal

abbrev pub invariant-lines : goal.invariant-lines
invariant-lines g l = record {
  sound : l.reader.fault ≡ None;
  so_far : (program : Program) (old : Outputs)
      → SecondAfter program [] old
      (outputs_of g.S.Sink g.T.Sink g.U.Sink l.initial.object l.initial.listing l.initial.messages) l.initial.second
      → SecondSoFar g.F.Feed.text g.F.Feed.faults l.initial.feeds l.feeds l.reader program old
      (outputs_of g.S.Sink g.T.Sink g.U.Sink l.object l.listing l.messages) l.second;
}

abbrev pub decreases-lines : goal.decreases-lines
decreases-lines g l = l.reader.lines_left
