use Rattle.std.proofs.Common.{◌≡◌, ◌-◌, List, None, length}
use Rattle.m11_base_writes.specs.Outputs.{Outputs, outputs_of}
use Rattle.m11_scan.specs.Line.{SourceLine}
use Rattle.m11_asm_passes.specs.Lines.{NumberedLine}
use Rattle.m11_unfold_rules.specs.Limits.{most_lines}
use Rattle.m11_asm.specs.Program.{Program}
use Rattle.m11_asm_lines.specs.declared.counting.Counting.TheVariants.{Definitions}
use Rattle.m11_asm.specs.Second.{Wrote}
use Rattle.m11_asm.specs.LinesDone.{LiveLinesDone}
use Rattle.m11_asm.proofs.Taking.{SomeTaken}
use Rattle.m11_asm.proofs.second.place_left.Given as goal

abbrev pub invariant-lines : goal.invariant-lines
invariant-lines g l = record {
  goes_on : l.pass.fault ≡ None;
  takes : (program : Program) (source : List SourceLine) (lines : List NumberedLine) (first : Outputs)
      → l.map ≡ program.map → l.number ≡ length source
      → LiveLinesDone program.map Definitions
      (Wrote program first (outputs_of g.S.Sink g.T.Sink g.U.Sink l.initial.object l.initial.listing l.initial.messages)
      l.initial.writing) source lines l.initial.pass.pass_state
      → SomeTaken program.map Definitions
      (Wrote program first (outputs_of g.S.Sink g.T.Sink g.U.Sink l.object l.listing l.messages) l.writing) source l.pass.pass_state;
}

abbrev pub decreases-lines : goal.decreases-lines
decreases-lines g l = most_lines - l.pass.pass_state.unfolder.stage.taken
