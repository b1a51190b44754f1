use Rattle.std.proofs.Common.{◌≡◌, ◌-◌, List, None}
use Rattle.m11_scan.specs.Line.{SourceLine}
use Rattle.m11_unfold_rules.specs.Limits.{most_lines}
use Rattle.m11_asm_passes.specs.Lines.{NumberedLine}
use Rattle.m11_asm_lines.specs.Counting.{none_used}
use Rattle.m11_asm_rules.specs.Meanings.{empty_map}
use Rattle.m11_asm.specs.First.{AreFactsOf}
use Rattle.m11_asm.specs.LinesDone.{LiveLinesDone}
use Rattle.m11_asm.proofs.Taking.{SomeTaken}
use Rattle.m11_asm.proofs.first.place_left.Given as goal

abbrev pub invariant-lines : goal.invariant-lines
invariant-lines l = record {
  goes_on : l.pass.fault ≡ None;
  takes : (source : List SourceLine) (lines : List NumberedLine) → LiveLinesDone empty_map none_used (AreFactsOf l.initial.facts) source lines l.initial.pass.pass_state
      → SomeTaken empty_map none_used (AreFactsOf l.facts) source l.pass.pass_state;
}

abbrev pub decreases-lines : goal.decreases-lines
decreases-lines l = most_lines - l.pass.pass_state.unfolder.stage.taken
