-- The state of a pass between two calls, and the lines that it has placed. (This project's own.)
use Rattle.std.specs.Prelude.{◌≡◌, false, List, Option, Some, None}
use Rattle.m11_asm_faults.specs.declared.fault.AsmFault.{AsmFault}
use Rattle.m11_scan.specs.Line.{SourceLine}
use Rattle.m11_unfold.specs.Unfolder.{UnfolderState}
use Rattle.m11_unfold_rules.specs.declared.fault.UnfoldFault.{UnfoldFault}
use Rattle.m11_asm_rules.specs.Contents.{Emission}
use Rattle.m11_asm_rules.specs.Meanings.{Map}
use Rattle.m11_asm_lines.specs.declared.counting.Counting.{Counting}
use Rattle.m11_asm_rules.specs.Tables.{Table}
use Rattle.m11_asm_passes.specs.Lines.{NumberedLine, PassLines, counting_at, table_at, with_line}
use Rattle.m11_asm_passes.specs.declared.state.State.{State}

-- the unfolding, the table, the counted names, and what the last line emitted
pub record PassState : Type 0 where
  pub unfolder : UnfolderState
  pub table : Table
  pub counting : Counting
  pub emission : Emission

-- the state, and the fault that ended the pass, if any
pub record SourcePassState : Type 0 where
  pub pass_state : PassState
  pub fault : Option AsmFault

abbrev pub pass_state_of : State → PassState
pass_state_of state = record { unfolder = state.unfolder; table = state.pass; counting = state.counting; emission = state.emission }

-- the state after a line of the source has been fed
abbrev pub fed : SourceLine → PassState → PassState
fed line pass_state = record pass_state {
  unfolder = record {
    stage = with_line line pass_state.unfolder.stage;
    has_statement = false;
    fault = pass_state.unfolder.fault;
  };
}

-- a pass without a fault has an unfolding without one
abbrev pub GoesOnUntil : Option AsmFault → Option UnfoldFault → Type 0
GoesOnUntil None fault = fault ≡ None
GoesOnUntil (Some stopped) fault = Unit {0}

-- this is the state of a pass after the live lines of a source, under a map and with the names counted before the first line
pub record PassAfter (map : Map) (before : Counting) (source : List SourceLine) (lines : List NumberedLine) (pass_state : PassState) : Type 0 where
  pub lines_are : PassLines map before source lines pass_state.unfolder.stage
  pub table : pass_state.table ≡ table_at map lines
  pub counting : pass_state.counting ≡ counting_at map before lines
