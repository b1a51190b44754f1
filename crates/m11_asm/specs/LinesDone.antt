-- The state of either pass between two lines of its source, and between the live lines of one of them. `Done` says what the pass has
-- done with some live lines. (MACRO-11 Language Reference Manual, "Source program format" and ".END directive".)
use Rattle.std.specs.Prelude.{◌≡◌, ℕ, Bool, false, List, [], length, Option, None}
use Rattle.m11_asm_faults.specs.declared.fault.AsmFault.{AsmFault}
use Rattle.m11_scan.specs.Line.{SourceLine}
use Rattle.m11_asm_rules.specs.Meanings.{Map}
use Rattle.m11_asm_lines.specs.declared.counting.Counting.{Counting}
use Rattle.m11_asm_passes.specs.Lines.{NumberedLine}
use Rattle.m11_asm_passes.specs.States.{PassState, SourcePassState, PassAfter}

-- the state of a pass over a source: the pass itself, how many lines were read, whether `.END` became live, and the fault that ended
-- it, if any
pub record LineState : Type 0 where
  pub pass_state : PassState
  pub read : ℕ
  pub has_ended : Bool
  pub fault : Option AsmFault

-- without a fault the pass goes on, and nothing is left to unfold unless `.END` became live
pub record GoesOn (fault : Option AsmFault) (has_ended : Bool) (pass : SourcePassState) : Type 0 where
  pub goes_on : fault ≡ None → pass.fault ≡ None
  pub needs : fault ≡ None → has_ended ≡ false → pass.pass_state.unfolder.stage.left ≡ []

-- these are the live lines of a source, under a map and with the names counted before the first line, and the pass is done with them
pub record LiveLinesDone (map : Map) (counting : Counting) (Done : List NumberedLine → Type 0) (source : List SourceLine) (lines : List NumberedLine)
    (pass_state : PassState) : Type 0 where
  pub stands : PassAfter map counting source lines pass_state
  pub done : Done lines

-- the pass has read these lines of the source, is done with all their live lines, and has no fault
pub record LinesDone (map : Map) (counting : Counting) (Done : List NumberedLine → Type 0) (source : List SourceLine) (state : LineState)
    : Type 0 where
  pub lines : List NumberedLine
  pub taken : LiveLinesDone map counting Done source lines state.pass_state
  pub read : state.read ≡ length source
  pub ended : state.has_ended ≡ state.pass_state.unfolder.stage.has_ended
  pub needs : state.has_ended ≡ false → state.pass_state.unfolder.stage.left ≡ []
  pub goes_on : state.fault ≡ None

-- the pass is done with all the live lines of the source, including those of its last line; the flag says whether `.END` became live
pub record AllDone (map : Map) (counting : Counting) (Done : List NumberedLine → Type 0) (source : List SourceLine) (pass_state : PassState)
    (has_ended : Bool) : Type 0 where
  pub lines : List NumberedLine
  pub taken : LiveLinesDone map counting Done source lines pass_state
  pub ended : has_ended ≡ pass_state.unfolder.stage.has_ended
