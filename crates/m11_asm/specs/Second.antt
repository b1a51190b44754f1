-- The second pass of a source, call by call: its state after some lines, what is written, and how it stops. (MACRO-11 Language Reference
-- Manual, "Source program format" and ".END directive". Refusing lines past the 65,535th is this project's own choice.)
use Rattle.std.specs.Prelude.{◌≡◌, ◌⊎◌, ℕ, ◌+◌, Bool, true, false, List, [], ◌∷◌, ◌++◌, length, Option, Result, Ok, Err, IfOk, OnOk}
use Rattle.m11_asm_faults.specs.declared.fault.AsmFault.{AsmFault}
use Rattle.m11_asm_faults.specs.declared.fault.AsmFault.TheVariants as fault
use Rattle.m11_scan.specs.Line.{SourceLine}
use Rattle.m11_scan.specs.Lines.{most_lines}
use Rattle.m11_unfold_rules.specs.Stages.{Stage}
use Rattle.m11_asm_rules.specs.Meanings.{Map}
use Rattle.m11_asm_passes.specs.Lines.{NumberedLine, PassLines}
use Rattle.m11_asm_passes.specs.Reaching.{Exceeds, MayLackMemory}
use Rattle.m11_asm_passes.specs.States.{PassState}
use Rattle.m11_asm_lines.specs.declared.counting.Counting.TheVariants.{Definitions}
use Rattle.m11_asm_outputs.specs.Object.{AllFit, object_contents}
use Rattle.m11_asm_outputs.specs.Outputs.{Gains, StopsBetween, StopsIn, Writes}
use Rattle.m11_base_writes.specs.Outputs.{AreFlushed, Outputs, Write}
use Rattle.m11_asm.specs.Program.{Program}
use Rattle.m11_asm.specs.LinesDone.{LineState, LinesDone, AllDone}
use Rattle.m11_asm.specs.Written.{EndOfSource, flagged_count, pieces_in, program_writes, written}
use Rattle.m11_asm.specs.Writing.{Writing, WritingAfter}
use Rattle.m11_asm.specs.declared.done.AsmDone.{AsmDone}

-- the map, the pass, the state of the writing, how many lines were read, whether `.END` became live, and the fault that ended the pass,
-- if any
pub record SecondState : Type 0 where
  pub map : Map
  pub pass_state : PassState
  pub writing : Writing
  pub read : ℕ
  pub has_ended : Bool
  pub fault : Option AsmFault

-- since the first outputs, exactly the writes of these live lines were made, and the state of the writing is the one after these lines
pub record Wrote (program : Program) (first now : Outputs) (writing : Writing) (lines : List NumberedLine) : Type 0 where
  pub keeps : WritingAfter program lines writing
  pub gains : Gains first now (written program lines)

abbrev pub line_state : SecondState → LineState
line_state state = record { pass_state = state.pass_state; read = state.read; has_ended = state.has_ended; fault = state.fault }

-- the pass has read these lines of the source, is done with all their live lines, and has no fault
pub record SecondAfter (program : Program) (source : List SourceLine) (first now : Outputs) (state : SecondState) : Type 0 where
  pub map_is : state.map ≡ program.map
  pub stands : LinesDone program.map Definitions (Wrote program first now state.writing) source (line_state state)

-- ---- how the pass stops

-- the pass stops, as `Stop` says, within the writes of live lines of the source
pub record StopsAmong (Stop : List Write → Type 0) (program : Program) (source : List SourceLine) : Type 0 where
  pub lines : List NumberedLine
  pub stage : Stage
  pub live : PassLines program.map Definitions source lines stage
  pub stops : Stop (written program lines)

-- the source exceeds a limit after these live lines, and exactly their writes were made
pub record StopsAtLimit (program : Program) (source : List SourceLine) (first now : Outputs) (stopped : AsmFault) : Type 0 where
  pub lines : List NumberedLine
  pub exceeds : Exceeds program.map Definitions source lines stopped
  pub gains : Gains first now (written program lines)

-- memory is refused to the pass after these live lines of the source: before the next one is placed, and exactly the writes of these lines
-- were made; or between two writes of the next one. No limit is exceeded up to there
pub data StopsForMemory (program : Program) (source : List SourceLine) (first now : Outputs) : Type 0 where
  BeforeLine : (lines : List NumberedLine) → MayLackMemory program.map Definitions source lines
      → Gains first now (written program lines) → StopsForMemory program source first now
  InLine : (lines : List NumberedLine) (next : NumberedLine) (stage : Stage) → MayLackMemory program.map Definitions source lines
      → PassLines program.map Definitions source (lines ++ next ∷ []) stage
      → StopsBetween first now (written program (lines ++ next ∷ [])) → StopsForMemory program source first now

-- the source has one line too many, and exactly the writes of the lines before it were made
pub record StopsAtLine (program : Program) (source : List SourceLine) (first now : Outputs) : Type 0 where
  pub too_many : length source ≡ most_lines + 1
  pub among : StopsAmong (Gains first now) program source

abbrev pub SecondFails : Program → List SourceLine → Outputs → Outputs → AsmFault → Type 0
SecondFails program source first now fault.Read = ⊥
SecondFails program source first now (fault.Write output) = StopsAmong (StopsIn output first now) program source
SecondFails program source first now fault.NoMemory = StopsForMemory program source first now
SecondFails program source first now fault.TooMuchSource = StopsAtLine program source first now
SecondFails program source first now stopped = StopsAtLimit program source first now stopped

-- ---- one line

-- after `.END` has become live nothing is read or written
pub record IsIdle (old new : SecondState) (before now : Outputs) : Type 0 where
  pub ended : old.has_ended ≡ true
  pub state : new ≡ old
  pub outputs : now ≡ before

-- the outputs and the state of the pass, before and after a call
pub record LineCall : Type 0 where
  pub before : Outputs
  pub now : Outputs
  pub old : SecondState
  pub new : SecondState

abbrev pub SecondReadsLine : Program → List SourceLine → SourceLine → Outputs → LineCall → Result (Unit {0}) AsmFault → Type 0
SecondReadsLine program source line first call (Ok done) = IsIdle call.old call.new call.before call.now
    ⊎ ((call.old.has_ended ≡ false) × SecondAfter program (source ++ line ∷ []) first call.now call.new)
SecondReadsLine program source line first call (Err stopped) =
    (call.old.has_ended ≡ false) × SecondFails program (source ++ line ∷ []) first call.now stopped

-- ---- between the live lines of one line of the source

-- the pass is done with all remaining live lines of the source; or it fails as `SecondFails` says
abbrev pub PlacesLeft : Program → List SourceLine → Outputs → Outputs → PassState → Writing → Result Bool AsmFault → Type 0
PlacesLeft program source first now pass_state writing (Ok has_ended) =
    AllDone program.map Definitions (Wrote program first now writing) source pass_state has_ended
PlacesLeft program source first now pass_state writing (Err stopped) = SecondFails program source first now stopped

-- ---- the end

abbrev pub ended_with : SecondState → EndOfSource
ended_with state = record { read = state.read; has_end = state.has_ended }

-- after all lines of a source, or after the one in which `.END` became live: everything is written, or the writes end early, since an
-- output failed or memory was refused
pub record SecondEnds (program : Program) (source : List SourceLine) (first now : Outputs) (state : SecondState)
    (result : Result AsmDone AsmFault) : Type 0 where
  pub lines : List NumberedLine
  pub stage : Stage
  pub live : PassLines program.map Definitions source lines stage
  pub read : state.read ≡ length source
  pub ended : state.has_ended ≡ stage.has_ended
  pub needs : state.has_ended ≡ false → stage.left ≡ []
  pub writes : Writes first now (program_writes program lines (ended_with state)) result
  -- once everything is written, the result has the count of flagged lines, each record of the object fits its block, and object and listing
  -- hold nothing back
  pub count : IfOk result (λ done. done.flagged ≡ flagged_count program lines state.has_ended)
  pub fit : OnOk result (AllFit (object_contents program.rows (pieces_in program.map lines)))
  pub flushed : OnOk result (AreFlushed now)
