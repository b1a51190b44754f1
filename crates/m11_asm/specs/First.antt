-- The first pass of a source: its state between two lines, and its result. (MACRO-11 Language Reference Manual, "Source program format",
-- "Symbols and expressions" and ".END directive". Refusing lines past the 65,535th is this project's own choice.)
use Rattle.std.specs.Prelude.{◌≡◌, ◌<◌, ◌⊎◌, ℕ, Bool, true, false, List, [], ◌∷◌, ◌++◌, Option, Result, Ok, Err}
use Rattle.m11_asm_faults.specs.declared.fault.AsmFault.{AsmFault}
use Rattle.m11_asm_faults.specs.declared.fault.AsmFault.TheVariants.{TooMuchSource}
use Rattle.m11_scan.specs.Line.{SourceLine}
use Rattle.m11_scan.specs.Lines.{most_lines}
use Rattle.m11_asm_rules.specs.Meanings.{empty_map}
use Rattle.m11_asm_lines.specs.Counting.{used_names_in, none_used}
use Rattle.m11_asm_lines.specs.UsedSymbols.{UsedNames}
use Rattle.m11_asm_rules.specs.Tables.{Table}
use Rattle.m11_asm_passes.specs.Lines.{NumberedLine, givens}
use Rattle.m11_asm_passes.specs.Reaching.{Refused}
use Rattle.m11_asm_passes.specs.States.{PassState}
use Rattle.m11_asm.specs.Facts.{Facts, facts_of}
use Rattle.m11_asm.specs.LinesDone.{LineState, LinesDone, AllDone}

-- the pass, the facts of the lines so far, how many lines were read, whether `.END` became live, and the fault that ended the pass, if
-- any
pub record FirstState : Type 0 where
  pub pass_state : PassState
  pub facts : Facts
  pub read : ℕ
  pub has_ended : Bool
  pub fault : Option AsmFault

-- the facts are those of these live lines
abbrev pub AreFactsOf : Facts → List NumberedLine → Type 0
AreFactsOf facts lines = facts ≡ facts_of (givens lines)

abbrev pub line_state : FirstState → LineState
line_state state = record { pass_state = state.pass_state; read = state.read; has_ended = state.has_ended; fault = state.fault }

-- the pass has read these lines of the source, is done with all their live lines, and has no fault
abbrev pub FirstAfter : List SourceLine → FirstState → Type 0
FirstAfter source state = LinesDone empty_map none_used (AreFactsOf state.facts) source (line_state state)

-- one more line can be read: `.END` hasn't become live, and the limit on lines isn't reached
abbrev pub HasRoom : FirstState → Type 0
HasRoom state = (state.has_ended ≡ false) × (state.read < most_lines)

-- no more lines can be read: `.END` hasn't become live, and the limit on lines is reached
abbrev pub IsFull : FirstState → Type 0
IsFull state = (state.has_ended ≡ false) × (state.read ≡ most_lines)

-- the source has one line too many, its last line exceeds another limit, or memory is refused
abbrev pub FirstFails : List SourceLine → FirstState → AsmFault → Type 0
FirstFails source old TooMuchSource = IsFull old
FirstFails source old fault = HasRoom old × (lines : List NumberedLine) × Refused empty_map none_used source lines fault

-- one more line of the source is read, or none after `.END` has become live; or the call fails as `FirstFails` says
abbrev pub FirstReadsLine : List SourceLine → SourceLine → FirstState → FirstState → Result (Unit {0}) AsmFault → Type 0
FirstReadsLine source line old new (Ok done) =
    ((old.has_ended ≡ true) × (new ≡ old)) ⊎ (HasRoom old × FirstAfter (source ++ line ∷ []) new)
FirstReadsLine source line old new (Err fault) = FirstFails (source ++ line ∷ []) old fault

-- ---- between the live lines of one line of the source

-- the pass is done with all remaining live lines of the source; or the source exceeds a limit, or memory is refused
abbrev pub PlacesLeft : List SourceLine → PassState → Facts → Result Bool AsmFault → Type 0
PlacesLeft source new facts (Ok has_ended) = AllDone empty_map none_used (AreFactsOf facts) source new has_ended
PlacesLeft source new facts (Err fault) = (lines : List NumberedLine) × Refused empty_map none_used source lines fault

-- ---- the result of the pass

-- the table after the last line, the names that the lines use, and the other facts of the lines
pub record Symbols : Type 0 where
  pub table : Table
  pub used_names : UsedNames
  pub facts : Facts

abbrev pub symbols_of : FirstState → Symbols
symbols_of state = record { table = state.pass_state.table; used_names = used_names_in state.pass_state.counting; facts = state.facts }
