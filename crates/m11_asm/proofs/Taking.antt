-- Either pass on one line of the source and the live lines that follow from it.
use Rattle.std.proofs.Common.{◌≡◌, ◌∙◌, ℕ, ◌+◌, Bool, true, false, List, [], ◌∷◌, ◌++◌, length, Option, None, Result, Ok, Err, IfOk, refl, sym, ap, subst}
use Rattle.std.specs.Option.{option_or}
use Rattle.std.specs.Result.{result_err}
use Rattle.m11_asm_faults.specs.declared.fault.AsmFault.{AsmFault}
use Rattle.m11_scan.specs.Line.{SourceLine}
use Rattle.m11_unfold_rules.specs.Stages.{Stage, start}
use Rattle.m11_unfold_rules.specs.Taking.{Live}
use Rattle.m11_asm_rules.specs.Meanings.{Map}
use Rattle.m11_asm_lines.specs.declared.counting.Counting.{Counting}
use Rattle.m11_asm_passes.specs.Lines.{NumberedLine}
use Rattle.m11_asm_passes.specs.Reaching.{PlacesLine, Reaches, Refused}
use Rattle.m11_asm_passes.specs.States.{PassState, SourcePassState, PassAfter, fed}
use Rattle.m11_asm_passes.specs.Turns.{LineFact, Turns}
use Rattle.m11_asm_passes.specs.declared.turns.Turn.{Turn}
use Rattle.m11_asm_passes.specs.declared.turns.Turn.TheVariants.{NeedLine, End, Line}
use Rattle.m11_asm.specs.LinesDone.{GoesOn, LineState, LinesDone, LiveLinesDone, AllDone}
use Rattle.m11_asm.proofs.Counting.{keeps_none, one_longer}

-- the contract of a call that feeds a line
abbrev pub Feeds : Type 0
Feeds = (map : Map) (before : Counting) (source : List SourceLine) (lines : List NumberedLine) (line : SourceLine) (pass_state : PassState)
    → PassAfter map before source lines pass_state → pass_state.unfolder.stage.left ≡ [] → pass_state.unfolder.stage.has_ended ≡ false
    → PassAfter map before (source ++ line ∷ []) lines (fed line pass_state)

-- the pass is done with some live lines of the source
abbrev pub SomeTaken : Map → Counting → (List NumberedLine → Type 0) → List SourceLine → PassState → Type 0
SomeTaken map_ counting Done source pass_state = (lines : List NumberedLine) × LiveLinesDone map_ counting Done source lines pass_state

-- ---- before the first line

pub begins_so : (pass : SourcePassState) (fault : Option AsmFault) → pass.pass_state.unfolder.stage ≡ start [] → pass.fault ≡ None
    → GoesOn fault false pass
begins_so pass fault first goes = record {
  goes_on = λ none. goes;
  needs = λ none is. ap (λ (s : Stage). s.left) first;
}

pub stands_first : (map_ : Map) (counting : Counting) (Done : List NumberedLine → Type 0) (pass_state : PassState) (fault : Option AsmFault)
    → PassAfter map_ counting [] [] pass_state → Done [] → pass_state.unfolder.stage ≡ start [] → fault ≡ None
    → LinesDone map_ counting Done [] (record { pass_state = pass_state; read = 0; has_ended = false; fault = fault })
stands_first map_ counting Done pass_state fault stands done first goes = record {
  lines = [];
  taken = record { stands = stands; done = done };
  read = refl;
  ended = sym (ap (λ (s : Stage). s.has_ended) first);
  needs = λ is. ap (λ (s : Stage). s.left) first;
  goes_on = goes;
}

-- ---- one call, by its contract

module _ (map_ : Map) (counting : Counting) (source : List SourceLine) (old new : PassState) (live : Live) (said : LineFact)
    (turn : (lines : List NumberedLine) (result : Result Turn AsmFault) → PassAfter map_ counting source lines old
    → Turns map_ old new live said result → Reaches map_ counting source lines new live said result)
    (Done : List NumberedLine → Type 0) (some : SomeTaken map_ counting Done source old) where
  module _ (came : Turn) (turned : Turns map_ old new live said (Ok came)) where
    reached : Reaches map_ counting source some.0 new live said (Ok came)
    reached = turn some.0 (Ok came) some.1.stands turned

    pub rests_all : came ≡ NeedLine → AllDone map_ counting Done source new false
    rests_all is =
        let P : Turn → Type 0 = λ t. Reaches map_ counting source some.0 new live said (Ok t) in
        let here : Reaches map_ counting source some.0 new live said (Ok NeedLine) = subst P is reached in
        record { lines = some.0; taken = record { stands = here.0; done = some.1.done }; ended = sym here.2 }

    pub ends_all : came ≡ End → AllDone map_ counting Done source new true
    ends_all is =
        let P : Turn → Type 0 = λ t. Reaches map_ counting source some.0 new live said (Ok t) in
        let here : Reaches map_ counting source some.0 new live said (Ok End) = subst P is reached in
        record { lines = some.0; taken = record { stands = here.0; done = some.1.done }; ended = sym here.1 }

    pub places_line : came ≡ Line → PlacesLine map_ counting source some.0 new live said
    places_line is =
        let P : Turn → Type 0 = λ t. Reaches map_ counting source some.0 new live said (Ok t) in subst P is reached

  pub refused_after : (fault : AsmFault) → Turns map_ old new live said (Err fault) → Refused map_ counting source some.0 fault
  refused_after fault turned = turn some.0 (Err fault) some.1.stands turned

-- ---- a line of the source

module _ (map_ : Map) (counting : Counting) (Done : List NumberedLine → Type 0) (source : List SourceLine) (line : SourceLine)
    (state : LineState) (stands : LinesDone map_ counting Done source state) where
  pub number_so : (numbers : Result ℕ AsmFault) (number : ℕ) → IfOk numbers (λ n. n ≡ state.read + 1) → Ok number ≡ numbers
      → number ≡ length (source ++ line ∷ [])
  number_so numbers number counts number_is =
      let R : Result ℕ AsmFault → Type 0 = λ r. IfOk r (λ n. n ≡ state.read + 1) in
      subst R (sym number_is) counts ∙ ap (λ (n : ℕ). n + 1) stands.read ∙ sym (one_longer source line)

  -- feeding the line adds it to the source
  pub read_more : Feeds → state.has_ended ≡ false
      → LiveLinesDone map_ counting Done (source ++ line ∷ []) stands.lines (fed line state.pass_state)
  read_more feeds goes = record {
    stands = feeds map_ counting source stands.lines line state.pass_state stands.taken.stands (stands.needs goes)
        (sym stands.ended ∙ goes);
    done = stands.taken.done;
  }

  -- if the pass is done with the live lines that follow from the line, it is done with the source up to that line
  pub stands_more : (Done' : List NumberedLine → Type 0) (pass_state : PassState) (number : ℕ) (ended : Bool) (outcome : Result Bool AsmFault)
      (kept before_fault : Option AsmFault) → number ≡ length (source ++ line ∷ []) → Ok ended ≡ outcome
      → AllDone map_ counting Done' (source ++ line ∷ []) pass_state ended
      → IfOk outcome (λ e. e ≡ false → pass_state.unfolder.stage.left ≡ []) → kept ≡ option_or before_fault (result_err outcome)
      → before_fault ≡ None
      → LinesDone map_ counting Done' (source ++ line ∷ []) (record { pass_state = pass_state; read = number; has_ended = ended; fault = kept })
  stands_more Done' pass_state number ended outcome kept before_fault number_is same all needs kept_is none =
      let N : Result Bool AsmFault → Type 0 = λ r. IfOk r (λ e. e ≡ false → pass_state.unfolder.stage.left ≡ []) in
      record {
        lines = all.lines;
        taken = all.taken;
        read = number_is;
        ended = all.ended;
        needs = subst N (sym same) needs;
        goes_on = keeps_none kept before_fault outcome ended kept_is none same;
      }
