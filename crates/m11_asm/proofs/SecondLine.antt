-- The second pass on one more line of the source.
use Rattle.std.proofs.Common.{◌≡◌, ◌∙◌, ℕ, ◌+◌, Bool, false, List, [], ◌∷◌, ◌++◌, length, Option, None, Result, Ok, Err, IfOk, IfErr, IsErrAnd, sym, ap, subst, inr}
use Rattle.std.specs.Option.{option_or}
use Rattle.std.specs.Result.{result_err}
use Rattle.m11_asm_faults.specs.declared.fault.AsmFault.{AsmFault}
use Rattle.m11_asm_faults.specs.declared.fault.AsmFault.TheVariants as fault
use Rattle.m11_base_writes.specs.Outputs.{Outputs}
use Rattle.m11_asm.proofs.Counting.{one_longer}
use Rattle.m11_scan.specs.Line.{SourceLine}
use Rattle.m11_scan.specs.Lines.{most_lines}
use Rattle.m11_asm_passes.specs.Lines as lines
use Rattle.m11_asm_passes.specs.Lines.{NumberedLine, with_line}
use Rattle.m11_asm_passes.specs.States.{PassState, SourcePassState, fed}
use Rattle.m11_asm_rules.specs.Meanings.{Map}
use Rattle.m11_asm.specs.Program.{Program}
use Rattle.m11_asm.specs.Second.{LineCall, SecondFails, SecondAfter, SecondState, SecondReadsLine, PlacesLeft, Wrote, line_state}
use Rattle.m11_asm.specs.LinesDone.{LiveLinesDone}
use Rattle.m11_asm.proofs.Taking.{Feeds, number_so, read_more, stands_more}
use Rattle.m11_asm.specs.Writing.{Writing}
use Rattle.m11_asm_lines.specs.declared.counting.Counting.TheVariants.{Definitions}

abbrev pub state_of : Map → PassState → Writing → ℕ → Bool → Option AsmFault → SecondState
state_of map pass_state writing read has_ended fault =
    record { map = map; pass_state = pass_state; writing = writing; read = read; has_ended = has_ended; fault = fault }

abbrev pub between : Outputs → Outputs → SecondState → SecondState → LineCall
between before now old new = record { before = before; now = now; old = old; new = new }

module _ (program : Program) (source : List SourceLine) (line : SourceLine) (first before : Outputs) (map_ : Map) (pass_state : PassState)
    (writing : Writing) (read : ℕ) (has_ended : Bool) (stopped : Option AsmFault) (goes : has_ended ≡ false)
    (stands : SecondAfter program source first before (state_of map_ pass_state writing read has_ended stopped)) where
  abbrev state : SecondState
  state = state_of map_ pass_state writing read has_ended stopped

  live_more : lines.PassLines program.map Definitions (source ++ line ∷ []) stands.stands.lines (with_line line pass_state.unfolder.stage)
  live_more =
      lines.PassLines.Reading source stands.stands.lines pass_state.unfolder.stage line stands.stands.taken.stands.lines_are
      (stands.stands.needs goes) (sym stands.stands.ended ∙ goes)

  too_long : read ≡ most_lines → SecondFails program (source ++ line ∷ []) first before fault.TooMuchSource
  too_long full = record {
    too_many = one_longer source line ∙ ap (λ (n : ℕ). n + 1) (sym stands.stands.read ∙ full);
    among = record {
      lines = stands.stands.lines;
      stage = with_line line pass_state.unfolder.stage;
      live = live_more;
      stops = stands.stands.taken.done.gains;
    };
  }

  -- if the next line has no number, since there are too many lines, the call may fail with that fault
  pub line_refused : (numbers : Result ℕ AsmFault) (came : AsmFault) (new : SecondState) (result : Result (Unit {0}) AsmFault)
      → IfErr numbers (λ f. (f ≡ fault.TooMuchSource) × (read ≡ most_lines)) → Err came ≡ numbers → IsErrAnd result (λ f. f ≡ came)
      → SecondReadsLine program source line first (between before before (state_of map_ pass_state writing read has_ended stopped) new) result
  line_refused numbers came new (Ok done) refuses same is = absurd is
  line_refused numbers came new (Err other) refuses same is =
      let R : Result ℕ AsmFault → Type 0 = λ r. IfErr r (λ f. (f ≡ fault.TooMuchSource) × (read ≡ most_lines)) in
      let full : (came ≡ fault.TooMuchSource) × (read ≡ most_lines) = subst R (sym same) refuses in
      let P : AsmFault → Type 0 = λ f. SecondFails program (source ++ line ∷ []) first before f in
      (goes, subst P (sym (is ∙ full.0)) (too_long full.1))

  module _ (feeds : Feeds) (pass fed_pass : SourcePassState) (going_is : pass.pass_state ≡ pass_state)
      (fed_is : fed_pass ≡ record { pass_state = fed line pass.pass_state; fault = pass.fault }) (numbers : Result ℕ AsmFault) (number : ℕ)
      (counts : IfOk numbers (λ n. n ≡ read + 1)) (number_is : Ok number ≡ numbers) (map' : Map) (map_is : map' ≡ map_)
      (now : Outputs) (outcome : Result Bool AsmFault) (new_going : PassState) (new_writing : Writing)
      (takes : (program : Program) (source : List SourceLine) (lines : List NumberedLine) (first : Outputs) → map' ≡ program.map
      → number ≡ length source → LiveLinesDone program.map Definitions (Wrote program first before writing) source lines fed_pass.pass_state
      → PlacesLeft program source first now new_going new_writing outcome) where
    left : PlacesLeft program (source ++ line ∷ []) first now new_going new_writing outcome
    left =
        let all : List SourceLine = source ++ line ∷ [] in
        let G : PassState → Type 0 =
        λ g. LiveLinesDone program.map Definitions (Wrote program first before writing) all stands.stands.lines g in
        let fed_so : fed line pass_state ≡ fed_pass.pass_state =
        ap (fed line) (sym going_is) ∙ sym (ap (λ (p : SourcePassState). p.pass_state) fed_is) in
        takes program all stands.stands.lines first (map_is ∙ stands.map_is)
        (number_so program.map Definitions (Wrote program first before writing) source line (line_state state) stands.stands numbers
        number counts number_is)
        (subst G fed_so
        (read_more program.map Definitions (Wrote program first before writing) source line (line_state state) stands.stands feeds
        goes))

    pub line_fails : (came : AsmFault) (new : SecondState) (result : Result (Unit {0}) AsmFault) → Err came ≡ outcome
        → IsErrAnd result (λ f. f ≡ came)
        → SecondReadsLine program source line first (between before now (state_of map_ pass_state writing read has_ended stopped) new) result
    line_fails came new (Ok done) same is = absurd is
    line_fails came new (Err other) same is =
        let P : Result Bool AsmFault → Type 0 =
        λ r. PlacesLeft program (source ++ line ∷ []) first now new_going new_writing r in
        let here : PlacesLeft program (source ++ line ∷ []) first now new_going new_writing (Err came) = subst P (sym same) left in
        let Q : AsmFault → Type 0 = λ f. SecondFails program (source ++ line ∷ []) first now f in
        (goes, subst Q (sym is) here)

    pub line_takes : (ended : Bool) (kept : Option AsmFault) (before_fault : Option AsmFault) → Ok ended ≡ outcome
        → IfOk outcome (λ e. e ≡ false → new_going.unfolder.stage.left ≡ [])
        → kept ≡ option_or before_fault (result_err outcome) → before_fault ≡ None
        → SecondReadsLine program source line first (between before now (state_of map_ pass_state writing read has_ended stopped)
        (state_of map_ new_going new_writing number ended kept)) (Ok tt)
    line_takes ended kept before_fault same needs kept_is none =
        let P : Result Bool AsmFault → Type 0 = λ r. PlacesLeft program (source ++ line ∷ []) first now new_going new_writing r in
        inr (
          goes,
          record {
            map_is = stands.map_is;
            stands = stands_more program.map Definitions (Wrote program first before writing) source line (line_state state)
                stands.stands (Wrote program first now new_writing) new_going number ended outcome kept before_fault
                (number_so program.map Definitions (Wrote program first before writing) source line (line_state state)
                stands.stands numbers number counts number_is) same (subst P (sym same) left) needs kept_is none;
          },
        )
