-- A pass over a reading comes to what `pass_over` computes.
use Rattle.std.proofs.Common.{◌≡◌, ◌∙◌, ◌<◌, ℕ, ◌+◌, ◌*◌, zero, suc, Bool, true, false, cond, List, [], ◌∷◌, ◌++◌, length, append-nil, append_assoc, length-append, Option, Some, None, Result, Ok, Err, refl, sym, ap, subst, arith}
use Rattle.m11_asm.specs.Outcome as outcome
use Rattle.m11_asm.specs.Outcome.{Ends, Refuses, Unended}
use Rattle.m11_asm.specs.Written.{EndOfSource}
use Rattle.m11_asm_faults.specs.Faults.{of_unfolding}
use Rattle.m11_asm_faults.specs.declared.fault.AsmFault.{AsmFault}
use Rattle.m11_asm_lines.specs.declared.counting.Counting.{Counting}
use Rattle.m11_asm_outcome_laws.proofs.OnePass.{EndsOnce, EndsOrExceeds, ExceedsOnce, not_both, one_end, one_refusal}
use Rattle.m11_asm_outcome_laws.specs.PassesOver.{all_read, PassComesTo, ended_after, limited, line_placed, line_read, moved, PassOver, pass_over, passed, Place, place}
use Rattle.m11_asm_passes.proofs.Falling.{acts_falling, giving_falls, none_left, passing_falls, work_left}
use Rattle.m11_asm_passes.specs.Lines.{NumberedLine, PassLines, acted, counting_at, numbered, table_at, with_line}
use Rattle.m11_asm_passes.specs.Lines as lines
use Rattle.m11_asm_passes.specs.Reaching as reaching
use Rattle.m11_asm_passes.specs.Refusals.{given_by, line_fault}
use Rattle.m11_asm_rules.specs.Meanings.{Map}
use Rattle.m11_scan.specs.Line.{SourceLine}
use Rattle.m11_scan.specs.declared.fault.LineFault.{LineFault}
use Rattle.m11_scan_line_laws.specs.Readings.{Reading}
use Rattle.m11_unfold_bodies.specs.Left.{depth}
use Rattle.m11_unfold_rules.specs.Limits.{most_lines, next_fault}
use Rattle.m11_unfold_rules.specs.Stages.{Stage, start}
use Rattle.m11_unfold_rules.specs.Taking.{Gives, Live, Move, NothingLeft, Passes, move}
use Rattle.m11_unfold_rules.specs.Unfolding as steps
use Rattle.m11_unfold_rules.specs.declared.fault.UnfoldFault.{UnfoldFault}

module _ (map_ : Map) (counting : Counting) (reading : Reading) where
  abbrev Comes : PassOver → Type 0
  Comes over = PassComesTo map_ counting reading over.lines over.result

  -- a pass can stand here
  record Stands (source : List SourceLine) (at : Place) : Type 0 where
    pub passes : PassLines map_ counting source at.lines at.stage
    pub whole : source ++ at.more ≡ reading.lines
    pub read : at.read ≡ length source

  -- the number of lines still to be read, plus the work left in unfolding
  abbrev work : Place → ℕ
  work at = length at.more + work_left at.stage

  abbrev Onward : (Place → PassOver) → ℕ → Type 0
  Onward onward most = (source : List SourceLine) (at : Place) → Stands source at → work at < most → Comes (onward at)

  module _ (onward : Place → PassOver) (most : ℕ) (further : Onward onward most) (source : List SourceLine) (at : Place)
      (stands : Stands source at) (small : work at < suc most) where
    -- ---- nothing is left to unfold

    module _ (none : at.stage.left ≡ []) (goes : at.stage.has_ended ≡ false) where
      all_source : at.more ≡ [] → source ≡ reading.lines
      all_source is = sym (append-nil source) ∙ ap (λ (ls : List SourceLine). source ++ ls) (sym is) ∙ stands.whole

      unended : at.more ≡ [] → Unended map_ counting reading.lines at.lines
      unended is = record {
        stage = at.stage;
        live = subst (λ (ls : List SourceLine). PassLines map_ counting ls at.lines at.stage) (all_source is) stands.passes;
        left = none;
        goes_on = goes;
      }

      all_comes : at.more ≡ [] → (stops : Option LineFault) → reading.fault ≡ stops → Comes (all_read stops at)
      all_comes is None stop = outcome.Ends.WithoutEnd (unended is) stop
          (ap (λ (n : ℕ). record { read = n; has_end = false }) (stands.read ∙ ap length (all_source is)))
      all_comes is (Some fault) stop = outcome.Refuses.AtReading fault stop refl (unended is)

      read_comes : (more : List SourceLine) → at.more ≡ more → Comes (line_read onward reading.fault at more)
      read_comes [] is = all_comes is reading.fault refl
      read_comes (line ∷ more) is =
          let fewer : length at.more ≡ length more + 1 = ap length is ∙ (omega arith) in
          let shallow : depth at.stage.left ≡ 0 = ap depth none in
          further (source ++ line ∷ []) (place (at.read + 1) more at.lines (with_line line at.stage))
          (record {
            passes = lines.PassLines.Reading source at.lines at.stage line stands.passes none goes;
            whole = append_assoc source (line ∷ []) more ∙ ap (λ (ls : List SourceLine). source ++ ls) (sym is) ∙ stands.whole;
            read = omega (arith, stands.read, length-append source (line ∷ []));
          })
          (omega (arith, fewer, shallow, small))

    -- ---- a move

    -- what the pass comes to if nothing is left, by whether `.END` became live
    abbrev by_end : Bool → PassOver
    by_end has_ended = cond has_ended (ended_after at.lines (record { read = at.read; has_end = true }))
        (line_read onward reading.fault at at.more)

    rest_comes : move at.stage ≡ NothingLeft → (has_ended : Bool) → at.stage.has_ended ≡ has_ended
        → Comes (moved onward map_ counting reading.fault at NothingLeft)
    rest_comes rests true ended =
        subst (λ (b : Bool). Comes (by_end b)) (sym ended)
        (outcome.Ends.AtEnd source at.more at.stage (sym stands.whole) stands.passes ended
        (ap (λ (n : ℕ). record { read = n; has_end = true }) stands.read))
    rest_comes rests false goes =
        subst (λ (b : Bool). Comes (by_end b)) (sym goes) (read_comes (none_left at.stage goes rests) goes at.more refl)

    placed_comes : (live : Live) (after : Stage) → next_fault at.stage ≡ None → move at.stage ≡ Gives live after
        → (fault : Option AsmFault)
        → line_fault map_ (table_at map_ at.lines) (counting_at map_ counting at.lines) live after ≡ fault
        → Comes (line_placed onward map_ at live after fault)
    placed_comes live after fits moves (Some fault) exceeds =
        outcome.Refuses.AtLimit source at.more fault (sym stands.whole)
        (reaching.Exceeds.AtLine at.stage after live stands.passes fits moves exceeds) refl
    placed_comes live after fits moves None within =
        let less = giving_falls at.stage after live fits moves in
        let little = acts_falling (given_by (table_at map_ at.lines) live after).known after live.line.text in
        let P : ℕ → Type 0 = λ n. Comes (onward (place at.read at.more
        (at.lines ++ numbered n (given_by (table_at map_ at.lines) live after) ∷ [])
        (acted (table_at map_ at.lines) live after))) in
        subst P (sym stands.read) (further source (place at.read at.more
        (at.lines ++ numbered (length source) (given_by (table_at map_ at.lines) live after) ∷ [])
        (acted (table_at map_ at.lines) live after))
        (record {
          passes = lines.PassLines.Placing source at.lines at.stage after live stands.passes fits moves within;
          whole = stands.whole;
          read = stands.read;
        })
        (omega (arith, less, little, small)))

    move_comes : next_fault at.stage ≡ None → (next : Move) → move at.stage ≡ next
        → Comes (moved onward map_ counting reading.fault at next)
    move_comes fits NothingLeft rests = rest_comes rests at.stage.has_ended refl
    move_comes fits (Passes after) moves =
        let less = passing_falls at.stage after fits moves in
        further source (place at.read at.more at.lines after)
        (record {
          passes = lines.PassLines.Passing source at.lines at.stage after stands.passes
              (steps.Leads.Passing [] at.stage after steps.Leads.Stays fits moves);
          whole = stands.whole;
          read = stands.read;
        })
        (omega (arith, less, small))
    move_comes fits (Gives live after) moves =
        placed_comes live after fits moves
        (line_fault map_ (table_at map_ at.lines) (counting_at map_ counting at.lines) live after) refl

    limit_comes : (fault : Option UnfoldFault) → next_fault at.stage ≡ fault
        → Comes (limited onward map_ counting reading.fault at fault)
    limit_comes (Some fault) exceeds =
        outcome.Refuses.AtLimit source at.more (of_unfolding fault) (sym stands.whole)
        (reaching.Exceeds.BeforeLine at.stage fault stands.passes exceeds refl) refl
    limit_comes None fits = move_comes fits (move at.stage) refl

  passed_comes : (most : ℕ) → Onward (passed most map_ counting reading.fault) most
  passed_comes zero source at stands small = absurd (omega (arith, small))
  passed_comes (suc most) source at stands small =
      limit_comes (passed most map_ counting reading.fault) most (passed_comes most) source at stands small
      (next_fault at.stage) refl

  pub pass_comes : PassComesTo map_ counting reading (pass_over map_ counting reading).lines (pass_over map_ counting reading).result
  unfolding pass_over
  pass_comes =
      passed_comes (length reading.lines + 2 * most_lines + 1) [] (place 0 reading.lines [] (start []))
      (record { passes = lines.PassLines.Begins; whole = refl; read = refl }) (omega arith)

-- ---- a pass comes to one thing alone

module _ (once : EndsOnce) (limit_once : ExceedsOnce) (either : EndsOrExceeds) (map_ : Map) (counting : Counting) (reading : Reading) where
  same_pass : (these those : List NumberedLine) (first second : Result EndOfSource AsmFault)
      → PassComesTo map_ counting reading these first → PassComesTo map_ counting reading those second
      → ◌≡◌ {A = PassOver} (record { lines = these; result = first }) (record { lines = those; result = second })
  same_pass these those (Ok end) (Ok other) comes comes' =
      let alike = one_end once limit_once either map_ counting reading these those end other comes comes' in
      ap (λ (ls : List NumberedLine). record { lines = ls; result = Ok end }) alike.0
      ∙ ap (λ (e : EndOfSource). record { lines = those; result = Ok e }) alike.1
  same_pass these those (Err fault) (Err other) comes comes' =
      let alike = one_refusal once limit_once either map_ counting reading these those fault other comes comes' in
      ap (λ (ls : List NumberedLine). record { lines = ls; result = Err fault }) alike.0
      ∙ ap (λ (f : AsmFault). record { lines = those; result = Err f }) alike.1
  same_pass these those (Ok end) (Err fault) comes comes' =
      absurd (not_both once limit_once either map_ counting reading these those end fault comes comes')
  same_pass these those (Err fault) (Ok end) comes comes' =
      absurd (not_both once limit_once either map_ counting reading those these end fault comes' comes)

  pub pass_alone : (these : List NumberedLine) (result : Result EndOfSource AsmFault) → PassComesTo map_ counting reading these result
      → pass_over map_ counting reading ≡ record { lines = these; result = result }
  pass_alone these result comes = same_pass (pass_over map_ counting reading).lines these (pass_over map_ counting reading).result result
      (pass_comes map_ counting reading) comes
