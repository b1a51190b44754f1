-- The next move and its limit are the same with further lines of the source.
use Rattle.std.proofs.Common.{◌≡◌, ◌∙◌, ℕ, ◌+◌, Bool, true, false, List, [], ◌∷◌, ◌++◌, length, map, Option, Some, None, refl, ap}
use Rattle.std.specs.Prelude.{if◌then◌else◌, nat_le, nat_lt}
use Rattle.m11_base.specs.Devices.{Bytes}
use Rattle.m11_unfold_bodies.specs.Bodies.{depth_after}
use Rattle.m11_unfold_bodies.specs.Conditions.{OpenConditions}
use Rattle.m11_unfold_bodies.specs.Left.{RemainingItem, Line, End, bytes_in, has_mark, most_expansions}
use Rattle.m11_unfold_bodies.specs.declared.mark.Mark.{Mark}
use Rattle.m11_scan.specs.Line.{SourceLine}
use Rattle.m11_unfold_rules.proofs.MoreLines.{same_open}
use Rattle.m11_unfold_rules.specs.Acting.{Operation, Calls, OwnDirective, Foreign, act_fault, operation}
use Rattle.m11_unfold_rules.specs.Histories.{with_more}
use Rattle.m11_unfold_rules.specs.Limits.{body_fault, closing_fault, depth_fault, fault_if, line_fault, most_bytes, most_lines}
use Rattle.m11_unfold_rules.specs.Stages.{Opening, Purpose, Defines, Repeats, Drops, Stage, line_left}
use Rattle.m11_unfold_rules.specs.Taking.{Gives, Live, Move, Passes, NothingLeft, line_move, move, nesting, one_taken, skipped}
use Rattle.m11_unfold_rules.specs.declared.fault.UnfoldFault.{UnfoldFault}
use Rattle.m11_unfold_rules.specs.declared.fault.UnfoldFault.TheVariants.{TooDeep, TooManyLines, TooMuchText}
use Rattle.m11_unfold_rules.proofs.Cases.{bytes_taken, fault_by, live_or_skipped, move_from, taking_fault}

module _ (more : List SourceLine) where
  abbrev lines : List RemainingItem
  lines = map line_left more

  -- ---- limits

  same_depth : (left : List RemainingItem) → depth_fault (left ++ lines) ≡ depth_fault left
  same_depth left = ap (λ (ms : List Mark). fault_if (nat_le most_expansions (length ms)) TooDeep) (same_open more left)

  same_closing : (purpose : Purpose) (stage : Stage) → closing_fault purpose (with_more more stage) ≡ closing_fault purpose stage
  same_closing (Defines name formals) stage = refl
  same_closing (Repeats formals rounds) stage = same_depth stage.left
  same_closing Drops stage = refl

  same_body : (purpose : Purpose) (stage : Stage) (text : Bytes) (depth : Option ℕ)
      → body_fault purpose (with_more more stage) text depth ≡ body_fault purpose stage text depth
  same_body purpose stage text None = same_closing purpose stage
  same_body purpose stage text (Some depth) =
      ap (λ (ms : List Mark). fault_if (nat_lt most_bytes (stage.defined_bytes + bytes_in ms + bytes_taken stage.opening + (length text + 1)))
      TooMuchText) (same_open more stage.left)

  same_taking : (opening : Option Opening) (stage : Stage) (text : Bytes)
      → taking_fault opening (with_more more stage) text ≡ taking_fault opening stage text
  same_taking None stage text = refl
  same_taking (Some opening) stage text =
      same_body opening.purpose stage text (depth_after (nesting text) opening.taken.depth)

  pub same_line : (stage : Stage) (text : Bytes) → line_fault (with_more more stage) text ≡ line_fault stage text
  same_line stage text =
      ap (λ (f : Option UnfoldFault). if nat_le most_lines stage.taken then Some TooManyLines else f) (same_taking stage.opening stage text)

  fault_by_on : (stage : Stage) (operation : Operation) → fault_by (with_more more stage) operation ≡ fault_by stage operation
  fault_by_on stage Foreign = refl
  fault_by_on stage (Calls macro location) = same_depth stage.left
  fault_by_on stage (OwnDirective directive location) = refl

  pub act_fault_on : (stage : Stage) (text : Bytes) → act_fault (with_more more stage) text ≡ act_fault stage text
  act_fault_on stage text = fault_by_on stage (operation stage.conditions stage.macros text)

  -- ---- a line that becomes live

  abbrev on_after : Move → Move
  on_after NothingLeft = NothingLeft
  on_after (Passes stage) = Passes (with_more more stage)
  on_after (Gives live stage) = Gives live (with_more more stage)

  live_on : (conditions : Option OpenConditions) (line : SourceLine) (stage : Stage)
      → live_or_skipped conditions line (with_more more stage) ≡ on_after (live_or_skipped conditions line stage)
  live_on (Some conditions) line stage = refl
  live_on None line stage =
      ap (λ (ms : List Mark). Gives (record { line = line; is_expanded = has_mark ms }) (with_more more stage)) (same_open more stage.left)

  taken_on : (opening : Option Opening) (line : SourceLine) (stage after : Stage) (live : Live)
      → line_move opening line stage ≡ Gives live after
      → line_move opening line (with_more more stage) ≡ Gives live (with_more more after)
  taken_on (Some opening) line stage after live is = absurd (let bad = is in cc)
  taken_on None line stage after live is = live_on (skipped stage.conditions line.text) line stage ∙ ap on_after is

  from_on : (has_ended : Bool) (left : List RemainingItem) (stage after : Stage) (live : Live)
      → (if has_ended then NothingLeft else move_from left stage) ≡ Gives live after
      → (if has_ended then NothingLeft else move_from (left ++ lines) (with_more more stage)) ≡ Gives live (with_more more after)
  from_on true left stage after live is = absurd (let bad = is in cc)
  from_on false [] stage after live is = absurd (let bad = is in cc)
  from_on false (End mark ∷ left) stage after live is = absurd (let bad = is in cc)
  from_on false (Line line ∷ left) stage after live is =
      taken_on stage.opening line (one_taken left stage) after live is

  pub gives_on : (stage : Stage) (live : Live) (after : Stage) → move stage ≡ Gives live after
      → move (with_more more stage) ≡ Gives live (with_more more after)
  gives_on stage live after is = from_on stage.has_ended stage.left stage after live is
