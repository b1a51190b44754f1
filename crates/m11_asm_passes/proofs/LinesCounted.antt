-- The most live lines of a pass: each of them was read, and at most 200,000 lines are read.
use Rattle.std.proofs.Common.{◌≡◌, ◌≤◌, ◌<◌, ◌+◌, Bool, true, false, List, [], ◌∷◌, ◌++◌, length, Option, Some, None, refl, arith}
use Rattle.std.specs.Prelude.{if◌then◌else◌, nat_le}
use Rattle.std.proofs.lemmas.Bool.Decides.{nat_tests}
use Rattle.std.proofs.lemmas.List.{length-append}
use Rattle.m11_unfold_bodies.specs.Left.{RemainingItem, Line, End}
use Rattle.m11_scan.specs.Line.{SourceLine}
use Rattle.m11_asm_lines.specs.declared.counting.Counting.{Counting}
use Rattle.m11_asm_passes.specs.Lines.{NumberedLine, PassLines, acted, numbered, table_at, with_line}
use Rattle.m11_asm_passes.specs.Lines as lines
use Rattle.m11_asm_passes.specs.Refusals.{given_by}
use Rattle.m11_asm_rules.specs.Meanings.{Map}
use Rattle.m11_unfold_rules.specs.Limits.{most_lines, next_fault}
use Rattle.m11_unfold_rules.specs.Stages.{Stage}
use Rattle.m11_unfold_rules.specs.Taking.{Gives, Live, NothingLeft, move}
use Rattle.m11_unfold_rules.specs.declared.fault.UnfoldFault.{UnfoldFault}
use Rattle.m11_unfold_rules.specs.declared.fault.UnfoldFault.TheVariants.{TooManyLines}
use Rattle.m11_unfold_rules.proofs.Cases.{fault_from, move_from, taking_fault}
use Rattle.m11_asm_passes.proofs.Counting.{act_takes, giving_takes, leads_takes}

-- ---- a line that is read without exceeding a limit

-- if no limit is exceeded, the count of lines isn't at its limit
pub has_room : (is_full : Bool) (other : Option UnfoldFault) → (if is_full then Some TooManyLines else other) ≡ None → is_full ≡ false
has_room true other none = absurd (cc)
has_room false other none = refl

below_from : (left : List RemainingItem) (stage after : Stage) (live : Live) → fault_from left stage ≡ None
    → move_from left stage ≡ Gives live after → stage.taken < most_lines
below_from [] stage after live fits moves = absurd (cc)
below_from (End mark ∷ left) stage after live fits moves = absurd (cc)
below_from (Line line ∷ left) stage after live fits moves =
    let room : nat_le most_lines stage.taken ≡ false
    = has_room (nat_le most_lines stage.taken) (taking_fault stage.opening stage line.text) fits in
    grind (arith, nat_tests, room)

below_by : (has_ended : Bool) (left : List RemainingItem) (stage after : Stage) (live : Live)
    → (if has_ended then None else fault_from left stage) ≡ None
    → (if has_ended then NothingLeft else move_from left stage) ≡ Gives live after → stage.taken < most_lines
below_by true left stage after live fits moves = absurd (cc)
below_by false left stage after live fits moves = below_from left stage after live fits moves

pub giving_below : (stage after : Stage) (live : Live) → next_fault stage ≡ None → move stage ≡ Gives live after
    → stage.taken < most_lines
giving_below stage after live fits moves = below_by stage.has_ended stage.left stage after live fits moves

-- ---- the lines of a pass

module _ (map_ : Map) (counting : Counting) where
  -- with one more live line, there is one line more
  one_more : (all : List NumberedLine) (one : NumberedLine) → length (all ++ one ∷ []) ≡ length all + 1
  one_more all one = length-append all (one ∷ [])

  -- there are no more live lines than lines read
  pub were_taken : (source : List SourceLine) (all : List NumberedLine) (stage : Stage) → PassLines map_ counting source all stage
      → length all ≤ stage.taken
  were_taken _ _ _ lines.PassLines.Begins = omega arith
  were_taken _ all _ (lines.PassLines.Reading source _ stage line before none goes) = were_taken source all stage before
  were_taken source all after (lines.PassLines.Passing _ _ stage _ before passed) =
      let first = were_taken source all stage before in
      let next = leads_takes stage after [] passed in
      omega (arith, first, next)
  were_taken source _ _ (lines.PassLines.Placing _ all stage after live before fits moves placed) =
      let first = were_taken source all stage before in
      let next = giving_takes stage after live moves in
      let one = given_by (table_at map_ all) live after in
      let same = act_takes one.known after live.line.text in
      let more = one_more all (numbered (length source) one) in
      omega (arith, first, next, same, more)

  pub at_most : (source : List SourceLine) (all : List NumberedLine) (stage : Stage) → PassLines map_ counting source all stage
      → length all ≤ most_lines
  at_most _ _ _ lines.PassLines.Begins = omega arith
  at_most _ all _ (lines.PassLines.Reading source _ stage line before none goes) = at_most source all stage before
  at_most source all after (lines.PassLines.Passing _ _ stage _ before passed) = at_most source all stage before
  at_most source _ _ (lines.PassLines.Placing _ all stage after live before fits moves placed) =
      let first = were_taken source all stage before in
      let below = giving_below stage after live fits moves in
      let more = one_more all (numbered (length source) (given_by (table_at map_ all) live after)) in
      omega (arith, first, below, more)
