-- The fault of a line that is read into a body.
use Rattle.std.proofs.Common.{◌≡◌, ◌<◌, ◌+◌, ℕ, false, true, Option, Some, None, refl, ap, ◌∙◌, arith}
use Rattle.std.specs.Prelude.{is_some, nat_le}
use Rattle.std.proofs.lemmas.Bool.Decides.{nat_tests}
use Rattle.m11_unfold_bodies.specs.Bodies.{depth_after}
use Rattle.m11_scan.specs.Line.{SourceLine}
use Rattle.m11_unfold_rules.specs.Limits.{body_fault, line_fault, most_lines}
use Rattle.m11_unfold_rules.specs.Stages.{Opening, Purpose, Defines, Repeats, Drops, Stage}
use Rattle.m11_unfold_rules.specs.Taking.{nesting}
use Rattle.m11_unfold_rules.proofs.Cases.{taking_fault}
use Rattle.m11_unfold.specs.Steps.{with_line}

module _ (stage : Stage) (line : SourceLine) (opening : Opening) (is : stage.opening ≡ Some opening) where
  fault_alike : (purpose : Purpose) (depth : Option ℕ) → body_fault purpose (with_line line stage) line.text depth
      ≡ body_fault purpose (record stage { taken = stage.taken + 1; opening = Some opening }) line.text depth
  fault_alike purpose (Some depth) = rw is refl
  fault_alike Drops None = refl
  fault_alike (Defines name formals) None = refl
  fault_alike (Repeats formals rounds) None = refl

  pub fault_inside : stage.taken < most_lines → line_fault (with_line line stage) line.text
      ≡ body_fault opening.purpose (record stage { taken = stage.taken + 1; opening = Some opening }) line.text
      (depth_after (nesting line.text) opening.taken.depth)
  fault_inside room =
      let fits : nat_le most_lines stage.taken ≡ false = grind (arith, nat_tests, room) in
      let inside = depth_after (nesting line.text) opening.taken.depth in
      let entered = ap (λ (o : Option Opening). taking_fault o (with_line line stage) line.text) is
      ∙ fault_alike opening.purpose inside in
      rw fits entered

-- if there is an open body, what follows for each open body holds
pub of_some : (found : Option Opening) → is_some found ≡ true → (P : Type 0) → ((opening : Opening) → found ≡ Some opening → P) → P
of_some None there P named = absurd cc
of_some (Some opening) there P named = named opening refl
