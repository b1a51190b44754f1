-- A call on a feed that has just begun is a call on the file that it was begun for. (This project's own.)
use Rattle.std.proofs.Common.{◌≡◌, ◌∙◌, ℕ, ◌≤◌, Option, Some, None, Result, Ok, Err, refl, subst, arith}
use Rattle.m11_base.specs.Feed.{Text, GivesByte, GivesEnd, GivesFailure}
use Rattle.m11_base_files.specs.FileFeed.{StepsOver}

pub steps_from : {E : Type 0} (unread begun new : Option Text) (unread_count begun_count new_count unread_left begun_left new_left : ℕ)
    (result : Result (Option ℕ) E) → begun ≡ unread → begun_count ≡ unread_count → begun_left ≤ unread_left
    → StepsOver begun new begun_count new_count begun_left new_left result
    → StepsOver unread new unread_count new_count unread_left new_left result
steps_from unread begun new m n k l i j (Ok None) same unfailed within steps = (
  subst (λ text. GivesEnd text new) same steps.0,
  steps.1 ∙ unfailed,
  λ last. steps.2 (unfailed ∙ last),
  omega (arith, within, steps.3),
)
steps_from unread begun new m n k l i j (Ok (Some byte)) same unfailed within steps = (
  subst (λ text. GivesByte text new byte) same steps.0,
  steps.1 ∙ unfailed,
  λ last. steps.2 (unfailed ∙ last),
  omega (arith, within, steps.3),
)
steps_from unread begun new m n k l i j (Err fault) same unfailed within steps = (
  subst (λ text. GivesFailure text new m) same (subst (λ count. GivesFailure begun new count) unfailed steps.0),
  rw (← unfailed) steps.1,
  λ last. refl,
  omega (arith, within, steps.3),
)
