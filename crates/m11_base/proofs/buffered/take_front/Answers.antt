use Rattle.std.proofs.Common.{◌≡◌, ◌∙◌, ℕ, length, List, [], ◌∷◌, refl, sym, subst, Option, Some, None}
use Rattle.std.specs.List.{slice_get}
use Rattle.std.specs.Prelude.{IfSome, OnSome}
use Rattle.std.specs.Io.BufRead.{FillKeeps}
use Rattle.std.specs.Io.KnownBytes.{IsAtEnd, Keeps}
use Rattle.std.proofs.KnownBytes.{Consumes-nil, Consumes-kept}
use Rattle.m11_base.proofs.buffered.take_front.Goals as goal

-- if the buffer is empty after it was filled, the reader is at its end
at_end : (old new : Option (List ℕ)) (shown : List ℕ) → length shown ≡ 0
    → IfSome old (λ xs. length shown ≡ 0 → xs ≡ []) → Keeps old new → OnSome old (IsAtEnd new)
at_end None new shown none end kept = tt
at_end (Some x) None shown none end kept = absurd kept
at_end (Some x) (Some y) shown none end kept = kept ∙ end none

without_first : (shown : List ℕ) → slice_get shown 0 ≡ None → length shown ≡ 0
without_first [] e = refl
without_first (x ∷ xs) e = absurd cc

pub returns-in-None : goal.returns-in-None
returns-in-None g c =
    let rested = c.fill_buf.follows.lender-at-none in
    let filled = subst (FillKeeps _ (g.R.Read.remaining rested) (g.R.BufRead.consumable_len rested)) c.in-Ok.is c.fill_buf.follows.holds-at-none in
    let none = without_first c.in-Ok.available.now (sym c.first.ensures.value ∙ sym c.in-None.ensures) in
    (Consumes-kept _ _ _ [] (Consumes-nil _) filled.0, at_end _ _ c.in-Ok.available.now none c.in-Ok.ensures.end filled.0)
