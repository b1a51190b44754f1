-- If there are no formals, nothing in a text is replaced.
use Rattle.std.proofs.Common.{◌≡◌, ◌∙◌, ◌==◌, ℕ, true, false, List, [], ◌∷◌, length, Option, Some, None, refl, ap, sym, arith, eqb-true}
use Rattle.std.specs.List.{list_any}
use Rattle.std.specs.Option.{is_some, option_and_then}
use Rattle.m11_base.specs.NameCharacters.{six_of}
use Rattle.m11_base.specs.Rad50.{Name, name_of}
use Rattle.m11_scan.specs.Line.{line_of, no_line, with_bytes}
use Rattle.m11_scan.proofs.MoreBytes.{line_of-more}
use Rattle.m11_unfold_bodies.specs.Substitution.{Other, Piece, Run, actual_named, is_replaced, line_with, pieces_of}
use Rattle.m11_unfold_bodies.proofs.Whole.{unchanged}

module _ (actuals : List (List ℕ)) where
  no_actual : (name : Option Name) → is_some (option_and_then (actual_named [] actuals) name) ≡ false
  no_actual None = refl
  no_actual (Some name) = refl

  none_replaced : (pieces : List Piece) → list_any (is_replaced [] actuals) pieces ≡ false
  none_replaced [] = refl
  none_replaced (Run run ∷ pieces) = rw (no_actual (name_of (six_of run))) (none_replaced pieces)
  none_replaced (Other byte ∷ pieces) = none_replaced pieces

  pub whole_text : (formals : List Name) (text : List ℕ) → (length formals == 0) ≡ true
      → with_bytes no_line text ≡ line_with formals actuals text
  whole_text [] text none = line_of-more [] text ∙ ap line_of (sym (unchanged [] actuals text (none_replaced (pieces_of text))))
  whole_text (formal ∷ formals) text none = absurd (let same = eqb-true (length (formal ∷ formals)) 0 none in omega arith)
