-- The texts that replace formals, by the text of the first formal.
use Rattle.std.proofs.Common.{◌≡◌, ◌<◌, ℕ, suc, List, [], ◌∷◌, drop, get_or, length, sym, ap, ◌∙◌}
use Rattle.std.proofs.Math.Seq.{drop-cons}
use Rattle.m11_unfold_rules.specs.Filling.{FormalTexts, fill, filled, text_before}
use Rattle.m11_unfold_rules.specs.declared.macros.MacroFormal.{MacroFormal}

module _ (formals : List MacroFormal) (index : ℕ) (formal : MacroFormal) (less : index < length formals)
    (is : formal ≡ get_or formals index formal) where
  rest_on : drop index formals ≡ formal ∷ drop (suc index) formals
  rest_on = drop-cons formals index formal less ∙ ap (λ (f : MacroFormal). f ∷ drop (suc index) formals) (sym is)

  module _ (texts after : List (List ℕ)) (actual text : List ℕ) (created next later : ℕ) where
    pub filled_on : ((more : ℕ → FormalTexts) → fill formal actual created more ≡ text_before text (more next))
        → actual ≡ get_or texts 0 [] → after ≡ drop 1 texts → later ≡ suc index
        → filled (drop index formals) texts created ≡ text_before text (filled (drop later formals) after next)
    filled_on fills begins follows steps =
        ap (λ (l : List MacroFormal). filled l texts created) rest_on
        ∙ ap (λ (t : List ℕ). fill formal t created (λ n. filled (drop (suc index) formals) (drop 1 texts) n)) (sym begins)
        ∙ fills (λ n. filled (drop (suc index) formals) (drop 1 texts) n)
        ∙ ap (λ (l : List (List ℕ)). text_before text (filled (drop (suc index) formals) l next)) (sym follows)
        ∙ ap (λ (n : ℕ). text_before text (filled (drop n formals) after next)) (sym steps)
