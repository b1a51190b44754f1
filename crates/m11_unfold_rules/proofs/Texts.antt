-- Texts that the code stores, with one more after them.
use Rattle.std.proofs.Common.{◌≡◌, ℕ, List, [], ◌∷◌, ◌++◌, ap, ◌∙◌, Vec}
use Rattle.std.specs.declared.alloc.Global.{Global}
use Rattle.std.proofs.lemmas.List.{append_assoc, map-append}
use Rattle.m11_unfold_rules.specs.Actuals.{characters_of, texts_of}

pub texts_on : (held : List (Vec ℕ Global)) (text : Vec ℕ Global) (after : List (Vec ℕ Global)) (more : List (List ℕ))
    → after ≡ held ++ text ∷ [] → texts_of after ++ more ≡ texts_of held ++ text.items ∷ more
texts_on held text after more is =
    ap (λ (l : List (Vec ℕ Global)). texts_of l ++ more) is
    ∙ ap (λ (l : List (List ℕ)). l ++ more) (map-append characters_of held (text ∷ []))
    ∙ append_assoc (texts_of held) (text.items ∷ []) more
