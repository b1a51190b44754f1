use Rattle.std.proofs.Common.{◌≡◌, ◌++◌, ◌∷◌, [], drop, map}
use Rattle.m11_unfold_rules.specs.Actuals.{texts_of}
use Rattle.m11_unfold_rules.proofs.indefinite.characters_of.Given as goal

abbrev pub invariant-characters : goal.invariant-characters
invariant-characters l =
    texts_of l.texts.items ++ map (λ byte. byte ∷ []) (drop l.byte-index l.text) ≡ map (λ byte. byte ∷ []) l.text
