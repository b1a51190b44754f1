use Rattle.std.proofs.Common.{◌≡◌, ◌++◌, ◌∷◌, [], drop, map}
use Rattle.m11_unfold_rules.specs.Actuals.{texts_of}
use Rattle.m11_unfold.proofs.rounds.round_of_each.Given as goal

abbrev pub invariant-texts : goal.invariant-texts
invariant-texts l = l.rounds.items ++ map (λ text. text ∷ []) (texts_of (drop l.text-index l.texts)) ≡ map (λ text. text ∷ []) (texts_of l.texts)
