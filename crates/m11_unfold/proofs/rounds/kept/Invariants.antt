use Rattle.std.proofs.Common.{◌≡◌, ◌++◌, drop}
use Rattle.m11_unfold_rules.specs.Actuals.{texts_of}
use Rattle.m11_unfold.proofs.rounds.kept.Given as goal

abbrev pub invariant-texts : goal.invariant-texts
invariant-texts l = l.kept ++ texts_of (drop l.text-index l.texts) ≡ texts_of l.texts
