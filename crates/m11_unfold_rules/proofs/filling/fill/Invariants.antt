use Rattle.std.proofs.Common.{◌≡◌, ◌++◌, drop}
use Rattle.m11_unfold_rules.specs.Actuals.{texts_of}
use Rattle.m11_unfold_rules.specs.Filling as spec
use Rattle.m11_unfold_rules.proofs.filling.fill.Given as goal

abbrev pub invariant-formals : goal.invariant-formals
invariant-formals l = record {
  texts :
      texts_of l.texts.items ++ (spec.filled (drop l.formal-index l.formals) (texts_of l.actuals) l.created).texts
      ≡ (spec.filled l.formals (texts_of l.actuals-2) l.created-2).texts;
  created :
      (spec.filled (drop l.formal-index l.formals) (texts_of l.actuals) l.created).created
      ≡ (spec.filled l.formals (texts_of l.actuals-2) l.created-2).created;
}
