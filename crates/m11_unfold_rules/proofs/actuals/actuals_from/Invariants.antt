use Rattle.std.proofs.Common.{◌≡◌, ◌++◌}
use Rattle.m11_unfold_rules.specs.Actuals.{actuals_from, texts_of}
use Rattle.m11_scan_expressions.specs.Expressions.{known_by}
use Rattle.m11_scan_expressions.specs.Remarks.{joined}
use Rattle.m11_unfold_rules.proofs.actuals.actuals_from.Given as goal

abbrev pub invariant-actuals : goal.invariant-actuals
invariant-actuals g l = record {
  texts :
      texts_of l.texts.items ++ (actuals_from (known_by (g.N.Names.base l.names) (g.N.Names.value_of_symbol l.names)) l.line.text l.left l.begin).texts
      ≡ (actuals_from (known_by (g.N.Names.base l.names) (g.N.Names.value_of_symbol l.names)) l.line.text l.wanted l.column).texts;
  remarks :
      joined l.remarks (actuals_from (known_by (g.N.Names.base l.names) (g.N.Names.value_of_symbol l.names)) l.line.text l.left l.begin).remarks
      ≡ joined l.initial.remarks (actuals_from (known_by (g.N.Names.base l.names) (g.N.Names.value_of_symbol l.names)) l.line.text l.wanted l.column).remarks;
}

abbrev pub decreases-actuals : goal.decreases-actuals
decreases-actuals g l = l.left
