use Rattle.std.proofs.Common.{◌-◌, length}
use Rattle.m11_scan.specs.Cutting.{tokens_from}
use Rattle.m11_unfold_rules.specs.Definedness.{names_at, names_in, tested}
use Rattle.m11_scan_expressions.specs.Expressions.{known_by}
use Rattle.m11_unfold_rules.proofs.Tests.{Leads}
use Rattle.m11_unfold_rules.proofs.definedness.names_at.Given as goal

abbrev pub invariant-names : goal.invariant-names
invariant-names g l = record {
  leads :
      Leads l.remarks l.initial.remarks
      (names_in (tested (known_by (g.N.Names.base l.names) (g.N.Names.value_of_symbol l.names)) l.wants_defined)
      (length l.line.text) l.before (tokens_from l.line.text l.begin))
      (names_at (known_by (g.N.Names.base l.names) (g.N.Names.value_of_symbol l.names)) l.wants_defined l.line.text l.column);
}

abbrev pub decreases-names : goal.decreases-names
decreases-names g l = 256 - l.begin
