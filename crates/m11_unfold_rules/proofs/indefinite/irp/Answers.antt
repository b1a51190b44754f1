use Rattle.std.proofs.Common.{true}
use Rattle.m11_scan_expressions.specs.Expressions.{known_by}
use Rattle.m11_unfold_rules.specs.Indefinite.{begun_at, listed}
use Rattle.m11_unfold_rules.proofs.Repetitions.{missing_noted, rounds_noted}
use Rattle.m11_unfold_rules.proofs.indefinite.irp.Goals as goal

pub returns-in_default-clause-remarks : goal.returns-in_default-clause-remarks
returns-in_default-clause-remarks g c =
    missing_noted c.args.line.now.text c.args.column (λ list. listed (known_by (g.N.Names.base c.args.names.now) (g.N.Names.value_of_symbol c.args.names.now)) c.args.line.now.text list) c.args.remarks.now _ _
    (begun_at c.args.line.now.text c.args.column true) c.in_default.ensures
    c.add_flags.ensures c.bad_flags.ensures

pub returns-clause-remarks : goal.returns-clause-remarks
returns-clause-remarks g c =
    rounds_noted c.args.line.now.text c.args.column (λ list. listed (known_by (g.N.Names.base c.args.names.now) (g.N.Names.value_of_symbol c.args.names.now)) c.args.line.now.text list) c.args.remarks.now c.add_flags-2.new.self _ _ _
    c.add_flags-2.ensures c.flags_before.ensures (begun_at c.args.line.now.text c.args.column true) c.in-Some.begun _
    c.in-Some.ensures c.in_ok-texts.ensures.remarks c.add_flags-3.ensures
    c.left_over.ensures
