use Rattle.std.proofs.Common.{◌≡◌, List, ℕ, subst, IfOk}
use Rattle.m11_scan.specs.Line.{line_limit}
use Rattle.m11_unfold_rules.specs.Actuals.{actuals_from, texts_of}
use Rattle.m11_scan_expressions.specs.Expressions.{known_by}
use Rattle.m11_scan_expressions.specs.Remarks.{Remarks}
use Rattle.m11_unfold_rules.proofs.Repetitions.{inner_noted}
use Rattle.m11_unfold_rules.proofs.indefinite.listed_in.Goals as goal

pub returns-clause-texts : goal.returns-clause-texts
returns-clause-texts g c =
    let known = known_by (g.N.Names.base c.args.names.now) (g.N.Names.value_of_symbol c.args.names.now) in
    let P : List ℕ → Type 0 =
    λ t. IfOk c.actuals_from.result (λ texts. texts_of texts.items ≡ (actuals_from known t line_limit 0).texts) in
    subst P c.line_of-inner.ensures c.actuals_from.ensures.texts

pub returns-clause-remarks : goal.returns-clause-remarks
returns-clause-remarks g c =
    let known = known_by (g.N.Names.base c.args.names.now) (g.N.Names.value_of_symbol c.args.names.now) in
    let P : Remarks → Type 0 = λ n. IfOk c.actuals_from.result (λ x. c.actuals_from.new.remarks ≡ n) in
    subst P
    (inner_noted known c.args.line.now.text c.args.list.now c.args.remarks.now c.add_flags.new.self _ _ c.add_flags.ensures
    c.actual_flags.ensures c.line_of-inner.ensures)
    c.actuals_from.ensures.remarks
