use Rattle.std.proofs.Common.{ℕ, List, length, ap, arith}
use Rattle.std.proofs.lemmas.List.{length-map}
use Rattle.m11_unfold_rules.specs.Actuals.{characters_of}
use Rattle.m11_scan_expressions.specs.Expressions.{known_by}
use Rattle.m11_unfold.proofs.Counted.{few_actuals}
use Rattle.m11_unfold.proofs.state.State.call.Goals as goal

pub overflow_cast-count : goal.overflow_cast-count
overflow_cast-count g c =
    let known = known_by (g.N.Names.base c.args.names.now) (g.N.Names.value_of_symbol c.args.names.now) in
    let few = few_actuals known c.args.line.now.text (length c.formals-wanted.result.now) c.args.column in
    let seen = ap (λ (texts : List (List ℕ)). length texts) c.in_ok-actuals.ensures.texts in
    let mapped = length-map c.in_ok-actuals.actuals.items characters_of in
    let formals = c.formals-wanted.ensures.few in
    let counted = c.len-count.ensures in
    omega (arith, few, seen, mapped, formals, counted)
