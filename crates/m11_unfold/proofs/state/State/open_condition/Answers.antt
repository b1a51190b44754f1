use Rattle.std.proofs.Common.{ℕ, ap, ◌∙◌}
use Rattle.m11_unfold_rules.specs.Conditions.{condition, remarks_in}
use Rattle.m11_scan_expressions.specs.Expressions.{known_by}
use Rattle.m11_scan_expressions.specs.LeftOvers.{left_over}
use Rattle.m11_scan_expressions.specs.Remarks.{Remarks, joined, with_flags}
use Rattle.m11_unfold_rules.specs.declared.conditions.Verdict.{Verdict}
use Rattle.m11_scan.specs.Views.{bits_of}
use Rattle.m11_unfold.proofs.Noting.{flags_after}
use Rattle.m11_unfold.proofs.state.State.open_condition.Goals as goal

pub returns-clause-remarks : goal.returns-clause-remarks
returns-clause-remarks g c =
    let known = known_by (g.N.Names.base c.args.names.now) (g.N.Names.value_of_symbol c.args.names.now) in
    let text = c.args.line.now.text in
    let asked = condition known text c.args.column in
    let end = ap (λ (a : Verdict). a.end) c.in_ok-verdict.ensures.verdict in
    c.add_flags.ensures ∙ ap (λ (n : Remarks). with_flags n (bits_of c.left_over.result)) c.in_ok-verdict.ensures.remarks
    ∙ ap (λ (l : ℕ). with_flags (joined c.args.remarks.now (remarks_in asked)) l)
    (c.left_over.ensures ∙ ap (λ (n : ℕ). left_over text n) end)
    ∙ flags_after c.args.remarks.now (remarks_in asked) (left_over text asked.end)
