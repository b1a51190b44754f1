use Rattle.std.proofs.Common.{Bool, Some, length, refl, sym, ap, ◌∙◌}
use Rattle.m11_scan.specs.Views.{lexeme}
use Rattle.m11_scan_expressions.specs.Expressions.{known_by}
use Rattle.m11_unfold_rules.proofs.Tests.{bad_exit, last_exit, next_exit}
use Rattle.m11_unfold_rules.proofs.definedness.names_at.Goals as goal

pub returns-in_default-2-clause-verdict : goal.returns-in_default-2-clause-verdict
returns-in_default-2-clause-verdict g c =
    c.at_bad.ensures.verdict
    ∙ (bad_exit (known_by (g.N.Names.base c.args.names.now) (g.N.Names.value_of_symbol c.args.names.now)) c.args.wants_defined
    (length c.args.line.now.text) c.names.before (lexeme c.args.line.now.text c.in-Some.name) _ _ _ _ _ _ c.in-Some.ensures.token
    c.names.invariant.leads _ refl (sym c.in_ok-verdict.ensures.verdict ∙ c.in_default-2.is) c.in_ok-verdict.ensures.remarks).verdict

pub returns-in_default-2-clause-end : goal.returns-in_default-2-clause-end
returns-in_default-2-clause-end g c =
    c.at_bad.ensures.end
    ∙ (bad_exit (known_by (g.N.Names.base c.args.names.now) (g.N.Names.value_of_symbol c.args.names.now)) c.args.wants_defined
    (length c.args.line.now.text) c.names.before (lexeme c.args.line.now.text c.in-Some.name) _ _ _ _ _ _ c.in-Some.ensures.token
    c.names.invariant.leads _ refl (sym c.in_ok-verdict.ensures.verdict ∙ c.in_default-2.is) c.in_ok-verdict.ensures.remarks).end

pub returns-in_default-2-clause-remarks : goal.returns-in_default-2-clause-remarks
returns-in_default-2-clause-remarks g c =
    (bad_exit (known_by (g.N.Names.base c.args.names.now) (g.N.Names.value_of_symbol c.args.names.now)) c.args.wants_defined
    (length c.args.line.now.text) c.names.before (lexeme c.args.line.now.text c.in-Some.name) _ _ _ _ _ _ c.in-Some.ensures.token
    c.names.invariant.leads _ refl (sym c.in_ok-verdict.ensures.verdict ∙ c.in_default-2.is) c.in_ok-verdict.ensures.remarks).symbols

pub returns-in_default-joint_after-clause-verdict : goal.returns-in_default-joint_after-clause-verdict
returns-in_default-joint_after-clause-verdict g c =
    ap (λ (a : Bool). Some a) c.joined_to-verdict.ensures
    ∙ (last_exit (known_by (g.N.Names.base c.args.names.now) (g.N.Names.value_of_symbol c.args.names.now)) c.args.wants_defined
    (length c.args.line.now.text) c.names.before (lexeme c.args.line.now.text c.in-Some.name) _ _ _ _ _ _ c.in-Some.ensures.token
    c.names.invariant.leads _ c.in-Some-2.verdict refl (sym c.in_ok-verdict.ensures.verdict ∙ c.in-Some-2.is)
    c.in_ok-verdict.ensures.remarks (sym c.in_default-joint_after.ensures.joint)).verdict

pub returns-in_default-joint_after-clause-end : goal.returns-in_default-joint_after-clause-end
returns-in_default-joint_after-clause-end g c =
    (last_exit (known_by (g.N.Names.base c.args.names.now) (g.N.Names.value_of_symbol c.args.names.now)) c.args.wants_defined
    (length c.args.line.now.text) c.names.before (lexeme c.args.line.now.text c.in-Some.name) _ _ _ _ _ _ c.in-Some.ensures.token
    c.names.invariant.leads _ c.in-Some-2.verdict refl (sym c.in_ok-verdict.ensures.verdict ∙ c.in-Some-2.is)
    c.in_ok-verdict.ensures.remarks (sym c.in_default-joint_after.ensures.joint)).end

pub names-preserved : goal.names-preserved
names-preserved g c =
    let after = c.in-Some-joint_after.ensures.after in
    let begins = c.in-Some.ensures.begins in
    let column = c.in-Some.ensures.column in
    record {
      leads =
          next_exit (known_by (g.N.Names.base c.args.names.now) (g.N.Names.value_of_symbol c.args.names.now)) c.args.wants_defined
          (length c.args.line.now.text) c.names.before (lexeme c.args.line.now.text c.in-Some.name) _ _ _ _ _ _ c.in-Some.ensures.token
          c.names.invariant.leads _ c.in-Some-2.verdict c.in-Some-joint_after.next refl
          (sym c.in_ok-verdict.ensures.verdict ∙ c.in-Some-2.is) c.in_ok-verdict.ensures.remarks
          (sym c.in-Some-joint_after.ensures.joint) _
          c.in-Some-joint_after.ensures.rest _
          c.joined_to-verdict.ensures;
    }
