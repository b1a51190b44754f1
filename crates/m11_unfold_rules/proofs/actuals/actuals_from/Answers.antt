use Rattle.std.proofs.Common.{◌≡◌, suc, ◌-◌, List, ℕ, ◌++◌, sym, ap, ◌∙◌, arith}
use Rattle.m11_scan_statements.specs.declared.actuals.Separator.{Separator}
use Rattle.m11_unfold_rules.specs.Actuals.{ActualTexts, actuals_from, given_by, texts_of}
use Rattle.m11_scan_expressions.specs.Expressions.{known_by}
use Rattle.m11_scan_expressions.specs.Remarks.{Remarks, joined}
use Rattle.m11_unfold_rules.proofs.ActualsOfCalls.{actual_on, no_actual}
use Rattle.m11_scan_expressions.proofs.Joining.{joined_joins, joined_nothing}
use Rattle.m11_unfold_rules.proofs.Texts.{texts_on}
use Rattle.m11_unfold_rules.proofs.actuals.actuals_from.Goals as goal

pub returns-in_default-clause-remarks : goal.returns-in_default-clause-remarks
returns-in_default-clause-remarks g c =
    let some = c.actuals-test.true in
    let is : c.actuals.left ≡ suc (c.actuals.left - 1) = omega arith in
    let step = no_actual (known_by (g.N.Names.base c.args.names.now) (g.N.Names.value_of_symbol c.args.names.now)) c.args.line.now.text
    c.actuals.left _ c.actuals.begin is (sym c.in_default.ensures) in
    sym (joined_nothing c.actuals.remarks) ∙ ap (λ (a : ActualTexts). joined c.actuals.remarks a.remarks) (sym step) ∙ c.actuals.invariant.remarks

pub actuals-preserved : goal.actuals-preserved
actuals-preserved g c =
    let some = c.actuals-test.true in
    let is : c.actuals.left ≡ suc (c.actuals.left - 1) = omega arith in
    let known = known_by (g.N.Names.base c.args.names.now) (g.N.Names.value_of_symbol c.args.names.now) in
    let line = c.args.line.now.text in
    let more = actuals_from known line (c.actuals.left - 1) c.separator_at-begin.result.end in
    let step = actual_on known line c.actuals.left (c.actuals.left - 1) c.actuals.begin is c.in-Some.actual c.separator_at-begin.result.end
    (sym c.in-Some.ensures)
    (ap (λ (s : Separator). s.end) c.separator_at-begin.ensures) in
    record {
      texts =
          texts_on c.actuals.texts.items c.in_ok-text_of.field-0 c.push.new.self.items more.texts c.in_ok-push.ensures.items
          ∙ ap (λ (t : List (List ℕ)). texts_of c.actuals.texts.items ++ (t ++ more.texts)) c.in_ok-text_of.ensures.text
          ∙ ap (λ (a : ActualTexts). texts_of c.actuals.texts.items ++ a.texts) (sym step) ∙ c.actuals.invariant.texts;
      remarks =
          ap (λ (n : Remarks). joined n more.remarks) c.in_ok-text_of.ensures.remarks
          ∙ joined_joins c.actuals.remarks (given_by known line c.in-Some.actual).remarks more.remarks
          ∙ ap (λ (a : ActualTexts). joined c.actuals.remarks a.remarks) (sym step) ∙ c.actuals.invariant.remarks;
    }
