use Rattle.std.proofs.Common.{◌≡◌, suc, ◌+◌, ◌++◌, sym, ap, ◌∙◌, arith}
use Rattle.m11_unfold_rules.specs.Actuals.{texts_of}
use Rattle.m11_unfold_rules.specs.Filling.{FormalTexts}
use Rattle.m11_unfold_rules.proofs.Fillings.{filled_on}
use Rattle.m11_unfold_rules.proofs.Texts.{texts_on}
use Rattle.m11_unfold_rules.proofs.filling.fill.Goals as goal

pub formals-preserved : goal.formals-preserved
formals-preserved c =
    let steps : c.formals.formal-index + 1 ≡ suc c.formals.formal-index = omega arith in
    let step = filled_on c.args.formals.now c.formals.formal-index c.formal-item.result c.formals-test.true c.formal-item.is
    (texts_of c.formals.actuals.now) (texts_of c.others_of-actuals.result.now) c.first_text.result.now
    c.in_ok-next.next.text.items c.formals.created c.in_ok-next.next.created (c.formals.formal-index + 1)
    c.in_ok-next.ensures c.first_text.ensures c.others_of-actuals.ensures steps in
    record {
      texts =
          texts_on c.formals.texts.items c.in_ok-next.next.text c.push.new.self.items _ c.in_ok-push.ensures.items
          ∙ ap (λ (f : FormalTexts). texts_of c.formals.texts.items ++ f.texts) (sym step) ∙ c.formals.invariant.texts;
      created = ap (λ (f : FormalTexts). f.created) (sym step) ∙ c.formals.invariant.created;
    }
