use Rattle.std.proofs.Common.{◌≡◌, ◌∙◌, suc, ◌-◌, ◌++◌, Some, None, sym, ap, arith}
use Rattle.m11_asm_rules.specs.Elements.{ListAt, elements_within}
use Rattle.m11_scan_expressions.specs.Tokens.{Expression}
use Rattle.m11_asm_operands.specs.Elements.{elements_model}
use Rattle.m11_asm_operands.proofs.Listing.{after_read, element_by, with_one, without_more}
use Rattle.m11_asm_operands.proofs.elements.Elements.read.Goals as goal

pub returns-in-None : goal.returns-in-None
returns-in-None c =
    let some = c.elements-test.true in
    let is : c.elements.left ≡ suc (c.elements.left - 1) = omega arith in
    let line = c.args.line.now.text in
    let read = c.expr_at-read in
    let step = element_by line c.elements.left (c.elements.left - 1) c.elements.begin is read.result.expr read.ensures.expr None
    (after_read line c.elements.begin read.result.next read.result.end None read.ensures.end read.ensures.next
    (sym c.after_comma.ensures ∙ c.in-None.is)) in
    record {
      list = without_more line c.elements.self.list.items c.push.new.self.items read.result.expr c.push.ensures.items
          ∙ ap (λ (e : ListAt Expression). elements_model line c.elements.self.list.items ++ e.list) (sym step) ∙ c.elements.invariant.list;
      end = read.ensures.end ∙ ap (λ (e : ListAt Expression). e.end) (sym step) ∙ c.elements.invariant.end;
    }

pub elements-preserved : goal.elements-preserved
elements-preserved c =
    let some = c.elements-test.true in
    let is : c.elements.left ≡ suc (c.elements.left - 1) = omega arith in
    let line = c.args.line.now.text in
    let read = c.expr_at-read in
    let more = elements_within (c.elements.left - 1) line c.in-Some.next in
    let step = element_by line c.elements.left (c.elements.left - 1) c.elements.begin is read.result.expr read.ensures.expr
    (Some c.in-Some.next)
    (after_read line c.elements.begin read.result.next read.result.end (Some c.in-Some.next) read.ensures.end read.ensures.next
    (sym c.after_comma.ensures ∙ c.in-Some.is)) in
    record {
      list = with_one line c.elements.self.list.items c.push.new.self.items read.result.expr more.list c.push.ensures.items
          ∙ ap (λ (e : ListAt Expression). elements_model line c.elements.self.list.items ++ e.list) (sym step) ∙ c.elements.invariant.list;
      end = ap (λ (e : ListAt Expression). e.end) (sym step) ∙ c.elements.invariant.end;
      room = omega arith;
    }
