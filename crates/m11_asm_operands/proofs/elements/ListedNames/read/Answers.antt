use Rattle.std.proofs.Common.{◌≡◌, suc, ◌-◌, List, ◌∷◌, [], ◌++◌, refl, sym, ap, ◌∙◌, arith}
use Rattle.std.proofs.lemmas.List.{append_assoc}
use Rattle.m11_asm_rules.specs.Elements.{ListAt, names_within}
use Rattle.m11_scan_statements.specs.declared.spans.Span.{Span}
use Rattle.std.proofs.Common.{Option}
use Rattle.m11_asm_operands.proofs.Listing.{name_on}
use Rattle.m11_asm_operands.proofs.elements.ListedNames.read.Goals as goal

pub names-preserved : goal.names-preserved
names-preserved c =
    let some = c.names-test.true in
    let is : c.names.left ≡ suc (c.names.left - 1) = omega arith in
    let line = c.args.line.now.text in
    let more = names_within (c.names.left - 1) line c.listed_name-element.result.end in
    let step = name_on line c.names.left (c.names.left - 1) c.names.begin is c.listed_name-element.result
    c.listed_name-element.ensures c.listed_name-element.result.end refl c.if-not-element.false in
    record {
      list =
          ap (λ (l : List (Option Span)). l ++ more.list) c.push.ensures.items
          ∙ append_assoc c.names.self.list.items (c.listed_name-element.result.name ∷ []) more.list
          ∙ ap (λ (e : ListAt (Option Span)). c.names.self.list.items ++ e.list) (sym step) ∙ c.names.invariant.list;
      end = ap (λ (e : ListAt (Option Span)). e.end) (sym step) ∙ c.names.invariant.end;
      room = omega arith;
    }
