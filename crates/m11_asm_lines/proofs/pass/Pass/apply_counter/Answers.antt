use Rattle.std.proofs.Common.{◌≡◌, ◌∙◌, ap, sym, subst}
use Rattle.m11_scan_expressions.specs.Tokens.{expression_of}
use Rattle.m11_asm_directives.specs.Changes.{moves}
use Rattle.m11_asm_rules.specs.Assigning.{counter_change}
use Rattle.m11_asm_rules.specs.Changes.{Change, changed}
use Rattle.m11_asm_rules.specs.Tables.{Table, firm_table}
use Rattle.m11_asm_lines.proofs.FirmCounters.{counter_firm}
use Rattle.m11_asm_lines.proofs.pass.Pass.apply_counter.Goals as goal

-- the change is that of the firm table
pub returns : goal.returns
returns c = λ map.
    let same : moves c.counter_move-step.result
    ≡ counter_change (firm_table c.args.self.now) (expression_of c.args.line.now.text c.args.place) =
    c.counter_move-step.ensures
    ∙ ap (λ (t : Table). counter_change t (expression_of c.args.line.now.text c.args.place)) c.self.view_is
    ∙ sym (counter_firm c.args.self.now (expression_of c.args.line.now.text c.args.place)) in
    let P : Change → Type 0 = λ change. c.count_any.new.self ≡ changed map change c.args.self.now in
    subst P same (c.count_any.ensures map)
