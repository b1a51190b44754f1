use Rattle.std.proofs.Common.{◌∙◌, sym}
use Rattle.m11_link.proofs.Entering.{symbol_again, symbol_first, symbol_refers}
use Rattle.m11_link.proofs.reporting.Reporter.report_symbol.Goals as goal

pub returns-then-not-is_definition : goal.returns-then-not-is_definition
returns-then-not-is_definition g c = λ tape map. symbol_refers _ c.args.self.now c.args.module_index c.args.entry.now
    (sym c.is_definition.ensures ∙ c.if-not-is_definition.true)

pub returns-then-not-is_defined : goal.returns-then-not-is_defined
returns-then-not-is_defined g c = λ tape map. symbol_first _ c.args.self.now c.define.new.self c.args.module_index
    c.args.entry.now c.define.result (sym c.is_definition.ensures ∙ c.if-not-is_definition.false)
    (sym c.is_defined.ensures ∙ c.if-not-is_defined.true) c.define.ensures

pub returns : goal.returns
returns g c = λ tape map. symbol_again _ _ c.args.self.now c.report.new.self c.args.module_index c.args.entry.now
    c.report.result (sym c.is_definition.ensures ∙ c.if-not-is_definition.false)
    (sym c.is_defined.ensures ∙ c.if-not-is_defined.false)
    (rw (c.multiple_line-line.ensures, c.module_name.ensures) at (c.report.ensures tape map))
