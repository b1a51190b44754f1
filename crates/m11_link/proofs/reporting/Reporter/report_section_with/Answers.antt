use Rattle.std.proofs.Common.{◌∙◌, sym}
use Rattle.m11_link.proofs.Entering.{section_differs, section_same}
use Rattle.m11_link.proofs.reporting.Reporter.report_section_with.Goals as goal

pub returns-then-has_first_attributes : goal.returns-then-has_first_attributes
returns-then-has_first_attributes g c = λ tape map. section_same _ c.args.self.now c.args.module_index
    (c.args.name, c.args.attributes.0) (sym c.has_first_attributes.ensures ∙ c.if-has_first_attributes.true)

pub returns : goal.returns
returns g c = λ tape map. section_differs _ _ c.args.self.now c.report.new.self c.args.module_index
    (c.args.name, c.args.attributes.0) c.report.result (sym c.has_first_attributes.ensures ∙ c.if-has_first_attributes.false)
    (rw (c.different_line-line.ensures, c.module_name.ensures) at (c.report.ensures tape map))
