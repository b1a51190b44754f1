use Rattle.std.proofs.Common.{refl, sym}
use Rattle.m11_link.specs.Outputs.{link}
use Rattle.m11_base_writes.proofs.Writing.{gains_nothing}
use Rattle.m11_link.proofs.reporting.Reporter.report_section.Goals as goal

pub returns-in-Some : goal.returns-in-Some
returns-in-Some g c = λ tape map. rw (sym c.in-Some.ensures) (c.report_section_with.ensures tape map)

pub returns-in-None : goal.returns-in-None
returns-in-None g c = λ tape map. rw (sym c.in-None.ensures) (gains_nothing link _, refl)
