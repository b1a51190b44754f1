use Rattle.std.proofs.Common.{◌∙◌, arith, refl}
use Rattle.std.proofs.lemmas.Result.{err_from_is_err_and}
use Rattle.m11_link_text.specs.Findings.{planned}
use Rattle.m11_base_writes.proofs.Looping.{stopped_there, wrote_all, wrote_one}
use Rattle.m11_link.specs.Outputs.{link}
use Rattle.m11_link.proofs.Looping.{section_left, sections_end}
use Rattle.m11_link_layout.specs.declared.fault.LinkFault.TheVariants.{NoMemory}
use Rattle.m11_link.proofs.front.put_each_section.Goals as goal

pub returns-in_err-put_report-clause-writes : goal.returns-in_err-put_report-clause-writes
returns-in_err-put_report-clause-writes g c = λ tape messages.
    let r = c.from_residual in
    let p = err_from_is_err_and r.result r.ensures.1 in
    rw (p.1, p.2)
    (stopped_there link _ _ _ _ _ _ _ _
    (section_left (planned c.args.plan.now).sections c.sections.index c.section_at-section.result c.section_at-section.ensures)
    (c.sections.invariant.leads tape messages)
    (rw (c.as_slice.ensures.value, c.section_line-line.ensures) at (c.in_err-put_report.ensures.writes tape messages)))

pub sections-preserved : goal.sections-preserved
sections-preserved g c = record {
  leads = λ tape messages. wrote_one link _ _ _ _ _ _ _
      (section_left (planned c.args.plan.now).sections c.sections.index c.section_at-section.result c.section_at-section.ensures)
      (c.sections.invariant.leads tape messages)
      (rw (c.as_slice.ensures.value, c.section_line-line.ensures) at (c.in_ok-put_report.ensures.writes tape messages));
  stays = c.in_ok-put_report.ensures.stays ∙ c.sections.invariant.stays;
}

pub returns-clause-writes : goal.returns-clause-writes
returns-clause-writes g c = λ tape messages. wrote_all link _ _ _ _ tt
    (sections_end (planned c.args.plan.now).sections c.sections.index (omega (arith, c.sections-test.false, c.section_count-index-end.ensures)))
    (c.sections.invariant.leads tape messages)

pub returns-in_err-put_report-clause-no_memory : goal.returns-in_err-put_report-clause-no_memory
returns-in_err-put_report-clause-no_memory g c =
    let r = c.from_residual in
    let p = err_from_is_err_and r.result r.ensures.1 in
    rw (p.1, p.2)
    (c.in_err-put_report.ensures.no_memory NoMemory refl)
