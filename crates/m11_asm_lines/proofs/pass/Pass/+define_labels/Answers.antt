use Rattle.std.proofs.Common.{◌≡◌, ◌-◌, length, take, drop, subst}
use Rattle.m11_asm_faults.specs.declared.fault.AsmFault.{AsmFault}
use Rattle.m11_asm_faults.specs.declared.fault.AsmFault.TheVariants.{NoMemory}
use Rattle.m11_asm_rules.specs.Labels.{with_labels}
use Rattle.m11_asm_rules.specs.Tables.{Table}
use Rattle.m11_asm_lines.proofs.Labelling.{first_fits, first_refused, later_fits}
use Rattle.m11_asm_lines.proofs.Refusals.{handed_on}
use Rattle.m11_asm_lines.specs.Faults.{HasTooMany}
use Rattle.m11_asm_lines.specs.Labels.{FitsUpToDefined}
use Rattle.m11_asm_lines.proofs.pass.Pass.+define_labels.Goals as goal

pub returns-in_err-flags-in-len1-up-clause-refuses : goal.returns-in_err-flags-in-len1-up-clause-refuses
returns-in_err-flags-in-len1-up-clause-refuses t c =
    let P : AsmFault → Type 0 = λ fault. HasTooMany fault (with_labels c.args.line.now.text c.args.self.now c.args.labels.now) in
    handed_on P c.in_err-flags-in-len1-up.field-0.0 c.from_residual.result
    (first_refused c.args.line.now.text c.args.self.now c.args.labels.now _ c.in_err-flags-in-len1-up.field-0.0
    c.in-len1-up.len_at_least c.in_err-flags-in-len1-up.ensures.refuses.overfills)
    c.from_residual.ensures.1

pub returns-in_err-flags-in-len1-up-clause-limits_first : goal.returns-in_err-flags-in-len1-up-clause-limits_first
returns-in_err-flags-in-len1-up-clause-limits_first t c =
    let P : AsmFault → Type 0 = λ fault. fault ≡ NoMemory → FitsUpToDefined c.args.line.now.text c.args.labels.now c.args.self.now in
    handed_on P c.in_err-flags-in-len1-up.field-0.0 c.from_residual.result
    (λ none. first_fits c.args.line.now.text c.args.self.now c.args.labels.now _ c.in-len1-up.len_at_least
    c.in_err-flags-in-len1-up.ensures.defined (c.in_err-flags-in-len1-up.ensures.refuses.limits_first none))
    c.from_residual.ensures.1

pub returns-in_err-more-in-len1-up-clause-limits_first : goal.returns-in_err-more-in-len1-up-clause-limits_first
returns-in_err-more-in-len1-up-clause-limits_first t c =
    let Q : Table → Type 0 = λ table. FitsUpToDefined c.args.line.now.text (take (length c.args.labels.now - 1) (drop 1 c.args.labels.now)) table in
    let P : AsmFault → Type 0 = λ fault. fault ≡ NoMemory → FitsUpToDefined c.args.line.now.text c.args.labels.now c.args.self.now in
    handed_on P c.in_err-more-in-len1-up.field-0.0 c.from_residual-in_err-more-in-len1-up.result
    (λ none. later_fits c.args.line.now.text c.args.self.now c.args.labels.now _ c.in-len1-up.len_at_least
    (subst Q c.in_ok-flags-in-len1-up.ensures.defines (c.in_err-more-in-len1-up.ensures.limits_first none)))
    c.from_residual-in_err-more-in-len1-up.ensures.1
