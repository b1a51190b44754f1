use Rattle.std.proofs.Common.{◌∙◌, ap}
use Rattle.m11_asm_faults.specs.Faults.{of_unfolding}
use Rattle.m11_asm_faults.specs.declared.fault.AsmFault.{AsmFault}
use Rattle.m11_asm_lines.proofs.Refusals.{handed_on}
use Rattle.m11_asm_passes.specs.Faults.{FailsAtLine}
use Rattle.m11_asm_passes.specs.Placed.{live_in}
use Rattle.m11_asm_rules.specs.Unfolded.{known_after_labels}
use Rattle.m11_unfold_rules.specs.Stages.{Stage}
use Rattle.m11_asm_passes.proofs.Counting.{act_takes}
use Rattle.m11_asm_passes.proofs.Lacking.{act_fails, label_fails}
use Rattle.m11_asm_passes.proofs.state.State.begin.Goals as goal

pub returns-in_err-found-clause-fails : goal.returns-in_err-found-clause-fails
returns-in_err-found-clause-fails c =
    let old = c.args.self.now in
    let live = live_in c.args.live.now in
    let P : AsmFault → Type 0 = λ stopped. FailsAtLine c.args.map.now old.pass old.counting live old.unfolder.stage stopped in
    handed_on P c.in_err-found.field-0.0 c.from_residual.result
    (label_fails c.args.map.now old.pass old.counting live old.unfolder.stage c.in_err-found.field-0.0 c.in_err-found.ensures.refuses
    c.in_err-found.ensures.limits_first)
    c.from_residual.ensures.1

pub returns-in_err-act-clause-fails : goal.returns-in_err-act-clause-fails
returns-in_err-act-clause-fails c =
    let old = c.args.self.now in
    let live = live_in c.args.live.now in
    let P : AsmFault → Type 0 = λ stopped. FailsAtLine c.args.map.now old.pass old.counting live old.unfolder.stage stopped in
    handed_on P (of_unfolding c.in_err-act.field-0.0) c.from_residual-in_err-act.result
    (act_fails c.args.map.now old.pass old.counting live old.unfolder.stage c.in_ok-found.ensures.stand.fits c.in_err-act.field-0.0
    c.in_err-act.ensures.acts)
    c.from_residual-in_err-act.ensures.1

pub returns-clause-taken : goal.returns-clause-taken
returns-clause-taken c =
    ap (λ (s : Stage). s.taken) c.in_ok-act.ensures.acts.1
    ∙ act_takes (known_after_labels c.define_labels.new.pass) c.args.self.now.unfolder.stage c.args.live.now.line.text
