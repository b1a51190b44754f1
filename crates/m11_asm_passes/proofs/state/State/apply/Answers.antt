use Rattle.std.proofs.Common.{refl}
use Rattle.m11_asm_passes.proofs.Assembling.{change_fails, finish_fails, finishes, use_fails}
use Rattle.m11_asm_passes.specs.Placed.{live_in}
use Rattle.m11_asm_passes.specs.States.{pass_state_of}
use Rattle.m11_asm_passes.proofs.state.State.apply.Goals as goal

pub returns-in_err-count_line-clause-finishes : goal.returns-in_err-count_line-clause-finishes
returns-in_err-count_line-clause-finishes c = λ old begins.
    finish_fails c.args.map.now (live_in c.args.live.now) old.unfolder.stage old
    (pass_state_of (record c.args.self.now { counting = c.count_line.new.counting }))
    c.in_err-count_line.field-0.0 c.from_residual.result
    (use_fails c.args.map.now (live_in c.args.live.now) old (pass_state_of c.args.self.now) c.args.live.now.operation c.args.begun.now begins
    c.in_err-count_line.field-0.0 (c.in_err-count_line.ensures.counts c.args.self.now.pass c.requires.fields)
    c.in_err-count_line.ensures.selects)
    c.from_residual.ensures.1

pub returns-in_err-shown-clause-finishes : goal.returns-in_err-shown-clause-finishes
returns-in_err-shown-clause-finishes c = λ old begins.
    finish_fails c.args.map.now (live_in c.args.live.now) old.unfolder.stage old
    (pass_state_of (record c.args.self.now { pass = c.change_line.new.pass; counting = c.count_line.new.counting }))
    c.in_err-shown.field-0.0 c.from_residual-in_err-shown.result
    (change_fails c.args.map.now (live_in c.args.live.now) old (pass_state_of c.args.self.now) c.args.live.now.operation c.args.begun.now begins
    c.count_line.new.counting (c.in_ok-count_line.ensures.counts c.args.self.now.pass c.requires.fields)
    c.counts_are_within_the_limits.ensures.names c.counts_are_within_the_limits.ensures.defined
    c.counts_are_within_the_limits.ensures.symbols c.counts_are_within_the_limits.ensures.sections
    c.in_err-shown.field-0.0 c.in_err-shown.ensures.refuses)
    c.from_residual-in_err-shown.ensures.1

pub returns-clause-finishes : goal.returns-clause-finishes
returns-clause-finishes c = λ old begins.
    finishes c.args.map.now (live_in c.args.live.now) old (pass_state_of c.args.self.now) c.args.live.now.operation c.args.begun.now begins
    c.count_line.new.counting (c.in_ok-count_line.ensures.counts c.args.self.now.pass c.requires.fields)
    c.counts_are_within_the_limits.ensures.names c.counts_are_within_the_limits.ensures.defined
    c.counts_are_within_the_limits.ensures.symbols c.counts_are_within_the_limits.ensures.sections
    (pass_state_of (record c.args.self.now { pass = c.change_line.new.pass; counting = c.count_line.new.counting })) refl refl
    c.in_ok-shown.shown c.in_ok-shown.ensures.changes c.in_ok-shown.ensures.shows c.counts_are_within_the_limits-2.ensures.defined
    c.counts_are_within_the_limits-2.ensures.symbols c.counts_are_within_the_limits-2.ensures.sections
