use Rattle.std.proofs.Common.{refl, arith}
use Rattle.m11_unfold.specs.Unfolder.{live_of}
use Rattle.m11_asm_passes.proofs.Counting.{comes_takes}
use Rattle.m11_asm_passes.proofs.Turning.{comes_of, line_fails, line_places, unfolding_fails}
use Rattle.m11_asm_passes.specs.States.{pass_state_of}
use Rattle.m11_asm_passes.proofs.state.State.next.Goals as goal

pub returns-in_err-next-clause-turns : goal.returns-in_err-next-clause-turns
returns-in_err-next-clause-turns c =
    unfolding_fails c.args.map.now (pass_state_of c.args.self.now) (pass_state_of (record c.args.self.now { unfolder = c.next.new.self })) _
    c.in_err-next.field-0.0 _ c.from_residual.result (c.in_err-next.ensures.steps c.requires) c.from_residual.ensures.1

pub returns-in_err-place-in-Line-clause-turns : goal.returns-in_err-place-in-Line-clause-turns
returns-in_err-place-in-Line-clause-turns c =
    line_fails c.args.map.now (pass_state_of c.args.self.now) (pass_state_of c.place.new.self) _
    (pass_state_of (record c.args.self.now { unfolder = c.next.new.self })) (live_of c.next.new.line c.in-Line.is_expanded) _
    c.next.new.self.stage c.in_err-place-in-Line.field-0.0 c.from_residual-in_err-place-in-Line.result
    (comes_of c.args.self.now.unfolder.stage c.next.new.self.stage c.next.new.line c.in_ok-next.field-0 c.in-Line.is_expanded
    c.in-Line.is (c.in_ok-next.ensures.steps c.requires))
    refl refl c.in_err-place-in-Line.ensures.places c.from_residual-in_err-place-in-Line.ensures.1

pub returns-in_ok-place-in-Line-clause-turns : goal.returns-in_ok-place-in-Line-clause-turns
returns-in_ok-place-in-Line-clause-turns c =
    line_places c.args.map.now (pass_state_of c.args.self.now) (pass_state_of c.place.new.self) _
    (pass_state_of (record c.args.self.now { unfolder = c.next.new.self })) (live_of c.next.new.line c.in-Line.is_expanded) _
    c.next.new.self.stage c.place.ensures.same refl refl
    (comes_of c.args.self.now.unfolder.stage c.next.new.self.stage c.next.new.line c.in_ok-next.field-0 c.in-Line.is_expanded
    c.in-Line.is (c.in_ok-next.ensures.steps c.requires))
    c.in_ok-place-in-Line.ensures.places

pub returns-in_ok-place-in-Line-clause-next : goal.returns-in_ok-place-in-Line-clause-next
returns-in_ok-place-in-Line-clause-next c =
    let more = comes_takes c.args.self.now.unfolder.stage c.next.new.self.stage (live_of c.next.new.line c.in-Line.is_expanded)
    (comes_of c.args.self.now.unfolder.stage c.next.new.self.stage c.next.new.line c.in_ok-next.field-0 c.in-Line.is_expanded
    c.in-Line.is (c.in_ok-next.ensures.steps c.requires)) in
    let same = c.in_ok-place-in-Line.ensures.taken in
    let most = c.in_ok-next.ensures.kept.lines in
    (omega (arith, more, same), omega (arith, same, most))
