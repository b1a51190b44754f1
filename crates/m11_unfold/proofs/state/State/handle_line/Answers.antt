use Rattle.std.proofs.Common.{◌≡◌, ◌<◌, ◌∙◌, true, Option, Some, sym, subst, arith}
use Rattle.std.specs.Prelude.{is_some}
use Rattle.m11_unfold_rules.specs.Limits.{most_lines}
use Rattle.m11_unfold_rules.specs.Stages.{Opening}
use Rattle.m11_unfold_rules.specs.declared.fault.UnfoldFault.{UnfoldFault}
use Rattle.m11_unfold.specs.Steps.{FailsGrowing}
use Rattle.m11_unfold.specs.Views.{stage_of}
use Rattle.m11_unfold.proofs.Falling.{fails_moving}
use Rattle.m11_unfold.proofs.Taken.{fault_inside, of_some}
use Rattle.m11_unfold.proofs.state.State.handle_line.Goals as goal

pub returns-in-Err-clause-moves : goal.returns-in-Err-clause-moves
returns-in-Err-clause-moves c =
    let under = c.if-self-ge-LINE_MOST.false in
    let room : c.args.self.now.taken < most_lines = omega (arith, under) in
    let is_open : is_some c.args.self.now.opening ≡ true = sym c.is_some.ensures ∙ c.if-is_some.true in
    let P : Option UnfoldFault → Type 0 = λ f. FailsGrowing f (is_some c.args.self.now.opening) c.in-Err.fault in
    of_some c.args.self.now.opening is_open _
    (λ (opening : Opening) (is : c.args.self.now.opening ≡ Some opening).
    subst P (sym (fault_inside (stage_of c.args.self.now) c.args.line.now opening is room))
    (fails_moving _ _ c.in-Err.fault is_open (c.in-Err.ensures.takes opening is)))
