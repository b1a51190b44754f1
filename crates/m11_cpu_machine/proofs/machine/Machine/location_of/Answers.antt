use Rattle.std.proofs.Common.{ap, refl, ◌∙◌}
use Rattle.m11_cpu_machine.specs.Addressing.{back, deferred, forward, location_by, location_of}
use Rattle.m11_cpu_machine.specs.declared.addressing.OperandLocation.TheVariants.{InMemory}
use Rattle.m11_cpu_machine.proofs.Dialogues.{act_by, at_pair, bind_aborts, bind_does, comes, comes_ok, stepped_comes}
use Rattle.m11_cpu_machine.proofs.machine.Machine.location_of.Goals as goal

pub returns-in-Register : goal.returns-in-Register
unfolding location_of
returns-in-Register g c =
    act_by (λ x. location_by x c.args.operand.register c.args.size) _ _ _ _ _ _ c.in-Register.is (comes _ _ _ refl)

pub returns-in-RegisterDeferred : goal.returns-in-RegisterDeferred
unfolding location_of
returns-in-RegisterDeferred g c =
    act_by (λ x. location_by x c.args.operand.register c.args.size) _ _ _ _ _ _ c.in-RegisterDeferred.is (comes_ok _ _ _ _ _ (ap InMemory c.register.ensures) refl)

pub returns-in-Autoincrement : goal.returns-in-Autoincrement
unfolding location_of
returns-in-Autoincrement g c =
    act_by (λ x. location_by x c.args.operand.register c.args.size) _ _ _ _ _ _ c.in-Autoincrement.is (stepped_comes _ _ (c.forward.result, c.forward.new.self) (c.forward.ensures ∙ ap (λ n. forward c.args.operand.register n c.args.self.now) c.step_of.ensures))

pub returns-in-Autodecrement : goal.returns-in-Autodecrement
unfolding location_of
returns-in-Autodecrement g c =
    act_by (λ x. location_by x c.args.operand.register c.args.size) _ _ _ _ _ _ c.in-Autodecrement.is (stepped_comes _ _ (c.back.result, c.back.new.self) (c.back.ensures ∙ ap (λ n. back c.args.operand.register n c.args.self.now) c.step_of-in-Autodecrement.ensures))

pub returns-in-AutoincrementDeferred : goal.returns-in-AutoincrementDeferred
unfolding location_of
returns-in-AutoincrementDeferred g c =
    act_by (λ x. location_by x c.args.operand.register c.args.size) _ _ _ _ _ _ c.in-AutoincrementDeferred.is (at_pair deferred _ (c.forward-address.result, c.forward-address.new.self) _ _ _ c.forward-address.ensures c.deferred.ensures)

pub returns-in-AutodecrementDeferred : goal.returns-in-AutodecrementDeferred
unfolding location_of
returns-in-AutodecrementDeferred g c =
    act_by (λ x. location_by x c.args.operand.register c.args.size) _ _ _ _ _ _ c.in-AutodecrementDeferred.is (at_pair deferred _ (c.back-address.result, c.back-address.new.self) _ _ _ c.back-address.ensures c.deferred-in-AutodecrementDeferred.ensures)

pub returns-in_ok-indexed-in-Index : goal.returns-in_ok-indexed-in-Index
unfolding location_of
returns-in_ok-indexed-in-Index g c =
    act_by (λ x. location_by x c.args.operand.register c.args.size) _ _ _ _ _ _ c.in-Index.is
    (bind_does _ _ _ _ _ _ _ _ _ c.in_ok-indexed-in-Index.ensures
    (comes _ _ _ refl))

pub returns-in_err-indexed-in-Index : goal.returns-in_err-indexed-in-Index
unfolding location_of
returns-in_err-indexed-in-Index g c =
    act_by (λ x. location_by x c.args.operand.register c.args.size) _ _ _ _ _ _ c.in-Index.is
    (bind_aborts _ _ _ _ _ _ _ _ c.in_err-indexed-in-Index.ensures c.from_residual.ensures.1)

pub returns-in_ok-address-in-IndexDeferred : goal.returns-in_ok-address-in-IndexDeferred
unfolding location_of
returns-in_ok-address-in-IndexDeferred g c =
    act_by (λ x. location_by x c.args.operand.register c.args.size) _ _ _ _ _ _ c.in-IndexDeferred.is
    (bind_does _ _ _ _ _ _ _ _ _ c.in_ok-address-in-IndexDeferred.ensures
    c.deferred-in-IndexDeferred.ensures)

pub returns-in_err-address-in-IndexDeferred : goal.returns-in_err-address-in-IndexDeferred
unfolding location_of
returns-in_err-address-in-IndexDeferred g c =
    act_by (λ x. location_by x c.args.operand.register c.args.size) _ _ _ _ _ _ c.in-IndexDeferred.is
    (bind_aborts _ _ _ _ _ _ _ _ c.in_err-address-in-IndexDeferred.ensures c.from_residual-in_err-address-in-IndexDeferred.ensures.1)
