use Rattle.m11_asm_passes.proofs.Assembling.{new_goes_on, new_stands}
use Rattle.m11_asm_passes.proofs.source_pass.SourcePass.new.Goals as goal

pub invariant_of-result : goal.invariant_of-result
invariant_of-result c =
    new_goes_on c.in_ok-new.field-0.unfolder c.in_ok-new.field-0.pass c.in_ok-new.field-0.counting c.args.counting
    c.in_ok-new.ensures.unfolder c.in_ok-new.ensures.pass c.in_ok-new.ensures.counting c.new-2.result c.new-2.ensures

pub returns-clause-stands : goal.returns-clause-stands
returns-clause-stands c = λ map.
    new_stands c.in_ok-new.field-0.unfolder c.in_ok-new.field-0.pass c.in_ok-new.field-0.counting c.args.counting
    c.in_ok-new.ensures.unfolder c.in_ok-new.ensures.pass c.in_ok-new.ensures.counting c.in_ok-new.field-0.emission map
