use Rattle.m11_asm.proofs.Finishing.{second_begins}
use Rattle.m11_asm.proofs.Taking.{begins_so}
use Rattle.m11_asm.proofs.second.Second.new.Goals as goal

pub invariant_of-result : goal.invariant_of-result
invariant_of-result c = begins_so c.in-Ok-new.pass c.new-in-Ok-new.result c.in-Ok-new.ensures.begins c.in-Ok-new.ensures.goes_on

pub returns-in-Ok-new : goal.returns-in-Ok-new
returns-in-Ok-new c =
    second_begins c.into_parts-first.result.0 c.into_parts-first.result.1 c.into_parts-first.result.2 c.in-Ok-new.pass.pass_state
    c.in-Ok.writing c.new-in-Ok-new.result c.in-Ok-new.ensures.stands c.in-Ok-new.ensures.begins c.in-Ok.ensures
    c.new-in-Ok-new.ensures c.args.symbols c.into_parts-first.ensures.pass c.into_parts-first.ensures.used_symbols
    c.into_parts-first.ensures.facts
