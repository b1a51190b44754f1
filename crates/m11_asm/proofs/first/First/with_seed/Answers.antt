use Rattle.std.proofs.Common.{ap}
use Rattle.m11_asm_lines.specs.declared.counting.Counting.TheVariants.{SymbolUses}
use Rattle.m11_asm.proofs.FirstTaking.{begins}
use Rattle.m11_asm.proofs.Taking.{begins_so}
use Rattle.m11_asm.proofs.first.First.with_seed.Goals as goal

pub invariant_of-result : goal.invariant_of-result
invariant_of-result c = begins_so c.in_ok-new.field-0 c.new-4.result c.in_ok-new.ensures.begins c.in_ok-new.ensures.goes_on

pub returns : goal.returns
returns c =
    begins c.in_ok-new.field-0.pass_state (SymbolUses c.new.result) c.new-3.result c.new-4.result c.in_ok-new.ensures.stands (ap SymbolUses c.new.ensures)
    c.in_ok-new.ensures.begins c.new-3.ensures c.new-4.ensures
