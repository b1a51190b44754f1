use Rattle.std.proofs.Common.{drop}
use Rattle.m11_base_writes.specs.States.{OutputState, output_of}
use Rattle.std.specs.List.{AllByRecursion}
use Rattle.m11_asm_outputs.specs.Object.{BlockFits, block_writes}
use Rattle.m11_base_writes.specs.Outputs.{outputs}
use Rattle.m11_base_writes.proofs.Looping.{Leads}
use Rattle.m11_asm_outputs.specs.Outputs.{assembly}
use Rattle.m11_asm_outputs.proofs.object.put_blocks.Given as goal

abbrev pub invariant-contents : goal.invariant-contents
invariant-contents g l = ((listing messages : OutputState)
    → Leads assembly (Unit {0}) (outputs (output_of g.S.Sink l.initial.object) listing messages)
    (outputs (output_of g.S.Sink l.object) listing messages) (block_writes (drop l.content-index l.contents))
    (block_writes l.contents))
    × (AllByRecursion BlockFits (drop l.content-index l.contents) → AllByRecursion BlockFits l.contents)
