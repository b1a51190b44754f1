use Rattle.std.proofs.Common.{drop}
use Rattle.m11_asm_rules.specs.Contents.{pieces_from}
use Rattle.m11_base_writes.specs.States.{output_of}
use Rattle.m11_asm_outputs.specs.Object.{IsOpenAfter, closed_records}
use Rattle.m11_base_writes.specs.Outputs.{outputs}
use Rattle.m11_asm_outputs.proofs.Taking.{Taken}
use Rattle.m11_asm_outputs.proofs.object.put_pieces.Given as goal

abbrev pub invariant-contents : goal.invariant-contents
invariant-contents g l = Taken closed_records IsOpenAfter
    (λ listing messages. outputs (output_of g.S.Sink l.initial.object) listing messages)
    (λ listing messages. outputs (output_of g.S.Sink l.object) listing messages) l.initial.text l.text
    (pieces_from l.section l.location l.contents) (pieces_from l.section l.next (drop l.content-index l.contents))
