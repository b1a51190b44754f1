use Rattle.std.proofs.Common.{drop}
use Rattle.m11_base_writes.specs.States.{output_of}
use Rattle.m11_asm_outputs.specs.Object.{WaitsAfter, full_records}
use Rattle.m11_base_writes.specs.Outputs.{outputs}
use Rattle.m11_asm_outputs.proofs.Taking.{Taken}
use Rattle.m11_asm_outputs.proofs.object.put_rows.Given as goal

abbrev pub invariant-rows : goal.invariant-rows
invariant-rows g l = Taken full_records WaitsAfter
    (λ listing messages. outputs (output_of g.S.Sink l.initial.object) listing messages)
    (λ listing messages. outputs (output_of g.S.Sink l.object) listing messages) l.initial.waiting l.waiting l.rows
    (drop l.row-index l.rows)
