use Rattle.m11_base_writes.specs.Outputs.{kinds_of}
use Rattle.m11_base_writes.proofs.Writing.{stopped_first, writes_then}
use Rattle.m11_base_writes.proofs.outputs.flush_files.Goals as goal

pub returns-in_err-flush_product-clause-writes : goal.returns-in_err-flush_product-clause-writes
returns-in_err-flush_product-clause-writes g c = λ messages.
    stopped_first (kinds_of g.E.OutputFault.stop) _ _ _ _ _ _ (c.in_err-flush_product.ensures.writes _ messages) c.from_residual.ensures.1

pub returns-clause-writes : goal.returns-clause-writes
returns-clause-writes g c = λ messages.
    writes_then (kinds_of g.E.OutputFault.stop) _ _ _ _ _ _ (c.in_ok-flush_product.ensures.writes _ messages)
    (c.flush_report.ensures.writes _ messages)
