use Rattle.m11_base_writes.specs.States.{output_of}
use Rattle.m11_link.specs.Outputs.{link}
use Rattle.m11_base_writes.specs.Outputs.{files, flushes}
use Rattle.m11_base_writes.proofs.Writing.{finishes_early, flush_stops, gains_still, gains_then}
use Rattle.m11_link.proofs.emit.Emit.write_last.Goals as goal

pub returns-in_err-done-clause-finishes : goal.returns-in_err-done-clause-finishes
returns-in_err-done-clause-finishes g c =
    finishes_early link _ _ _ files _ _ c.in_err-done.ensures.writes c.from_residual.ensures.1

pub returns-in_err-flush_files-clause-finishes : goal.returns-in_err-flush_files-clause-finishes
returns-in_err-flush_files-clause-finishes g c =
    flush_stops link _ _ _ _ files _ _ c.in_ok-done.ensures.writes
    (c.in_err-flush_files.ensures.writes (output_of g.U.Sink c.write_transfer.new.messages)) c.from_residual-in_err-flush_files.ensures.1

pub returns-clause-finishes : goal.returns-clause-finishes
returns-clause-finishes g c =
    let messages = output_of g.U.Sink c.write_transfer.new.messages in (
      gains_still link _ _ _ files
          (gains_then link _ _ _ _ flushes c.in_ok-done.ensures.writes (c.in_ok-flush_files.ensures.writes messages)),
      c.in_ok-flush_files.ensures.flushed messages,
    )
