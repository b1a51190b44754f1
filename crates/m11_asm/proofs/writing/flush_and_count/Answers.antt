use Rattle.std.proofs.Common.{Ok, Err, Result}
use Rattle.std.specs.Prelude.{OnOk}
use Rattle.m11_asm_outputs.specs.Outputs.{assembly}
use Rattle.m11_base_writes.specs.States.{output_of}
use Rattle.m11_base_writes.proofs.Writing.{stopped_first, writes_then}
use Rattle.m11_asm.proofs.writing.flush_and_count.Goals as goal

pub returns-in_err-flush_files-clause-writes : goal.returns-in_err-flush_files-clause-writes
returns-in_err-flush_files-clause-writes g c =
    stopped_first assembly _ _ _ _ _ _ (c.in_err-flush_files.ensures.writes (output_of g.U.Sink c.args.messages.now)) c.from_residual.ensures.1

pub returns-clause-writes : goal.returns-clause-writes
returns-clause-writes g c =
    writes_then assembly _ _ _ _ _ _ (c.in_ok-flush_files.ensures.writes (output_of g.U.Sink c.args.messages.now))
    (c.put_count.ensures.writes _ _)

anyway : {A E : Type 0} {P : Type 0} (result : Result A E) → P → OnOk result P
anyway (Ok done) p = p
anyway (Err stopped) p = tt

pub returns-clause-flushed : goal.returns-clause-flushed
returns-clause-flushed g c =
    anyway c.put_count.result (c.in_ok-flush_files.ensures.flushed (output_of g.U.Sink c.put_count.new.messages))
