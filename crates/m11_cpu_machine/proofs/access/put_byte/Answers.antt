use Rattle.m11_cpu_machine.proofs.Dialogues.{accepts_by_count}
use Rattle.m11_cpu_machine.specs.Dialogue.{output_of}
use Rattle.m11_cpu_machine.proofs.access.put_byte.Goals as goal

pub returns-in-Ok : goal.returns-in-Ok
returns-in-Ok g c =
    accepts_by_count (output_of (g.S.Sink.text c.args.sink.now) (g.S.Sink.faults c.args.sink.now))
    (output_of (g.S.Sink.text c.put.new.self) (g.S.Sink.faults c.put.new.self)) c.args.byte c.in-Ok.count
    c.in-Ok.ensures.within c.in-Ok.ensures.takes c.in-Ok.ensures.counts
