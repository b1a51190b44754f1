use Rattle.m11_dump.proofs.kind.read_block.Goals as goal

pub returns : goal.returns
returns g c = (c.next.new.self.room, (rw c.new-reader.ensures at c.next.ensures.reads).0)
