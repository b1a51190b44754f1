use Rattle.m11_asm_outputs.proofs.messages.put_count.Goals as goal

pub returns-clause-writes : goal.returns-clause-writes
returns-clause-writes g c = λ object listing.
    rw (c.as_slice.ensures.value, c.count_line.ensures) at (c.put_message.ensures.writes object listing)
