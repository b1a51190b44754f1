use Rattle.m11_web.proofs.commands.answer_by.Goals as goal

pub returns-in-Ok-clause-answers : goal.returns-in-Ok-clause-answers
returns-in-Ok-clause-answers c = λ some.
    (c.as_slice.result.now, rw (← c.as_slice.ensures.value) at c.in-Ok.ensures, c.hand_over.ensures.count, c.hand_over.ensures.bytes)
