use Rattle.m11_cpu_states.proofs.states.rest_of_head.Goals as goal

pub returns : goal.returns
returns c =
    rw (
      c.byte_of.ensures,
      c.byte_of-2.ensures,
      c.byte_of-3.ensures,
      c.byte_of-4.ensures,
      c.byte_of-5.ensures,
      c.byte_of-6.ensures,
      c.byte_of-7.ensures,
      c.byte_of-8.ensures,
      c.byte_of-9.ensures,
      c.number_of.ensures,
    )
