use Rattle.m11_web.proofs.running.m11_go_on.Goals as goal

pub returns-clause-goes : goal.returns-clause-goes
returns-clause-goes c = λ some. (
  c.in-Ok.slice,
  c.in-Ok.ensures.slice,
  rw c.as_slice.ensures.value at c.copy_from_slice.ensures.after,
  rw c.as_slice-2.ensures.value at c.hand_over.ensures.bytes,
  c.in-Some.ensures,
)
