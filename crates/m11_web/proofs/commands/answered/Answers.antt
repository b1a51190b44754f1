use Rattle.std.proofs.Common.{map}
use Rattle.std.specs.Prelude.{string_bytes}
use Rattle.m11_web.proofs.commands.answered.Goals as goal

pub returns : goal.returns
returns c = (
  map string_bytes c.as_slice.result.now,
  c.as_slice-2.result.now,
  c.in_ok-request.request.typed.now,
  rw (← c.as_slice.ensures.value, ← c.as_slice-2.ensures.value) at c.in_ok-request.ensures,
  c.in_ok-answer.ensures,
)
