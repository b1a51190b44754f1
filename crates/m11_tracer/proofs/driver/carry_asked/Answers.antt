use Rattle.std.proofs.Common.{inl, inr, refl}
use Rattle.m11_tracer.proofs.driver.carry_asked.Goals as goal

pub returns-in-Ok : goal.returns-in-Ok
returns-in-Ok g c = inl (c.in-Ok.asked, c.in-Ok.ensures, c.carry_named.ensures)

pub returns-in-Err : goal.returns-in-Err
returns-in-Err g c = inr (c.in-Err.refusal, c.in-Err.ensures, refl, refl, refl, c.refuse_places.ensures)
