use Rattle.m11_obj.proofs.Walks.{Passed}
use Rattle.m11_obj.proofs.relocation_walk.relocation_at.Given as goal

abbrev pub invariant-loop : goal.invariant-loop
invariant-loop l = Passed l.bytes l.rest l.counter
