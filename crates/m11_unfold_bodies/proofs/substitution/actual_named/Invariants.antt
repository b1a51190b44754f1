use Rattle.std.proofs.Common.{◌≡◌, length}
use Rattle.m11_unfold_bodies.specs.Substitution.{actual_named}
use Rattle.m11_unfold_bodies.proofs.substitution.actual_named.Given as goal

abbrev pub invariant-formals : goal.invariant-formals
invariant-formals l = actual_named l.names l.texts l.name ≡ actual_named l.formals l.actuals l.name

abbrev pub decreases-formals : goal.decreases-formals
decreases-formals l = length l.names
