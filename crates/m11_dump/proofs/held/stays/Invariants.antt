use Rattle.std.proofs.Common.{◌≡◌, drop}
use Rattle.m11_dump.specs.ObjectTexts.{stays}
use Rattle.m11_dump.proofs.held.stays.Given as goal

abbrev pub invariant-places : goal.invariant-places
invariant-places l = stays (drop l.place-index l.places) ≡ stays l.places
