use Rattle.std.proofs.Common.{drop}
use Rattle.m11_dump.specs.Beside.{place_at}
use Rattle.m11_dump.proofs.Items.{Leads}
use Rattle.m11_dump.proofs.beside.put_places_at.Given as goal

abbrev pub invariant-places : goal.invariant-places
invariant-places l = Leads (place_at l.address l.index) l.initial.text.items l.places l.text.items (drop l.place-index l.places)
