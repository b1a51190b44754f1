use Rattle.std.proofs.Common.{drop}
use Rattle.m11_dump.specs.Beside.{other_place}
use Rattle.m11_dump.proofs.Items.{Leads}
use Rattle.m11_dump.proofs.beside.put_other_places.Given as goal

abbrev pub invariant-places : goal.invariant-places
invariant-places l = Leads (other_place l.address l.count) l.initial.text.items l.places l.text.items (drop l.place-index l.places)
