use Rattle.std.proofs.Common.{drop}
use Rattle.m11_dump.specs.Relocations.{relocation_line}
use Rattle.m11_dump.proofs.Items.{Leads}
use Rattle.m11_dump.proofs.beside.put_places.Given as goal

abbrev pub invariant-places : goal.invariant-places
invariant-places l = Leads (relocation_line l.address) l.initial.text.items l.places l.text.items (drop l.place-index l.places)
