use Rattle.m11_dump_laws.proofs.WellFormed.{items_well_formed}
use Rattle.m11_dump_laws.proofs.items.the_items_are_well_formed.Goals as goal

pub returns : goal.returns
returns c names start cells given are = items_well_formed names start cells given are
