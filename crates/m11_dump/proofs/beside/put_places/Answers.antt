use Rattle.std.proofs.Common.{rules}
use Rattle.m11_link_modules.proofs.Indexing.{found_at}
use Rattle.m11_dump.specs.Relocations.{relocation_line}
use Rattle.m11_dump.proofs.Items.{one_shown_at}
use Rattle.m11_dump.proofs.beside.put_places.Goals as goal

pub places-preserved : goal.places-preserved
places-preserved c =
    one_shown_at (relocation_line c.args.address) c.args.text.now.items c.args.places.now c.places.text.items c.extend_from_slice.new.self.items
    c.places.place-index c.place-item.result
    (found_at c.args.places.now c.places.place-index c.place-item.result c.places-test.true c.place-item.is) c.places.invariant
    (search rules)
