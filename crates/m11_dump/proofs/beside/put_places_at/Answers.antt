use Rattle.m11_link_modules.proofs.Indexing.{found_at}
use Rattle.m11_dump.specs.Beside.{place_at}
use Rattle.m11_dump.proofs.Items.{one_shown_at}
use Rattle.m11_dump.proofs.beside.put_places_at.Goals as goal

pub places-preserved : goal.places-preserved
places-preserved c =
    one_shown_at (place_at c.args.address c.args.index) c.args.text.now.items c.args.places.now c.places.text.items c.put_place_at.new.text.items
    c.places.place-index c.place-item.result
    (found_at c.args.places.now c.places.place-index c.place-item.result c.places-test.true c.place-item.is) c.places.invariant
    c.in_ok-put_place_at.ensures
