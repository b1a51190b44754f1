use Rattle.m11_link_modules.proofs.Indexing.{found_at}
use Rattle.m11_dump.specs.Beside.{other_place}
use Rattle.m11_dump.proofs.Items.{one_shown_at}
use Rattle.m11_dump.proofs.beside.put_other_places.Goals as goal

pub places-preserved : goal.places-preserved
places-preserved c =
    one_shown_at (other_place c.args.address c.args.count) c.args.text.now.items c.args.places.now c.places.text.items c.put_other_place.new.text.items
    c.places.place-index c.place-item.result
    (found_at c.args.places.now c.places.place-index c.place-item.result c.places-test.true c.place-item.is) c.places.invariant
    c.in_ok-put_other_place.ensures
