use Rattle.std.proofs.Common.{◌++◌, ◌<◌, drop, take, arith}
use Rattle.m11_dump.specs.Beside.{lines_beside, places_at}
use Rattle.m11_dump.specs.Instructions.{over_from}
use Rattle.m11_dump.specs.References.{references_at}
use Rattle.m11_dump.proofs.BesideLines.{byte_beside, over_passed}
use Rattle.m11_dump.proofs.beside.put_lines_beside.Goals as goal

pub bytes-preserved : goal.bytes-preserved
bytes-preserved c =
    let below : c.bytes.index < c.args.own = omega (arith, c.bytes-test.true) in record {
      leads = byte_beside c.args.bytes.now c.args.address c.args.own c.bytes.index c.requires.there below
          c.location_after.result c.location_after.ensures (references_at c.args.places.now) (places_at c.args.address c.args.places.now) c.bytes.left
          c.in_ok-left.left c.in_ok-left.ensures.left
          (c.args.text.now.items ++ lines_beside (references_at c.args.places.now) (places_at c.args.address c.args.places.now) c.args.address 0 c.args.shown
          (take c.args.own c.args.bytes.now) (drop c.args.own c.args.bytes.now))
          c.bytes.text.items c.put_line_at.new.text.items c.put_places_at.new.text.items c.bytes.invariant.leads
          c.in_ok-left.ensures.text c.in_ok-put_places_at.ensures;
      over = over_passed c.args.bytes.now c.args.address c.args.own c.bytes.index c.requires.there below
          c.location_after.result c.location_after.ensures (references_at c.args.places.now) (places_at c.args.address c.args.places.now) c.bytes.left
          c.in_ok-left.left c.in_ok-left.ensures.left
          (over_from (references_at c.args.places.now) c.args.address 0 c.args.shown (take c.args.own c.args.bytes.now) (drop c.args.own c.args.bytes.now))
          c.bytes.invariant.over;
    }
