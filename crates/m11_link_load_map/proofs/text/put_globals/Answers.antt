use Rattle.std.proofs.Common.{◌∙◌, arith}
use Rattle.m11_link_load_map.specs.LoadMap.{line_of_global}
use Rattle.m11_link_load_map.proofs.Texts.{item_shown}
use Rattle.m11_link_load_map.proofs.text.put_globals.Goals as goal

pub globals-preserved : goal.globals-preserved
globals-preserved c =
    item_shown line_of_global c.args.text.now.items c.args.globals.now c.globals.text.items c.extend_from_slice.new.self.items
    c.deref.result.now c.globals.global-index c.global-item.result (omega (arith, c.globals-test.true)) c.global-item.is
    c.globals.invariant c.in_ok-extend_from_slice.ensures.items (c.deref.ensures.0 ∙ c.global_line-line.ensures)
