use Rattle.std.proofs.Common.{◌≡◌, ◌+◌, ◌%◌, take}
use Rattle.std.specs.Prelude.{sum_by}
use Rattle.m11_asm_listing.specs.Items.{item_size}
use Rattle.m11_asm_listing.proofs.items.location_after.Given as goal

abbrev pub invariant-loop-item : goal.invariant-loop-item
invariant-loop-item l = l.after ≡ (l.fn.location + sum_by item_size (take l.item-index l.items)) % 65536
