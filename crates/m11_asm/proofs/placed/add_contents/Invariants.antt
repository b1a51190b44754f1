use Rattle.std.proofs.Common.{◌≡◌, ◌++◌, drop}
use Rattle.std.specs.List.{flat_map}
use Rattle.m11_asm_rules.specs.Items.{content_items}
use Rattle.m11_asm.proofs.placed.add_contents.Given as goal

abbrev pub invariant-contents : goal.invariant-contents
invariant-contents l =
    l.items.items ++ flat_map content_items (drop l.content-index l.contents) ≡ l.initial.items.items ++ flat_map content_items l.contents
