use Rattle.std.proofs.Common.{◌∙◌, ◌++◌, ◌+◌, List, drop, append-nil, append_assoc, refl, sym, ap}
use Rattle.std.proofs.lemmas.List.{drop_all}
use Rattle.std.specs.List.{flat_map}
use Rattle.m11_asm_outputs.proofs.Looping.{item_left}
use Rattle.m11_asm_listing.specs.declared.items.Item.{Item}
use Rattle.m11_obj.specs.declared.pieces.PieceContent.{PieceContent}
use Rattle.m11_asm_rules.specs.Items.{content_items}
use Rattle.m11_asm.proofs.placed.add_contents.Goals as goal

pub contents-init : goal.contents-init
contents-init c = refl

pub contents-preserved : goal.contents-preserved
contents-preserved c =
    let more = flat_map content_items (drop (c.contents.content-index + 1) c.args.contents.now) in
    ap (λ (l : List Item). l ++ more) c.in_ok-add_content_items.ensures
    ∙ append_assoc c.contents.items.items (content_items c.content-item.result) more
    ∙ ap (λ (l : List PieceContent). c.contents.items.items ++ flat_map content_items l)
    (sym (item_left c.args.contents.now c.contents.content-index c.content-item.result c.contents-test.true c.content-item.is))
    ∙ c.contents.invariant

pub returns : goal.returns
returns c =
    sym (append-nil c.contents.items.items)
    ∙ ap (λ (l : List PieceContent). c.contents.items.items ++ flat_map content_items l)
    (sym (drop_all c.contents.content-index c.args.contents.now c.contents-test.false))
    ∙ c.contents.invariant
