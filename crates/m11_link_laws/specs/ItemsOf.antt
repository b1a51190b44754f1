-- The items that the bytes of an object yield, as a function of these bytes. (RT-11 Volume and File Formats Manual, "Object file format".
-- The limit on an object's size, and the faults and their order, are this project's own.)
use Rattle.std.specs.Prelude.{ℕ, List, [], ◌∷◌, length, take, drop, zero, suc, Ok, Err}
use Rattle.m11_base.specs.Devices.{Bytes}
use Rattle.m11_obj_blocks.specs.Blocks.{first_block}
use Rattle.m11_obj_blocks.specs.Limited.{Between, Inside, Read, Stop, most_bytes}
use Rattle.m11_obj_blocks.specs.Limited as limited
use Rattle.m11_obj_blocks.specs.declared.block_fault.BlockFault.{BlockFault}
use Rattle.m11_obj_blocks.specs.declared.block_fault.BlockFault.TheVariants as block
use Rattle.m11_link_layout.specs.declared.fault.LinkFault.TheVariants as fault
use Rattle.m11_link.specs.Objects.{Item, BlockOf, ObjectEnds, Refused}

-- the item of an object that ends here, if no byte is past the limit
abbrev pub end_or_more : Item → Bytes → Item
end_or_more item [] = item
end_or_more item (byte ∷ past) = Refused fault.TooMuch

-- the last item: the bytes within the limit don't begin with a block, and these other bytes are past the limit
abbrev pub last_item : Bytes → Stop BlockFault → Item
last_item past Between = end_or_more ObjectEnds past
last_item past Inside = end_or_more (Refused (fault.Block block.Truncated)) past
last_item past (limited.Refused inner rest) = Refused (fault.Block inner)

-- the items after a block was read, or wasn't; `others` are those of the bytes after it
abbrev pub block_items : (Bytes → List Item) → Bytes → Read BlockFault Bytes → List Item
block_items others past (Ok (content, rest)) = BlockOf content ∷ others rest
block_items others past (Err stop) = last_item past stop ∷ []

-- the items of fewer than this many blocks in the bytes within the limit
abbrev pub items_within : ℕ → Bytes → Bytes → List Item
items_within zero past bytes = []
items_within (suc bound) past bytes = block_items (items_within bound past) past (first_block bytes)

-- the items of an object; each block has at least one byte, so there are no more blocks than bytes
unfoldable pub items_of : Bytes → List Item
items_of bytes = items_within (suc (length bytes)) (drop most_bytes bytes) (take most_bytes bytes)
