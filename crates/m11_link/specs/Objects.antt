-- The items that the bytes of objects yield, and the outcome of linking them: the parts of all records, or the first fault in the
-- order of the bytes. (RT-11 Volume and File Formats Manual, "Object file format". The limit on an object's size, and the faults
-- and their order, are this project's own.)
use Rattle.std.specs.Prelude.{◌≡◌, ◌<◌, ◌≤◌, ℕ, ◌+◌, List, [], ◌∷◌, ◌++◌, length, take, Option, Some, None, Result, Ok, Err, if◌then◌else◌}
use Rattle.m11_base.specs.Devices.{Bytes}
use Rattle.m11_base.specs.Feed.{Text, HasBytes, BeginsWith, GiveAll, OneFailed}
use Rattle.m11_obj_blocks.specs.Blocks.{first_block}
use Rattle.m11_obj_blocks.specs.Limited.{Between, Inside, IsShort, most_bytes}
use Rattle.m11_obj_blocks.specs.Limited as limited
use Rattle.m11_obj.specs.Reading.{content_of}
use Rattle.m11_obj.specs.Records as records
use Rattle.m11_obj_blocks.specs.declared.block_fault.BlockFault.{BlockFault}
use Rattle.m11_obj_blocks.specs.declared.block_fault.BlockFault.TheVariants as block
use Rattle.m11_obj.specs.declared.fault.RecordFault.{RecordFault}
use Rattle.m11_link_modules.specs.declared.fault.ModuleFault.{ModuleFault}
use Rattle.m11_link_modules.specs.Parts.{Part, EndOfFile, parts_of}
use Rattle.m11_link_modules.specs.Rules.{first_fault}
use Rattle.m11_link_layout.specs.Fault.{of_module}
use Rattle.m11_link_layout.specs.Sections.{is_too_large}
use Rattle.m11_link_layout.specs.declared.fault.LinkFault.{LinkFault}
use Rattle.m11_link_layout.specs.declared.fault.LinkFault.TheVariants as fault

-- ---- items

pub data Item : Type 0 where
  -- a block with this content
  BlockOf : Bytes → Item
  -- the end of an object, not inside a block
  ObjectEnds : Item
  -- bytes that are refused; what follows them is ignored
  Refused : LinkFault → Item

-- these bytes of an object yield these items if the limit allows this many more bytes
pub data ObjectItems : ℕ → Bytes → List Item → Type 0 where
  -- a block whose bytes are within the limit, and then the items of the following bytes
  Begins : {room left : ℕ} {bytes rest content : Bytes} {items : List Item}
      → first_block bytes ≡ Ok (content, rest) → length bytes + left ≡ length rest + room
      → ObjectItems left rest items → ObjectItems room bytes (BlockOf content ∷ items)
  -- no block follows: the object ends
  Ends : {room : ℕ} {bytes : Bytes} → first_block bytes ≡ Err Between → length bytes ≤ room
      → ObjectItems room bytes (ObjectEnds ∷ [])
  -- the bytes end inside a block
  IsCut : {room : ℕ} {bytes : Bytes} → first_block bytes ≡ Err Inside → length bytes ≤ room
      → ObjectItems room bytes (Refused (fault.Block block.Truncated) ∷ [])
  -- bytes that don't begin with a block; the byte that shows this is within the limit
  IsBad : {room : ℕ} {bytes rest : Bytes} {inner : BlockFault}
      → first_block bytes ≡ Err (limited.Refused inner rest) → length bytes ≤ length rest + room
      → ObjectItems room bytes (Refused (fault.Block inner) ∷ [])
  -- the object is longer than the limit, and its bytes up to the limit end before or inside a block
  Passes : {room : ℕ} {bytes : Bytes} → room < length bytes → IsShort (first_block (take room bytes))
      → ObjectItems room bytes (Refused fault.TooMuch ∷ [])

-- these bytes are the beginning of an object, within the limit, and these items are the whole blocks in them; the object's other bytes
-- are unknown
pub data BeginningItems : ℕ → Bytes → List Item → Type 0 where
  Begins : {room left : ℕ} {bytes rest content : Bytes} {items : List Item}
      → first_block bytes ≡ Ok (content, rest) → length bytes + left ≡ length rest + room
      → BeginningItems left rest items → BeginningItems room bytes (BlockOf content ∷ items)
  IsOpen : {room : ℕ} {bytes : Bytes} → IsShort (first_block bytes) → length bytes ≤ room
      → BeginningItems room bytes []

-- several objects yield their items one after another
pub data AreItems : List Bytes → List Item → Type 0 where
  Nothing : AreItems [] []
  Object : {source : Bytes} {sources : List Bytes} {own items : List Item}
      → ObjectItems most_bytes source own → AreItems sources items → AreItems (source ∷ sources) (own ++ items)

-- ---- the parts of items

infixl 10 ◌>>=◌
abbrev pub ◌>>=◌ : {A B : Type 0} → Result A LinkFault → (A → Result B LinkFault) → Result B LinkFault
(Ok x) >>= f = f x
(Err e) >>= f = Err e

-- the parts of a valid record; or the fault of a block that isn't one, as a fault of the link
abbrev pub parts_or_fault : Result records.Content RecordFault → Result (List Part) LinkFault
parts_or_fault (Ok content) = Ok (parts_of content)
parts_or_fault (Err inner) = Err (fault.Record inner)

abbrev pub parts_by : Item → Result (List Part) LinkFault
parts_by (BlockOf content) = parts_or_fault (content_of content)
parts_by ObjectEnds = Ok (EndOfFile ∷ [])
parts_by (Refused refused) = Err refused

-- these parts; or the fault, if there is one, as a fault of the link
abbrev pub unless_fault : Option ModuleFault → List Part → Result (List Part) LinkFault
unless_fault None parts = Ok parts
unless_fault (Some broken) parts = Err (of_module broken)

-- the earlier parts and then these; or the first fault of these
abbrev pub accepted_parts : List Part → List Part → Result (List Part) LinkFault
accepted_parts before parts = unless_fault (first_fault before parts) (before ++ parts)

abbrev pub accepted_item : List Part → Item → Result (List Part) LinkFault
accepted_item before item = parts_by item >>= accepted_parts before

-- the earlier parts and then those of the items; or the first fault of the items, in their order
abbrev pub taken : List Part → List Item → Result (List Part) LinkFault
taken before [] = Ok before
taken before (item ∷ items) = accepted_item before item >>= λ parts. taken parts items

-- ---- the first pass

abbrev pub unless_too_large : ℕ → List Part → Result (List Part) LinkFault
unless_too_large bottom parts = if is_too_large bottom parts then Err fault.TooLarge else Ok parts

-- the parts of a link whose relocatable sections begin at this bottom, or the fault of the link, which is `TooLarge` only if there
-- is no other
abbrev pub outcome : ℕ → List Item → Result (List Part) LinkFault
outcome bottom items = taken [] items >>= unless_too_large bottom

-- ---- feeds

-- the object of a feed yields these items
pub record GivesItems (text : Option Text) (items : List Item) : Type 0 where
  pub source : Bytes
  pub has : HasBytes text source
  pub are : ObjectItems most_bytes source items

-- some prefix of a feed's object yields these items
pub record BeginsItems (text : Option Text) (items : List Item) : Type 0 where
  pub beginning : Bytes
  pub has : BeginsWith text beginning
  pub are : BeginningItems most_bytes beginning items

-- the objects of these feeds yield these items, one object after another
pub record GiveItems {F : Type 0} (text : F → Option Text) (feeds : List F) (items : List Item) : Type 0 where
  pub sources : List Bytes
  pub given : GiveAll text feeds sources
  pub are : AreItems sources items

-- a feed failed after a prefix of its object; the items are those of the earlier objects, and then those of this prefix
pub record FailAfter {F : Type 0} (text : F → Option Text) (faults : F → ℕ) (feeds feeds' : List F)
    (items : List Item) : Type 0 where
  pub sources : List Bytes
  pub beginning : Bytes
  pub failed : OneFailed text faults feeds feeds' sources beginning
  pub before : List Item
  pub own : List Item
  pub are : AreItems sources before
  pub begun : BeginningItems most_bytes beginning own
  pub items-are : items ≡ before ++ own
