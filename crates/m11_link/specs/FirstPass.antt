-- The first pass of a link over its feeds. (This project's own.)
use Rattle.std.specs.Prelude.{◌≡◌, ◌⊎◌, ℕ, List, [], ◌∷◌, ◌++◌, Option, None, Result, Ok, Err, if◌then◌else◌}
use Rattle.m11_base.specs.Devices.{Bytes, Rises}
use Rattle.m11_base.specs.Feed.{GivesBytes, NoneFailed, Text}
use Rattle.m11_base_writes.specs.Passes.{Pass}
use Rattle.m11_link_modules.specs.Parts.{Part, EndOfFile}
use Rattle.m11_link_modules.specs.Positions.{adds_name}
use Rattle.m11_link_modules.specs.Rules.{fault_of, first_fault}
use Rattle.m11_link_layout.specs.Plan.{PlanTables, IsPlanOf}
use Rattle.m11_link_layout.specs.Layout.{LayoutState, LayoutAfter}
use Rattle.m11_link_layout.specs.declared.fault.LinkFault.{LinkFault}
use Rattle.m11_link_layout.specs.declared.fault.LinkFault.TheVariants as fault
use Rattle.m11_obj_blocks.specs.Limited.{most_bytes}
use Rattle.m11_link.specs.Objects.{BlockOf, Item, ObjectEnds, ObjectItems, parts_by, taken, outcome, GivesItems, BeginsItems, GiveItems, FailAfter}

-- `layout` is the state of the layout after these parts, and an object may end after them
pub record LayoutBetween (bottom : ℕ) (parts : List Part) (layout : LayoutState) : Type 0 where
  pub stands : LayoutAfter bottom parts layout
  pub between : fault_of parts EndOfFile ≡ None

-- the items have no fault after the earlier parts, an object may end after the last item, and `layout` is the state of the layout
-- after these items
pub record Reaches (bottom : ℕ) (before : List Part) (items : List Item) (layout : LayoutState) : Type 0 where
  pub parts : List Part
  pub taken-is : taken before items ≡ Ok parts
  pub stands : LayoutBetween bottom parts layout

-- the items have no fault after the earlier parts
abbrev pub AreAccepted : List Part → List Item → Type 0
AreAccepted before items = (parts : List Part) × (taken before items ≡ Ok parts)

-- ---- refused memory

-- these parts up to the first that adds a name; all of them if none does
abbrev pub to_first_name : List Part → List Part
to_first_name [] = []
to_first_name (part ∷ parts) = part ∷ (if adds_name part then [] else to_first_name parts)

-- a block after these parts is a valid record, and none of its parts has a fault up to the first that adds a name; so this name passes no
-- limit, and the block begins no module past the limit
abbrev pub HasRoom : List Part → Bytes → Type 0
HasRoom before content = (parts : List Part) × (parts_by (BlockOf content) ≡ Ok parts)
    × (first_fault before (to_first_name parts) ≡ None)

-- a feed gave the bytes of some items and of a block, and no other byte; the items have no fault, and there is room for the block
abbrev pub AtBlock : Option Text → Option Text → List Part → Type 0
AtBlock text text' before = (given : Bytes) × GivesBytes text text' given
    × (items : List Item) × (content : Bytes) × ObjectItems most_bytes given (items ++ BlockOf content ∷ ObjectEnds ∷ [])
    × (parts : List Part) × (taken before items ≡ Ok parts) × HasRoom parts content

-- one of the feeds was read so; the objects of the feeds before it have no fault, and the feeds after it are as they were
abbrev pub AtFeed : {F : Type 0} → Pass F → List Part → Type 0
AtFeed {F} pass before = (done done_now left : List F) × (feed feed_now : F)
    × (pass.old ≡ done ++ feed ∷ left) × (pass.new ≡ done_now ++ feed_now ∷ left)
    × (items : List Item) × GiveItems pass.text done items
    × (parts : List Part) × (taken before items ≡ Ok parts) × AtBlock (pass.text feed) (pass.text feed_now) parts

-- where memory may be refused in a pass: after exactly the bytes up to the end of a block were read, for which there is room; or after
-- all objects, which have no fault
abbrev pub LacksMemory : {F : Type 0} → Pass F → Type 0
LacksMemory pass = AtFeed pass [] ⊎ ((items : List Item) × GiveItems pass.text pass.old items × AreAccepted [] items)

-- ---- one object, several objects, and the whole pass

-- one object was laid out after these parts; or its first fault was returned; or the feed failed, and the bytes before the failure
-- have no fault; or memory was refused for a block for which there is room
abbrev pub LaysOutObject : Option Text → Option Text → ℕ → ℕ → ℕ → List Part → LayoutState → Result (Unit {0}) LinkFault → Type 0
LaysOutObject text text' faults faults' bottom before layout (Ok done) =
    (faults' ≡ faults) × (items : List Item) × GivesItems text items × Reaches bottom before items layout
LaysOutObject text text' faults faults' bottom before layout (Err fault.Read) =
    Rises faults faults' × (items : List Item) × BeginsItems text items × AreAccepted before items
LaysOutObject text text' faults faults' bottom before layout (Err fault.NoMemory) =
    (faults' ≡ faults) × AtBlock text text' before
LaysOutObject text text' faults faults' bottom before layout (Err stopped) =
    (faults' ≡ faults) × (items : List Item) × GivesItems text items × (taken before items ≡ Err stopped)

-- several objects were laid out after these parts; or the first fault of one was returned; or a feed failed, and the bytes before
-- the failure have no fault; or memory was refused for a block for which there is room
abbrev pub LaysOut : {F : Type 0} → Pass F → ℕ → List Part → LayoutState → Result (Unit {0}) LinkFault → Type 0
LaysOut pass bottom before layout (Ok done) = NoneFailed pass.faults pass.old pass.new
    × (items : List Item) × GiveItems pass.text pass.old items × Reaches bottom before items layout
LaysOut pass bottom before layout (Err fault.Read) =
    (items : List Item) × FailAfter pass.text pass.faults pass.old pass.new items × AreAccepted before items
LaysOut pass bottom before layout (Err fault.NoMemory) = NoneFailed pass.faults pass.old pass.new × AtFeed pass before
LaysOut pass bottom before layout (Err stopped) = NoneFailed pass.faults pass.old pass.new
    × (items : List Item) × GiveItems pass.text pass.old items × (taken before items ≡ Err stopped)

-- the whole first pass read the parts that the objects yield; or it returned the first fault of the objects; or a feed failed, and the
-- bytes before the failure have no fault; or memory was refused where no limit is passed
abbrev pub ReadsFirst : {F : Type 0} → Pass F → ℕ → Result (List Part) LinkFault → Type 0
ReadsFirst pass bottom (Ok parts) = NoneFailed pass.faults pass.old pass.new
    × (items : List Item) × GiveItems pass.text pass.old items × (outcome bottom items ≡ Ok parts)
ReadsFirst pass bottom (Err fault.Read) =
    (items : List Item) × FailAfter pass.text pass.faults pass.old pass.new items × AreAccepted [] items
ReadsFirst pass bottom (Err fault.NoMemory) = NoneFailed pass.faults pass.old pass.new × LacksMemory pass
ReadsFirst pass bottom (Err stopped) = NoneFailed pass.faults pass.old pass.new
    × (items : List Item) × GiveItems pass.text pass.old items × (outcome bottom items ≡ Err stopped)

-- the whole first pass read these parts, and this is a plan of them
pub record HasPlan {F : Type 0} (pass : Pass F) (bottom : ℕ) (plan : PlanTables) : Type 0 where
  pub parts : List Part
  pub reads : ReadsFirst pass bottom (Ok parts)
  pub is : IsPlanOf bottom parts plan

-- the whole first pass returned a plan of the parts that it read; or its fault
abbrev pub PlansFirst : {F : Type 0} → Pass F → ℕ → Result PlanTables LinkFault → Type 0
PlansFirst pass bottom (Ok plan) = HasPlan pass bottom plan
PlansFirst pass bottom (Err stopped) = ReadsFirst pass bottom (Err stopped)
