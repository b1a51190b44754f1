-- The reading of objects for their map: the result of a link's first pass, and the facts recorded about the parts. (This project's own.)
use Rattle.std.specs.Prelude.{◌≡◌, ℕ, List, ◌++◌, Option, Result, Ok, Err}
use Rattle.m11_base.specs.Devices.{Bytes}
use Rattle.m11_base.specs.Feed.{Text, NoneFailed}
use Rattle.m11_link_modules.specs.Parts.{Part, record_parts}
use Rattle.m11_link_layout.specs.Layout.{LayoutState, LayoutAfter, AcceptsBlock}
use Rattle.m11_link_layout.specs.Plan.{PlanTables, IsPlanOf}
use Rattle.m11_link_layout.specs.declared.fault.LinkFault.{LinkFault}
use Rattle.m11_base_writes.specs.Passes.{Pass}
use Rattle.m11_link.specs.FirstPass.{LaysOut, LaysOutObject, Reaches, LayoutBetween}
use Rattle.m11_link.specs.Objects.{Item, GiveItems, GivesItems, outcome}
use Rattle.m11_link_load_map.specs.Noted.{noted_of}
use Rattle.m11_link_load_map.specs.Stopping.{IsRefused, StopsAt}
use Rattle.m11_link_load_map.specs.declared.fault.ObjectsFault.{ObjectsFault}
use Rattle.m11_link_load_map.specs.declared.noted.MapFact.{MapFact}

-- the state of the layout after these parts, and the facts recorded about them
pub record NotedAfter (bottom : ℕ) (parts : List Part) (layout : LayoutState) (noted : List MapFact) : Type 0 where
  pub laid : LayoutAfter bottom parts layout
  pub noted-are : noted ≡ noted_of parts

-- a block was accepted and its facts recorded; or a link refuses it, or memory was refused
abbrev pub NotesBlock : ℕ → List Part → LayoutState → List MapFact → Bytes → Result (Unit {0}) LinkFault → Type 0
NotesBlock bottom before layout noted bytes (Ok done) = NotedAfter bottom (before ++ record_parts bytes) layout noted
NotesBlock bottom before layout noted bytes (Err stopped) = AcceptsBlock bottom before layout bytes (Err stopped)

-- the items have no fault after the earlier parts, an object may end after the last item, this is then the state of the layout, and
-- the facts about all parts were recorded
pub record ReachesNoted (bottom : ℕ) (before : List Part) (items : List Item) (layout : LayoutState) (noted : List MapFact)
    : Type 0 where
  pub reaches : Reaches bottom before items layout
  pub noted-are : noted ≡ noted_of reaches.parts

-- one object was accepted and its facts recorded; or reading it ended with a fault, as in the first pass of a link
abbrev pub NotesObject : Option Text → Option Text → ℕ → ℕ → ℕ → List Part → LayoutState → List MapFact → Result (Unit {0}) LinkFault → Type 0
NotesObject text text' faults faults' bottom before layout noted (Ok done) =
    (faults' ≡ faults) × (items : List Item) × GivesItems text items × ReachesNoted bottom before items layout noted
NotesObject text text' faults faults' bottom before layout noted (Err stopped) =
    LaysOutObject text text' faults faults' bottom before layout (Err stopped)

-- the state of the layout between objects, and the facts recorded about their parts
pub record NotedBetween (bottom : ℕ) (parts : List Part) (layout : LayoutState) (noted : List MapFact) : Type 0 where
  pub between : LayoutBetween bottom parts layout
  pub noted-are : noted ≡ noted_of parts

-- several objects were accepted and their facts recorded; or reading them ended with a fault, as in the first pass of a link, and
-- the result names the object at fault
abbrev pub NotesObjects : {F : Type 0} → Pass F → ℕ → List Part → LayoutState → List MapFact → Result (Unit {0}) ObjectsFault → Type 0
NotesObjects pass bottom before layout noted (Ok done) = NoneFailed pass.faults pass.old pass.new
    × (items : List Item) × GiveItems pass.text pass.old items × ReachesNoted bottom before items layout noted
NotesObjects pass bottom before layout noted (Err stopped) = LaysOut pass bottom before layout (Err stopped.fault)
    × StopsAt pass bottom before stopped.object_index stopped.fault

-- all objects were accepted, with the plan of their parts and the facts recorded about them; or they are refused as in a link
abbrev pub NotesAll : {F : Type 0} → Pass F → ℕ → List MapFact → Result PlanTables ObjectsFault → Type 0
NotesAll pass bottom noted (Ok plan) = NoneFailed pass.faults pass.old pass.new
    × (items : List Item) × GiveItems pass.text pass.old items
    × (parts : List Part) × (outcome bottom items ≡ Ok parts) × IsPlanOf bottom parts plan × (noted ≡ noted_of parts)
NotesAll pass bottom noted (Err stopped) = IsRefused pass bottom stopped
