-- Where the first pass of a link stops: in one of the objects, or after all of them. (This project's own.)
use Rattle.std.specs.Prelude.{◌≡◌, ◌⊎◌, ℕ, List, [], ◌∷◌, ◌++◌, length, Option, Some, None, Ok, Err}
use Rattle.m11_link_modules.specs.Parts.{Part}
use Rattle.m11_link_layout.specs.Layout.{LayoutState}
use Rattle.m11_link_layout.specs.declared.fault.LinkFault.{LinkFault}
use Rattle.m11_link_layout.specs.declared.fault.LinkFault.TheVariants.{TooLarge, NoMemory}
use Rattle.m11_base_writes.specs.Passes.{Pass}
use Rattle.m11_link.specs.FirstPass.{AreAccepted, LaysOutObject, ReadsFirst}
use Rattle.m11_link.specs.Objects.{Item, GiveItems, taken}
use Rattle.m11_link_load_map.specs.declared.fault.ObjectsFault.{ObjectsFault}

-- the pass stops in the object with this index: after these parts, the objects before it have no fault, it has this fault, and the
-- objects after it aren't read
pub record StopsIn {F : Type 0} (pass : Pass F) (bottom : ℕ) (before : List Part) (index : ℕ) (stopped : LinkFault) : Type 0 where
  pub done : List F
  pub done_now : List F
  pub object : F
  pub object_now : F
  pub others : List F
  pub old-is : pass.old ≡ done ++ object ∷ others
  pub new-is : pass.new ≡ done_now ++ object_now ∷ others
  pub index-is : length done ≡ index
  pub index_now : length done_now ≡ index
  pub items : List Item
  pub given : GiveItems pass.text done items
  pub parts : List Part
  pub taken-is : taken before items ≡ Ok parts
  pub layout : LayoutState
  pub stops : LaysOutObject (pass.text object) (pass.text object_now) (pass.faults object) (pass.faults object_now) bottom parts
      layout (Err stopped)

-- the pass stops after all objects, none of which has a fault after these parts: they are too large together, or memory was refused
abbrev pub StopsAfterAll : {F : Type 0} → Pass F → List Part → LinkFault → Type 0
StopsAfterAll pass before stopped = ((items : List Item) × GiveItems pass.text pass.old items × AreAccepted before items)
    × ((stopped ≡ TooLarge) ⊎ (stopped ≡ NoMemory))

-- the pass stops in the object with this index, or after all objects
abbrev pub StopsAt : {F : Type 0} → Pass F → ℕ → List Part → Option ℕ → LinkFault → Type 0
StopsAt pass bottom before (Some index) stopped = StopsIn pass bottom before index stopped
StopsAt pass bottom before None stopped = StopsAfterAll pass before stopped

-- the first pass of a link refuses the objects with this fault, in this object or after all of them
abbrev pub IsRefused : {F : Type 0} → Pass F → ℕ → ObjectsFault → Type 0
IsRefused pass bottom stopped =
    ReadsFirst pass bottom (Err stopped.fault) × StopsAt pass bottom [] stopped.object_index stopped.fault
