-- The first pass of a link, call by call: its state after the parts so far. (This project's own.)
use Rattle.std.specs.Prelude.{◌≡◌, ◌⊎◌, ℕ, List, [], ◌++◌, Option, Some, None, Result, Ok, Err}
use Rattle.m11_base.specs.Devices.{Bytes}
use Rattle.m11_obj.specs.Reading.{IsRecord, content_of}
use Rattle.m11_link_modules.specs.declared.fault.ModuleFault.{ModuleFault}
use Rattle.m11_link_modules.specs.Parts.{Part}
use Rattle.m11_link_modules.specs.Positions.{RulesState, known_of}
use Rattle.m11_link_modules.specs.Rules.{StopsAtName, first_fault}
use Rattle.m11_link_modules.specs.Parts.{record_parts}
use Rattle.m11_link_layout.specs.Fault.{of_module}
use Rattle.m11_link_layout.specs.Tables.{LayoutTables, collected_after_all, nothing_collected}
use Rattle.m11_link_layout.specs.declared.fault.LinkFault.{LinkFault}
use Rattle.m11_link_layout.specs.declared.fault.LinkFault.TheVariants.{Record, NoMemory}

-- the state of a layout between two calls: what the rules know, the tables, the bottom, and the fault that was returned, if any
pub record LayoutState : Type 0 where
  pub known : RulesState
  pub gathered : LayoutTables
  pub bottom : ℕ
  pub fault : Option LinkFault

-- the parts have no fault, and `reading` is the state of a layout after them
pub record LayoutAfter (bottom : ℕ) (parts : List Part) (reading : LayoutState) : Type 0 where
  pub sound : first_fault [] parts ≡ None
  pub known : reading.known ≡ known_of parts
  pub gathered : reading.gathered ≡ collected_after_all bottom nothing_collected parts
  pub bottom_is : reading.bottom ≡ bottom
  pub fault : reading.fault ≡ None

-- the reported fault is the first fault of these parts, given the parts before them, as a fault of the link; or it is NoMemory, and
-- either memory was refused at a part that adds a name, and neither that part nor one before it has a fault, or none of these parts
-- has a fault
abbrev pub FirstFault : List Part → List Part → LinkFault → Type 0
FirstFault before parts NoMemory = StopsAtName (first_fault before) parts ⊎ (first_fault before parts ≡ None)
FirstFault before parts reported =
    (fault : ModuleFault) × (first_fault before parts ≡ Some fault) × (reported ≡ of_module fault)

-- parts were accepted, or their first fault was returned, or memory was refused
abbrev pub AcceptsParts : ℕ → List Part → LayoutState → List Part → Result (Unit {0}) LinkFault → Type 0
AcceptsParts bottom before new parts (Ok done) = LayoutAfter bottom (before ++ parts) new
AcceptsParts bottom before new parts (Err fault) = FirstFault before parts fault

-- the result for a block is the block's fault if it isn't a valid record, and otherwise the result for the record's parts; memory is
-- refused only for a valid record
abbrev pub AcceptsBlock : ℕ → List Part → LayoutState → Bytes → Result (Unit {0}) LinkFault → Type 0
AcceptsBlock bottom before new bytes (Err (Record fault)) = content_of bytes ≡ Err fault
AcceptsBlock bottom before new bytes (Err NoMemory) =
    IsRecord bytes × AcceptsParts bottom before new (record_parts bytes) (Err NoMemory)
AcceptsBlock bottom before new bytes result = AcceptsParts bottom before new (record_parts bytes) result

-- after an error, the same error is returned again, and nothing changes
abbrev pub FailsAgain : LayoutState → LayoutState → Result (Unit {0}) LinkFault → Type 0
FailsAgain old new result = (fault : LinkFault) → old.fault ≡ Some fault → (result ≡ Err fault) × (new ≡ old)
