-- The steps of a chain: assembling, linking and loading. The input of each step alone decides its result, unless memory is refused. (This
-- project's own.)
use Rattle.std.specs.Prelude.{◌≡◌, ℕ, List, map, ⊤, Option, Some, Result, Ok, Err}
use Rattle.std.specs.List.{AllByRecursion}
use Rattle.m11_asm_faults.specs.declared.fault.AsmFault.{AsmFault}
use Rattle.m11_asm_faults.specs.declared.fault.AsmFault.TheVariants as assembly
use Rattle.m11_base.specs.Devices.{Bytes, Rises}
use Rattle.m11_base.specs.Feed.{Ends, Text}
use Rattle.m11_cpu.specs.Loading.{LoadsInto}
use Rattle.m11_cpu_machine.specs.Machine.{new_machine}
use Rattle.m11_cpu.specs.declared.fault.LoadFault.{LoadFault}
use Rattle.m11_cpu_machine.specs.declared.machine.Machine.{Machine}
use Rattle.m11_cli_image.specs.Objects.{SourceFits, object_of}
use Rattle.m11_link_layout.specs.declared.fault.LinkFault.{LinkFault}
use Rattle.m11_link_layout.specs.declared.fault.LinkFault.TheVariants as linking
use Rattle.m11_base_writes.specs.declared.outputs.Output.TheVariants as output
use Rattle.m11_link.specs.Objects.{AreItems, Item, outcome}
use Rattle.m11_link.specs.Outputs.{link}
use Rattle.m11_link.specs.Written.{link_writes}
use Rattle.m11_link_text.specs.Findings.{findings_of}
use Rattle.m11_link_modules.specs.Parts.{Part}
use Rattle.m11_asm_outcome_laws.specs.Live.{AreRefused}
use Rattle.m11_asm_passes.specs.Lines.{NumberedLine}
use Rattle.m11_base_writes.specs.Writes.{gained}
use Rattle.m11_cli_chain.specs.Refusals.{IsOfObjects, IsOfTexts}
use Rattle.m11_cli_chain.specs.Sources.{AllLive, AreLive, IsFirstRefused, source_of, sources_of}
use Rattle.m11_cli_chain.specs.declared.fault.ChainFault.{ChainFault}
use Rattle.m11_cli_chain.specs.declared.fault.ChainFault.TheVariants.{Assembly, Link, Load, NoMemory}

-- the text of a feed that yields these bytes and then the end
abbrev pub whole_text : Bytes → Option Text
whole_text bytes = Some (record { bytes = bytes; ending = Ends })

-- feeds of this type never fail: their count of failures never rises
abbrev pub NeverFail : {F : Type 0} → (F → ℕ) → Type 0
NeverFail {F} faults = (before after : F) → Rises (faults before) (faults after) → ⊥

-- ---- assembling

-- the chain's fault for a fault of an assembly; a failed write becomes NoMemory, since an output in memory fails only if memory is refused
abbrev pub of_assembly : AsmFault → ChainFault
of_assembly assembly.NoMemory = NoMemory
of_assembly (assembly.Write output) = NoMemory
of_assembly stopped = Assembly stopped

-- this is the object of the source that these texts define, and the source fits
pub record IsObjectOf (texts : List Bytes) (object : Bytes) : Type 0 where
  pub lines : List NumberedLine
  pub live : AreLive texts lines
  pub fits : SourceFits (source_of lines)
  pub object_is : object ≡ object_of (source_of lines)

abbrev pub AssemblyFails : List Bytes → ChainFault → Type 0
AssemblyFails texts (Assembly stopped) = IsOfTexts stopped × AreRefused texts stopped
AssemblyFails texts NoMemory = ⊤
AssemblyFails texts other = ⊥

-- these are the objects of several assemblies, in order: each is the object of the source that its texts define, and each source fits
pub record AreObjectsOf (all : List (List Bytes)) (objects : List Bytes) : Type 0 where
  pub lines : List (List NumberedLine)
  pub live : AllLive all lines
  pub fit : AllByRecursion SourceFits (sources_of lines)
  pub objects_are : objects ≡ map object_of (sources_of lines)

abbrev pub AssembliesFail : List (List Bytes) → ChainFault → Type 0
AssembliesFail all (Assembly stopped) = IsOfTexts stopped × IsFirstRefused all stopped
AssembliesFail all NoMemory = ⊤
AssembliesFail all other = ⊥

-- ---- linking

abbrev pub of_link : LinkFault → ChainFault
of_link linking.NoMemory = NoMemory
of_link (linking.Write output) = NoMemory
of_link stopped = Link stopped

-- a link of these objects, whose relocatable sections begin at this bottom, is not refused and writes this tape
pub record IsTapeOfObjects (bottom : ℕ) (objects : List Bytes) (tape : Bytes) : Type 0 where
  pub items : List Item
  pub are : AreItems objects items
  pub parts : List Part
  pub parts_are : outcome bottom items ≡ Ok parts
  pub tape_is : tape ≡ gained link output.Product (link_writes (findings_of bottom parts) parts)

-- a link of these objects is refused with this fault
pub record ObjectsRefused (bottom : ℕ) (objects : List Bytes) (stopped : LinkFault) : Type 0 where
  pub items : List Item
  pub are : AreItems objects items
  pub refused : outcome bottom items ≡ Err stopped

abbrev pub LinkFails : ℕ → List Bytes → ChainFault → Type 0
LinkFails bottom objects (Link stopped) = IsOfObjects stopped × ObjectsRefused bottom objects stopped
LinkFails bottom objects NoMemory = ⊤
LinkFails bottom objects other = ⊥

-- ---- loading

-- a load of these bytes, as a tape, into a new machine with `words` words has this result, and the machine is then `after`
abbrev pub LoadsNew : Bytes → ℕ → Machine → Result ℕ LoadFault → Type 0
LoadsNew tape words after came =
    (left : Option Text) × LoadsInto (whole_text tape) left 0 0 (new_machine words) after came

abbrev pub LoadFails : Bytes → ℕ → ChainFault → Type 0
LoadFails tape words (Load stopped) = (after : Machine) × LoadsNew tape words after (Err stopped)
LoadFails tape words NoMemory = ⊤
LoadFails tape words other = ⊥
