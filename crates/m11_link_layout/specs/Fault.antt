-- The faults of a link: their numbers and names, where they end the writes early, and how the faults of blocks and of the rules become
-- faults of a link. (This project's own.)
use Rattle.std.specs.Prelude.{ℕ, Option, Some, None, codes}
use Rattle.m11_base.specs.Devices.{Bytes}
use Rattle.m11_obj_blocks.specs.declared.block_fault.BlockFault.{BlockFault}
use Rattle.m11_obj_blocks.specs.declared.block_fault.BlockFault.TheVariants as block
use Rattle.m11_link_modules.specs.declared.fault.ModuleFault.{ModuleFault}
use Rattle.m11_link_modules.specs.declared.fault.ModuleFault.TheVariants as rule
use Rattle.m11_link_layout.specs.declared.fault.LinkFault.{LinkFault}
use Rattle.m11_link_layout.specs.declared.fault.LinkFault.TheVariants as fault
use Rattle.m11_base_writes.specs.Writes.{Between, In, Stop}
use Rattle.m11_base_writes.specs.declared.outputs.Output.{Output}

abbrev pub link_fault_number : LinkFault → ℕ
link_fault_number fault.Read = 1
link_fault_number (fault.Write output) = 2
link_fault_number (fault.Block inner) = 3
link_fault_number (fault.Record inner) = 4
link_fault_number fault.BadOrder = 5
link_fault_number fault.NoText = 6
link_fault_number fault.BadDisplacement = 7
link_fault_number fault.UnknownSection = 8
link_fault_number fault.TooLarge = 9
link_fault_number fault.TooManyGlobals = 10
link_fault_number fault.TooManySections = 11
link_fault_number fault.TooManyModules = 12
link_fault_number fault.TooMuch = 13
link_fault_number fault.TextOutside = 14
link_fault_number fault.NoMemory = 90

abbrev pub link_fault_name : LinkFault → Bytes
link_fault_name fault.Read = codes "Read"
link_fault_name (fault.Write output) = codes "Write"
link_fault_name (fault.Block inner) = codes "Block"
link_fault_name (fault.Record inner) = codes "Record"
link_fault_name fault.BadOrder = codes "BadOrder"
link_fault_name fault.NoText = codes "NoText"
link_fault_name fault.BadDisplacement = codes "BadDisplacement"
link_fault_name fault.UnknownSection = codes "UnknownSection"
link_fault_name fault.TooLarge = codes "TooLarge"
link_fault_name fault.TooManyGlobals = codes "TooManyGlobals"
link_fault_name fault.TooManySections = codes "TooManySections"
link_fault_name fault.TooManyModules = codes "TooManyModules"
link_fault_name fault.TooMuch = codes "TooMuch"
link_fault_name fault.TextOutside = codes "TextOutside"
link_fault_name fault.NoMemory = codes "NoMemory"

-- where a fault ends the writes early: in an output that failed, or between writes if memory was refused; None for any other fault
abbrev pub stop_of : LinkFault → Option (Stop Output)
stop_of (fault.Write output) = Some (In output)
stop_of fault.NoMemory = Some Between
stop_of _ = None

-- a fault of a block as a fault of the link; the faults of a device and of the size limit have numbers of their own
abbrev pub of_block : BlockFault → LinkFault
of_block block.Device = fault.Read
of_block block.TooMuch = fault.TooMuch
of_block inner = fault.Block inner

-- a fault of the rules as a fault of the link, which has the same name
abbrev pub of_module : ModuleFault → LinkFault
of_module rule.BadOrder = fault.BadOrder
of_module rule.NoText = fault.NoText
of_module rule.BadDisplacement = fault.BadDisplacement
of_module rule.UnknownSection = fault.UnknownSection
of_module rule.TextOutside = fault.TextOutside
of_module rule.TooManyGlobals = fault.TooManyGlobals
of_module rule.TooManySections = fault.TooManySections
of_module rule.TooManyModules = fault.TooManyModules
of_module rule.NoMemory = fault.NoMemory
