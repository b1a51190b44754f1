-- The line that says why a file gives no names for addresses. (This project's own; docs/VIEWS.md, "Names of addresses".)
use Rattle.std.specs.Prelude.{[], ◌∷◌, ◌++◌, codes}
use Rattle.m11_base.specs.Devices.{Bytes}
use Rattle.m11_base_disassembly.specs.declared.map_fault.MapFault.{MapFault}
use Rattle.m11_base_disassembly.specs.declared.map_fault.MapFault.TheVariants.{Read, BadMap, TooMuch, NoModule, NoMemory}

-- the beginning of the line, up to the path of the file
abbrev pub line_head : MapFault → Bytes
line_head Read = codes "?M11 MAP 1 Read OF "
line_head BadMap = codes "?M11 MAP 2 BadMap OF "
line_head TooMuch = codes "?M11 MAP 3 TooMuch OF "
line_head NoModule = codes "?M11 MAP 4 NoModule OF "
line_head NoMemory = codes "?M11 MAP 90 NoMemory OF "

-- the line for a fault of the file at this path
abbrev pub fault_line : Bytes → MapFault → Bytes
fault_line path fault = line_head fault ++ (path ++ 10 ∷ [])
