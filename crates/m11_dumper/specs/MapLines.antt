-- The program's lines that say why there is no load map. (This project's own.)
use Rattle.std.specs.Prelude.{[], ◌∷◌, ◌++◌, codes}
use Rattle.m11_base.specs.Devices.{Bytes}
use Rattle.m11_obj_blocks.specs.Blocks.{block_fault_name, block_fault_number}
use Rattle.m11_dumper.specs.Numbered.{numbered, path_end}
use Rattle.m11_link_layout.specs.Fault.{link_fault_name, link_fault_number}
use Rattle.m11_link_layout.specs.declared.fault.LinkFault.{LinkFault}
use Rattle.m11_link_layout.specs.declared.fault.LinkFault.TheVariants as fault
use Rattle.m11_obj.specs.Fault.{record_fault_name, record_fault_number}

-- the number and the name of a fault of a link; a fault of a block or a record also has the number and the name of its inner fault
abbrev pub map_fault_text : LinkFault → Bytes
map_fault_text (fault.Block inner) = numbered (codes "3 Block ") (block_fault_number inner) (block_fault_name inner)
map_fault_text (fault.Record inner) = numbered (codes "4 Record ") (record_fault_number inner) (record_fault_name inner)
map_fault_text inner = numbered [] (link_fault_number inner) (link_fault_name inner)

-- the line that says why there is no load map, if the object at this path has this fault
abbrev pub object_line : Bytes → LinkFault → Bytes
object_line path inner = (codes "?M11 DUMP " ++ map_fault_text inner) ++ path_end (codes " OF ") path

-- the line that says why there is no load map, if no single object is at fault, or memory was refused for the map
abbrev pub map_line : LinkFault → Bytes
map_line inner = (codes "?M11 DUMP " ++ map_fault_text inner) ++ 10 ∷ []
