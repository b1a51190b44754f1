-- The program's own lines: the head of a file, and the reason why not all files were shown. (This project's own.)
use Rattle.std.specs.Prelude.{[], ◌++◌, codes}
use Rattle.std.specs.Fmt.{decimal}
use Rattle.m11_base.specs.Devices.{Bytes}
use Rattle.m11_obj_blocks.specs.Blocks.{block_fault_name, block_fault_number}
use Rattle.m11_obj_blocks.specs.declared.block_fault.BlockFault.TheVariants as block
use Rattle.m11_obj_blocks.specs.Tapes.{tape_fault_name, tape_fault_number}
use Rattle.m11_obj_blocks.specs.declared.tape_fault.TapeFault.TheVariants as tape
use Rattle.m11_base_disassembly.specs.MapFault.{line_head}
use Rattle.m11_link_layout.specs.Fault.{link_fault_name, link_fault_number, of_module}
use Rattle.m11_obj.specs.Fault.{record_fault_name, record_fault_number}
use Rattle.m11_dump.specs.declared.fault.DumpFault.{DumpFault}
use Rattle.m11_dump.specs.declared.fault.DumpFault.TheVariants as fault
use Rattle.m11_dump.specs.declared.fault.LocatedFault.{LocatedFault}
use Rattle.m11_dump.specs.declared.kind.Kind.{Kind}
use Rattle.m11_dump.specs.declared.kind.Kind.TheVariants.{Object, Library, Tape}
use Rattle.m11_dumper.specs.MapLines.{map_line, object_line}
use Rattle.m11_dumper.specs.Numbered.{numbered, path_end}
use Rattle.m11_dumper.specs.declared.stop.Stop.{Stop}
use Rattle.m11_dumper.specs.declared.stop.Stop.TheVariants as stop

-- the word for a kind of file
abbrev pub kind_word : Kind → Bytes
kind_word Object = codes "OBJECT "
kind_word Library = codes "LIBRARY "
kind_word Tape = codes "TAPE "

-- the line before the dump of a file: its kind and its path
abbrev pub head_line : Kind → Bytes → Bytes
head_line kind path = path_end (kind_word kind) path

-- the number and the name of a fault, the same as in a link. A fault of a block or a record is followed by the number and the name of
-- its inner fault. A fault of a tape is 20, followed by the simulator's number and name. But a failed read is always 1, and a file that
-- is too long is always 13
abbrev pub fault_text : DumpFault → Bytes
fault_text (fault.Block block.Device) = codes "1 Read"
fault_text (fault.Block block.TooMuch) = codes "13 TooMuch"
fault_text (fault.Tape tape.Device) = codes "1 Read"
fault_text (fault.Tape tape.TooMuch) = codes "13 TooMuch"
fault_text (fault.Tape inner) = numbered (codes "20 Tape ") (tape_fault_number inner) (tape_fault_name inner)
fault_text (fault.Block inner) = numbered (codes "3 Block ") (block_fault_number inner) (block_fault_name inner)
fault_text (fault.Record inner) = numbered (codes "4 Record ") (record_fault_number inner) (record_fault_name inner)
fault_text (fault.Rule inner) = numbered [] (link_fault_number (of_module inner)) (link_fault_name (of_module inner))
fault_text fault.Write = codes "2 Write"
fault_text fault.NoMemory = codes "90 NoMemory"

-- the position of a fault: the number of its block, counted from 1, and the offset in the file of the byte that shows it
abbrev pub position_text : LocatedFault → Bytes
position_text placed = ((codes " IN BLOCK " ++ decimal placed.block) ++ codes " AT BYTE ") ++ decimal placed.byte

-- the line for a fault in a file: its number and name, its position, and the path
abbrev pub in_file_line : Bytes → LocatedFault → Bytes
in_file_line path placed =
    ((codes "?M11 DUMP " ++ fault_text placed.fault) ++ position_text placed) ++ path_end (codes " OF ") path

-- the line that says why not all files were shown
abbrev pub stop_line : Stop → Bytes
stop_line (stop.NotOpened path) = path_end (codes "?M11 OPEN ") path.now
stop_line (stop.InFile path placed) = in_file_line path.now placed
stop_line (stop.NotTape path) = path_end (codes "?M11 DUMP 21 NotTape OF ") path.now
stop_line stop.SeveralFiles = codes "?M11 DUMP 22 SeveralFiles\n"
stop_line (stop.InObject path inner) = object_line path.now inner
stop_line (stop.InMap inner) = map_line inner
stop_line (stop.NoSymbols path inner) = path_end (line_head inner) path.now
stop_line stop.Write = codes "?M11 DUMP 2 Write\n"
stop_line stop.NoMemory = codes "?M11 DUMP 90 NoMemory\n"
