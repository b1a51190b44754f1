-- A tape that is written as a source. (RT-11 Volume and File Formats Manual, "Absolute binary file format".)
use Rattle.std.specs.Prelude.{◌≡◌, List, Result, Ok, Err}
use Rattle.m11_base.specs.Devices.{Bytes}
use Rattle.m11_base_disassembly.specs.declared.symbols.Symbol.{Symbol}
use Rattle.m11_base_writes.specs.States.{OutputState}
use Rattle.m11_obj_blocks.specs.Limited.{Position}
use Rattle.m11_dump.specs.Objects.{FailsAt, Gained}
use Rattle.m11_dump.specs.WholeTapes.{ReadsTape, blocks_of}
use Rattle.m11_dump.specs.declared.fault.LocatedFault.{LocatedFault}
use Rattle.m11_dump.specs.declared.whole_tapes.WholeTape.{WholeTape}
use Rattle.m11_dump_source.specs.Memory.{memory_of}
use Rattle.m11_dump_source.specs.Texts.{source_text}
use Rattle.m11_dump_source.specs.declared.run.SourceFault.{SourceFault}
use Rattle.m11_dump_source.specs.declared.run.SourceFault.TheVariants.{Tape, Write, NoMemory}

-- the fault of reading as that of writing a source
abbrev pub of_tape : LocatedFault → SourceFault
of_tape said = Tape said

-- the source of a tape, with these names
abbrev pub tape_source : List Symbol → WholeTape → Bytes
tape_source symbols tape = source_text symbols tape.start (memory_of (blocks_of tape.blocks.items))

-- a tape was read as a whole, and its source was written; or it couldn't be read, and nothing was written; or the output failed at the source;
-- or memory was refused after the tape was read, and nothing was written
abbrev pub WritesSource : List Symbol → Position → Position → OutputState → OutputState → Result (Unit {0}) SourceFault → Type 0
WritesSource symbols old new output output' (Ok done) =
    (tape : WholeTape) × ReadsTape old new (Ok tape) × Gained (tape_source symbols tape) output output'
WritesSource symbols old new output output' (Err (Tape said)) = ReadsTape old new (Err said) × (output' ≡ output)
WritesSource symbols old new output output' (Err Write) =
    (tape : WholeTape) × ReadsTape old new (Ok tape) × FailsAt (tape_source symbols tape) output output'
WritesSource symbols old new output output' (Err NoMemory) = (tape : WholeTape) × ReadsTape old new (Ok tape) × (output' ≡ output)
