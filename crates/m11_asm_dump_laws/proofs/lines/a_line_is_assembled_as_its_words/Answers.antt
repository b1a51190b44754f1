use Rattle.m11_asm_dump_laws.proofs.Beginnings.{asect_reads}
use Rattle.m11_asm_dump_laws.proofs.DumpedLines.{line_assembled}
use Rattle.m11_asm_dump_laws.proofs.ReadData.{byte_assembled}
use Rattle.m11_asm_dump_laws.proofs.lines.a_line_is_assembled_as_its_words.Goals as goal

pub returns-clause-words : goal.returns-clause-words
returns-clause-words c symbols map_of_source table given word more spelled reads has even within fits all this =
    line_assembled symbols spelled map_of_source table reads has even within given word more fits all this

pub returns-clause-byte : goal.returns-clause-byte
returns-clause-byte c symbols table given byte reads within small this = byte_assembled symbols table reads within given byte small this

pub returns-clause-begins : goal.returns-clause-begins
returns-clause-begins c symbols given this = asect_reads symbols given this
