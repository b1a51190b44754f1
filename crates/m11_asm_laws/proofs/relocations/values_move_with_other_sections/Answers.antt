use Rattle.std.proofs.Common.{true, false}
use Rattle.m11_asm_laws.proofs.Rows.{section_row}
use Rattle.m11_asm_laws.proofs.relocations.values_move_with_other_sections.Goals as goal

pub returns-clause-word : goal.returns-clause-word
returns-clause-word c = λ found index own linked_location number name words. section_row found index own linked_location false name number words

pub returns-clause-byte : goal.returns-clause-byte
returns-clause-byte c = λ found index own linked_location number name words. section_row found index own linked_location true name number words
