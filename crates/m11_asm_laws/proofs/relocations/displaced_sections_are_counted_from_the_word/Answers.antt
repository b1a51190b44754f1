use Rattle.std.proofs.Common.{false}
use Rattle.m11_asm_laws.proofs.Rows.{displaced_section_row}
use Rattle.m11_asm_laws.proofs.relocations.displaced_sections_are_counted_from_the_word.Goals as goal

pub returns : goal.returns
returns c = λ found index own linked_location number name words. displaced_section_row found index own linked_location false name number words
