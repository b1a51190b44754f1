use Rattle.m11_asm_listing.proofs.PrintedLines.{further_length}
use Rattle.m11_asm_listing.proofs.laws.a_further_line_has_at_most_41_characters.Goals as goal

pub returns : goal.returns
returns c = further_length
