use Rattle.m11_asm_listing.proofs.PrintedLines.{listed_length}
use Rattle.m11_asm_listing.proofs.laws.a_listed_line_has_at_most_42_characters_and_its_text.Goals as goal

pub returns : goal.returns
returns c = listed_length
