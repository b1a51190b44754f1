use Rattle.m11_asm_listing.proofs.PrintedLines.{text_begins}
use Rattle.m11_asm_listing.proofs.laws.the_text_of_a_listed_line_begins_in_column_43.Goals as goal

pub returns : goal.returns
returns c = text_begins
