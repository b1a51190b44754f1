use Rattle.m11_asm_listing.proofs.PrintedLines.{message_whole}
use Rattle.m11_asm_listing.proofs.laws.a_message_shows_its_text.Goals as goal

pub returns : goal.returns
returns c = message_whole
