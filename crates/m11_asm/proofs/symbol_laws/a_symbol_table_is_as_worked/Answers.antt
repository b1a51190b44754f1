use Rattle.std.proofs.Common.{refl}
use Rattle.std.specs.Fmt.{digits}
use Rattle.m11_base.specs.Blanks.{without_last_blanks}
use Rattle.m11_base.specs.Rad50.{alphabet, character_of, code_of}
use Rattle.m11_asm.specs.Sections.{section_entries}
use Rattle.m11_asm.specs.Symbols.{symbol_entries}
use Rattle.m11_asm.proofs.symbol_laws.a_symbol_table_is_as_worked.Goals as goal

pub returns : goal.returns
unfolding alphabet character_of code_of digits section_entries symbol_entries without_last_blanks
returns c = refl
