-- The meaning of the code's values in the definitions: the sort, the columns and the characters of a token, and the bits of a set
-- of flags.
use Rattle.std.specs.Prelude.{ℕ}
use Rattle.m11_base.specs.Devices.{Bytes}
use Rattle.m11_scan.specs.declared.flags.ErrorFlags.{ErrorFlags}
use Rattle.m11_scan.specs.declared.cutting.Token.{Token}
use Rattle.m11_scan.specs.Cutting.{Lexeme, text_between}

abbrev pub lexeme : Bytes → Token → Lexeme
lexeme line token = record {
  sort = token.sort;
  start = token.start;
  end = token.end;
  text = text_between line token.start token.end;
}

abbrev pub bits_of : ErrorFlags → ℕ
bits_of flags = flags.0
