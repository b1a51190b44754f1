-- Sources made of lines.
use Rattle.std.specs.Prelude.{◌≢◌, List, [], ◌∷◌, ◌++◌}
use Rattle.m11_base.specs.Devices.{Bytes}
use Rattle.m11_scan.specs.Laws.{ArePlainTexts, IsPlainText, written}

-- a source has these lines, none of them with NULs, line feeds, form feeds or CRs: a line feed follows each, or each but the last,
-- which then isn't empty
pub data HasLines : Bytes → List Bytes → Type 0 where
  AllEnded : (lines : List Bytes) → ArePlainTexts lines → HasLines (written lines) lines
  LastOpen : (lines : List Bytes) (last : Bytes) → ArePlainTexts lines → IsPlainText last → last ≢ []
      → HasLines (written lines ++ last) (lines ++ last ∷ [])

-- sources have these lines, in order: those of the first source, then those of the second, and so on
pub data HaveLines : List Bytes → List Bytes → Type 0 where
  NoSource : HaveLines [] []
  OneMore : (source : Bytes) (sources lines more : List Bytes) → HasLines source lines → HaveLines sources more
      → HaveLines (source ∷ sources) (lines ++ more)
