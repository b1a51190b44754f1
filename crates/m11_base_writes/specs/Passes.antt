-- Passes over feeds, and feeds whose texts are known. (This project's own.)
use Rattle.std.specs.Prelude.{◌≡◌, ℕ, List, [], ◌∷◌, ⊤, Option, Some, None}
use Rattle.m11_base.specs.Devices.{Bytes}
use Rattle.m11_base.specs.Feed.{Text}

-- the feeds before and after a pass: the text of each, if it is known, and its count of failures
pub record Pass (F : Type 0) : Type 0 where
  pub text : F → Option Text
  pub faults : F → ℕ
  pub old : List F
  pub new : List F

abbrev pub pass_of : {F : Type 0} → (F → Option Text) → (F → ℕ) → List F → List F → Pass F
pass_of text faults old new = record { text = text; faults = faults; old = old; new = new }

-- ---- known texts

-- a text is known and is these bytes
abbrev pub IsKnown : Option Text → Bytes → Type 0
IsKnown None source = ⊥
IsKnown (Some text) source = text.bytes ≡ source

-- the texts of all feeds are known and are these
abbrev pub AreKnown : {F : Type 0} → (F → Option Text) → List F → List Bytes → Type 0
AreKnown text [] [] = ⊤
AreKnown text [] (source ∷ sources) = ⊥
AreKnown text (feed ∷ feeds) [] = ⊥
AreKnown text (feed ∷ feeds) (source ∷ sources) = IsKnown (text feed) source × AreKnown text feeds sources
