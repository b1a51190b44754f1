-- What a line shows are the bytes that memory has there.
use Rattle.std.proofs.Common.{◌≡◌, ◌∙◌, ℕ, zero, suc, ◌+◌, ◌-◌, ◌*◌, ◌%◌, ◌<◌, Bool, true, false, List, [], ◌∷◌, ◌++◌, length, map, take, drop, Some, None, refl, sym, ap, ap₂, arith, append_assoc}
use Rattle.std.specs.Prelude.{◌==◌}
use Rattle.std.specs.List.{AllByRecursion, flat_map}
use Rattle.std.proofs.lemmas.Grind.{flat_map-append}
use Rattle.std.proofs.lemmas.List.{map-append, take-append-drop}
use Rattle.m11_base.specs.Devices.{Bytes}
use Rattle.m11_base_disassembly.specs.Instructions.{size_of}
use Rattle.m11_obj_blocks.specs.Frames.{word_bytes}
use Rattle.m11_dump_source.specs.Lines.{leading, shown_at, shown_by, shown_words, size_shown, words_in}
use Rattle.m11_dump_source.specs.Memory.{Cells}
use Rattle.m11_dump_source.specs.declared.lines.Shown.{Shown}
use Rattle.m11_dump_source.specs.declared.lines.Shown.TheVariants.{Byte, Word, TwoWords, ThreeWords}
use Rattle.m11_dump_laws.specs.Items.{IsCell}

-- each number is a byte
abbrev pub AreBytes : Bytes → Type 0
AreBytes bytes = AllByRecursion (λ byte. byte < 256) bytes

-- the bytes that a line shows
abbrev pub bytes_shown : Shown → Bytes
bytes_shown (Byte byte) = byte ∷ []
bytes_shown (Word word) = word_bytes word
bytes_shown (TwoWords word second) = word_bytes word ++ word_bytes second
bytes_shown (ThreeWords word second third) = word_bytes word ++ (word_bytes second ++ word_bytes third)

pub as_many_shown : (shown : Shown) → length (bytes_shown shown) ≡ size_shown shown
as_many_shown (Byte byte) = refl
as_many_shown (Word word) = refl
as_many_shown (TwoWords word second) = refl
as_many_shown (ThreeWords word second third) = refl

-- a list begins with these
abbrev BeginsWith : {X : Type 0} → List X → List X → Type 0
BeginsWith {X = X} all first = (rest : List X) × (all ≡ first ++ rest)

longer : {X : Type 0} (all first more : List X) → BeginsWith all more → BeginsWith more first → BeginsWith all first
longer all first more one other =
    (other.0 ++ one.0, one.1 ∙ ap (λ l. l ++ one.0) other.1 ∙ append_assoc first other.0 one.0)

-- ---- words

word_again : (low high : ℕ) → low < 256 → high < 256 → word_bytes (low + 256 * high) ≡ low ∷ high ∷ []
word_again low high small also = ap₂ (λ a b. a ∷ b ∷ []) (omega arith) (omega arith)

words_again : (bytes : Bytes) → AreBytes bytes → BeginsWith bytes (flat_map word_bytes (words_in bytes))
words_again [] all = ([], refl)
words_again (byte ∷ []) all = (byte ∷ [], refl)
words_again (low ∷ high ∷ bytes) all =
    let others = words_again bytes all.1.1 in (
      others.0,
      ap (λ l. low ∷ high ∷ l) others.1
          ∙ ap (λ l. (l ++ flat_map word_bytes (words_in bytes)) ++ others.0) (sym (word_again low high all.0 all.1.0)),
    )

words_first : (word : ℕ) (more : List ℕ) → BeginsWith (word_bytes word ++ flat_map word_bytes more) (bytes_shown (shown_words word more))
words_first word [] = ([], refl)
words_first word (second ∷ []) = ([], refl)
words_first word (second ∷ third ∷ more) = (flat_map word_bytes more, refl)

some_words : (word count : ℕ) (more : List ℕ)
    → BeginsWith (word_bytes word ++ flat_map word_bytes more) (word_bytes word ++ flat_map word_bytes (take count more))
some_words word count more =
    let front : Bytes = flat_map word_bytes (take count more) in
    let rest : Bytes = flat_map word_bytes (drop count more) in (
      rest,
      ap (λ l. word_bytes word ++ flat_map word_bytes l) (sym (take-append-drop count more))
          ∙ ap (λ l. word_bytes word ++ l) (flat_map-append word_bytes (take count more) (drop count more))
          ∙ sym (append_assoc (word_bytes word) front rest),
    )

shown_first : (is_even : Bool) (byte : ℕ) (bytes : Bytes) → AreBytes (byte ∷ bytes)
    → BeginsWith (byte ∷ bytes) (bytes_shown (shown_by is_even (words_in (byte ∷ bytes)) byte))
shown_first false byte bytes all = (bytes, refl)
shown_first true byte [] all = ([], refl)
shown_first true low (high ∷ bytes) all =
    let word : ℕ = low + 256 * high in
    let more : List ℕ = words_in bytes in
    let count : ℕ = size_of word more - 1 in
    longer (low ∷ high ∷ bytes) (bytes_shown (shown_words word (take count more))) (word_bytes word ++ flat_map word_bytes more)
    (words_again (low ∷ high ∷ bytes) all)
    (longer (word_bytes word ++ flat_map word_bytes more) (bytes_shown (shown_words word (take count more)))
    (word_bytes word ++ flat_map word_bytes (take count more)) (some_words word count more) (words_first word (take count more)))

-- ---- cells

leading_first : (most : ℕ) (cells : Cells) → BeginsWith cells (map (λ byte. Some byte) (leading most cells))
leading_first zero cells = (cells, refl)
leading_first (suc most) [] = ([], refl)
leading_first (suc most) (None ∷ cells) = (None ∷ cells, refl)
leading_first (suc most) (Some byte ∷ cells) =
    let others = leading_first most cells in (others.0, ap (λ l. Some byte ∷ l) others.1)

pub leading_bytes : (most : ℕ) (cells : Cells) → AllByRecursion IsCell cells → AreBytes (leading most cells)
leading_bytes zero cells all = tt
leading_bytes (suc most) [] all = tt
leading_bytes (suc most) (None ∷ cells) all = tt
leading_bytes (suc most) (Some byte ∷ cells) all = (all.0, leading_bytes most cells all.1)

-- cells begin with the bytes that the line there shows
pub cells_shown : (address byte : ℕ) (cells : Cells) → AllByRecursion IsCell (Some byte ∷ cells)
    → (rest : Cells)
    × (Some byte ∷ cells ≡ map (λ b. Some b) (bytes_shown (shown_at address (leading 6 (Some byte ∷ cells)))) ++ rest)
cells_shown address byte cells all =
    let bytes : Bytes = leading 5 cells in
    let shown : Shown = shown_at address (byte ∷ bytes) in
    let first = shown_first (address % 2 == 0) byte bytes (leading_bytes 6 (Some byte ∷ cells) all) in
    longer (Some byte ∷ cells) (map (λ b. Some b) (bytes_shown shown)) (map (λ b. Some b) (byte ∷ bytes))
    (leading_first 6 (Some byte ∷ cells))
    (map (λ b. Some b) first.0, ap (map (λ b. Some b)) first.1 ∙ map-append (λ b. Some b) (bytes_shown shown) first.0)
