-- Texts that a directive or a macro call reads from its line. (MACRO-11 Language Reference Manual, ".ASCII directive" and "Arguments in
-- macro definitions and macro calls". That a text without a closing delimiter extends to the end of the line is this project's own choice.)
use Rattle.std.specs.Prelude.{ℕ, zero, suc, ◌+◌, true, false, not, ◌==◌, if◌then◌else◌, [], ◌∷◌, drop}
use Rattle.std.specs.List.{list_any, prefix_len}
use Rattle.m11_base.specs.Devices.{Bytes}
use Rattle.m11_scan.specs.Classes.{is_blank}
use Rattle.m11_scan.specs.declared.texts.Enclosed.{Enclosed}

-- the number of characters before the first delimiter in a text, or of all characters if there is none, and whether there is one
abbrev pub delimited : ℕ → Bytes → Enclosed
delimited delimiter text = record {
  length = prefix_len (λ byte. not (byte == delimiter)) text;
  is_closed = list_any (λ byte. byte == delimiter) text;
}

-- an enclosed text with one more character in front
abbrev pub longer : Enclosed → Enclosed
longer enclosed = record { length = suc enclosed.length; is_closed = enclosed.is_closed }

-- the number of characters before the `>` that closes the outer bracket, or of all characters if there is no such `>`, and
-- whether there is one; `depth` more brackets are open inside
abbrev pub inside : ℕ → Bytes → Enclosed
inside depth [] = record { length = 0; is_closed = false }
inside zero (byte ∷ text) =
    if byte == 0o74 then longer (inside 1 text)
    else (if byte == 0o76 then record { length = 0; is_closed = true } else longer (inside zero text))
inside (suc depth) (byte ∷ text) =
    if byte == 0o74 then longer (inside (suc (suc depth)) text)
    else (if byte == 0o76 then longer (inside depth text) else longer (inside (suc depth) text))

abbrev pub bracketed : Bytes → Enclosed
bracketed text = inside zero text

-- the length of the separator that a text begins with: blanks and tabs, and at most one comma among them; it may be 0
abbrev pub separator_length : Bytes → ℕ
separator_length text =
    (elim (drop (prefix_len is_blank text) text) [
      | [] ↦ 0
      | byte ∷ rest ↦ if byte == 0o54 then prefix_len is_blank rest + 1 else 0
    ]) + prefix_len is_blank text
