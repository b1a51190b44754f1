-- The parts of the text of `.ASCII`, `.ASCIZ` and `.RAD50`. (MACRO-11 Language Reference Manual, ".ASCII directive". That `;` is a
-- delimiter only in the first part, that characters without a printed form are skipped before a part, and the treatment of a missing end
-- are this project's own choices.)
use Rattle.std.specs.Prelude.{◌≡◌, ℕ, ◌+◌, Bool, true, false, not, ◌&&◌, ◌==◌, if◌then◌else◌, List, [], ◌∷◌, drop, Option, Some, None}
use Rattle.std.specs.List.{prefix_len}
use Rattle.m11_base.specs.Devices.{Bytes}
use Rattle.m11_scan.specs.Classes.{is_unprinted}
use Rattle.m11_scan.specs.declared.sort.Sort.{Sort}
use Rattle.m11_scan.specs.declared.sort.Sort.TheVariants.{Greater}
use Rattle.m11_scan.specs.Cutting.{tokens_from}
use Rattle.m11_scan.specs.Ends.{expression_end}
use Rattle.m11_scan.specs.ErrorFlags.{flag_A, flag_Q}
use Rattle.m11_scan.specs.Texts.{delimited}
use Rattle.m11_scan_statements.specs.declared.parts.Part.{Part}
use Rattle.m11_scan_statements.specs.declared.parts.PartKind.TheVariants.{Text, Expression}

abbrev pub is_closing : Sort → Bool
is_closing Greater = true
is_closing _ = false

-- a part that is a text, whose first delimiter is directly before this column; without its second delimiter it extends to the end of
-- the line
abbrev pub text_part : Bytes → ℕ → ℕ → Part
text_part line start delimiter =
    let enclosed = delimited delimiter (drop start line) in record {
      kind = Text;
      inside = record { start = start; end = start + enclosed.length };
      is_closed = enclosed.is_closed;
      end = if enclosed.is_closed then start + enclosed.length + 1 else start + enclosed.length;
    }

abbrev pub expression : ℕ → ℕ → Bool → ℕ → Part
expression start inside_end is_closed end =
    record { kind = Expression; inside = record { start = start; end = inside_end }; is_closed = is_closed; end = end }

-- a part that is an expression, whose `<` is directly before this column; it is closed if the token after the expression is a `>`
abbrev pub expression_part : Bytes → ℕ → Part
expression_part line start =
    let end = expression_end line start in elim (tokens_from line end) [
      | [] ↦ expression start end false end
      | token ∷ tokens ↦
          if is_closing token.sort then expression start end true token.end else expression start end false end
    ]

-- the next part at or after a column; blanks and characters without a printed form before it are skipped. Its first character
-- decides its kind: `<` comes before an expression, and any other character is the delimiter of a text. There is no part at the end
-- of the line, nor at a `;` unless `is_first`
abbrev pub next_part : Bytes → ℕ → Bool → Option Part
next_part line column is_first =
    let start = column + prefix_len is_unprinted (drop column line) in elim (drop start line) [
      | [] ↦ None
      | byte ∷ text ↦
          if byte == 0o73 && not is_first then None
          else (if byte == 0o74 then Some (expression_part line (start + 1)) else Some (text_part line (start + 1) byte))
    ]

-- these are all the parts at or after the first column, in order, and the second column is the one after the last part; without parts, the
-- two columns are the same. The Boolean says whether the first of these parts is the first of the directive
pub data AreParts (line : Bytes) : Bool → ℕ → List Part → ℕ → Type 0 where
  -- the parts end where there is no next one
  End : (is_first : Bool) (column : ℕ) → next_part line column is_first ≡ None → AreParts line is_first column [] column
  -- a part that isn't closed is the last
  Break : (is_first : Bool) (column : ℕ) (part : Part) → next_part line column is_first ≡ Some part → part.is_closed ≡ false
      → AreParts line is_first column (part ∷ []) part.end
  -- a closed part is followed by the other parts, if any
  Then : (is_first : Bool) (column : ℕ) (part : Part) (parts : List Part) (end : ℕ) → next_part line column is_first ≡ Some part
      → part.is_closed ≡ true → AreParts line false part.end parts end → AreParts line is_first column (part ∷ parts) end

-- A for a missing second delimiter of a text, Q for a missing `>` of an expression, otherwise no flags
abbrev pub part_flags : Part → ℕ
part_flags part = if not part.is_closed then elim (part.kind) [ Text ↦ flag_A | Expression ↦ flag_Q ] else 0
