-- The parts of a text lie one after another.
use Rattle.std.proofs.Common.{◌≡◌, ℕ, zero, suc, ◌+◌, ◌<◌, ◌≤◌, Bool, true, false, not, List, [], ◌∷◌, length, map, Option, Some, None, refl, sym, ap, subst, drop, take, arith}
use Rattle.std.specs.Prelude.{◌==◌, ◌&&◌, if◌then◌else◌}
use Rattle.std.specs.List.{prefix_len}
use Rattle.std.proofs.lemmas.List.{length-drop, drop_all}
use Rattle.m11_base.specs.Devices.{Bytes}
use Rattle.m11_scan.specs.Classes.{is_unprinted}
use Rattle.m11_scan.specs.Cutting.{Lexeme, tokens_from}
use Rattle.m11_scan.specs.Cuts.{AreOrdered}
use Rattle.m11_scan.specs.Ends.{column_after, expression_end, sort_in}
use Rattle.m11_scan.specs.Expressions.{begin, taken}
use Rattle.m11_scan.specs.Texts.{delimited}
use Rattle.m11_scan.proofs.OrderedTokens.{tokens_from-ordered}
use Rattle.m11_scan_statements.specs.Parts.{AreParts, End, Break, Then, expression, expression_part, is_closing, next_part, text_part}
use Rattle.m11_scan_statements.specs.declared.parts.Part.{Part}
use Rattle.m11_asm_rules.specs.Elements.{ListAt, item_before}
use Rattle.m11_asm_rules.specs.Strings.{parts_at, parts_by, parts_within}

-- if there is a part, it ends after this column
abbrev pub EndsPast : ℕ → Option Part → Type 0
EndsPast column None = Unit {0}
EndsPast column (Some part) = column < part.end

-- the column after the first few tokens of a line is within the line, and not before the column where they begin
pub after_within : (size column count : ℕ) (tokens : List Lexeme) → AreOrdered size column tokens
    → (column ≤ column_after column (take count tokens)) × (column_after column (take count tokens) ≤ size)
after_within size column zero [] o = (omega arith, o)
after_within size column (suc count) [] o = (omega arith, o)
after_within size column zero (token ∷ tokens) o =
    let rest = after_within size token.end zero tokens o.2 in
    let first = o.0 in
    let longer = o.1 in
    (omega arith, omega arith)
after_within size column (suc count) (token ∷ tokens) o =
    let rest = after_within size token.end count tokens o.2 in
    let first = o.0 in
    let longer = o.1 in
    (omega arith, rest.1)

either_ends : (column : ℕ) (is_comment is_expression : Bool) (expressed other : Part) → column < expressed.end → column < other.end
    → EndsPast column (if is_comment then None else (if is_expression then Some expressed else Some other))
either_ends column true is_expression expressed other first second = tt
either_ends column false true expressed other first second = first
either_ends column false false expressed other first second = second

text_ends : (column start size : ℕ) (is_closed : Bool) → column < start
    → column < (if is_closed then start + size + 1 else start + size)
text_ends column start size true lt = omega arith
text_ends column start size false lt = omega arith

mark_ends : (column start end after : ℕ) (closes : Bool) → column < end → column < after
    → column < (if closes then expression start end true after else expression start end false end).end
mark_ends column start end after true lt next = next
mark_ends column start end after false lt next = lt

-- the part that is an expression, if these tokens follow it
abbrev closed_by : ℕ → ℕ → List Lexeme → Part
closed_by start end tokens = elim tokens [
  | [] ↦ expression start end false end
  | token ∷ more ↦
      if is_closing token.sort then expression start end true token.end else expression start end false end
]

closed_ends : (column start end size : ℕ) (tokens : List Lexeme) → AreOrdered size end tokens → column < end
    → column < (closed_by start end tokens).end
closed_ends column start end size [] o lt = lt
closed_ends column start end size (token ∷ tokens) o lt =
    let first = o.0 in
    let longer = o.1 in
    mark_ends column start end token.end (is_closing token.sort) lt (omega arith)

expression_ends : (line : List ℕ) (column start : ℕ) → column < start → start ≤ length line
    → column < (expression_part line start).end
expression_ends line column start lt le =
    let tokens = tokens_from line start in
    let after = after_within (length line) start (taken (map sort_in tokens) begin) tokens (tokens_from-ordered line start le) in
    closed_ends column start (expression_end line start) (length line) (tokens_from line (expression_end line start))
    (tokens_from-ordered line (expression_end line start) after.1) (omega arith)

-- the part that begins at a column, if these characters are the rest of the line
abbrev part_in : Bytes → ℕ → Bool → Bytes → Option Part
part_in line start is_first text = elim text [
  | [] ↦ None
  | byte ∷ more ↦
      if byte == 0o73 && not is_first then None
      else (if byte == 0o74 then Some (expression_part line (start + 1)) else Some (text_part line (start + 1) byte))
]

abbrev next_printed : Bytes → ℕ → ℕ
next_printed line column = column + prefix_len is_unprinted (drop column line)

part_ends : (line : List ℕ) (column start : ℕ) (is_first : Bool) (text : List ℕ) → drop start line ≡ text → column ≤ start
    → EndsPast column (part_in line start is_first text)
part_ends line column start is_first [] is le = tt
part_ends line column start is_first (byte ∷ text) is le =
    let size = length-drop start line in
    let some : length (drop start line) ≡ suc (length text) = ap length is in
    either_ends column (byte == 0o73 && not is_first) (byte == 0o74) (expression_part line (start + 1))
    (text_part line (start + 1) byte)
    (expression_ends line column (start + 1) (omega arith) (omega arith))
    (let enclosed = delimited byte (drop (start + 1) line) in
    text_ends column (start + 1) enclosed.length enclosed.is_closed (omega arith))

pub next_ends : (line : List ℕ) (column : ℕ) (is_first : Bool) → EndsPast column (next_part line column is_first)
next_ends line column is_first =
    part_ends line column (next_printed line column) is_first (drop (next_printed line column) line) refl (omega arith)

-- no part begins at or past the end of the line
pub none_past : (line : List ℕ) (column : ℕ) (is_first : Bool) → length line ≤ column → next_part line column is_first ≡ None
none_past line column is_first past =
    ap (λ text. part_in line (next_printed line column) is_first text) (drop_all (next_printed line column) line (omega arith))

module _ (bound : ℕ) (line : List ℕ) (is_first : Bool) (column : ℕ)
    (rest : (next : ℕ) → column < next
    → AreParts line false next (parts_within bound line false next).list (parts_within bound line false next).end) where
  by_end : (part : Part) → next_part line column is_first ≡ Some part → column < part.end
      → (is_closed : Bool) → part.is_closed ≡ is_closed
      → (parts : ListAt Part) → parts ≡ (if is_closed then item_before part (parts_within bound line false part.end)
      else record { list = part ∷ []; end = part.end })
      → AreParts line is_first column parts.list parts.end
  by_end part is past true closed parts same =
      let P : ListAt Part → Type 0 = λ ps. AreParts line is_first column ps.list ps.end in
      subst P (sym same) (Then is_first column part (parts_within bound line false part.end).list
      (parts_within bound line false part.end).end is closed (rest part.end past))
  by_end part is past false closed parts same =
      let P : ListAt Part → Type 0 = λ ps. AreParts line is_first column ps.list ps.end in
      subst P (sym same) (Break is_first column part is closed)

  by_next : (found : Option Part) → next_part line column is_first ≡ found → EndsPast column found
      → AreParts line is_first column (parts_by (λ next. parts_within bound line false next) column found).list
      (parts_by (λ next. parts_within bound line false next) column found).end
  by_next None is past = End is_first column is
  by_next (Some part) is past = by_end part is past part.is_closed refl
      (parts_by (λ next. parts_within bound line false next) column (Some part)) refl

parts_stand : (bound : ℕ) (line : List ℕ) (is_first : Bool) (column : ℕ) → length line < column + bound
    → AreParts line is_first column (parts_within bound line is_first column).list (parts_within bound line is_first column).end
parts_stand zero line is_first column past = End is_first column (none_past line column is_first (omega arith))
parts_stand (suc bound) line is_first column past =
    by_next bound line is_first column (λ next lt. parts_stand bound line false next (omega arith))
    (next_part line column is_first) refl (next_ends line column is_first)

pub text_parts : (line : Bytes) (start : ℕ) → AreParts line true start (parts_at line start).list (parts_at line start).end
text_parts line start = parts_stand (suc (length line)) line true start (omega arith)
