-- Parts of texts and actuals at a column of a line depend on the text from that column on alone.
use Rattle.std.proofs.Common.{◌≡◌, ℕ, zero, suc, ◌+◌, ◌-◌, ◌<◌, Bool, true, false, not, ◌&&◌, List, [], ◌∷◌, length, drop, map, Option, Some, None, option_map, refl, ap, ◌∙◌, arith}
use Rattle.std.specs.Prelude.{◌==◌, if◌then◌else◌}
use Rattle.std.specs.Int.RustNames.{bit_or}
use Rattle.std.specs.List.{prefix_len}
use Rattle.m11_base.specs.Devices.{Bytes}
use Rattle.m11_scan.specs.Classes.{is_bare, is_blank, is_unprinted}
use Rattle.m11_scan.specs.Cutting.{Lexeme, tokens_from}
use Rattle.m11_scan.specs.Ends.{expression_end}
use Rattle.m11_scan.specs.ErrorFlags.{flag_A}
use Rattle.m11_scan.specs.Texts.{bracketed, delimited, separator_length}
use Rattle.m11_scan_expressions.specs.LeftOvers.{left_over, skip_flags}
use Rattle.m11_scan_expressions.specs.Tokens.{expression}
use Rattle.m11_scan_statements.specs.Actuals.{begins_with_comma, bracketed_actual, next_actual, separator_at, whole_actual}
use Rattle.m11_scan_statements.specs.Parts.{expression as expressed, expression_part, is_closing, next_part, part_flags, text_part}
use Rattle.m11_scan_statements.specs.declared.actuals.Actual.{Actual}
use Rattle.m11_scan_statements.specs.declared.actuals.ActualKind.TheVariants.{Bare, Bracketed, Digits}
use Rattle.m11_scan_statements.specs.declared.actuals.Separator.{Separator}
use Rattle.m11_scan_statements.specs.declared.parts.Part.{Part}
use Rattle.m11_scan_statements.specs.declared.parts.PartKind.{PartKind}
use Rattle.m11_scan_statements.specs.declared.parts.PartKind.TheVariants as kinds
use Rattle.m11_asm_rules.specs.Actions.{Characters, Coded, TextPart}
use Rattle.m11_asm_rules.specs.Elements.{ListAt, item_before}
use Rattle.m11_asm_rules.specs.Strings.{content_in, contents_of, part_text, parts_at, parts_by, parts_flags, parts_within, skipped_flags, text_flags}
use Rattle.m11_asm_rules.proofs.TextParts.{EndsPast, next_ends, none_past}
use Rattle.m11_asm_line_laws.proofs.Columns.{expression_end_up, expression_up, left_over_up, skip_flags_up, text_up, tokens_up, up}
use Rattle.m11_asm_line_laws.proofs.ColumnLists.{by_if, up_span}

abbrev pub part_up : Part → Part
part_up part = record { kind = part.kind; inside = up_span part.inside; is_closed = part.is_closed; end = suc part.end }

abbrev pub parts_up : ListAt Part → ListAt Part
parts_up found = record { list = map part_up found.list; end = suc found.end }

abbrev pub actual_up : Actual → Actual
actual_up actual = record { kind = actual.kind; inside = up_span actual.inside; is_closed = actual.is_closed; end = suc actual.end }

abbrev pub separator_up : Separator → Separator
separator_up separator = record { has_comma = separator.has_comma; end = suc separator.end }

plus_up : (m n : ℕ) → suc m + n ≡ suc (m + n)
plus_up m n = omega arith

-- an expression between these columns, closed if these tokens begin with `>`
abbrev closed_by : ℕ → ℕ → List Lexeme → Part
closed_by start end tokens = elim tokens [
  | [] ↦ expressed start end false end
  | token ∷ more ↦ if is_closing token.sort then expressed start end true token.end else expressed start end false end
]

closed_by_up : (start end : ℕ) (tokens : List Lexeme) → closed_by (suc start) (suc end) (map up tokens) ≡ part_up (closed_by start end tokens)
closed_by_up start end [] = refl
closed_by_up start end (token ∷ tokens) =
    by_if part_up (is_closing token.sort) (expressed start end true token.end) (expressed start end false end)

-- a text of this length between delimiters, which begins at a column
abbrev enclosed_at : PartKind → ℕ → ℕ → ℕ → Bool → Part
enclosed_at kind start inside_end after is_closed =
    record { kind = kind; inside = record { start = start; end = inside_end }; is_closed = is_closed; end = if is_closed then after else inside_end }

-- the content of a part of this kind
abbrev content_of_kind : Bytes → Part → PartKind → TextPart
content_of_kind line part kinds.Text = Characters (part_text line part)
content_of_kind line part kinds.Expression = Coded (expression line part.inside.start)

-- the flags of characters skipped inside a part of this kind
abbrev inside_flags : Bytes → Part → PartKind → ℕ
inside_flags line part kinds.Text = 0
inside_flags line part kinds.Expression = skip_flags line part.inside.start part.end

-- A without parts
abbrev no_part_flags : List Part → ℕ
no_part_flags [] = flag_A
no_part_flags (part ∷ parts) = 0

-- the part that begins at a column, if these characters are the rest of the line
abbrev part_in : Bytes → ℕ → Bool → Bytes → Option Part
part_in line start is_first text = elim text [
  | [] ↦ None
  | byte ∷ more ↦
      if byte == 0o73 && not is_first then None
      else (if byte == 0o74 then Some (expression_part line (start + 1)) else Some (text_part line (start + 1) byte))
]

-- the actual that begins at a column, if these characters are the rest of the line
abbrev actual_in : Bytes → ℕ → Bool → Bytes → Option Actual
actual_in line start allows_digits text = elim text [
  | [] ↦ None
  | byte ∷ more ↦
      if byte == 0o73 then None
      else (if byte == 0o74 then Some (bracketed_actual line (start + 1))
      else (if byte == 0o134 && allows_digits then Some (whole_actual Digits (start + 1) (expression_end line (start + 1)))
      else Some (whole_actual Bare start (start + prefix_len is_bare (drop start line)))))
]

-- ---- a bound on the parts that is greater than needed

parts_by_more : (column : ℕ) (one other : ℕ → ListAt Part) (found : Option Part) → EndsPast column found
    → ((next : ℕ) → column < next → one next ≡ other next) → parts_by one column found ≡ parts_by other column found
parts_by_more column one other None past same = refl
parts_by_more column one other (Some part) past same =
    ap (λ r. if part.is_closed then item_before part r else record { list = part ∷ []; end = part.end }) (same part.end past)

parts_more : (bound : ℕ) (line : Bytes) (is_first : Bool) (column : ℕ) → length line < column + bound
    → parts_within (suc bound) line is_first column ≡ parts_within bound line is_first column
parts_more zero line is_first column enough =
    ap (parts_by (λ next. parts_within 0 line false next) column) (none_past line column is_first (omega arith))
parts_more (suc bound) line is_first column enough =
    parts_by_more column (λ next. parts_within (suc bound) line false next) (λ next. parts_within bound line false next)
    (next_part line column is_first) (next_ends line column is_first)
    (λ next past. parts_more bound line false next (omega arith))

-- ---- what a part encloses begins after its first mark

abbrev pub Encloses : Option Part → Type 0
Encloses None = Unit {0}
Encloses (Some part) = 0 < part.inside.start

closed_some : (start end after : ℕ) (closes : Bool) → 0 < start
    → 0 < (if closes then expressed start end true after else expressed start end false end).inside.start
closed_some start end after true some = some
closed_some start end after false some = some

closed_encloses : (start end : ℕ) (tokens : List Lexeme) → 0 < start → 0 < (closed_by start end tokens).inside.start
closed_encloses start end [] some = some
closed_encloses start end (token ∷ tokens) some = closed_some start end token.end (is_closing token.sort) some

either_encloses : (is_comment is_expression : Bool) (one other : Part) → 0 < one.inside.start → 0 < other.inside.start
    → Encloses (if is_comment then None else (if is_expression then Some one else Some other))
either_encloses true is_expression one other first second = tt
either_encloses false true one other first second = first
either_encloses false false one other first second = second

part_encloses : (line : Bytes) (start : ℕ) (is_first : Bool) (text : Bytes) → Encloses (part_in line start is_first text)
part_encloses line start is_first [] = tt
part_encloses line start is_first (byte ∷ text) =
    either_encloses (byte == 0o73 && not is_first) (byte == 0o74) (expression_part line (start + 1)) (text_part line (start + 1) byte)
    (closed_encloses (start + 1) (expression_end line (start + 1)) (tokens_from line (expression_end line (start + 1))) (omega arith))
    (omega arith)

abbrev AllEnclose : List Part → Type 0
AllEnclose [] = Unit {0}
AllEnclose (part ∷ parts) = (0 < part.inside.start) × AllEnclose parts

parts_enclose_if : (is_closed : Bool) (part : Part) (more : ListAt Part) → 0 < part.inside.start → AllEnclose more.list
    → AllEnclose (if is_closed then item_before part more else record { list = part ∷ []; end = part.end }).list
parts_enclose_if true part more some rest = (some, rest)
parts_enclose_if false part more some rest = (some, tt)

parts_enclose_by : (more : ℕ → ListAt Part) (column : ℕ) (found : Option Part) → Encloses found
    → ((next : ℕ) → AllEnclose (more next).list) → AllEnclose (parts_by more column found).list
parts_enclose_by more column None encloses rest = tt
parts_enclose_by more column (Some part) encloses rest =
    parts_enclose_if part.is_closed part (more part.end) encloses (rest part.end)

parts_enclose : (bound : ℕ) (line : Bytes) (is_first : Bool) (column : ℕ) → AllEnclose (parts_within bound line is_first column).list
parts_enclose zero line is_first column = tt
parts_enclose (suc bound) line is_first column =
    parts_enclose_by (λ next. parts_within bound line false next) column (next_part line column is_first)
    (part_encloses line (column + prefix_len is_unprinted (drop column line)) is_first
    (drop (column + prefix_len is_unprinted (drop column line)) line))
    (parts_enclose bound line false)

-- ---- a line with one more character in front, and columns one further on
module _ (byte : ℕ) (line : Bytes) where
  abbrev longer : Bytes
  longer = byte ∷ line

  expression_part_up : (start : ℕ) → expression_part longer (suc start) ≡ part_up (expression_part line start)
  expression_part_up start =
      ap (λ end. closed_by (suc start) end (tokens_from longer end)) (expression_end_up byte line start)
      ∙ ap (closed_by (suc start) (suc (expression_end line start))) (tokens_up byte line (expression_end line start))
      ∙ closed_by_up start (expression_end line start) (tokens_from line (expression_end line start))

  text_part_up : (start delimiter : ℕ) → text_part longer (suc start) delimiter ≡ part_up (text_part line start delimiter)
  text_part_up start delimiter =
      let enclosed = delimited delimiter (drop start line) in
      let size : ℕ = enclosed.length in
      let after : suc start + size + 1 ≡ suc (start + size + 1) = omega arith in
      ap (λ n. enclosed_at kinds.Text (suc start) n (suc start + size + 1) enclosed.is_closed) (plus_up start size)
      ∙ ap (λ n. enclosed_at kinds.Text (suc start) (suc (start + size)) n enclosed.is_closed) after
      ∙ ap (λ n. record {
        kind = kinds.Text;
        inside = record { start = suc start; end = suc (start + size) };
        is_closed = enclosed.is_closed;
        end = n;
      }) (by_if (λ n. suc n) enclosed.is_closed (start + size + 1) (start + size))

  part_in_up : (start : ℕ) (is_first : Bool) (text : Bytes)
      → part_in longer (suc start) is_first text ≡ option_map part_up (part_in line start is_first text)
  part_in_up start is_first [] = refl
  part_in_up start is_first (first ∷ text) =
      let no_part : Option Part = None in
      let is_comment : Bool = first == 0o73 && not is_first in
      let expressed_ : Option Part = Some (expression_part line (start + 1)) in
      let enclosed : Option Part = Some (text_part line (start + 1) first) in
      ap (λ n. if is_comment then no_part else (if first == 0o74 then Some (expression_part longer n) else Some (text_part longer n first)))
      (plus_up start 1)
      ∙ ap (λ p. if is_comment then no_part else (if first == 0o74 then Some p else Some (text_part longer (suc (start + 1)) first)))
      (expression_part_up (start + 1))
      ∙ ap (λ p. if is_comment then no_part else (if first == 0o74 then Some (part_up (expression_part line (start + 1))) else Some p))
      (text_part_up (start + 1) first)
      ∙ ap (λ p. if is_comment then no_part else p) (by_if (option_map part_up) (first == 0o74) expressed_ enclosed)
      ∙ by_if (option_map part_up) is_comment no_part (if first == 0o74 then expressed_ else enclosed)

  pub next_part_up : (column : ℕ) (is_first : Bool)
      → next_part longer (suc column) is_first ≡ option_map part_up (next_part line column is_first)
  next_part_up column is_first =
      let start : ℕ = column + prefix_len is_unprinted (drop column line) in
      ap (λ n. part_in longer n is_first (drop n longer)) (plus_up column (prefix_len is_unprinted (drop column line)))
      ∙ part_in_up start is_first (drop start line)

  parts_by_up : (longer_more more : ℕ → ListAt Part) → ((next : ℕ) → longer_more (suc next) ≡ parts_up (more next)) → (column : ℕ)
      (found : Option Part) → parts_by longer_more (suc column) (option_map part_up found) ≡ parts_up (parts_by more column found)
  parts_by_up longer_more more same column None = refl
  parts_by_up longer_more more same column (Some part) =
      ap (λ r. if part.is_closed then item_before (part_up part) r else record { list = part_up part ∷ []; end = suc part.end })
      (same part.end)
      ∙ by_if parts_up part.is_closed (item_before part (more part.end)) (record { list = part ∷ []; end = part.end })

  parts_within_up : (bound : ℕ) (is_first : Bool) (column : ℕ)
      → parts_within bound longer is_first (suc column) ≡ parts_up (parts_within bound line is_first column)
  parts_within_up zero is_first column = refl
  parts_within_up (suc bound) is_first column =
      ap (parts_by (λ next. parts_within bound longer false next) (suc column)) (next_part_up column is_first)
      ∙ parts_by_up (λ next. parts_within bound longer false next) (λ next. parts_within bound line false next)
      (parts_within_up bound false) column (next_part line column is_first)

  pub parts_at_up : (column : ℕ) → parts_at longer (suc column) ≡ parts_up (parts_at line column)
  parts_at_up column =
      parts_within_up (suc (suc (length line))) true column
      ∙ ap parts_up (parts_more (suc (length line)) line true column (omega arith))

  -- ---- what parts mean

  content_by : (part : Part) (kind : PartKind) → content_of_kind longer (part_up part) kind ≡ content_of_kind line part kind
  content_by part kinds.Text = ap Characters (text_up byte line part.inside.start part.inside.end)
  content_by part kinds.Expression = ap Coded (expression_up byte line part.inside.start)

  content_up : (part : Part) → content_in longer (part_up part) ≡ content_in line part
  content_up part = content_by part part.kind

  pub contents_up : (parts : List Part) → contents_of longer (map part_up parts) ≡ contents_of line parts
  contents_up [] = refl
  contents_up (part ∷ parts) =
      ap (λ c. c ∷ contents_of longer (map part_up parts)) (content_up part) ∙ ap (λ cs. content_in line part ∷ cs) (contents_up parts)

  -- the mark before what a part encloses
  pub mark_up : (column start : ℕ) → 0 < start → skip_flags longer (suc column) (suc start - 1) ≡ skip_flags line column (start - 1)
  mark_up column start some =
      let one : suc start - 1 ≡ suc (start - 1) = omega arith in
      ap (skip_flags longer (suc column)) one ∙ skip_flags_up byte line column (start - 1)

  inside_by : (part : Part) (kind : PartKind) → inside_flags longer (part_up part) kind ≡ inside_flags line part kind
  inside_by part kinds.Text = refl
  inside_by part kinds.Expression = skip_flags_up byte line part.inside.start part.end

  skipped_flags_up : (column : ℕ) (part : Part) → 0 < part.inside.start
      → skipped_flags longer (suc column) (part_up part) ≡ skipped_flags line column part
  skipped_flags_up column part some =
      ap (λ f. bit_or f (inside_flags longer (part_up part) part.kind))
      (mark_up column part.inside.start some)
      ∙ ap (bit_or (skip_flags line column (part.inside.start - 1))) (inside_by part part.kind)

  parts_flags_up : (column : ℕ) (parts : List Part) → AllEnclose parts
      → parts_flags longer (suc column) (map part_up parts) ≡ parts_flags line column parts
  parts_flags_up column [] all = refl
  parts_flags_up column (part ∷ parts) all =
      ap (λ f. bit_or (bit_or f (part_flags part)) (parts_flags longer (suc part.end) (map part_up parts)))
      (skipped_flags_up column part all.0)
      ∙ ap (bit_or (bit_or (skipped_flags line column part) (part_flags part))) (parts_flags_up part.end parts all.1)

  some_parts_up : (parts : List Part) → no_part_flags (map part_up parts) ≡ no_part_flags parts
  some_parts_up [] = refl
  some_parts_up (part ∷ parts) = refl

  pub text_flags_up : (start : ℕ)
      → text_flags longer (suc start) (parts_up (parts_at line start)) ≡ text_flags line start (parts_at line start)
  text_flags_up start =
      let parts : ListAt Part = parts_at line start in
      ap (λ f. bit_or (bit_or f (parts_flags longer (suc start) (map part_up parts.list))) (left_over longer (suc parts.end)))
      (some_parts_up parts.list)
      ∙ ap (λ f. bit_or (bit_or (no_part_flags parts.list) f) (left_over longer (suc parts.end)))
      (parts_flags_up start parts.list (parts_enclose (suc (length line)) line true start))
      ∙ ap (bit_or (bit_or (no_part_flags parts.list) (parts_flags line start parts.list)))
      (left_over_up byte line parts.end)

  -- ---- actuals

  pub separator_at_up : (column : ℕ) → separator_at longer (suc column) ≡ separator_up (separator_at line column)
  separator_at_up column =
      ap (λ n. record {
        has_comma = begins_with_comma (drop (prefix_len is_blank (drop column line)) (drop column line));
        end = n;
      }) (plus_up column (separator_length (drop column line)))

  bracketed_up : (start : ℕ) → bracketed_actual longer (suc start) ≡ actual_up (bracketed_actual line start)
  bracketed_up start =
      let enclosed = bracketed (drop start line) in
      let size : ℕ = enclosed.length in
      let after : suc start + size + 1 ≡ suc (start + size + 1) = omega arith in
      ap (λ n. record {
        kind = Bracketed;
        inside = record { start = suc start; end = n };
        is_closed = enclosed.is_closed;
        end = if enclosed.is_closed then suc start + size + 1 else n;
      }) (plus_up start size)
      ∙ ap (λ n. record {
        kind = Bracketed;
        inside = record { start = suc start; end = suc (start + size) };
        is_closed = enclosed.is_closed;
        end = if enclosed.is_closed then n else suc (start + size);
      }) after
      ∙ ap (λ n. record {
        kind = Bracketed;
        inside = record { start = suc start; end = suc (start + size) };
        is_closed = enclosed.is_closed;
        end = n;
      }) (by_if (λ n. suc n) enclosed.is_closed (start + size + 1) (start + size))

  -- without `\` as a mark, as the text of `.NCHR` is read
  actual_in_up : (start : ℕ) (allows_digits : Bool) (text : Bytes)
      → actual_in longer (suc start) allows_digits text ≡ option_map actual_up (actual_in line start allows_digits text)
  actual_in_up start allows_digits [] = refl
  actual_in_up start allows_digits (first ∷ text) =
      let no_actual : Option Actual = None in
      let is_digits : Bool = first == 0o134 && allows_digits in
      let run : ℕ = prefix_len is_bare (drop start line) in
      let digits : Option Actual = Some (whole_actual Digits (start + 1) (expression_end line (start + 1))) in
      let bare : Option Actual = Some (whole_actual Bare start (start + run)) in
      let brackets : Option Actual = Some (bracketed_actual line (start + 1)) in
      ap (λ n. if first == 0o73 then no_actual else (if first == 0o74 then Some (bracketed_actual longer n)
      else (if is_digits then Some (whole_actual Digits n (expression_end longer n))
      else Some (whole_actual Bare (suc start) (suc start + run))))) (plus_up start 1)
      ∙ ap (λ a. if first == 0o73 then no_actual else (if first == 0o74 then Some a
      else (if is_digits then Some (whole_actual Digits (suc (start + 1)) (expression_end longer (suc (start + 1))))
      else Some (whole_actual Bare (suc start) (suc start + run))))) (bracketed_up (start + 1))
      ∙ ap (λ n. if first == 0o73 then no_actual else (if first == 0o74 then option_map actual_up brackets
      else (if is_digits then Some (whole_actual Digits (suc (start + 1)) n)
      else Some (whole_actual Bare (suc start) (suc start + run))))) (expression_end_up byte line (start + 1))
      ∙ ap (λ n. if first == 0o73 then no_actual else (if first == 0o74 then option_map actual_up brackets
      else (if is_digits then option_map actual_up digits
      else Some (whole_actual Bare (suc start) n)))) (plus_up start run)
      ∙ ap (λ a. if first == 0o73 then no_actual else (if first == 0o74 then option_map actual_up brackets else a))
      (by_if (option_map actual_up) is_digits digits bare)
      ∙ ap (λ a. if first == 0o73 then no_actual else a)
      (by_if (option_map actual_up) (first == 0o74) brackets (if is_digits then digits else bare))
      ∙ by_if (option_map actual_up) (first == 0o73) no_actual (if first == 0o74 then brackets else (if is_digits then digits else bare))

  pub next_actual_up : (column : ℕ) (allows_digits : Bool)
      → next_actual longer (suc column) allows_digits ≡ option_map actual_up (next_actual line column allows_digits)
  next_actual_up column allows_digits =
      let start : ℕ = column + prefix_len is_blank (drop column line) in
      ap (λ n. actual_in longer n allows_digits (drop n longer)) (plus_up column (prefix_len is_blank (drop column line)))
      ∙ actual_in_up start allows_digits (drop start line)

pub next_encloses : (line : Bytes) (column : ℕ) (is_first : Bool) → Encloses (next_part line column is_first)
next_encloses line column is_first =
    part_encloses line (column + prefix_len is_unprinted (drop column line)) is_first
    (drop (column + prefix_len is_unprinted (drop column line)) line)
