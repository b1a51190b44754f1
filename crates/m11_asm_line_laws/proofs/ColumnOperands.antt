-- What the operands of an instruction mean depends on their characters alone, and on no column.
use Rattle.std.proofs.Common.{◌≡◌, ℕ, suc, Bool, true, false, not, ◌&&◌, List, [], ◌∷◌, map, Option, Some, None, option_map, refl, ap, ◌∙◌}
use Rattle.std.specs.Prelude.{if◌then◌else◌}
use Rattle.std.specs.Int.RustNames.{bit_or}
use Rattle.m11_base.specs.Devices.{Bytes}
use Rattle.m11_base.specs.declared.instruction.Op.{Op}
use Rattle.m11_scan.specs.Cutting.{Lexeme, tokens_from}
use Rattle.m11_scan.specs.Ends.{expression_end}
use Rattle.m11_scan.specs.ErrorFlags.{flag_A}
use Rattle.m11_scan.specs.Skipped.{has_skipped, skipped_between}
use Rattle.m11_scan.specs.declared.sort.Sort.{Sort}
use Rattle.m11_scan.specs.declared.sort.Sort.TheVariants as sorts
use Rattle.m11_scan_expressions.specs.Expressions.{KnownSymbols}
use Rattle.m11_scan_expressions.specs.Tokens.{Expression, expression, is_empty}
use Rattle.m11_unfold_rules.specs.Immediate.{column_after_comma}
use Rattle.m11_asm_rules.specs.Codes.{code, words_from}
use Rattle.m11_asm_rules.specs.Contents.{followed_by, further, with_flags}
use Rattle.m11_asm_rules.specs.Fields.{FieldAt, Fields, expression_read, field_after, field_at, field_read, fields_at, first_kind, forms_of, missing_field, second_kind}
use Rattle.m11_asm_rules.specs.Instructions as instructions
use Rattle.m11_asm_rules.specs.Meanings.{Map, firm_known}
use Rattle.m11_asm_rules.specs.Operands.{Read, after_minus, begun_by, bracketed, closed, closed_by, deferred_by, form_of, instruction_size, is_close, is_open, is_plus, operand_at, place, read, stepped_by}
use Rattle.m11_asm_rules.specs.Tables.{Table}
use Rattle.m11_asm_rules.specs.declared.fields.Field.{Field}
use Rattle.m11_asm_rules.specs.declared.fields.Field.TheVariants as content
use Rattle.m11_asm_rules.specs.declared.fields.FieldKind.{FieldKind}
use Rattle.m11_asm_rules.specs.declared.fields.FieldKind.TheVariants as kind
use Rattle.m11_asm_rules.specs.declared.operands.WrittenOperand.{WrittenOperand}
use Rattle.m11_asm_rules.specs.declared.operands.WrittenOperand.TheVariants.{Absent, Before, Immediate, Indexed, Plain, Pointed, Stepped}
use Rattle.m11_asm_line_laws.proofs.Columns.{expression_end_up, expression_up, text_up, tokens_up, up}
use Rattle.m11_asm_line_laws.proofs.ColumnLists.{argument_flags_up, by_if, column_after_comma_up, up_column}

-- ---- what depends on no line

abbrev read_up : Read → Read
read_up one = record { operand = one.operand; end = suc one.end; flags = one.flags }

closed_by_up : (operand : WrittenOperand Expression) (end : ℕ) (tokens : List Lexeme)
    → closed_by operand (suc end) (map up tokens) ≡ read_up (closed_by operand end tokens)
closed_by_up operand end [] = refl
closed_by_up operand end (token ∷ tokens) =
    by_if read_up (is_close token.sort) (read operand token.end 0) (read operand end flag_A)

stepped_by_up : (is_deferred : Bool) (register : Expression) (end : ℕ) (tokens : List Lexeme)
    → stepped_by is_deferred register (suc end) (map up tokens) ≡ read_up (stepped_by is_deferred register end tokens)
stepped_by_up is_deferred register end [] = refl
stepped_by_up is_deferred register end (token ∷ tokens) =
    by_if read_up (is_plus token.sort) (read (Stepped is_deferred register) token.end 0) (read (Pointed is_deferred register) end 0)

abbrev bracketed_by : Bool → Expression → ℕ → List Lexeme → Read
bracketed_by is_deferred register end tokens = elim tokens [
  | [] ↦ read (Pointed is_deferred register) end flag_A
  | token ∷ more ↦ if is_close token.sort then stepped_by is_deferred register token.end more else read (Pointed is_deferred register) end flag_A
]

bracketed_by_up : (is_deferred : Bool) (register : Expression) (end : ℕ) (tokens : List Lexeme)
    → bracketed_by is_deferred register (suc end) (map up tokens) ≡ read_up (bracketed_by is_deferred register end tokens)
bracketed_by_up is_deferred register end [] = refl
bracketed_by_up is_deferred register end (token ∷ tokens) =
    ap (λ r. if is_close token.sort then r else read (Pointed is_deferred register) (suc end) flag_A)
    (stepped_by_up is_deferred register token.end tokens)
    ∙ by_if read_up (is_close token.sort) (stepped_by is_deferred register token.end tokens) (read (Pointed is_deferred register) end flag_A)

abbrev place_by : Bool → Bytes → Expression → ℕ → List Lexeme → Read
place_by is_deferred line written end tokens = elim tokens [
  | [] ↦ read (Plain is_deferred written) end 0
  | token ∷ more ↦ if is_open token.sort then closed (Indexed is_deferred written) line token.end else read (Plain is_deferred written) end 0
]

abbrev operand_from : Bytes → ℕ → Sort → Sort → ℕ → List Lexeme → Read
operand_from line start of sort end tokens = elim sort [
  | sorts.At ↦ deferred_by line end tokens
  | sorts.Comma ↦ read Absent start flag_A
  | _ ↦ begun_by false line start of end tokens
]

abbrev operand_by : Bytes → ℕ → List Lexeme → Read
operand_by line start tokens = elim tokens [
  | [] ↦ read Absent start flag_A
  | token ∷ more ↦ operand_from line start token.sort token.sort token.end more
]

-- ---- a line with one more character in front, and columns one further on
module _ (byte : ℕ) (line : Bytes) where
  abbrev longer : Bytes
  longer = byte ∷ line

  closed_up : (operand : Expression → WrittenOperand Expression) (start : ℕ) → closed operand longer (suc start) ≡ read_up (closed operand line start)
  closed_up operand start =
      ap (λ e. closed_by (operand e) (expression_end longer (suc start)) (tokens_from longer (expression_end longer (suc start))))
      (expression_up byte line start)
      ∙ ap (λ n. closed_by (operand (expression line start)) n (tokens_from longer n)) (expression_end_up byte line start)
      ∙ ap (closed_by (operand (expression line start)) (suc (expression_end line start))) (tokens_up byte line (expression_end line start))
      ∙ closed_by_up (operand (expression line start)) (expression_end line start) (tokens_from line (expression_end line start))

  bracketed_up : (is_deferred : Bool) (start : ℕ) → bracketed is_deferred longer (suc start) ≡ read_up (bracketed is_deferred line start)
  bracketed_up is_deferred start =
      ap (λ e. bracketed_by is_deferred e (expression_end longer (suc start)) (tokens_from longer (expression_end longer (suc start))))
      (expression_up byte line start)
      ∙ ap (λ n. bracketed_by is_deferred (expression line start) n (tokens_from longer n)) (expression_end_up byte line start)
      ∙ ap (bracketed_by is_deferred (expression line start) (suc (expression_end line start))) (tokens_up byte line (expression_end line start))
      ∙ bracketed_by_up is_deferred (expression line start) (expression_end line start) (tokens_from line (expression_end line start))

  place_by_up : (is_deferred : Bool) (written : Expression) (end : ℕ) (tokens : List Lexeme)
      → place_by is_deferred longer written (suc end) (map up tokens) ≡ read_up (place_by is_deferred line written end tokens)
  place_by_up is_deferred written end [] = refl
  place_by_up is_deferred written end (token ∷ tokens) =
      ap (λ r. if is_open token.sort then r else read (Plain is_deferred written) (suc end) 0)
      (closed_up (Indexed is_deferred written) token.end)
      ∙ by_if read_up (is_open token.sort) (closed (Indexed is_deferred written) line token.end) (read (Plain is_deferred written) end 0)

  place_up : (is_deferred : Bool) (start : ℕ) → place is_deferred longer (suc start) ≡ read_up (place is_deferred line start)
  place_up is_deferred start =
      ap (λ e. place_by is_deferred longer e (expression_end longer (suc start)) (tokens_from longer (expression_end longer (suc start))))
      (expression_up byte line start)
      ∙ ap (λ n. place_by is_deferred longer (expression line start) n (tokens_from longer n)) (expression_end_up byte line start)
      ∙ ap (place_by is_deferred longer (expression line start) (suc (expression_end line start)))
      (tokens_up byte line (expression_end line start))
      ∙ place_by_up is_deferred (expression line start) (expression_end line start) (tokens_from line (expression_end line start))

  after_minus_up : (is_deferred : Bool) (start end : ℕ) (tokens : List Lexeme)
      → after_minus is_deferred longer (suc start) (suc end) (map up tokens) ≡ read_up (after_minus is_deferred line start end tokens)
  after_minus_up is_deferred start end [] = place_up is_deferred start
  after_minus_up is_deferred start end (token ∷ tokens) =
      let before : Read = closed (Before is_deferred) line token.end in
      let opens : Bool = is_open token.sort && not (skipped_between line end token.start) in
      ap (λ t. if is_open token.sort && not (has_skipped t) then closed (Before is_deferred) longer (suc token.end)
      else place is_deferred longer (suc start)) (text_up byte line end token.start)
      ∙ ap (λ r. if opens then r else place is_deferred longer (suc start)) (closed_up (Before is_deferred) token.end)
      ∙ ap (λ r. if opens then read_up before else r) (place_up is_deferred start)
      ∙ by_if read_up opens before (place is_deferred line start)

  begun_by_up : (is_deferred : Bool) (start : ℕ) (sort : Sort) (end : ℕ) (tokens : List Lexeme)
      → begun_by is_deferred longer (suc start) sort (suc end) (map up tokens) ≡ read_up (begun_by is_deferred line start sort end tokens)
  begun_by_up is_deferred start sorts.NumberSign end tokens =
      ap (λ e. read (Immediate is_deferred e) (expression_end longer (suc end)) 0) (expression_up byte line end)
      ∙ ap (λ n. read (Immediate is_deferred (expression line end)) n 0) (expression_end_up byte line end)
  begun_by_up is_deferred start sorts.Open end tokens = bracketed_up is_deferred end
  begun_by_up is_deferred start sorts.Minus end tokens = after_minus_up is_deferred start end tokens
  begun_by_up is_deferred start sort end tokens = place_up is_deferred start

  deferred_by_up : (start : ℕ) (tokens : List Lexeme) → deferred_by longer (suc start) (map up tokens) ≡ read_up (deferred_by line start tokens)
  deferred_by_up start [] = place_up true start
  deferred_by_up start (token ∷ tokens) = begun_by_up true start token.sort token.end tokens

  operand_from_up : (start : ℕ) (of sort : Sort) (end : ℕ) (tokens : List Lexeme)
      → operand_from longer (suc start) of sort (suc end) (map up tokens) ≡ read_up (operand_from line start of sort end tokens)
  operand_from_up start of sorts.At end tokens = deferred_by_up end tokens
  operand_from_up start of sorts.Comma end tokens = refl
  operand_from_up start of sort end tokens = begun_by_up false start of end tokens

  operand_by_up : (start : ℕ) (tokens : List Lexeme) → operand_by longer (suc start) (map up tokens) ≡ read_up (operand_by line start tokens)
  operand_by_up start [] = refl
  operand_by_up start (token ∷ tokens) = operand_from_up start token.sort token.sort token.end tokens

  operand_at_up : (start : ℕ) → operand_at longer (suc start) ≡ read_up (operand_at line start)
  operand_at_up start = ap (operand_by longer (suc start)) (tokens_up byte line start) ∙ operand_by_up start (tokens_from line start)

  -- ---- fields

  abbrev field_up : FieldAt → FieldAt
  field_up one = record { field = one.field; end = suc one.end; flags = one.flags }

  expression_read_up : (field : Expression → Field Expression) (flags start : ℕ)
      → expression_read field flags longer (suc start) ≡ field_up (expression_read field flags line start)
  expression_read_up field flags start =
      ap (λ e. if is_empty e then field_read content.Missing (suc start) flags else field_read (field e) (expression_end longer (suc start)) 0)
      (expression_up byte line start)
      ∙ ap (λ n. if is_empty (expression line start) then field_read content.Missing (suc start) flags
      else field_read (field (expression line start)) n 0) (expression_end_up byte line start)
      ∙ by_if field_up (is_empty (expression line start)) (field_read content.Missing start flags)
      (field_read (field (expression line start)) (expression_end line start) 0)

  field_at_up : (firm : KnownSymbols) (start : ℕ) (of : FieldKind) → field_at firm longer (suc start) of ≡ field_up (field_at firm line start of)
  field_at_up firm start kind.Operand =
      ap (λ r. field_read (content.Operand (form_of firm r.operand)) r.end r.flags) (operand_at_up start)
  field_at_up firm start kind.Register = expression_read_up content.Register flag_A start
  field_at_up firm start kind.Target = expression_read_up content.Target flag_A start
  field_at_up firm start kind.Number = expression_read_up content.Number 0 start
  field_at_up firm start kind.NoField = refl

  missing_up : (end : ℕ) (of : FieldKind) → missing_field (suc end) of ≡ field_up (missing_field end of)
  missing_up end kind.Operand = refl
  missing_up end kind.Register = refl
  missing_up end kind.Target = refl
  missing_up end kind.Number = refl
  missing_up end kind.NoField = refl

  abbrev field_by : KnownSymbols → Bytes → ℕ → FieldKind → Option ℕ → FieldAt
  field_by firm text end of found = elim found [ Some next ↦ field_at firm text next of | None ↦ missing_field end of ]

  field_by_up : (firm : KnownSymbols) (end : ℕ) (of : FieldKind) (found : Option ℕ)
      → field_by firm longer (suc end) of (option_map up_column found) ≡ field_up (field_by firm line end of found)
  field_by_up firm end of None = missing_up end of
  field_by_up firm end of (Some next) = field_at_up firm next of

  after_comma : (firm : KnownSymbols) (end : ℕ) (of : FieldKind)
      → field_by firm longer (suc end) of (column_after_comma longer (suc end)) ≡ field_up (field_by firm line end of (column_after_comma line end))
  after_comma firm end of =
      ap (field_by firm longer (suc end) of) (column_after_comma_up byte line end) ∙ field_by_up firm end of (column_after_comma line end)

  field_after_up : (firm : KnownSymbols) (end : ℕ) (of : FieldKind) → field_after firm longer (suc end) of ≡ field_up (field_after firm line end of)
  field_after_up firm end kind.NoField = refl
  field_after_up firm end kind.Operand = after_comma firm end kind.Operand
  field_after_up firm end kind.Register = after_comma firm end kind.Register
  field_after_up firm end kind.Target = after_comma firm end kind.Target
  field_after_up firm end kind.Number = after_comma firm end kind.Number

  abbrev fields_up : Fields → Fields
  fields_up fields = record { first = fields.first; second = fields.second; end = suc fields.end; flags = fields.flags }

  abbrev fields_of : FieldAt → FieldAt → Fields
  fields_of first second = record { first = first.field; second = second.field; end = second.end; flags = bit_or first.flags second.flags }

  fields_at_up : (firm : KnownSymbols) (start : ℕ) (operation : Op)
      → fields_at firm longer (suc start) operation ≡ fields_up (fields_at firm line start operation)
  fields_at_up firm start operation =
      let first : FieldAt = field_at firm line start (first_kind operation) in
      ap (λ one. fields_of one (field_after firm longer one.end (second_kind operation))) (field_at_up firm start (first_kind operation))
      ∙ ap (fields_of (field_up first)) (field_after_up firm first.end (second_kind operation))

  -- ---- sizes and words

  pub size_up : (table : Table) (location start : ℕ) (operation : Op)
      → instructions.size table location longer (suc start) operation ≡ instructions.size table location line start operation
  size_up table location start operation =
      ap (λ fields. instruction_size (forms_of fields)) (fields_at_up (firm_known table location) start operation)

  pub words_up : (map_ : Map) (table : Table) (location start : ℕ) (operation : Op)
      → instructions.words map_ table location longer (suc start) operation ≡ instructions.words map_ table location line start operation
  words_up map_ table location start operation =
      let fields : Fields = fields_at (firm_known table location) line start operation in
      let context = instructions.line_context map_ table location in
      ap (instructions.assembled context longer (suc start) operation) (fields_at_up (firm_known table location) start operation)
      ∙ ap (λ f. with_flags (bit_or fields.flags f) (followed_by (code context operation fields.first fields.second)
      (words_from context (further location 2) (forms_of fields)))) (argument_flags_up byte line start fields.end)
