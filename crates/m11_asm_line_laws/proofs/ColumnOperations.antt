-- What the text after the labels does depends on its characters alone, and on no column.
use Rattle.std.proofs.Common.{◌≡◌, ℕ, zero, suc, ◌+◌, ◌-◌, ◌<◌, ◌≤◌, Bool, true, false, ◌&&◌, List, [], ◌∷◌, ◌++◌, length, take, drop, map, codes, Option, Some, None, option_map, is_none, refl, sym, ap, ◌∙◌, arith, take-append-drop}
use Rattle.std.specs.Prelude.{nat_le, if◌then◌else◌}
use Rattle.std.specs.Int.RustNames.{bit_or}
use Rattle.std.specs.List.{list_any}
use Rattle.std.proofs.lemmas.Bool.{le-leb}
use Rattle.std.proofs.lemmas.List.{drop-drop}
use Rattle.m11_base.specs.Devices.{Bytes}
use Rattle.m11_base.specs.NameCharacters.{six_of}
use Rattle.m11_base.specs.Names.{blank_name}
use Rattle.m11_base.specs.Rad50.{Name}
use Rattle.m11_obj.specs.Attributes.{attribute_named}
use Rattle.m11_scan.specs.Cutting.{Lexeme, text_between, tokens_from}
use Rattle.m11_scan.specs.Ends.{expression_end}
use Rattle.m11_scan.specs.ErrorFlags.{flag_A, flag_Q, flag_if}
use Rattle.m11_scan.specs.declared.radix.Radix.{Radix}
use Rattle.m11_scan.specs.declared.radix.Radix.TheVariants.{Octal}
use Rattle.m11_scan_expressions.specs.LeftOvers.{bad_flags, flags_before, has_token, left_over, rest_flags, skip_flags, start_of}
use Rattle.m11_scan_expressions.specs.Tokens.{Expression, expression}
use Rattle.m11_scan_statements.specs.Actuals.{next_actual, separator_at}
use Rattle.m11_scan_statements.specs.Listed.{is_comma}
use Rattle.m11_scan_statements.specs.Order.{BodyLies}
use Rattle.m11_scan_statements.specs.Parts.{next_part, part_flags}
use Rattle.m11_scan_statements.specs.Statements.{body_of}
use Rattle.m11_scan_statements.specs.declared.actuals.Actual.{Actual}
use Rattle.m11_scan_statements.specs.declared.actuals.Separator.{Separator}
use Rattle.m11_scan_statements.specs.declared.bodies.Body.{Body}
use Rattle.m11_scan_statements.specs.declared.bodies.Body.TheVariants as bodies
use Rattle.m11_scan_statements.specs.declared.parts.Part.{Part}
use Rattle.m11_scan_statements.specs.declared.parts.PartKind.{PartKind}
use Rattle.m11_scan_statements.specs.declared.parts.PartKind.TheVariants as kinds
use Rattle.m11_scan_statements.specs.declared.spans.Span.{Span}
use Rattle.m11_unfold_rules.specs.Acting.{flag_O}
use Rattle.m11_unfold_rules.specs.Conditions.{actual_flags, text_of}
use Rattle.m11_unfold_rules.specs.Headers.{name_at, name_in}
use Rattle.m11_unfold_rules.specs.Immediate.{column_after_comma}
use Rattle.m11_unfold_rules.specs.declared.macros.NameAt.{NameAt}
use Rattle.m11_asm_rules.specs.Actions.{Action, Assign, ByteList, Entitle, Export, Identify, ListExpansions, MoveLevel, NoAction, Operate, Operation, PackedText, Room, Select, SetCounter, SetNumber, SetRadix, Store, Text, TextPart, Transfer, WordList, does, refused}
use Rattle.m11_asm_rules.specs.Assigning.{after_expression, target}
use Rattle.m11_asm_rules.specs.Control as control
use Rattle.m11_asm_rules.specs.Counts as counts
use Rattle.m11_asm_rules.specs.Elements.{ListAt, argument_flags, elements_at, names_at, names_flags, names_of, texts_of}
use Rattle.m11_asm_rules.specs.Exports as exports
use Rattle.m11_asm_rules.specs.Instructions as instructions
use Rattle.m11_asm_rules.specs.Meanings.{Map}
use Rattle.m11_asm_rules.specs.Tables.{Table}
use Rattle.m11_base.specs.declared.instruction.Op.{Op}
use Rattle.m11_asm_line_laws.proofs.ColumnOperands as operands
use Rattle.m11_asm_rules.specs.Operations.{directive, operation_of}
use Rattle.m11_asm_rules.specs.Operators.{operator_named}
use Rattle.m11_asm_rules.specs.Psects as psects
use Rattle.m11_asm_rules.specs.Psects.SectionAt.{Bad, NamedAt, Unnamed}
use Rattle.m11_asm_rules.specs.Sections.{of_control, of_program}
use Rattle.m11_asm_rules.specs.Storage as storage
use Rattle.m11_asm_rules.specs.Strings as strings
use Rattle.m11_asm_rules.specs.declared.operators.Directive.{Directive}
use Rattle.m11_asm_rules.specs.declared.operators.Directive.TheVariants as word
use Rattle.m11_asm_rules.specs.declared.operators.Operator.{Operator}
use Rattle.m11_asm_rules.specs.declared.operators.Operator.TheVariants as operators
use Rattle.m11_asm_line_laws.specs.Printed.{body_tree, tree_of, tree_operation}
use Rattle.m11_asm_line_laws.proofs.Columns.{expression_end_up, expression_up, has_up, left_over_up, rest_flags_up, skip_flags_up, text_up, tokens_up, up}
use Rattle.m11_asm_line_laws.proofs.ColumnLists.{argument_flags_up, by_if, column_after_comma_up, elements_at_up, names_at_up, names_flags_up, names_up, texts_of_up, up_column}
use Rattle.m11_asm_line_laws.proofs.ColumnParts.{Encloses, actual_up, contents_up, mark_up, next_actual_up, next_encloses, next_part_up, part_up, parts_at_up, parts_up, separator_at_up, separator_up, text_flags_up}

-- ---- what depends on no line

abbrev named_up : NameAt → NameAt
named_up named = record { name = named.name; end = suc named.end }

name_by_up : (found : Option Name) (end : ℕ)
    → option_map (λ (name : Name). record { name = name; end = suc end }) found
    ≡ option_map named_up (option_map (λ (name : Name). record { name = name; end = end }) found)
name_by_up None end = refl
name_by_up (Some name) end = refl

name_at_up : (tokens : List Lexeme) → name_at (map up tokens) ≡ option_map named_up (name_at tokens)
name_at_up [] = refl
name_at_up (token ∷ tokens) = name_by_up (name_in token.sort token.text) token.end

abbrev section_up : psects.SectionAt → psects.SectionAt
section_up Unnamed = Unnamed
section_up (NamedAt name end) = NamedAt name (suc end)
section_up Bad = Bad

abbrev section_named : Option NameAt → psects.SectionAt
section_named found = elim found [ Some named ↦ NamedAt named.name named.end | None ↦ Bad ]

section_named_up : (found : Option NameAt) → section_named (option_map named_up found) ≡ section_up (section_named found)
section_named_up None = refl
section_named_up (Some named) = refl

abbrev section_in : List Lexeme → psects.SectionAt
section_in tokens = elim tokens [
  | [] ↦ Unnamed
  | token ∷ more ↦ if is_comma token.sort then Unnamed else section_named (name_at (token ∷ more))
]

section_in_up : (tokens : List Lexeme) → section_in (map up tokens) ≡ section_up (section_in tokens)
section_in_up [] = refl
section_in_up (token ∷ tokens) =
    ap (λ f. if is_comma token.sort then Unnamed else section_named f) (name_at_up (token ∷ tokens))
    ∙ ap (λ s. if is_comma token.sort then Unnamed else s) (section_named_up (name_at (token ∷ tokens)))
    ∙ by_if section_up (is_comma token.sort) Unnamed (section_named (name_at (token ∷ tokens)))

title_up : (tokens : List Lexeme) → exports.title_by (map up tokens) ≡ exports.title_by tokens
title_up [] = refl
title_up (token ∷ tokens) = refl

-- ---- operations, by what was found in the line

abbrev radix_found : Bytes → ℕ → ℕ → Option Radix → Operation
radix_found line start end found = elim found [
  | Some radix ↦ does (SetRadix radix) (argument_flags line start end)
  | None ↦ refused line start
]

abbrev radix_by : Bytes → ℕ → List Lexeme → Operation
radix_by line start tokens = elim tokens [
  | [] ↦ does (SetRadix Octal) (left_over line start)
  | token ∷ more ↦ radix_found line start token.end (control.radix_in token.sort token.text)
]

abbrev listing_by : Bool → List Bytes → ℕ → ℕ → Bool → Operation
listing_by is_list texts flags rest has =
    if has then does (if control.is_among texts (codes "ME    ") then ListExpansions is_list else NoAction) flags
    else does (MoveLevel is_list) rest

abbrev attributes_in : Bytes → ℕ → Option ℕ → ListAt (Option Span)
attributes_in line end found = elim found [ Some next ↦ names_at line next | None ↦ record { list = []; end = end } ]

abbrev selecting_by : Name → List Bytes → ℕ → Operation
selecting_by name texts flags =
    does (Select name of_program (psects.attributes_named texts))
    (bit_or (flag_if (list_any (λ text. is_none (attribute_named text)) texts) flag_A) flags)

abbrev psect_by : Bytes → ℕ → psects.SectionAt → Operation
psect_by line start found = elim found [
  | Unnamed ↦ psects.selecting line start blank_name (psects.attributes_at line start)
  | NamedAt name end ↦ psects.selecting line start name (psects.attributes_at line end)
  | Bad ↦ refused line start
]

abbrev csect_by : Bytes → ℕ → psects.SectionAt → Operation
csect_by line start found = elim found [
  | Unnamed ↦ does (Select blank_name of_program []) (left_over line start)
  | NamedAt name end ↦ does (Select name of_control []) (argument_flags line start end)
  | Bad ↦ refused line start
]

abbrev title_found : Bytes → ℕ → Option Name → Operation
title_found line start found = elim found [ Some name ↦ does (Entitle name) (flags_before line start) | None ↦ refused line start ]

abbrev ident_part : Bytes → ℕ → Part → PartKind → Operation
ident_part line start part kind = elim kind [
  | kinds.Text ↦ does (Identify (exports.name_of_codes (strings.six_codes (strings.part_text line part)))) (exports.text_flags line start part)
  | kinds.Expression ↦ refused line start
]

abbrev ident_by : Bytes → ℕ → Option Part → Operation
ident_by line start found = elim found [ Some part ↦ ident_part line start part part.kind | None ↦ refused line start ]

abbrev counted : Option ℕ → Name → Action
counted arguments name = elim arguments [ Some count ↦ SetNumber name count | None ↦ NoAction ]

abbrev narg_by : Option ℕ → Bytes → ℕ → Option NameAt → Operation
narg_by arguments line start found = elim found [
  | Some named ↦
      does (counted arguments named.name) (bit_or (flag_if (is_none arguments) flag_O) (argument_flags line start named.end))
  | None ↦ does NoAction (bit_or (flag_if (is_none arguments) flag_O) (bad_flags line start))
]

abbrev length_of : Bytes → Option Actual → ℕ
length_of line found = elim found [ Some actual ↦ length (text_of line actual) | None ↦ 0 ]

abbrev nchr_by : Bytes → ℕ → Option NameAt → Operation
nchr_by line start found = elim found [
  | Some named ↦
      does (SetNumber named.name (length_of line (counts.text_at line named.end)))
      (bit_or (flags_before line start) (counts.text_flags line (separator_at line named.end) (counts.text_at line named.end)))
  | None ↦ refused line start
]

-- ---- a line with one more character in front, and columns one further on
module _ (byte : ℕ) (line : Bytes) where
  abbrev longer : Bytes
  longer = byte ∷ line

  bad_flags_up : (start : ℕ) → bad_flags longer (suc start) ≡ bad_flags line start
  bad_flags_up start = ap (bit_or flag_A) (rest_flags_up byte line start)

  refused_up : (start : ℕ) → refused longer (suc start) ≡ refused line start
  refused_up start = ap (does NoAction) (bad_flags_up start)

  start_up : (tokens : List Lexeme) → start_of longer (map up tokens) ≡ suc (start_of line tokens)
  start_up [] = refl
  start_up (token ∷ tokens) = refl

  flags_before_up : (start : ℕ) → flags_before longer (suc start) ≡ flags_before line start
  flags_before_up start =
      ap (λ ts. skip_flags longer (suc start) (start_of longer ts)) (tokens_up byte line start)
      ∙ ap (skip_flags longer (suc start)) (start_up (tokens_from line start))
      ∙ skip_flags_up byte line start (start_of line (tokens_from line start))

  after_expression_up : (start : ℕ) → after_expression longer (suc start) ≡ after_expression line start
  after_expression_up start =
      ap (λ n. flag_if (has_token (tokens_from longer n)) flag_Q) (expression_end_up byte line start)
      ∙ ap (λ ts. flag_if (has_token ts) flag_Q) (tokens_up byte line (expression_end line start))
      ∙ ap (λ b. flag_if b flag_Q) (has_up (tokens_from line (expression_end line start)))

  -- ---- storage

  words_up : (start : ℕ) → start ≤ length line → storage.words longer (suc start) ≡ storage.words line start
  words_up start le =
      ap (λ r. does (Store (WordList r.list)) (argument_flags longer (suc start) r.end)) (elements_at_up byte line start le)
      ∙ ap (does (Store (WordList (elements_at line start).list))) (argument_flags_up byte line start (elements_at line start).end)

  bytes_up : (start : ℕ) → start ≤ length line → storage.bytes longer (suc start) ≡ storage.bytes line start
  bytes_up start le =
      ap (λ r. does (Store (ByteList r.list)) (argument_flags longer (suc start) r.end)) (elements_at_up byte line start le)
      ∙ ap (does (Store (ByteList (elements_at line start).list))) (argument_flags_up byte line start (elements_at line start).end)

  expression_arguments_up : (act : Expression → Action) (start : ℕ)
      → does (act (expression longer (suc start))) (argument_flags longer (suc start) (expression_end longer (suc start)))
      ≡ does (act (expression line start)) (argument_flags line start (expression_end line start))
  expression_arguments_up act start =
      ap (λ e. does (act e) (argument_flags longer (suc start) (expression_end longer (suc start)))) (expression_up byte line start)
      ∙ ap (λ n. does (act (expression line start)) (argument_flags longer (suc start) n)) (expression_end_up byte line start)
      ∙ ap (does (act (expression line start))) (argument_flags_up byte line start (expression_end line start))

  texts_up : (act : List TextPart → Action) (start : ℕ)
      → does (act (strings.contents_of longer (strings.parts_at longer (suc start)).list))
      (strings.text_flags longer (suc start) (strings.parts_at longer (suc start)))
      ≡ does (act (strings.contents_of line (strings.parts_at line start).list)) (strings.text_flags line start (strings.parts_at line start))
  texts_up act start =
      ap (λ r. does (act (strings.contents_of longer r.list)) (strings.text_flags longer (suc start) r)) (parts_at_up byte line start)
      ∙ ap (λ cs. does (act cs) (strings.text_flags longer (suc start) (parts_up (strings.parts_at line start))))
      (contents_up byte line (strings.parts_at line start).list)
      ∙ ap (does (act (strings.contents_of line (strings.parts_at line start).list))) (text_flags_up byte line start)

  -- ---- modes

  radix_found_up : (start end : ℕ) (found : Option Radix) → radix_found longer (suc start) (suc end) found ≡ radix_found line start end found
  radix_found_up start end None = refused_up start
  radix_found_up start end (Some radix) = ap (does (SetRadix radix)) (argument_flags_up byte line start end)

  radix_by_up : (start : ℕ) (tokens : List Lexeme) → radix_by longer (suc start) (map up tokens) ≡ radix_by line start tokens
  radix_by_up start [] = ap (does (SetRadix Octal)) (left_over_up byte line start)
  radix_by_up start (token ∷ tokens) = radix_found_up start token.end (control.radix_in token.sort token.text)

  radix_up : (start : ℕ) → control.radix longer (suc start) ≡ control.radix line start
  radix_up start = ap (radix_by longer (suc start)) (tokens_up byte line start) ∙ radix_by_up start (tokens_from line start)

  words_flags_up : (known : List Bytes) (start : ℕ) → control.words_flags known longer (suc start) (names_at longer (suc start))
      ≡ control.words_flags known line start (names_at line start)
  words_flags_up known start =
      ap (control.words_flags known longer (suc start)) (names_at_up byte line start)
      ∙ ap (λ ts. bit_or (control.unknown_flags known ts) (names_flags longer (suc start) (names_up (names_at line start))))
      (texts_of_up byte line (names_at line start).list)
      ∙ ap (bit_or (control.unknown_flags known (texts_of line (names_at line start).list)))
      (names_flags_up byte line start (names_at line start))

  texts_at_up : (start : ℕ) → texts_of longer (names_at longer (suc start)).list ≡ texts_of line (names_at line start).list
  texts_at_up start =
      ap (λ r. texts_of longer r.list) (names_at_up byte line start) ∙ texts_of_up byte line (names_at line start).list

  listing_up : (is_list : Bool) (start : ℕ) → control.listing is_list longer (suc start) ≡ control.listing is_list line start
  listing_up is_list start =
      ap (λ ts. listing_by is_list ts (control.words_flags control.listing_words longer (suc start) (names_at longer (suc start)))
      (rest_flags longer (suc start)) (has_token (tokens_from longer (suc start)))) (texts_at_up start)
      ∙ ap (λ f. listing_by is_list (texts_of line (names_at line start).list) f (rest_flags longer (suc start))
      (has_token (tokens_from longer (suc start)))) (words_flags_up control.listing_words start)
      ∙ ap (λ f. listing_by is_list (texts_of line (names_at line start).list)
      (control.words_flags control.listing_words line start (names_at line start)) f (has_token (tokens_from longer (suc start))))
      (rest_flags_up byte line start)
      ∙ ap (λ ts. listing_by is_list (texts_of line (names_at line start).list)
      (control.words_flags control.listing_words line start (names_at line start)) (rest_flags line start) (has_token ts))
      (tokens_up byte line start)
      ∙ ap (listing_by is_list (texts_of line (names_at line start).list)
      (control.words_flags control.listing_words line start (names_at line start)) (rest_flags line start))
      (has_up (tokens_from line start))

  -- ---- sections

  attributes_in_up : (end : ℕ) (found : Option ℕ) → attributes_in longer (suc end) (option_map up_column found) ≡ names_up (attributes_in line end found)
  attributes_in_up end None = refl
  attributes_in_up end (Some next) = names_at_up byte line next

  attributes_at_up : (end : ℕ) → psects.attributes_at longer (suc end) ≡ names_up (psects.attributes_at line end)
  attributes_at_up end =
      ap (attributes_in longer (suc end)) (column_after_comma_up byte line end) ∙ attributes_in_up end (column_after_comma line end)

  selecting_up : (start : ℕ) (name : Name) (end : ℕ)
      → psects.selecting longer (suc start) name (psects.attributes_at longer (suc end))
      ≡ psects.selecting line start name (psects.attributes_at line end)
  selecting_up start name end =
      let names : ListAt (Option Span) = psects.attributes_at line end in
      ap (λ r. selecting_by name (texts_of longer r.list) (names_flags longer (suc start) r)) (attributes_at_up end)
      ∙ ap (λ ts. selecting_by name ts (names_flags longer (suc start) (names_up names))) (texts_of_up byte line names.list)
      ∙ ap (selecting_by name (texts_of line names.list)) (names_flags_up byte line start names)

  psect_by_up : (start : ℕ) (found : psects.SectionAt) → psect_by longer (suc start) (section_up found) ≡ psect_by line start found
  psect_by_up start Unnamed = selecting_up start blank_name start
  psect_by_up start (NamedAt name end) = selecting_up start name end
  psect_by_up start Bad = refused_up start

  section_at_up : (start : ℕ) → psects.section_at longer (suc start) ≡ section_up (psects.section_at line start)
  section_at_up start = ap section_in (tokens_up byte line start) ∙ section_in_up (tokens_from line start)

  psect_up : (start : ℕ) → psects.psect longer (suc start) ≡ psects.psect line start
  psect_up start = ap (psect_by longer (suc start)) (section_at_up start) ∙ psect_by_up start (psects.section_at line start)

  csect_by_up : (start : ℕ) (found : psects.SectionAt) → csect_by longer (suc start) (section_up found) ≡ csect_by line start found
  csect_by_up start Unnamed = ap (does (Select blank_name of_program [])) (left_over_up byte line start)
  csect_by_up start (NamedAt name end) = ap (does (Select name of_control [])) (argument_flags_up byte line start end)
  csect_by_up start Bad = refused_up start

  csect_up : (start : ℕ) → psects.csect longer (suc start) ≡ psects.csect line start
  csect_up start = ap (csect_by longer (suc start)) (section_at_up start) ∙ csect_by_up start (psects.section_at line start)

  -- ---- names

  exported_up : (is_weak : Bool) (start : ℕ) → exports.exported is_weak longer (suc start) ≡ exports.exported is_weak line start
  exported_up is_weak start =
      ap (λ r. does (Export is_weak (names_of (texts_of longer r.list))) (names_flags longer (suc start) r)) (names_at_up byte line start)
      ∙ ap (λ ts. does (Export is_weak (names_of ts)) (names_flags longer (suc start) (names_up (names_at line start))))
      (texts_of_up byte line (names_at line start).list)
      ∙ ap (does (Export is_weak (names_of (texts_of line (names_at line start).list)))) (names_flags_up byte line start (names_at line start))

  title_found_up : (start : ℕ) (found : Option Name) → title_found longer (suc start) found ≡ title_found line start found
  title_found_up start None = refused_up start
  title_found_up start (Some name) = ap (does (Entitle name)) (flags_before_up start)

  title_at_up : (start : ℕ) → exports.title longer (suc start) ≡ exports.title line start
  title_at_up start =
      ap (λ ts. title_found longer (suc start) (exports.title_by ts)) (tokens_up byte line start)
      ∙ ap (title_found longer (suc start)) (title_up (tokens_from line start))
      ∙ title_found_up start (exports.title_by (tokens_from line start))

  ident_part_up : (start : ℕ) (part : Part) (kind : PartKind) → 0 < part.inside.start
      → ident_part longer (suc start) (part_up part) kind ≡ ident_part line start part kind
  ident_part_up start part kinds.Expression some = refused_up start
  ident_part_up start part kinds.Text some =
      let flags : ℕ → Bytes → ℕ → ℕ = λ mark text after. bit_or (bit_or mark (part_flags part)) (bit_or (strings.character_flags (take 6 text)) after) in
      ap (λ t. does (Identify (exports.name_of_codes (strings.six_codes t)))
      (flags (skip_flags longer (suc start) (suc part.inside.start - 1)) t (left_over longer (suc part.end))))
      (text_up byte line part.inside.start part.inside.end)
      ∙ ap (λ m. does (Identify (exports.name_of_codes (strings.six_codes (strings.part_text line part))))
      (flags m (strings.part_text line part) (left_over longer (suc part.end)))) (mark_up byte line start part.inside.start some)
      ∙ ap (λ a. does (Identify (exports.name_of_codes (strings.six_codes (strings.part_text line part))))
      (flags (skip_flags line start (part.inside.start - 1)) (strings.part_text line part) a)) (left_over_up byte line part.end)

  ident_by_up : (start : ℕ) (found : Option Part) → Encloses found
      → ident_by longer (suc start) (option_map part_up found) ≡ ident_by line start found
  ident_by_up start None encloses = refused_up start
  ident_by_up start (Some part) encloses = ident_part_up start part part.kind encloses

  ident_up : (start : ℕ) → exports.ident longer (suc start) ≡ exports.ident line start
  ident_up start =
      ap (ident_by longer (suc start)) (next_part_up byte line start true)
      ∙ ident_by_up start (next_part line start true) (next_encloses line start true)

  -- ---- counts

  narg_by_up : (arguments : Option ℕ) (start : ℕ) (found : Option NameAt)
      → narg_by arguments longer (suc start) (option_map named_up found) ≡ narg_by arguments line start found
  narg_by_up arguments start None =
      ap (λ f. does NoAction (bit_or (flag_if (is_none arguments) flag_O) f)) (bad_flags_up start)
  narg_by_up arguments start (Some named) =
      ap (λ f. does (counted arguments named.name) (bit_or (flag_if (is_none arguments) flag_O) f))
      (argument_flags_up byte line start named.end)

  narg_up : (arguments : Option ℕ) (start : ℕ) → counts.narg arguments longer (suc start) ≡ counts.narg arguments line start
  narg_up arguments start =
      ap (λ ts. narg_by arguments longer (suc start) (name_at ts)) (tokens_up byte line start)
      ∙ ap (narg_by arguments longer (suc start)) (name_at_up (tokens_from line start))
      ∙ narg_by_up arguments start (name_at (tokens_from line start))

  text_at_up : (end : ℕ) → counts.text_at longer (suc end) ≡ option_map actual_up (counts.text_at line end)
  text_at_up end =
      ap (λ s. next_actual longer s.end false) (separator_at_up byte line end) ∙ next_actual_up byte line (separator_at line end).end false

  length_up : (found : Option Actual) → length_of longer (option_map actual_up found) ≡ length_of line found
  length_up None = refl
  length_up (Some actual) = ap length (text_up byte line actual.inside.start actual.inside.end)

  counted_flags_up : (separator : Separator) (found : Option Actual)
      → counts.text_flags longer (separator_up separator) (option_map actual_up found) ≡ counts.text_flags line separator found
  counted_flags_up separator None =
      ap (λ f. if separator.has_comma then f else bit_or flag_A f) (left_over_up byte line separator.end)
  counted_flags_up separator (Some actual) = ap (bit_or (actual_flags actual)) (left_over_up byte line actual.end)

  nchr_by_up : (start : ℕ) (found : Option NameAt) → nchr_by longer (suc start) (option_map named_up found) ≡ nchr_by line start found
  nchr_by_up start None = refused_up start
  nchr_by_up start (Some named) =
      let text : Option Actual = counts.text_at line named.end in
      let separator : Separator = separator_at line named.end in
      let made : Option Actual → Separator → ℕ → Operation =
      λ t s f. does (SetNumber named.name (length_of longer t)) (bit_or f (counts.text_flags longer s t)) in
      ap (λ t. made t (separator_at longer (suc named.end)) (flags_before longer (suc start))) (text_at_up named.end)
      ∙ ap (λ s. made (option_map actual_up text) s (flags_before longer (suc start))) (separator_at_up byte line named.end)
      ∙ ap (made (option_map actual_up text) (separator_up separator)) (flags_before_up start)
      ∙ ap (λ n. does (SetNumber named.name n)
      (bit_or (flags_before line start) (counts.text_flags longer (separator_up separator) (option_map actual_up text)))) (length_up text)
      ∙ ap (λ f. does (SetNumber named.name (length_of line text)) (bit_or (flags_before line start) f)) (counted_flags_up separator text)

  nchr_up : (start : ℕ) → counts.nchr longer (suc start) ≡ counts.nchr line start
  nchr_up start =
      ap (λ ts. nchr_by longer (suc start) (name_at ts)) (tokens_up byte line start)
      ∙ ap (nchr_by longer (suc start)) (name_at_up (tokens_from line start))
      ∙ nchr_by_up start (name_at (tokens_from line start))

  -- ---- directives

  left_up : (action : Action) (start : ℕ) → does action (left_over longer (suc start)) ≡ does action (left_over line start)
  left_up action start = ap (does action) (left_over_up byte line start)

  directive_up : (arguments : Option ℕ) (start : ℕ) → start ≤ length line → (found : Directive)
      → directive arguments longer (suc start) found ≡ directive arguments line start found
  directive_up arguments start le word.Word = words_up start le
  directive_up arguments start le word.Byte = bytes_up start le
  directive_up arguments start le word.Ascii = texts_up (λ cs. Store (Text cs false)) start
  directive_up arguments start le word.Asciz = texts_up (λ cs. Store (Text cs true)) start
  directive_up arguments start le word.Rad50 = texts_up (λ cs. Store (PackedText cs)) start
  directive_up arguments start le word.Blkb = expression_arguments_up (λ e. Store (Room 1 e)) start
  directive_up arguments start le word.Blkw = expression_arguments_up (λ e. Store (Room 2 e)) start
  directive_up arguments start le word.Even = left_up _ start
  directive_up arguments start le word.Odd = left_up _ start
  directive_up arguments start le word.Limit = left_up _ start
  directive_up arguments start le word.Radix = radix_up start
  directive_up arguments start le word.Asect = left_up _ start
  directive_up arguments start le word.Csect = csect_up start
  directive_up arguments start le word.Psect = psect_up start
  directive_up arguments start le word.Globl = exported_up false start
  directive_up arguments start le word.Weak = exported_up true start
  directive_up arguments start le word.Title = title_at_up start
  directive_up arguments start le word.Ident = ident_up start
  directive_up arguments start le word.Sbttl = refl
  directive_up arguments start le word.Page = left_up _ start
  directive_up arguments start le word.List = listing_up true start
  directive_up arguments start le word.Nlist = listing_up false start
  directive_up arguments start le word.Enabl = ap (does NoAction) (words_flags_up (codes "LC    " ∷ codes "GBL   " ∷ []) start)
  directive_up arguments start le word.Dsabl = ap (does NoAction) (words_flags_up [] start)
  directive_up arguments start le word.Narg = narg_up arguments start
  directive_up arguments start le word.Nchr = nchr_up start
  directive_up arguments start le word.End = expression_arguments_up Transfer start

-- ---- no column

-- what a character in front doesn't change depends on the text from its column on alone
from_column : {A : Type 0} (read : Bytes → ℕ → A)
    → ((byte : ℕ) (line : Bytes) (column : ℕ) → column ≤ length line → read (byte ∷ line) (suc column) ≡ read line column)
    → (line : Bytes) (column : ℕ) → column ≤ length line → read line column ≡ read (drop column line) 0
from_column read step line zero le = refl
from_column read step [] (suc column) le = absurd (omega arith)
from_column read step (byte ∷ line) (suc column) le =
    let inside : column ≤ length line = omega (arith, le) in
    step byte line column inside ∙ from_column read step line column inside

both_hold : (line : Bytes) (start end : ℕ) → start ≤ end → end ≤ length line → (nat_le start end && nat_le end (length line)) ≡ true
both_hold line start end low high =
    ap (λ b. b && nat_le end (length line)) (le-leb start end low) ∙ le-leb end (length line) high

-- a line from a column on is the text up to a further column, and the text after that
joined : (line : Bytes) (start end : ℕ) → start ≤ end → end ≤ length line → text_between line start end ++ drop end line ≡ drop start line
joined line start end low high =
    let further : start + (end - start) ≡ end = omega (arith, low) in
    ap (λ b. (if b then take (end - start) (drop start line) else []) ++ drop end line) (both_hold line start end low high)
    ∙ ap (λ t. take (end - start) (drop start line) ++ t)
    (ap (λ n. drop n line) (sym further) ∙ sym (drop-drop (end - start) start line))
    ∙ take-append-drop (end - start) (drop start line)

some_is : (one other : Operation) → Some one ≡ Some other → one ≡ other
some_is one other e = cc

words_here : (line : Bytes) (start : ℕ) → start ≤ length line → storage.words line start ≡ storage.words (drop start line) 0
words_here = from_column storage.words words_up

directive_here : (arguments : Option ℕ) (found : Directive) (line : Bytes) (start : ℕ) → start ≤ length line
    → directive arguments line start found ≡ directive arguments (drop start line) 0 found
directive_here arguments found =
    from_column (λ l c. directive arguments l c found) (λ byte line column le. directive_up byte line arguments column le found)

value_here : (act : Expression → Action) (line : Bytes) (start : ℕ) → start ≤ length line
    → does (act (expression line start)) (after_expression line start)
    ≡ does (act (expression (drop start line) 0)) (after_expression (drop start line) 0)
value_here act = from_column (λ l c. does (act (expression l c)) (after_expression l c))
    (λ byte line column le.
    ap (λ e. does (act e) (after_expression (byte ∷ line) (suc column))) (expression_up byte line column)
    ∙ ap (does (act (expression line column))) (after_expression_up byte line column))

-- the operation of a name in the operator field
abbrev operated : Option ℕ → Bytes → Span → Option Operator → Operation
operated arguments line name found = elim found [
  | Some (operators.Directive one) ↦ directive arguments line name.end one
  | Some (operators.Instruction operation) ↦ does (Operate operation name.end) 0
  | None ↦ storage.words line name.start
]

abbrev operated_tree : Option ℕ → Bytes → Bytes → Option Operator → Option Operation
operated_tree arguments name text found = elim found [
  | Some (operators.Directive one) ↦ Some (directive arguments text 0 one)
  | Some (operators.Instruction operation) ↦ None
  | None ↦ Some (storage.words (name ++ text) 0)
]

operate_here : (arguments : Option ℕ) (line : Bytes) (name : Span) → name.start < name.end → name.end ≤ length line
    → (found : Option Operator) (operation : Operation)
    → operated_tree arguments (text_between line name.start name.end) (drop name.end line) found ≡ Some operation
    → operated arguments line name found ≡ operation
operate_here arguments line name some within (Some (operators.Directive one)) operation is =
    directive_here arguments one line name.end within ∙ some_is _ _ is
operate_here arguments line name some within (Some (operators.Instruction one)) operation is = absurd (cc)
operate_here arguments line name some within None operation is =
    words_here line name.start (omega (arith, some, within))
    ∙ ap (λ t. storage.words t 0) (sym (joined line name.start name.end (omega (arith, some)) within)) ∙ some_is _ _ is

operation_here : (arguments : Option ℕ) (line : Bytes) (column : ℕ) (body : Body) → BodyLies column (length line) body
    → (operation : Operation) → tree_operation arguments (body_tree line body) ≡ Some operation
    → operation_of arguments line body ≡ operation
operation_here arguments line column bodies.Nothing lies operation is = some_is _ _ is
operation_here arguments line column (bodies.Assign made) lies operation is =
    value_here (Assign (target line made.name) made.is_global) line made.value lies.3 ∙ some_is _ _ is
operation_here arguments line column (bodies.SetCounter value) lies operation is =
    value_here SetCounter line value lies.1 ∙ some_is _ _ is
operation_here arguments line column (bodies.Operate name) lies operation is =
    operate_here arguments line name lies.1 lies.2 (operator_named (six_of (text_between line name.start name.end))) operation is
operation_here arguments line column (bodies.Words start) lies operation is =
    words_here line start (omega (arith, lies.1)) ∙ some_is _ _ is

pub texts_decide : (column : Bytes → ℕ) → ((line : Bytes) → BodyLies (column line) (length line) (body_of line))
    → (arguments : Option ℕ) (line : Bytes) (operation : Operation)
    → tree_operation arguments (tree_of line).body ≡ Some operation → operation_of arguments line (body_of line) ≡ operation
texts_decide column lies arguments line operation is = operation_here arguments line (column line) (body_of line) (lies line) operation is

pub size_here : (table : Table) (location : ℕ) (operation : Op) (line : Bytes) (start : ℕ) → start ≤ length line
    → instructions.size table location line start operation ≡ instructions.size table location (drop start line) 0 operation
size_here table location operation =
    from_column (λ l c. instructions.size table location l c operation)
    (λ byte line column le. operands.size_up byte line table location column operation)

pub instruction_here : (map_ : Map) (table : Table) (location : ℕ) (operation : Op) (line : Bytes) (start : ℕ) → start ≤ length line
    → instructions.words map_ table location line start operation ≡ instructions.words map_ table location (drop start line) 0 operation
instruction_here map_ table location operation =
    from_column (λ l c. instructions.words map_ table location l c operation)
    (λ byte line column le. operands.words_up byte line map_ table location column operation)
