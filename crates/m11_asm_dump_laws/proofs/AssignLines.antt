-- A line that assigns a number to a name defines the name so, and does nothing else.
use Rattle.std.proofs.Common.{◌≡◌, ◌∙◌, ℕ, ◌+◌, ◌<◌, Bool, true, false, ◌&&◌, List, [], ◌∷◌, ◌++◌, length, drop, Option, Some, None, option_map, refl, sym, ap, ap₂, subst, arith, append-nil}
use Rattle.std.specs.Prelude.{◌==◌, if◌then◌else◌, is_some, unwrap_or}
use Rattle.std.specs.Int.RustNames.{bit_or}
use Rattle.std.proofs.lemmas.List.{drop_all}
use Rattle.m11_base.specs.Devices.{Bytes}
use Rattle.m11_base.specs.NameCharacters.{six_of}
use Rattle.m11_base.specs.Rad50.{Name, name_of, name_text}
use Rattle.m11_base_disassembly.specs.Names.{bare_name}
use Rattle.m11_base_disassembly.specs.Numbers.{number_text}
use Rattle.m11_base_disassembly.specs.declared.symbols.Symbol.{Symbol}
use Rattle.m11_scan.specs.Cutting.{Lexeme, text_between, tokens_from}
use Rattle.m11_scan.specs.Ends.{expression_end}
use Rattle.m11_scan.specs.ErrorFlags.{flag_I, flag_Q, flag_if}
use Rattle.m11_scan.specs.Skipped.{has_skipped}
use Rattle.m11_scan.specs.declared.sort.Sort.TheVariants as sorts
use Rattle.m11_scan_expressions.specs.LeftOvers.{has_token}
use Rattle.m11_scan_expressions.specs.Quantities.{Quantity, absolute}
use Rattle.m11_scan_expressions.specs.Tokens.{Expression, expression}
use Rattle.m11_scan_expressions.specs.Expressions.{symbols, value}
use Rattle.m11_scan_statements.specs.Bodies.{body_in}
use Rattle.m11_scan_statements.specs.Bodies as reading
use Rattle.m11_scan_statements.specs.Labels.{end_of, is_counter, labels_at, labels_in}
use Rattle.m11_scan_statements.specs.Statements.{body_of}
use Rattle.m11_scan_statements.specs.declared.labels.Label.{Label}
use Rattle.m11_scan_statements.specs.declared.bodies.Body.{Body}
use Rattle.m11_scan_statements.specs.declared.bodies.Body.TheVariants as bodies
use Rattle.m11_unfold_rules.specs.Unfolding.{UnfoldedLine}
use Rattle.m11_unfold_rules.specs.Definedness.{flag_U}
use Rattle.m11_asm_rules.specs.Actions.{Assign, does}
use Rattle.m11_asm_rules.specs.Assigning.{assignment_flags, definition_flags, is_exported, is_unknown, target, target_flags}
use Rattle.m11_asm_rules.specs.Assignments as assignments
use Rattle.m11_asm_rules.specs.Assignments.{all_firm, assigned}
use Rattle.m11_asm_rules.specs.Changes.{Assigns, changed, numbered}
use Rattle.m11_asm_rules.specs.Contents.{nothing}
use Rattle.m11_asm_rules.specs.Definitions.{is_labelled, is_of_label, last_definition}
use Rattle.m11_asm_rules.specs.Labels.{flag_M, with_definition, with_doubly_defined}
use Rattle.m11_asm_rules.specs.Lines.{after_line}
use Rattle.m11_asm_rules.specs.Meanings.{Map, known_at}
use Rattle.m11_asm_rules.specs.Operations.{operation_of}
use Rattle.m11_asm_rules.specs.Tables.{Table, location}
use Rattle.m11_asm_rules.specs.declared.definitions.Definition.{Definition}
use Rattle.m11_asm_rules.specs.declared.definitions.Key.TheVariants.{Named}
use Rattle.m11_asm_rules.specs.declared.meanings.Context.TheVariants.{LocalOnly}
use Rattle.m11_asm_dump_laws.specs.Items.{symbol_text}
use Rattle.m11_asm_dump_laws.specs.Knowledge.{IsSpelled, ReadsAsMeant}
use Rattle.m11_asm_dump_laws.specs.Operands.{is_name_text, number_written}
use Rattle.m11_asm_dump_laws.proofs.ArgumentTexts.{token_kept}
use Rattle.m11_asm_dump_laws.proofs.Assembled.{Yields, yields}
use Rattle.m11_asm_dump_laws.proofs.Beginnings.{equals_begins, equals_stops}
use Rattle.m11_asm_dump_laws.proofs.Digits.{text_octal}
use Rattle.m11_asm_dump_laws.proofs.FirstTokens.{digits_begin}
use Rattle.m11_asm_dump_laws.proofs.Known.{table_knows}
use Rattle.m11_asm_dump_laws.proofs.LabelLines.{HasName, name_of_symbol}
use Rattle.m11_asm_dump_laws.proofs.LineEnds.{kept_to_end}
use Rattle.m11_asm_dump_laws.proofs.OperandTexts.{digits_kept}
use Rattle.m11_asm_dump_laws.proofs.Quantities.{number_value}
use Rattle.m11_asm_dump_laws.proofs.ReadLines.{some_name}
use Rattle.m11_asm_dump_laws.proofs.ReadStatements.{either_same}
use Rattle.m11_asm_dump_laws.proofs.Terms.{EndTerm, end_read, expression_read, nothing_skipped}
use Rattle.m11_asm_dump_laws.proofs.Tokens.{between, name_begins, no_token, none_stops, past, token_at, token_first}
use Rattle.m11_asm_dump_laws.proofs.Widths.{IsWhole}

-- ---- the text of an assignment

module _ (line name : Bytes) (number : ℕ) (at : line ≡ name ++ 0o75 ∷ number_text number) (is_name : is_name_text name ≡ true)
    (other : is_counter name ≡ false) where
  abbrev digits : Bytes
  digits = number_text number

  abbrev named : Lexeme
  named = token_at sorts.Name 0 name

  abbrev here : ℕ
  here = 0 + length name

  abbrev equals : Lexeme
  equals = token_at sorts.Equals here (0o75 ∷ [])

  abbrev start : ℕ
  start = here + 1

  abbrev final : ℕ
  final = start + length digits

  after_name : drop here line ≡ 0o75 ∷ digits
  after_name = past line name (0o75 ∷ digits) 0 at

  after_equals : drop start line ≡ digits
  after_equals = past line (0o75 ∷ []) digits here after_name

  written : drop start line ≡ digits ++ []
  written = after_equals ∙ sym (append-nil digits)

  done : drop final line ≡ []
  done = past line digits [] start written

  tokens_are : tokens_from line 0 ≡ named ∷ (equals ∷ tokens_from line start)
  tokens_are =
      token_first sorts.Name name (0o75 ∷ digits) line 0 (name_begins name (0o75 ∷ digits) is_name (equals_stops digits)) at
      ∙ ap (λ ts. named ∷ ts)
      (token_first sorts.Equals (0o75 ∷ []) digits line here (equals_begins digits (text_octal number)) after_name)

  abbrev before_labels : Option Label → List Label
  before_labels found = elim found [ None ↦ [] | Some first ↦ first ∷ labels_in (tokens_from line start) ]

  pub unlabelled : labels_at line ≡ []
  unlabelled = ap labels_in tokens_are ∙ ap before_labels (either_same (named.end == equals.start) None)

  -- the body of the line
  abbrev pub assignment_body : Body
  assignment_body = bodies.Assign (record { name = record { start = 0; end = here }; is_global = false; value = start })

  pub assigns : body_of line ≡ assignment_body
  assigns =
      ap (λ labels. body_in line (tokens_from line (end_of 0 labels))) unlabelled
      ∙ ap (body_in line) tokens_are
      ∙ ap (λ b. unwrap_or (if b then None else (if is_counter name then Some (bodies.SetCounter start) else Some assignment_body))
      (reading.operation named)) (nothing_skipped line here)
      ∙ ap (λ b. unwrap_or (if b then Some (bodies.SetCounter start) else Some assignment_body) (reading.operation named)) other

  ends : EndTerm (tokens_from line final)
  ends = subst EndTerm (sym (no_token line final done)) refl

  number_is : expression line start ≡ number_written number
  number_is = expression_read line start start refl sorts.Number digits [] (digits_begin number [] none_stops) refl written ends

  number_ends : expression_end line start ≡ final
  number_ends = end_read line start start refl sorts.Number digits [] (digits_begin number [] none_stops) refl written ends

  pub target_is : (found : Option Name) → name_of (six_of name) ≡ found
      → target line (record { start = 0; end = here }) ≡ found
  target_is found is = ap (λ t. name_of (six_of t)) (between line name (0o75 ∷ digits) 0 at (some_name name is_name)) ∙ is

  pub acts : (given : UnfoldedLine) (found : Option Name) → name_of (six_of name) ≡ found
      → operation_of given.arguments line assignment_body ≡ does (Assign found false (number_written number)) 0
  acts given found is =
      ap (λ n. does (Assign n false (expression line start)) (flag_if (has_token (tokens_from line (expression_end line start))) flag_Q))
      (target_is found is)
      ∙ ap₂ (λ e n. does (Assign found false e) (flag_if (has_token (tokens_from line n)) flag_Q)) number_is number_ends
      ∙ ap (λ ts. does (Assign found false (number_written number)) (flag_if (has_token ts) flag_Q)) (no_token line final done)

  pub none_skipped : has_skipped line ≡ false
  none_skipped =
      ap has_skipped at
      ∙ token_kept sorts.Name name (0o75 ∷ digits) (name_begins name (0o75 ∷ digits) is_name (equals_stops digits))
      ∙ token_kept sorts.Equals (0o75 ∷ []) digits (equals_begins digits (text_octal number))
      ∙ digits_kept number

-- ---- the line

-- a map gives a name a value
abbrev pub IsKnownIn : Map → Symbol → Type 0
IsKnownIn map symbol = is_unknown (last_definition (Named symbol.name) map.definitions) ≡ false

module _ (map_ : Map) (table : Table) (reads : ReadsAsMeant table) (given : UnfoldedLine) (symbol : Symbol) (is : IsSpelled symbol)
    (below : symbol.value < 65536) (this : IsWhole given (symbol_text symbol ++ 0o75 ∷ number_text symbol.value))
    (new : last_definition (Named symbol.name) table.definitions ≡ None) (known : IsKnownIn map_ symbol) where
  abbrev text : Bytes
  text = symbol_text symbol

  abbrev line : Bytes
  line = given.live.line.text

  abbrev tokens : Expression
  tokens = number_written symbol.value

  has : HasName symbol text
  has = name_of_symbol symbol is

  value_is : value (known_at map_ LocalOnly table (location table)) tokens ≡ absolute symbol.value 0
  value_is =
      number_value (known_at map_ LocalOnly table (location table)) symbol.value
      (table_knows table reads (location table) map_ LocalOnly) below

  unlabelled_name : is_labelled (Named symbol.name) table.definitions ≡ false
  unlabelled_name = ap is_of_label new

  none_exported : (b : Bool) → (b && is_unknown (last_definition (Named symbol.name) map_.definitions)) ≡ false
  none_exported true = known
  none_exported false = refl

  unflagged : assignment_flags map_ table (Some symbol.name) tokens ≡ 0
  unflagged =
      ap (λ (q : Quantity). bit_or (definition_flags map_ table symbol.name) q.flags) value_is
      ∙ ap₂ (λ l u. bit_or (bit_or (flag_if l flag_M) (flag_if u flag_U)) 0) unlabelled_name (none_exported (is_exported symbol.name map_))

  assign_yields : Yields map_ table given [] (Assigns symbol.name false tokens)
  assign_yields =
      yields map_ table given this.whole this.own (assignment_body line text symbol.value this.text has.is_text has.other)
      (Assign (Some symbol.name) false tokens) [] (Assigns symbol.name false tokens)
      (unlabelled line text symbol.value this.text has.is_text has.other) (assigns line text symbol.value this.text has.is_text has.other)
      (acts line text symbol.value this.text has.is_text has.other given (Some symbol.name) has.name)
      (ap (λ b. flag_if b flag_I)
      (kept_to_end line line 0 (length line) refl (none_skipped line text symbol.value this.text has.is_text has.other)
      (drop_all (length line) line (omega arith)))) (ap nothing unflagged) refl refl refl

  pub assigned_pieces : Yields map_ table given [] (Assigns symbol.name false tokens)
  assigned_pieces = assign_yields

  number_assigned : assigned map_ table tokens ≡ numbered symbol.value
  number_assigned =
      ap (λ (q : Quantity). record { standing = assignments.standing_of q; is_firm = all_firm table (symbols tokens); label = None }) value_is

  pub assigned_after : after_line map_ table given ≡ with_definition (Named symbol.name) (numbered symbol.value) table
  assigned_after =
      assign_yields.after
      ∙ ap (λ b. if b then with_doubly_defined (Named symbol.name) table
      else with_definition (Named symbol.name) (assigned map_ table tokens) table) unlabelled_name
      ∙ ap (λ d. with_definition (Named symbol.name) d table) number_assigned
