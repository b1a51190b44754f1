-- A line that is a label alone defines the label's name at its location, and does nothing else.
use Rattle.std.proofs.Common.{◌≡◌, ◌∙◌, ℕ, ◌+◌, ◌<◌, Bool, true, false, List, [], ◌∷◌, ◌++◌, length, drop, Option, Some, None, option_map, refl, sym, ap, ap₂, arith}
use Rattle.std.specs.Prelude.{◌==◌, if◌then◌else◌, is_some}
use Rattle.std.specs.Int.Bits.{or_zero_l}
use Rattle.std.specs.Int.RustNames.{bit_or}
use Rattle.std.proofs.lemmas.Bool.{eq-eqb, false≢true}
use Rattle.std.proofs.lemmas.List.{drop_all}
use Rattle.m11_base.specs.Devices.{Bytes}
use Rattle.m11_base.specs.NameCharacters.{six_of}
use Rattle.m11_base.specs.Rad50.{Name, name_of, name_text}
use Rattle.m11_base_disassembly.specs.Names.{bare_name}
use Rattle.m11_base_disassembly.specs.declared.symbols.Symbol.{Symbol}
use Rattle.m11_obj.specs.declared.pieces.Piece.{Piece}
use Rattle.m11_scan.specs.Cutting.{Lexeme, tokens_from}
use Rattle.m11_scan.specs.ErrorFlags.{flag_A, flag_I, flag_L, flag_if}
use Rattle.m11_scan.specs.Pieces.{first_piece}
use Rattle.m11_scan.specs.Skipped.{has_skipped, skipped_between}
use Rattle.m11_scan.specs.declared.sort.Sort.TheVariants as sorts
use Rattle.m11_scan_expressions.specs.LeftOvers.{skip_flags}
use Rattle.m11_scan_expressions.specs.Terms.{name_symbol}
use Rattle.m11_scan_expressions.specs.declared.names.Symbol as asked
use Rattle.m11_scan_expressions.specs.declared.names.Symbol.TheVariants.{Counter, Ordinary}
use Rattle.m11_scan_statements.specs.Bodies.{body_in}
use Rattle.m11_scan_statements.specs.Labels.{end_of, is_counter, kind_of, labels_at, labels_in}
use Rattle.m11_scan_statements.specs.Statements.{body_of, has_outside}
use Rattle.m11_scan_statements.specs.declared.bodies.Body.TheVariants as bodies
use Rattle.m11_scan_statements.specs.declared.labels.Label.{Label}
use Rattle.m11_scan_statements.specs.declared.labels.LabelKind.{LabelKind}
use Rattle.m11_scan_statements.specs.declared.labels.LabelKind.TheVariants as label
use Rattle.m11_unfold_rules.specs.Unfolding.{UnfoldedLine}
use Rattle.m11_asm_rules.specs.Actions.{NoAction, does}
use Rattle.m11_asm_rules.specs.Changes.{Keeps, changed}
use Rattle.m11_asm_rules.specs.Contents.{nothing, pieces_from}
use Rattle.m11_asm_rules.specs.Definitions.{is_defined}
use Rattle.m11_asm_rules.specs.Labels.{flag_M, label_name, labelled, labels_flags, name_flags, with_block, with_definition, with_doubly_defined, with_labels, with_name}
use Rattle.m11_asm_rules.specs.Lines.{after_line, change_of, emission_by, flags, known_end, line_change, line_emission, pieces, put_location, stands}
use Rattle.m11_asm_rules.specs.Meanings.{Map}
use Rattle.m11_asm_rules.specs.Operations.{operation, operation_of}
use Rattle.m11_asm_rules.specs.Sources.{line_transfer, transfer_by}
use Rattle.m11_asm_rules.specs.Tables.{Table, firm_table, section_name}
use Rattle.m11_asm_rules.specs.declared.definitions.Key.TheVariants.{Named}
use Rattle.m11_asm_dump_laws.specs.Knowledge.{IsSpelled}
use Rattle.m11_asm_dump_laws.specs.Operands.{is_name_text}
use Rattle.m11_asm_dump_laws.proofs.ArgumentTexts.{token_kept}
use Rattle.m11_asm_dump_laws.proofs.LineEnds.{kept_to_end}
use Rattle.m11_asm_dump_laws.proofs.ReadLines.{some_name}
use Rattle.m11_asm_dump_laws.proofs.Tokens.{Begins, Stops, between, name_begins, no_token, past, token_at, token_first}
use Rattle.m11_asm_dump_laws.proofs.Widths.{IsWhole}

-- ---- the name of a symbol

-- six characters spell a name, if a name's symbol does
spelled_by : (text : Bytes) (name : Name) (b : Bool) (found : Option Name) → is_counter text ≡ b → name_of (six_of text) ≡ found
    → name_symbol text ≡ Some (Ordinary name) → (is_counter text ≡ false) × (name_of (six_of text) ≡ Some name)
spelled_by text name true found counts is spelled =
    let e : Some Counter ≡ Some (Ordinary name) =
    sym (ap (λ b. if b then Some Counter else option_map Ordinary (name_of (six_of text))) counts) ∙ spelled in
    absurd (cc)
spelled_by text name false None counts is spelled =
    let e : None ≡ Some (Ordinary name) =
    sym (ap₂ (λ b n. if b then Some Counter else option_map Ordinary n) counts is) ∙ spelled in
    absurd (cc)
spelled_by text name false (Some found) counts is spelled =
    let e : Some (Ordinary found) ≡ Some (Ordinary name) =
    sym (ap₂ (λ b n. if b then Some Counter else option_map Ordinary n) counts is) ∙ spelled in
    let same : found ≡ name = cc in (counts, is ∙ ap Some same)

pub record HasName (symbol : Symbol) (text : Bytes) : Type 0 where
  pub is_text : is_name_text text ≡ true
  pub other : is_counter text ≡ false
  pub name : name_of (six_of text) ≡ Some symbol.name

pub name_of_symbol : (symbol : Symbol) → IsSpelled symbol → HasName symbol (bare_name (name_text symbol.name))
name_of_symbol symbol is =
    let text : Bytes = bare_name (name_text symbol.name) in
    let parts = spelled_by text symbol.name (is_counter text) (name_of (six_of text)) refl refl is.spelled in
    record { is_text = is.is_name; other = parts.0; name = parts.1 }

-- ---- the tokens of a line that is a label

colon_stops : (rest : Bytes) → Stops (0o72 ∷ rest)
colon_stops rest = record { name = refl; digits = refl; number = λ count. refl }

colon_begins : Begins sorts.Colon (0o72 ∷ []) []
unfolding first_piece
colon_begins = record { some = omega arith; is = refl }

module _ (line name : Bytes) (at : line ≡ name ++ 0o72 ∷ []) (is_name : is_name_text name ≡ true) (other : is_counter name ≡ false) where
  abbrev named : Lexeme
  named = token_at sorts.Name 0 name

  abbrev colon : Lexeme
  colon = token_at sorts.Colon (0 + length name) (0o72 ∷ [])

  abbrev final : ℕ
  final = 0 + length name + 1

  after_name : drop (0 + length name) line ≡ 0o72 ∷ []
  after_name = past line name (0o72 ∷ []) 0 at

  done : drop final line ≡ []
  done = past line (0o72 ∷ []) [] (0 + length name) after_name

  tokens_are : tokens_from line 0 ≡ named ∷ (colon ∷ [])
  tokens_are =
      token_first sorts.Name name (0o72 ∷ []) line 0 (name_begins name (0o72 ∷ []) is_name (colon_stops [])) at
      ∙ ap (λ ts. named ∷ ts) (token_first sorts.Colon (0o72 ∷ []) [] line (0 + length name) colon_begins after_name)
      ∙ ap (λ ts. named ∷ (colon ∷ ts)) (no_token line final done)

  -- the one label
  abbrev pub only : Label
  only = record { kind = label.Ordinary; name = record { start = 0; end = 0 + length name }; end = final }

  abbrev before_labels : Option Label → List Label
  before_labels found = elim found [ None ↦ [] | Some first ↦ first ∷ [] ]

  abbrev of_kind : LabelKind → Label
  of_kind kind = record { kind = kind; name = record { start = 0; end = 0 + length name }; end = final }

  pub labels_are : labels_at line ≡ only ∷ []
  labels_are =
      ap labels_in tokens_are
      ∙ ap (λ b. before_labels (if b then option_map of_kind (kind_of sorts.Name sorts.Colon name) else None))
      (eq-eqb (0 + length name) (0 + length name) refl)
      ∙ ap (λ b. before_labels (option_map of_kind (if b then None else Some label.Ordinary))) other

  pub body_is : body_of line ≡ bodies.Nothing
  body_is =
      ap (λ labels. body_in line (tokens_from line (end_of 0 labels))) labels_are ∙ ap (body_in line) (no_token line final done)

  none_skipped : has_skipped line ≡ false
  none_skipped =
      ap has_skipped at
      ∙ token_kept sorts.Name name (0o72 ∷ []) (name_begins name (0o72 ∷ []) is_name (colon_stops []))
      ∙ token_kept sorts.Colon (0o72 ∷ []) [] colon_begins

  pub label_kept : skipped_between line 0 final ≡ false
  label_kept = kept_to_end line line 0 final refl none_skipped done

  pub rest_kept : skipped_between line final (length line) ≡ false
  rest_kept = kept_to_end line [] final (length line) done refl (drop_all (length line) line (omega arith))

  pub text_is : 0 + length name ≡ length name
  text_is = omega arith

-- ---- the line

-- a line defines a name here and begins a block of local symbols, emits nothing, has no flag but those of unfolding, and sets no transfer
-- address
pub record Defines (map_ : Map) (table : Table) (given : UnfoldedLine) (name : Name) : Type 0 where
  pub pieces : pieces map_ table given ≡ []
  pub flags : flags map_ table given ≡ given.remarks.flags
  pub after : after_line map_ table given ≡ with_block (with_definition (Named name) (labelled table) table)
  pub transfer : line_transfer map_ table given ≡ None

module _ (map_ : Map) (table : Table) (given : UnfoldedLine) (symbol : Symbol) (is : IsSpelled symbol)
    (this : IsWhole given (bare_name (name_text symbol.name) ++ 0o72 ∷ []))
    (new : is_defined (Named symbol.name) table.definitions ≡ false) where
  abbrev text : Bytes
  text = bare_name (name_text symbol.name)

  abbrev line : Bytes
  line = given.live.line.text

  has : HasName symbol text
  has = name_of_symbol symbol is

  abbrev one : Label
  one = only line text this.text has.is_text has.other

  labels : labels_at line ≡ one ∷ []
  labels = labels_are line text this.text has.is_text has.other

  body : body_of line ≡ bodies.Nothing
  body = body_is line text this.text has.is_text has.other

  name_is : label_name line one ≡ Some symbol.name
  name_is =
      ap (λ t. name_of (six_of t)) (between line text (0o72 ∷ []) 0 this.text (some_name text has.is_text)) ∙ has.name

  -- the table with the name defined here
  abbrev defined : Table
  defined = with_block (with_definition (Named symbol.name) (labelled table) table)

  stands_is : stands table given ≡ defined
  stands_is =
      ap (with_labels line table) labels
      ∙ ap (with_name false table) name_is
      ∙ ap (λ b. if b then with_doubly_defined (Named symbol.name) table else defined) new

  operation_is : operation given.is_own given.arguments line ≡ does NoAction 0
  operation_is =
      ap (λ b. if b then does NoAction 0 else operation_of given.arguments line (body_of line)) this.own
      ∙ ap (operation_of given.arguments line) body

  emission_is : (stood : Table) → line_emission map_ stood given ≡ nothing 0
  unfolding line_emission
  emission_is stood = ap (λ o. emission_by map_ stood line o.action) operation_is

  pieces_are : pieces map_ table given ≡ []
  pieces_are =
      ap (λ e. pieces_from (section_name (stands table given))
      (put_location (stands table given) (operation given.is_own given.arguments line).action) e.contents) (emission_is (stands table given))

  labels_unflagged : labels_flags line table (one ∷ []) ≡ 0
  labels_unflagged =
      ap (λ n. bit_or (name_flags table n) 0) name_is ∙ ap (λ b. bit_or (if b then flag_M else 0) 0) new

  abbrev flags_by : Bool → Bool → Bool → ℕ → Bool → ℕ → ℕ → ℕ
  flags_by is_over_long outside skips labelled_ skips_after what emitted =
      bit_or (bit_or (bit_or (bit_or (flag_if is_over_long flag_L) (flag_if outside flag_A)) (flag_if skips flag_I)) labelled_)
      (bit_or (flag_if skips_after flag_I) (bit_or what (bit_or emitted given.remarks.flags)))

  flags_are : flags map_ table given ≡ given.remarks.flags
  flags_are =
      ap (λ e. flags_by given.live.line.is_over_long (has_outside (labels_at line)) (skipped_between line 0 (end_of 0 (labels_at line)))
      (labels_flags line table (labels_at line)) (skipped_between line (end_of 0 (labels_at line)) (known_end line (body_of line)))
      (operation given.is_own given.arguments line).flags e.flags) (emission_is (stands table given))
      ∙ ap (λ o. flags_by given.live.line.is_over_long (has_outside (labels_at line)) (skipped_between line 0 (end_of 0 (labels_at line)))
      (labels_flags line table (labels_at line)) (skipped_between line (end_of 0 (labels_at line)) (known_end line (body_of line))) o.flags 0)
      operation_is
      ∙ ap₂ (λ ls b. flags_by given.live.line.is_over_long (has_outside ls) (skipped_between line 0 (end_of 0 ls))
      (labels_flags line table ls) (skipped_between line (end_of 0 ls) (known_end line b)) 0 0) labels body
      ∙ ap₂ (λ l s. flags_by l false s (labels_flags line table (one ∷ [])) (skipped_between line one.end (length line)) 0 0) this.whole
      (label_kept line text this.text has.is_text has.other)
      ∙ ap₂ (λ n s. flags_by false false false n s 0 0) labels_unflagged (rest_kept line text this.text has.is_text has.other)
      ∙ or_zero_l _ ∙ or_zero_l _ ∙ or_zero_l _ ∙ or_zero_l given.remarks.flags

  moves_on : after_line map_ table given ≡ defined
  unfolding line_change
  moves_on =
      ap (λ t. changed map_ (line_change (firm_table t) given) t) stands_is
      ∙ ap (λ o. changed map_ (change_of (firm_table defined) line o.action) defined) operation_is

  transfer_is : line_transfer map_ table given ≡ None
  transfer_is = ap (λ o. transfer_by map_ (stands table given) o.action) operation_is

  pub label_defines : Defines map_ table given symbol.name
  label_defines = record { pieces = pieces_are; flags = flags_are; after = moves_on; transfer = transfer_is }
