-- The last line of a source: `.END` with an address, or alone.
use Rattle.std.proofs.Common.{◌≡◌, ◌∙◌, ℕ, ◌+◌, ◌%◌, ◌≤◌, ◌<◌, Bool, true, false, List, [], ◌∷◌, ◌++◌, length, drop, Option, Some, None, refl, sym, ap, ap₂, subst, arith, append-nil, codes}
use Rattle.std.specs.Prelude.{◌==◌, if◌then◌else◌}
use Rattle.std.specs.Int.RustNames.{bit_and}
use Rattle.std.specs.List.{AllByRecursion}
use Rattle.m11_base.specs.Devices.{Bytes}
use Rattle.m11_base.specs.NameCharacters.{six_of}
use Rattle.m11_base_disassembly.specs.Symbols.{address_text}
use Rattle.m11_base_disassembly.specs.declared.symbols.Symbol.{Symbol}
use Rattle.m11_scan.specs.Cutting.{text_between, tokens_from}
use Rattle.m11_scan.specs.Ends.{expression_end}
use Rattle.m11_scan.specs.ErrorFlags.{flag_I, flag_if}
use Rattle.m11_scan.specs.Line.{line_limit}
use Rattle.m11_scan.specs.Pieces.{first_piece}
use Rattle.m11_scan.specs.Skipped.{has_skipped}
use Rattle.m11_scan_expressions.specs.Expressions.{KnownSymbols, value}
use Rattle.m11_scan_expressions.specs.Quantities.{Quantity, absolute}
use Rattle.m11_scan_expressions.specs.Tokens.{Expression, expression, is_empty}
use Rattle.m11_scan_statements.specs.Labels.{labels_at}
use Rattle.m11_scan_statements.specs.Statements.{body_of}
use Rattle.m11_unfold_rules.specs.Unfolding.{UnfoldedLine}
use Rattle.m11_asm_rules.specs.Actions.{Transfer, does}
use Rattle.m11_asm_rules.specs.Changes.{Keeps}
use Rattle.m11_asm_rules.specs.Contents.{nothing}
use Rattle.m11_asm_rules.specs.Elements.{argument_flags}
use Rattle.m11_asm_rules.specs.Exports.{expression_flags, transfer}
use Rattle.m11_asm_rules.specs.Lines.{after_line, flags, pieces}
use Rattle.m11_asm_rules.specs.Meanings.{Map, known_at}
use Rattle.m11_asm_rules.specs.Operations.{operation_of}
use Rattle.m11_asm_rules.specs.Operators.{operator_named}
use Rattle.m11_asm_rules.specs.Sources.{line_transfer}
use Rattle.m11_asm_rules.specs.Tables.{Table, location}
use Rattle.m11_asm_rules.specs.declared.meanings.Context.TheVariants.{LocalOnly}
use Rattle.m11_asm_dump_laws.specs.Items.{end_text, start_of}
use Rattle.m11_asm_dump_laws.specs.Knowledge.{IsSpelled, KnowsNames}
use Rattle.m11_asm_dump_laws.specs.Operands.{address_written}
use Rattle.m11_asm_dump_laws.proofs.Addresses.{IsToken, address_token, address_value, term_sort}
use Rattle.m11_asm_dump_laws.proofs.ArgumentTexts.{address_kept, tab_kept}
use Rattle.m11_asm_dump_laws.proofs.Assembled.{operator_ending, yields_all}
use Rattle.m11_asm_dump_laws.proofs.LineEnds.{clean}
use Rattle.m11_asm_dump_laws.proofs.OperandTexts.{address_opens}
use Rattle.m11_asm_dump_laws.proofs.ReadLines.{does_by}
use Rattle.m11_asm_dump_laws.proofs.ReadOperands.{term_role}
use Rattle.m11_asm_dump_laws.proofs.ReadStatements.{Opens, body_named, labels_none}
use Rattle.m11_asm_dump_laws.proofs.Terms.{EndTerm, end_read, expression_read, first_tab_kept}
use Rattle.m11_asm_dump_laws.proofs.Tokens.{Stops, between, no_token, none_stops, past, tab_at}
use Rattle.m11_asm_dump_laws.proofs.Widths.{IsWhole}

-- a line emits nothing, has no flag but those of unfolding, changes nothing, and sets this transfer address
pub record EndsWith (map_ : Map) (table : Table) (given : UnfoldedLine) (address : Option Quantity) : Type 0 where
  pub pieces : pieces map_ table given ≡ []
  pub flags : flags map_ table given ≡ given.remarks.flags
  pub after : after_line map_ table given ≡ table
  pub transfer : line_transfer map_ table given ≡ address

-- the transfer address that a line with this expression sets
abbrev set_by : Map → Table → Expression → Option Quantity
set_by map_ table tokens = transfer map_ table tokens

-- ---- `.END` alone

alone_unlabelled : labels_at (codes "\t.END") ≡ []
unfolding first_piece
alone_unlabelled = refl

pub alone_body : body_of (codes "\t.END") ≡ operator_ending 5
unfolding first_piece
alone_body = refl

alone_acts : (given : UnfoldedLine) → operation_of given.arguments (codes "\t.END") (operator_ending 5) ≡ does (Transfer []) 0
unfolding first_piece
alone_acts given = refl

alone_ends : (map_ : Map) (table : Table) (given : UnfoldedLine) → IsWhole given (codes "\t.END") → EndsWith map_ table given None
alone_ends map_ table given this =
    let made = yields_all map_ table given this.whole this.own (operator_ending 5) (Transfer []) [] Keeps
    (ap labels_at this.text ∙ alone_unlabelled) (ap body_of this.text ∙ alone_body)
    (ap (λ t. operation_of given.arguments t (operator_ending 5)) this.text ∙ alone_acts given)
    (ap (λ b. flag_if b flag_I) (first_tab_kept given.live.line.text (codes ".END") this.text)) refl refl refl in
    record { pieces = made.pieces; flags = made.flags; after = made.after; transfer = made.transfer }

-- ---- `.END` and an address

tab_stops : (rest : Bytes) → Stops (9 ∷ rest)
tab_stops rest = record { name = refl; digits = refl; number = λ count. refl }

module _ (symbols : List Symbol) (spelled : AllByRecursion IsSpelled symbols) (line : Bytes) (address : ℕ)
    (at : line ≡ 9 ∷ (codes ".END" ++ 9 ∷ address_text symbols address)) where
  abbrev text : Bytes
  text = address_text symbols address

  abbrev rest : Bytes
  rest = 9 ∷ text

  one : IsToken text (address_written symbols address)
  one = address_token symbols spelled address

  abbrev final : ℕ
  final = 6 + length text

  after_tab : drop 1 line ≡ codes ".END" ++ rest
  after_tab = past line (9 ∷ []) (codes ".END" ++ rest) 0 at

  after_name : drop 5 line ≡ rest
  after_name = past line (codes ".END") rest 1 after_tab

  begun : drop 6 line ≡ text ++ []
  begun = past line (9 ∷ []) text 5 after_name ∙ sym (append-nil text)

  done : drop final line ≡ []
  done = past line text [] 6 begun

  same : tokens_from line 5 ≡ tokens_from line 6
  same = tab_at line text 5 after_name

  opens : Opens (tokens_from line 5)
  opens = subst Opens (sym same) (address_opens symbols spelled line 6 address [] none_stops begun)

  pub end_unlabelled : labels_at line ≡ []
  end_unlabelled = labels_none (codes ".END") line rest refl refl at (tab_stops text) opens

  pub end_body : body_of line ≡ operator_ending 5
  end_body = body_named (codes ".END") line rest refl refl at (tab_stops text) opens

  pub end_named : text_between line 1 5 ≡ codes ".END"
  end_named = between line (codes ".END") rest 1 after_tab (omega arith)

  ends : EndTerm (tokens_from line final)
  ends = subst EndTerm (sym (no_token line final done)) refl

  address_is : expression line 5 ≡ address_written symbols address
  address_is =
      expression_read line 5 6 same (term_sort one.is_name) text [] (one.begins [] none_stops) (term_role one.is_name) begun ends
      ∙ sym one.written

  address_ends : expression_end line 5 ≡ final
  address_ends = end_read line 5 6 same (term_sort one.is_name) text [] (one.begins [] none_stops) (term_role one.is_name) begun ends

  cleaned : argument_flags line 5 final ≡ 0
  cleaned =
      clean line rest 5 after_name
      (tab_kept text ∙ ap has_skipped (sym (append-nil text)) ∙ address_kept symbols spelled address [] none_stops) final done

  pub end_acts : (given : UnfoldedLine)
      → operation_of given.arguments line (operator_ending 5) ≡ does (Transfer (address_written symbols address)) 0
  end_acts given =
      ap (λ t. does_by given.arguments line 1 5 (operator_named (six_of t))) end_named
      ∙ ap₂ (λ e n. does (Transfer e) (argument_flags line 5 n)) address_is address_ends
      ∙ ap (does (Transfer (address_written symbols address))) cleaned

  some_written : is_empty (address_written symbols address) ≡ false
  some_written = ap is_empty one.written

  module _ (map_ : Map) (table : Table) (below : address < 65536)
      (knows : KnowsNames symbols (known_at map_ LocalOnly table (location table))) where
    pub transfer_is : transfer map_ table (address_written symbols address) ≡ Some (absolute address 0)
    transfer_is =
        ap (λ b. if b then None else Some (value (known_at map_ LocalOnly table (location table)) (address_written symbols address))) some_written
        ∙ ap Some (address_value symbols spelled address below (known_at map_ LocalOnly table (location table)) knows)

address_ending : (symbols : List Symbol) (spelled : AllByRecursion IsSpelled symbols) (map_ : Map) (table : Table) (given : UnfoldedLine)
    (address : ℕ) → address < 65536 → KnowsNames symbols (known_at map_ LocalOnly table (location table))
    → IsWhole given (9 ∷ (codes ".END" ++ 9 ∷ address_text symbols address))
    → EndsWith map_ table given (Some (absolute address 0))
address_ending symbols spelled map_ table given address below knows this =
    let line : Bytes = given.live.line.text in
    let is = transfer_is symbols spelled line address this.text map_ table below knows in
    let made = yields_all map_ table given this.whole this.own (operator_ending 5) (Transfer (address_written symbols address)) [] Keeps
    (end_unlabelled symbols spelled line address this.text) (end_body symbols spelled line address this.text)
    (end_acts symbols spelled line address this.text given)
    (ap (λ b. flag_if b flag_I) (first_tab_kept line (codes ".END" ++ 9 ∷ address_text symbols address) this.text))
    (ap (λ q. nothing (expression_flags q)) is) refl refl in
    record { pieces = made.pieces; flags = made.flags; after = made.after; transfer = made.transfer ∙ is }

-- ---- the last line

ends_by : (symbols : List Symbol) (spelled : AllByRecursion IsSpelled symbols) (map_ : Map) (table : Table) (given : UnfoldedLine) (start : ℕ)
    → start < 65536 → KnowsNames symbols (known_at map_ LocalOnly table (location table)) → (b : Bool)
    → IsWhole given (codes "\t.END" ++ (if b then codes "\t" ++ address_text symbols start else []))
    → EndsWith map_ table given (if b then Some (absolute start 0) else None)
ends_by symbols spelled map_ table given start below knows true this = address_ending symbols spelled map_ table given start below knows this
ends_by symbols spelled map_ table given start below knows false this = alone_ends map_ table given this

pub end_ends : (symbols : List Symbol) → AllByRecursion IsSpelled symbols → (map_ : Map) (table : Table) (given : UnfoldedLine) (start : ℕ)
    → start < 65536 → KnowsNames symbols (known_at map_ LocalOnly table (location table)) → IsWhole given (end_text symbols start)
    → EndsWith map_ table given (start_of start)
end_ends symbols spelled map_ table given start below knows this =
    ends_by symbols spelled map_ table given start below knows (start % 2 == 0) this

short_by : (symbols : List Symbol) → AllByRecursion IsSpelled symbols → (start : ℕ) (b : Bool)
    → length (codes "\t.END" ++ (if b then codes "\t" ++ address_text symbols start else [])) ≤ line_limit
short_by symbols spelled start true = let short = (address_token symbols spelled start).short in omega (arith, short)
short_by symbols spelled start false = omega arith

pub end_short : (symbols : List Symbol) → AllByRecursion IsSpelled symbols → (start : ℕ) → length (end_text symbols start) ≤ line_limit
end_short symbols spelled start = short_by symbols spelled start (start % 2 == 0)
