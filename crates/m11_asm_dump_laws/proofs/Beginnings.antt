-- The beginning of a source: `.ASECT`, which makes a table under which the lines of a disassembly mean what they say, and `.=` with an address.
use Rattle.std.proofs.Common.{◌≡◌, ◌∙◌, ℕ, ◌+◌, ◌<◌, false, not, [], ◌∷◌, ◌++◌, length, drop, refl, sym, ap, ap₂, subst, arith, append-nil, codes}
use Rattle.std.specs.Prelude.{if◌then◌else◌, unwrap_or, None, Some}
use Rattle.std.specs.Int.RustNames.{bit_or}
use Rattle.std.proofs.lemmas.Bool.{ne_eqb}
use Rattle.std.proofs.lemmas.List.{drop_all}
use Rattle.m11_base.specs.Devices.{Bytes}
use Rattle.m11_base.specs.Names.{absolute_name}
use Rattle.m11_base.specs.Rad50.{alphabet, code_of}
use Rattle.m11_base.specs.declared.operand.Register.TheVariants.{R0, R1, R2, R3, R4, R5, Sp, Pc}
use Rattle.m11_base_disassembly.specs.Numbers.{number_text}
use Rattle.m11_base_disassembly.specs.Texts.{prefixed}
use Rattle.m11_scan.specs.Cutting.{Lexeme, tokens_from}
use Rattle.m11_scan.specs.Ends.{expression_end}
use Rattle.m11_scan.specs.ErrorFlags.{flag_A, flag_I, flag_Q, flag_if}
use Rattle.m11_scan.specs.Pieces.{first_piece}
use Rattle.m11_scan.specs.Skipped.{has_skipped}
use Rattle.m11_scan.specs.declared.sort.Form.TheVariants.{Cut}
use Rattle.m11_scan.specs.declared.sort.Sort.TheVariants as sorts
use Rattle.m11_scan_expressions.specs.LeftOvers.{has_token}
use Rattle.m11_scan_expressions.specs.Quantities.{Quantity}
use Rattle.m11_scan_expressions.specs.Tokens.{Expression, expression}
use Rattle.m11_scan_statements.specs.Bodies.{body_in}
use Rattle.m11_scan_statements.specs.Bodies as reading
use Rattle.m11_scan_statements.specs.Labels.{end_of, labels_at, labels_in}
use Rattle.m11_scan_statements.specs.Statements.{body_of}
use Rattle.m11_scan_statements.specs.declared.bodies.Body.TheVariants as bodies
use Rattle.m11_unfold_rules.specs.Unfolding.{UnfoldedLine}
use Rattle.m11_asm_rules.specs.Actions.{Select, SetCounter, does}
use Rattle.m11_asm_rules.specs.Assigning.{counter_change, counter_flags}
use Rattle.m11_asm_rules.specs.Changes.{Counts, Keeps, Selects, with_section}
use Rattle.m11_asm_rules.specs.Contents.{nothing, register_flags}
use Rattle.m11_asm_rules.specs.Lines.{after_line}
use Rattle.m11_asm_rules.specs.Locations.{Goes}
use Rattle.m11_asm_rules.specs.Meanings.{Map, firm_known}
use Rattle.m11_asm_rules.specs.Operations.{operation_of}
use Rattle.m11_asm_rules.specs.Relocations.{is_here}
use Rattle.m11_asm_rules.specs.Sections.{of_absolute}
use Rattle.m11_asm_rules.specs.Tables.{Table, firm_table, first_table, location, section_name}
use Rattle.m11_asm_dump_laws.specs.Knowledge.{ReadsAsMeant}
use Rattle.m11_asm_dump_laws.specs.Lines.{HasCounter, IsLine}
use Rattle.m11_asm_dump_laws.specs.Operands.{number_written}
use Rattle.m11_asm_dump_laws.proofs.ArgumentTexts.{tab_kept, token_kept}
use Rattle.m11_asm_dump_laws.proofs.Assembled.{Yields, operator_ending, yields}
use Rattle.m11_asm_dump_laws.proofs.Digits.{AreOctal, number_width, text_octal}
use Rattle.m11_asm_dump_laws.proofs.FirstTokens.{digits_begin}
use Rattle.m11_asm_dump_laws.proofs.Known.{firm_knows, firm_reads}
use Rattle.m11_asm_dump_laws.proofs.LineEnds.{kept_to_end}
use Rattle.m11_asm_dump_laws.proofs.OperandTexts.{digits_kept}
use Rattle.m11_asm_dump_laws.proofs.Quantities.{number_value}
use Rattle.m11_asm_dump_laws.proofs.Terms.{EndTerm, end_read, expression_read, first_tab_kept, nothing_skipped}
use Rattle.m11_asm_dump_laws.proofs.Tokens.{Begins, Stops, name_begins, no_token, none_stops, past, tab_first, token_at, token_first}
use Rattle.m11_asm_dump_laws.proofs.Widths.{IsWhole, whole_line}

-- ---- `.ASECT`

-- the table after `.ASECT` as the first line
abbrev pub absolute_table : Table
absolute_table = with_section absolute_name of_absolute first_table

asect_unlabelled : labels_at (codes "\t.ASECT") ≡ []
unfolding first_piece
asect_unlabelled = refl

pub asect_body : body_of (codes "\t.ASECT") ≡ operator_ending 7
unfolding first_piece
asect_body = refl

asect_acts : (given : UnfoldedLine)
    → operation_of given.arguments (codes "\t.ASECT") (operator_ending 7) ≡ does (Select absolute_name of_absolute []) 0
unfolding first_piece
asect_acts given = refl

asect_whole : (map_ : Map) (given : UnfoldedLine) → IsWhole given (codes "\t.ASECT")
    → Yields map_ first_table given [] (Selects absolute_name of_absolute)
unfolding code_of alphabet
asect_whole map_ given this =
    yields map_ first_table given this.whole this.own (operator_ending 7) (Select absolute_name of_absolute []) []
    (Selects absolute_name of_absolute) (ap labels_at this.text ∙ asect_unlabelled) (ap body_of this.text ∙ asect_body)
    (ap (λ t. operation_of given.arguments t (operator_ending 7)) this.text ∙ asect_acts given)
    (ap (λ b. flag_if b flag_I) (first_tab_kept given.live.line.text (codes ".ASECT") this.text)) refl refl refl refl

pub asect_yields : (map_ : Map) (given : UnfoldedLine) → IsLine given (codes "\t.ASECT")
    → Yields map_ first_table given [] (Selects absolute_name of_absolute)
asect_yields map_ given this = asect_whole map_ given (whole_line given (codes "\t.ASECT") (omega arith) this)

pub absolute_reads : ReadsAsMeant absolute_table
unfolding code_of alphabet
absolute_reads = record {
  section = refl;
  radix = refl;
  registers = elim [ R0 ↦ refl | R1 ↦ refl | R2 ↦ refl | R3 ↦ refl | R4 ↦ refl | R5 ↦ refl | Sp ↦ refl | Pc ↦ refl ];
  once = λ register. refl;
}

pub absolute_counts : HasCounter absolute_table
unfolding code_of alphabet
absolute_counts = omega arith

pub absolute_section : section_name absolute_table ≡ absolute_name
unfolding code_of alphabet
absolute_section = refl

pub asect_reads : (map_ : Map) (given : UnfoldedLine) → IsLine given (codes "\t.ASECT") → ReadsAsMeant (after_line map_ first_table given)
asect_reads map_ given this = subst ReadsAsMeant (sym (asect_yields map_ given this).after) absolute_reads

-- ---- `.=` with an address

pub equals_stops : (rest : Bytes) → Stops (0o75 ∷ rest)
equals_stops rest = record { name = refl; digits = refl; number = λ count. refl }

pub equals_begins : (digits : Bytes) → AreOctal digits → Begins sorts.Equals (0o75 ∷ []) digits
unfolding first_piece
equals_begins [] all = record { some = omega arith; is = refl }
equals_begins (digit ∷ digits) all =
    let other : digit ≡ 0o75 → ⊥ = λ e. absurd (omega (arith, all.0.1, e)) in record {
      some = omega arith;
      is = ap (λ b. if b then record { form = Cut sorts.TwoEquals; length = 2 } else record { form = Cut sorts.Equals; length = 1 })
          (ne_eqb digit 0o75 other);
    }

module _ (line : Bytes) (address : ℕ) (at : line ≡ prefixed (codes "\t.=") address) where
  abbrev digits : Bytes
  digits = number_text address

  abbrev point : Lexeme
  point = token_at sorts.Name 1 (0o56 ∷ [])

  abbrev equals : Lexeme
  equals = token_at sorts.Equals 2 (0o75 ∷ [])

  abbrev final : ℕ
  final = 3 + length digits

  after_tab : drop 1 line ≡ 0o56 ∷ (0o75 ∷ digits)
  after_tab = past line (9 ∷ []) (0o56 ∷ (0o75 ∷ digits)) 0 at

  after_point : drop 2 line ≡ 0o75 ∷ digits
  after_point = past line (0o56 ∷ []) (0o75 ∷ digits) 1 after_tab

  after_equals : drop 3 line ≡ digits
  after_equals = past line (0o75 ∷ []) digits 2 after_point

  written : drop 3 line ≡ digits ++ []
  written = after_equals ∙ sym (append-nil digits)

  done : drop final line ≡ []
  done = past line digits [] 3 written

  tokens_are : tokens_from line 0 ≡ point ∷ (equals ∷ tokens_from line 3)
  tokens_are =
      tab_first line (0o56 ∷ (0o75 ∷ digits)) at
      ∙ token_first sorts.Name (0o56 ∷ []) (0o75 ∷ digits) line 1 (name_begins (0o56 ∷ []) (0o75 ∷ digits) refl (equals_stops digits)) after_tab
      ∙ ap (λ ts. point ∷ ts)
      (token_first sorts.Equals (0o75 ∷ []) digits line 2 (equals_begins digits (text_octal address)) after_point)

  set_unlabelled : labels_at line ≡ []
  set_unlabelled = ap labels_in tokens_are

  pub set_body : body_of line ≡ bodies.SetCounter 3
  set_body =
      ap (λ labels. body_in line (tokens_from line (end_of 0 labels))) set_unlabelled
      ∙ ap (body_in line) tokens_are
      ∙ ap (λ b. unwrap_or (if b then None else Some (bodies.SetCounter 3)) (reading.operation point)) (nothing_skipped line 2)

  ends : EndTerm (tokens_from line final)
  ends = subst EndTerm (sym (no_token line final done)) refl

  address_is : expression line 3 ≡ number_written address
  address_is = expression_read line 3 3 refl sorts.Number digits [] (digits_begin address [] none_stops) refl written ends

  address_ends : expression_end line 3 ≡ final
  address_ends = end_read line 3 3 refl sorts.Number digits [] (digits_begin address [] none_stops) refl written ends

  set_acts : (given : UnfoldedLine) → operation_of given.arguments line (bodies.SetCounter 3) ≡ does (SetCounter (number_written address)) 0
  set_acts given =
      ap₂ (λ e n. does (SetCounter e) (flag_if (has_token (tokens_from line n)) flag_Q)) address_is address_ends
      ∙ ap (λ ts. does (SetCounter (number_written address)) (flag_if (has_token ts) flag_Q)) (no_token line final done)

  set_kept : has_skipped line ≡ false
  set_kept =
      ap has_skipped at
      ∙ tab_kept (0o56 ∷ (0o75 ∷ digits))
      ∙ token_kept sorts.Name (0o56 ∷ []) (0o75 ∷ digits) (name_begins (0o56 ∷ []) (0o75 ∷ digits) refl (equals_stops digits))
      ∙ token_kept sorts.Equals (0o75 ∷ []) digits (equals_begins digits (text_octal address))
      ∙ digits_kept address

module _ (map_ : Map) (table : Table) (reads : ReadsAsMeant table) (given : UnfoldedLine) (address : ℕ) (below : address < 65536) where
  abbrev tokens : Expression
  tokens = number_written address

  set_emits : nothing (counter_flags table tokens) ≡ nothing 0
  set_emits =
      ap (λ (q : Quantity). nothing (bit_or q.flags (bit_or (register_flags q.kind) (if is_here table q.kind then 0 else flag_A))))
      (number_value (firm_known table (location table)) address (firm_knows table reads (location table)) below)
      ∙ ap (λ b. nothing (if not b then 0 else flag_A)) reads.section

  set_changes : counter_change (firm_table table) tokens ≡ Counts (Goes address)
  set_changes =
      let firm = firm_table table in
      ap (λ (q : Quantity). if is_here firm q.kind then Counts (Goes q.number) else Keeps)
      (number_value (firm_known firm (location firm)) address (firm_knows firm (firm_reads table reads) (location firm)) below)
      ∙ ap (λ b. if not b then Counts (Goes address) else Keeps) reads.section

  set_whole : IsWhole given (prefixed (codes "\t.=") address) → Yields map_ table given [] (Counts (Goes address))
  set_whole this =
      let line : Bytes = given.live.line.text in
      yields map_ table given this.whole this.own (bodies.SetCounter 3) (SetCounter tokens) [] (Counts (Goes address))
      (set_unlabelled line address this.text) (set_body line address this.text) (set_acts line address this.text given)
      (ap (λ b. flag_if b flag_I)
      (kept_to_end line line 0 (length line) refl (set_kept line address this.text) (drop_all (length line) line (omega arith))))
      set_emits refl set_changes refl

  pub set_yields : IsLine given (prefixed (codes "\t.=") address) → Yields map_ table given [] (Counts (Goes address))
  set_yields this =
      let size = number_width address in
      set_whole (whole_line given (prefixed (codes "\t.=") address) (omega (arith, size)) this)
