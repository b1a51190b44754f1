-- A line of data in a disassembly is assembled as its word or its byte.
use Rattle.std.proofs.Common.{◌≡◌, ◌∙◌, ℕ, ◌+◌, ◌/◌, ◌%◌, ◌<◌, false, not, ◌||◌, [], ◌∷◌, ◌++◌, length, map, drop, refl, sym, ap, ap₂, subst, arith, append-nil, codes}
use Rattle.std.specs.Prelude.{◌==◌}
use Rattle.std.specs.Int.RustNames.{bit_or}
use Rattle.m11_base.specs.Devices.{Bytes}
use Rattle.m11_base.specs.NameCharacters.{six_of}
use Rattle.m11_base_disassembly.specs.Numbers.{number_text}
use Rattle.m11_base_disassembly.specs.Statements as statements
use Rattle.m11_asm_dump_laws.specs.Texts.{line_text}
use Rattle.m11_scan.specs.Cutting.{tokens_from}
use Rattle.m11_scan.specs.Ends.{expression_end}
use Rattle.m11_scan.specs.ErrorFlags.{flag_T, flag_if}
use Rattle.m11_scan.specs.declared.sort.Sort.TheVariants as sorts
use Rattle.m11_scan_expressions.specs.Tokens.{Expression, expression}
use Rattle.m11_unfold_rules.specs.Immediate.{after_comma, column_after_comma}
use Rattle.m11_unfold_rules.specs.Unfolding.{UnfoldedLine}
use Rattle.m11_asm_rules.specs.Actions.{ByteList, Store, WordList, does}
use Rattle.m11_asm_rules.specs.Alignment.{location_for}
use Rattle.m11_asm_rules.specs.Changes.{Counts}
use Rattle.m11_asm_rules.specs.Contents.{byte, emission, fixed_byte, fixed_word, followed_by, nothing, with_flags, word}
use Rattle.m11_asm_rules.specs.Elements.{ListAt, argument_flags, elements_at, elements_by, elements_within}
use Rattle.m11_asm_rules.specs.Locations.{Steps}
use Rattle.m11_asm_rules.specs.Meanings.{Map, known_at}
use Rattle.m11_asm_rules.specs.Operators.{operator_named}
use Rattle.m11_asm_rules.specs.Storage.{bytes_from, words_from}
use Rattle.m11_asm_rules.specs.Tables.{Table, location}
use Rattle.m11_asm_rules.specs.declared.meanings.Context.TheVariants.{MayBeGlobal}
use Rattle.m11_asm_dump_laws.specs.Knowledge.{ReadsAsMeant}
use Rattle.m11_asm_dump_laws.specs.Lines.{Assembles, IsLine}
use Rattle.m11_asm_dump_laws.specs.Operands.{number_written}
use Rattle.m11_asm_dump_laws.proofs.FirstTokens.{digits_begin}
use Rattle.m11_asm_dump_laws.proofs.Assembled.{assembles}
use Rattle.m11_asm_dump_laws.proofs.Known.{table_knows}
use Rattle.m11_asm_dump_laws.proofs.LineEnds.{clean}
use Rattle.m11_asm_dump_laws.proofs.OperandTexts.{digits_kept, number_opens, spaced, spaces_first, spaces_kept, spaces_stop}
use Rattle.m11_asm_dump_laws.proofs.ReadLines.{does_by, even_flags, even_gap, even_place}
use Rattle.m11_asm_dump_laws.proofs.ReadStatements.{Opens, body_named, labels_none}
use Rattle.m11_asm_dump_laws.proofs.Terms.{EndTerm, end_read, expression_read}
use Rattle.m11_asm_dump_laws.proofs.Widths.{byte_width, whole_line, word_width}
use Rattle.m11_asm_dump_laws.proofs.Tokens.{between, no_token, none_stops, past}
use Rattle.m11_asm_dump_laws.proofs.Quantities.{number_value}

-- two spaces are between the name of a directive and its number
abbrev pub gap : Bytes
gap = 0o40 ∷ []

-- a list of one number, after the name of a directive
module _ (line name : Bytes) (number : ℕ) (at : line ≡ 9 ∷ (name ++ spaced gap (number_text number))) where
  abbrev start : ℕ
  start = 1 + length name

  abbrev column : ℕ
  column = start + 1 + 1

  abbrev final : ℕ
  final = column + length (number_text number)

  abbrev digits : Bytes
  digits = number_text number

  left : drop start line ≡ spaced gap digits
  left = past line name (spaced gap digits) 1 (past line (9 ∷ []) (name ++ spaced gap digits) 0 at)

  begun : drop column line ≡ digits
  begun = past line (0o40 ∷ []) digits (start + 1) (past line gap (0o40 ∷ digits) start left)

  written : drop column line ≡ digits ++ []
  written = begun ∙ sym (append-nil digits)

  done : drop final line ≡ []
  done = past line digits [] column written

  same : tokens_from line start ≡ tokens_from line column
  same = spaces_first gap digits line start refl left

  ends : EndTerm (tokens_from line final)
  ends = subst EndTerm (sym (no_token line final done)) refl

  element_is : expression line start ≡ number_written number
  element_is = expression_read line start column same sorts.Number digits [] (digits_begin number [] none_stops) refl written ends

  element_ends : expression_end line start ≡ final
  element_ends = end_read line start column same sorts.Number digits [] (digits_begin number [] none_stops) refl written ends

  -- the list that has this number alone
  abbrev alone : ListAt Expression
  alone = record { list = number_written number ∷ []; end = final }

  elements_are : elements_at line start ≡ alone
  elements_are =
      let more : ℕ → ListAt Expression = λ next. elements_within (length line) line next in
      ap (λ e. elements_by more e (expression_end line start) (column_after_comma line (expression_end line start))) element_is
      ∙ ap (λ n. elements_by more (number_written number) n (column_after_comma line n)) element_ends
      ∙ ap (λ tokens. elements_by more (number_written number) final (after_comma tokens)) (no_token line final done)

  cleaned : argument_flags line start final ≡ 0
  cleaned = clean line (spaced gap digits) start left (spaces_kept gap digits refl ∙ digits_kept number) final done

  pub opens : Opens (tokens_from line start)
  opens = subst Opens (sym same) (number_opens line column number [] none_stops written)

odd_place : (here : ℕ) → here < 65536 → location_for false here ≡ here
odd_place here within = omega arith

low_half : (number : ℕ) → number < 256 → number / 256 ≡ 0
low_half number small = omega arith

module _ (map_ : Map) (table : Table) (reads : ReadsAsMeant table) (within : location table < 65536) (given : UnfoldedLine) where
  abbrev text : Bytes
  text = given.live.line.text

  abbrev here : ℕ
  here = location table

  pub word_assembled : (number : ℕ) → number < 65536 → here % 2 ≡ 0 → IsLine given (line_text [] (statements.DataWord number))
      → Assembles map_ table given (map fixed_word (number ∷ []))
  word_assembled number below even line_ =
      let this = whole_line given (line_text [] (statements.DataWord number)) (word_width [] tt number) line_ in
      let name : Bytes = codes ".WORD" in
      let one : Expression = number_written number in
      let rest : Bytes = spaced gap (number_text number) in
      let stop = spaces_stop gap (number_text number) refl in
      let opened = opens text name number this.text in
      assembles map_ table given (name ++ rest) this.text this.whole this.own 6 (Store (WordList (one ∷ []))) (map fixed_word (number ∷ []))
      (labels_none name text rest refl refl this.text stop opened) (body_named name text rest refl refl this.text stop opened)
      (ap (λ t. does_by given.arguments text 1 6 (operator_named (six_of t))) (between text name rest 1 (past text (9 ∷ []) (name ++ rest) 0 this.text) (omega arith))
      ∙ ap (λ l. does (Store (WordList l.list)) (argument_flags text 6 l.end)) (elements_are text name number this.text)
      ∙ ap (λ f. does (Store (WordList (one ∷ []))) f) (cleaned text name number this.text))
      (ap₂ (λ f l. with_flags f (words_from map_ table l (one ∷ []))) (even_flags here even) (even_place here even within)
      ∙ ap (λ q. with_flags 0 (followed_by (word table false here q) (nothing 0)))
      (number_value (known_at map_ MayBeGlobal table here) number (table_knows table reads here map_ MayBeGlobal) below))
      (even_place here even within) (ap (λ n. Counts (Steps n)) (even_gap here 2 even)) refl

  pub byte_assembled : (number : ℕ) → number < 256 → IsLine given (line_text [] (statements.DataByte number))
      → Assembles map_ table given (fixed_byte number ∷ [])
  byte_assembled number small line_ =
      let this = whole_line given (line_text [] (statements.DataByte number)) (byte_width [] tt number) line_ in
      let name : Bytes = codes ".BYTE" in
      let one : Expression = number_written number in
      let rest : Bytes = spaced gap (number_text number) in
      let stop = spaces_stop gap (number_text number) refl in
      let opened = opens text name number this.text in
      assembles map_ table given (name ++ rest) this.text this.whole this.own 6 (Store (ByteList (one ∷ []))) (fixed_byte number ∷ [])
      (labels_none name text rest refl refl this.text stop opened) (body_named name text rest refl refl this.text stop opened)
      (ap (λ t. does_by given.arguments text 1 6 (operator_named (six_of t))) (between text name rest 1 (past text (9 ∷ []) (name ++ rest) 0 this.text) (omega arith))
      ∙ ap (λ l. does (Store (ByteList l.list)) (argument_flags text 6 l.end)) (elements_are text name number this.text)
      ∙ ap (λ f. does (Store (ByteList (one ∷ []))) f) (cleaned text name number this.text))
      (ap (λ l. with_flags 0 (bytes_from map_ table l (one ∷ []))) (odd_place here within)
      ∙ ap (λ q. with_flags 0 (followed_by (byte table here q) (nothing 0)))
      (number_value (known_at map_ MayBeGlobal table here) number (table_knows table reads here map_ MayBeGlobal) (omega arith))
      ∙ ap (λ h. emission (fixed_byte number ∷ []) (bit_or 0 (bit_or (bit_or 0 (flag_if (not (h == 0 || h == 0o377)) flag_T)) 0)))
      (low_half number small))
      (odd_place here within) refl refl
