-- Unfolding leaves the lines of a source alone, up to `.END`, which ends it.
use Rattle.std.proofs.Common.{◌≡◌, ◌∙◌, ℕ, ◌+◌, ◌≤◌, Bool, true, false, List, [], ◌∷◌, ◌++◌, length, map, Option, Some, None, refl, sym, ap, subst, arith, append_assoc, codes}
use Rattle.std.specs.Prelude.{◌==◌, ◌%◌, if◌then◌else◌}
use Rattle.std.specs.List.{AllByRecursion}
use Rattle.std.proofs.lemmas.List.{length-append, map-append, take_all}
use Rattle.m11_base.specs.Devices.{Bytes}
use Rattle.m11_base.specs.NameCharacters.{six_of}
use Rattle.m11_base_disassembly.specs.Instructions.{statement_of, whole_row}
use Rattle.m11_base_disassembly.specs.Numbers.{number_text}
use Rattle.m11_base_disassembly.specs.Statements.{DataByte}
use Rattle.m11_base_disassembly.specs.Symbols.{address_text}
use Rattle.m11_base_disassembly.specs.Texts.{prefixed}
use Rattle.m11_base_disassembly.specs.declared.symbols.Symbol.{Symbol}
use Rattle.m11_scan.specs.Line.{SourceLine, line_limit, line_of}
use Rattle.m11_scan_statements.specs.Statements.{body_of}
use Rattle.m11_scan_statements.specs.declared.bodies.Body.{Body}
use Rattle.m11_unfold_bodies.specs.Conditions.{no_conditions}
use Rattle.m11_unfold_rules.specs.Acting.{Foreign, Operation, OwnDirective, operation}
use Rattle.m11_unfold_rules.specs.Directives.{operator_in}
use Rattle.m11_unfold_rules.specs.declared.directives.Directive.TheVariants as word
use Rattle.m11_asm_dump_laws.specs.Items.{Assigned, Item, Labelled, MovedTo, Noted, Shows, ShowsByte, after_item, all_defined, end_text, item_text, source_of, symbol_text, texts_of}
use Rattle.m11_asm_dump_laws.specs.Knowledge.{IsSpelled}
use Rattle.m11_asm_dump_laws.specs.Texts.{line_text}
use Rattle.m11_asm_dump_laws.proofs.Addresses.{address_token, bare_short}
use Rattle.m11_asm_dump_laws.proofs.AssignLines.{assigns}
use Rattle.m11_asm_dump_laws.proofs.Digits.{number_width}
use Rattle.m11_asm_dump_laws.proofs.EndLines.{alone_body, end_body, end_named}
use Rattle.m11_asm_dump_laws.proofs.EndedSources.{AreEnded, IsEnd, ended_with}
use Rattle.m11_asm_dump_laws.proofs.LabelLines.{HasName, body_is, name_of_symbol}
use Rattle.m11_asm_dump_laws.proofs.LeftAlone.{asect_foreign, by_operator, byte_foreign, end_is_own, set_foreign, word_foreign}
use Rattle.m11_asm_dump_laws.proofs.NoteLines.{no_body}
use Rattle.m11_asm_dump_laws.proofs.PlainSources.{IsLeft, left_alone, statement_width}
use Rattle.m11_asm_dump_laws.proofs.RowNames.{row_padded}
use Rattle.m11_asm_dump_laws.proofs.Widths.{byte_width}

-- a line that isn't too long has the operation of its whole text
whole_end : (text : Bytes) → length text ≤ line_limit → operation no_conditions [] text ≡ OwnDirective word.End 5
    → operation no_conditions [] (line_of text).text ≡ OwnDirective word.End 5
whole_end text most is = ap (operation no_conditions []) (take_all line_limit text most) ∙ is

module _ (symbols : List Symbol) (spelled : AllByRecursion IsSpelled symbols) where
  label_left : (symbol : Symbol) → IsSpelled symbol → IsLeft (line_of (symbol_text symbol ++ codes ":"))
  label_left symbol is =
      let text : Bytes = symbol_text symbol in
      let has = name_of_symbol symbol is in
      let size = length-append text (codes ":") in
      let short = bare_short symbol in
      left_alone (text ++ codes ":") (omega (arith, size, short))
      (ap (λ b. by_operator no_conditions (text ++ codes ":") (operator_in b)) (body_is (text ++ codes ":") text refl has.is_text has.other))

  assigned_left : (symbol : Symbol) → IsSpelled symbol → IsLeft (line_of (symbol_text symbol ++ codes "=" ++ number_text symbol.value))
  assigned_left symbol is =
      let text : Bytes = symbol_text symbol in
      let line : Bytes = text ++ 0o75 ∷ number_text symbol.value in
      let has = name_of_symbol symbol is in
      let size = length-append text (0o75 ∷ number_text symbol.value) in
      let short = bare_short symbol in
      let digits = number_width symbol.value in
      let P : Bytes → Type 0 = λ l. IsLeft (line_of l) in
      subst P (sym (append_assoc text (codes "=") (number_text symbol.value)))
      (left_alone line (omega (arith, size, short, digits))
      (ap (λ b. by_operator no_conditions line (operator_in b)) (assigns line text symbol.value refl has.is_text has.other)))

  noted_left : (symbol : Symbol) → IsLeft (line_of (codes "; " ++ symbol_text symbol ++ codes "=" ++ number_text symbol.value))
  noted_left symbol =
      let name : Bytes = symbol_text symbol in
      let text : Bytes = 0o40 ∷ ((name ++ codes "=") ++ number_text symbol.value) in
      let size = length-append (name ++ codes "=") (number_text symbol.value) in
      let front = length-append name (codes "=") in
      let short = bare_short symbol in
      let digits = number_width symbol.value in
      left_alone (0o73 ∷ text) (omega (arith, size, front, short, digits))
      (ap (λ b. by_operator no_conditions (0o73 ∷ text) (operator_in b)) (no_body text))

  item_left : (here : ℕ) (item : Item) → AllByRecursion IsSpelled (all_defined (item ∷ [])) → IsLeft (line_of (item_text symbols here item))
  item_left here (Labelled symbol) is = label_left symbol is.0
  item_left here (Assigned symbol) is = assigned_left symbol is.0
  item_left here (Noted symbol) is = noted_left symbol
  item_left here (MovedTo address) is =
      let size = number_width address in left_alone (prefixed (codes "\t.=") address) (omega (arith, size)) (set_foreign no_conditions address)
  item_left here (Shows word more) is =
      left_alone (line_text symbols (statement_of here word more))
      (statement_width symbols spelled (whole_row word more) here word more (row_padded word more))
      (word_foreign symbols spelled no_conditions here word more)
  item_left here (ShowsByte byte) is =
      left_alone (line_text symbols (DataByte byte)) (byte_width symbols spelled byte) (byte_foreign no_conditions byte)

  items_left : (here : ℕ) (items : List Item) → AllByRecursion IsSpelled (all_defined items)
      → AllByRecursion IsLeft (map line_of (texts_of symbols here items))
  items_left here [] all = tt
  items_left here (Labelled symbol ∷ items) all = (item_left here (Labelled symbol) (all.0, tt), items_left here items all.1)
  items_left here (Assigned symbol ∷ items) all = (item_left here (Assigned symbol) (all.0, tt), items_left here items all.1)
  items_left here (Noted symbol ∷ items) all = (noted_left symbol, items_left here items all)
  items_left here (MovedTo address ∷ items) all = (item_left here (MovedTo address) tt, items_left address items all)
  items_left here (Shows word more ∷ items) all =
      (item_left here (Shows word more) tt, items_left (after_item here (Shows word more)) items all)
  items_left here (ShowsByte byte ∷ items) all =
      (item_left here (ShowsByte byte) tt, items_left (after_item here (ShowsByte byte)) items all)

  -- ---- the last line

  end_if : (start : ℕ) (b : Bool) → IsEnd (line_of (codes "\t.END" ++ (if b then codes "\t" ++ address_text symbols start else [])))
  end_if start true =
      let text : Bytes = 9 ∷ (codes ".END" ++ 9 ∷ address_text symbols start) in
      let short = (address_token symbols spelled start).short in (
        5,
        whole_end text (omega (arith, short))
            (end_is_own text (end_body symbols spelled text start refl) (end_named symbols spelled text start refl)),
      )
  end_if start false = (5, whole_end (codes "\t.END") (omega arith) (end_is_own (codes "\t.END") alone_body refl))

  pub all_left : (start : ℕ) (items : List Item) → AllByRecursion IsSpelled (all_defined items)
      → AreEnded (map line_of (source_of symbols start items))
  all_left start items all =
      let front : List Bytes = codes "\t.ASECT" ∷ texts_of symbols 0 items in
      let P : List SourceLine → Type 0 = λ l. AreEnded l in
      subst P (sym (map-append line_of front (end_text symbols start ∷ [])))
      (ended_with (map line_of front) (line_of (end_text symbols start))
      (left_alone (codes "\t.ASECT") (omega arith) (asect_foreign no_conditions), items_left 0 items all) (end_if start (start % 2 == 0)))
