-- The lines of a source have no character that ends or changes a line.
use Rattle.std.proofs.Common.{◌≡◌, ℕ, ◌+◌, ◌/◌, ◌%◌, ◌≤◌, ◌<◌, Bool, true, false, not, ◌&&◌, ◌||◌, List, [], ◌∷◌, ◌++◌, Option, Some, None, inl, inr, refl, ◌∙◌, subst, sym, arith, codes}
use Rattle.std.specs.Prelude.{◌==◌, if◌then◌else◌, nat_le}
use Rattle.std.specs.List.{AllByRecursion, list_all}
use Rattle.std.proofs.lemmas.Bool.{agree_below_at, and_parts, cases_Bool, eqb-true, false≢true, leb-false, leb-true, lt-leb, ne_eqb}
use Rattle.m11_base.specs.Devices.{Bytes}
use Rattle.m11_base.specs.NameCharacters.{is_name_character}
use Rattle.m11_base.specs.Rad50.{IsName, Name, alphabet, character_of, characters_of, name_text}
use Rattle.m11_base.specs.declared.instruction_list.Row.{Row}
use Rattle.m11_base.specs.declared.operand.Register.{Register}
use Rattle.m11_base.specs.declared.operand.Register.TheVariants.{R0, R1, R2, R3, R4, R5, Sp, Pc}
use Rattle.m11_base.specs.Instructions.{instruction_of}
use Rattle.m11_base_disassembly.specs.Arguments.{Argument}
use Rattle.m11_base_disassembly.specs.Arguments as argument
use Rattle.m11_base_disassembly.specs.Instructions.{operands_of, statement_by, statement_of, whole_row}
use Rattle.m11_base_disassembly.specs.Names.{bare_name}
use Rattle.m11_base_disassembly.specs.Numbers.{number_text}
use Rattle.m11_base_disassembly.specs.Statements.{Operands}
use Rattle.m11_base_disassembly.specs.Statements as statements
use Rattle.m11_base_disassembly.specs.Symbols.{address_text, name_from, nearest, stands_for, text_by}
use Rattle.m11_base_disassembly.specs.References.{no_references}
use Rattle.m11_base_disassembly.specs.Texts as named
use Rattle.m11_base_disassembly.specs.Texts.{between, index_text, prefixed, register_text}
use Rattle.m11_base_disassembly.specs.declared.symbols.Symbol.{Symbol}
use Rattle.m11_scan.specs.Classes.{is_digit, is_plain}
use Rattle.m11_scan.specs.Laws.{ArePlainTexts, IsPlainText}
use Rattle.m11_asm_dump_laws.specs.Items.{AreSound, Assigned, IsSound, Item, Labelled, MovedTo, Noted, Shows, ShowsByte, after_item, all_defined, end_text, item_text, source_of, symbol_text, texts_of}
use Rattle.m11_asm_dump_laws.specs.Knowledge.{IsSpelled}
use Rattle.m11_asm_dump_laws.specs.Operands.{is_name_text}
use Rattle.m11_asm_dump_laws.specs.Texts.{argument_text, line_text}
use Rattle.m11_asm_dump_laws.proofs.Addresses as addresses
use Rattle.m11_asm_dump_laws.proofs.Addresses.{bare_text, nearest_of, own_value}
use Rattle.m11_asm_dump_laws.proofs.Digits.{AreOctal, text_octal}
use Rattle.m11_asm_dump_laws.proofs.RowNames.{IsPadded, OfFound, bare_parts, is_padded, is_space, row_padded, spaces}
use Rattle.m11_asm_dump_laws.proofs.ReadLines.{name_parts}
use Rattle.m11_asm_dump_laws.proofs.UnreferredOperands.{operands_text, operands_unreferred}

-- ---- characters from the blank on

abbrev AreAbove : Bytes → Type 0
AreAbove text = AllByRecursion (λ byte. 32 ≤ byte) text

above_both : (one other : Bytes) → AreAbove one → AreAbove other → AreAbove (one ++ other)
above_both [] other is also = also
above_both (byte ∷ one) other is also = (is.0, above_both one other is.1 also)

plain_above : (byte : ℕ) → 32 ≤ byte → is_plain byte ≡ true
plain_above byte least =
    rw (
      ne_eqb byte 0 (λ e. absurd (omega (arith, least, e))),
      ne_eqb byte 0o12 (λ e. absurd (omega (arith, least, e))),
      ne_eqb byte 0o14 (λ e. absurd (omega (arith, least, e))),
      ne_eqb byte 0o15 (λ e. absurd (omega (arith, least, e))),
    ) refl

all_plain : (text : Bytes) → AreAbove text → IsPlainText text
all_plain [] above = tt
all_plain (byte ∷ text) above = (plain_above byte above.0, all_plain text above.1)

none_below : (byte : ℕ) → byte < 32 → is_name_character byte ≡ false
none_below byte less =
    rw (
      lt-leb 0o101 byte (omega (arith, less)),
      lt-leb 0o141 byte (omega (arith, less)),
      lt-leb 0o60 byte (omega (arith, less)),
      ne_eqb byte 0o44 (λ e. absurd (omega (arith, less, e))),
      ne_eqb byte 0o56 (λ e. absurd (omega (arith, less, e))),
    ) refl

name_above : (byte : ℕ) → is_name_character byte ≡ true → 32 ≤ byte
name_above byte is =
    elim (cases_Bool (nat_le 32 byte)) [
      | inl least ↦ leb-true 32 byte least
      | inr less ↦ absurd (false≢true (sym (none_below byte (leb-false 32 byte less)) ∙ is))
    ]

characters_above : (text : Bytes) → list_all is_name_character text ≡ true → AreAbove text
characters_above [] all = tt
characters_above (byte ∷ text) all =
    let parts = and_parts (is_name_character byte) (list_all is_name_character text) all in
    (name_above byte parts.0, characters_above text parts.1)

name_text_above : (text : Bytes) → is_name_text text ≡ true → AreAbove text
name_text_above [] is = tt
name_text_above (byte ∷ text) is =
    characters_above (byte ∷ text) (and_parts (not (is_digit byte)) (list_all is_name_character (byte ∷ text)) is).1

octal_above : (text : Bytes) → AreOctal text → AreAbove text
octal_above [] all = tt
octal_above (digit ∷ text) all = (omega (arith, all.0.0), octal_above text all.1)

spaces_above : (text : Bytes) → list_all is_space text ≡ true → AreAbove text
spaces_above [] all = tt
spaces_above (byte ∷ text) all =
    let parts = and_parts (is_space byte) (list_all is_space text) all in
    let P : ℕ → Type 0 = λ b. 32 ≤ b in
    (subst P (sym (eqb-true byte 0o40 parts.0)) (omega arith), spaces_above text parts.1)

-- ---- names of six characters

character_above : (code : ℕ) → code < 40 → 32 ≤ character_of code
unfolding alphabet character_of
character_above code below =
    leb-true 32 (character_of code) (agree_below_at (λ k. nat_le 32 (character_of k)) (λ k. true) 40 code refl below)

name_characters_above : (name : Name) → IsName name → AreAbove (name_text name)
name_characters_above name is =
    let last : AreAbove (characters_of name.1) = (
      character_above (name.1 / 1600) (omega (arith, is.1)),
      (character_above (name.1 / 40 % 40) (omega arith), (character_above (name.1 % 40) (omega arith), tt)),
    ) in (
      character_above (name.0 / 1600) (omega (arith, is.0)),
      (character_above (name.0 / 40 % 40) (omega arith), (character_above (name.0 % 40) (omega arith), last)),
    )

bare_by : (character : ℕ) (rest : Bytes) (b : Bool) → 32 ≤ character → AreAbove rest → AreAbove (if b then [] else character ∷ rest)
bare_by character rest true least above = tt
bare_by character rest false least above = (least, above)

bare_above : (characters : Bytes) → AreAbove characters → AreAbove (bare_name characters)
bare_above [] above = tt
bare_above (character ∷ characters) above =
    bare_by character (bare_name characters) (character == 32) above.0 (bare_above characters above.1)

-- ---- parts of lines

number_above : (number : ℕ) → AreAbove (number_text number)
number_above number = octal_above (number_text number) (text_octal number)

register_above : (register : Register) → AreAbove (register_text register)
register_above R0 = (omega arith, (omega arith, tt))
register_above R1 = (omega arith, (omega arith, tt))
register_above R2 = (omega arith, (omega arith, tt))
register_above R3 = (omega arith, (omega arith, tt))
register_above R4 = (omega arith, (omega arith, tt))
register_above R5 = (omega arith, (omega arith, tt))
register_above Sp = (omega arith, (omega arith, tt))
register_above Pc = (omega arith, (omega arith, tt))

symbol_above : (symbol : Symbol) → IsSpelled symbol → AreAbove (symbol_text symbol)
symbol_above symbol is = name_text_above (symbol_text symbol) is.is_name

valued_above : (symbol : Symbol) → AreAbove (symbol_text symbol) → AreAbove ((symbol_text symbol ++ codes "=") ++ number_text symbol.value)
valued_above symbol above =
    above_both (symbol_text symbol ++ codes "=") (number_text symbol.value) (above_both (symbol_text symbol) (codes "=") above (omega arith, tt))
    (number_above symbol.value)

between_above : (first last : Bytes) (register : Register) → AreAbove first → AreAbove last → AreAbove (between first register last)
between_above first last register is also =
    above_both (first ++ register_text register) last (above_both first (register_text register) is (register_above register)) also

row_above : (name : Bytes) → is_padded name ≡ true → AreAbove name
row_above name padded =
    let parts = name_parts name padded in
    subst AreAbove (sym (bare_parts name))
    (above_both (bare_name name) (spaces name) (name_text_above (bare_name name) parts.named) (spaces_above (spaces name) parts.spaced))

module _ (symbols : List Symbol) (spelled : AllByRecursion IsSpelled symbols) where
  named_above : (address : ℕ) (symbol : Symbol) → IsSpelled symbol → (b : Bool) → stands_for address symbol ≡ b
      → AreAbove (if b then name_from symbol address else number_text address)
  named_above address symbol is true stands =
      subst AreAbove (sym (bare_text address symbol (own_value address symbol is stands))) (symbol_above symbol is)
  named_above address symbol is false stands = number_above address

  found_above : (address : ℕ) (found : Option Symbol) → addresses.OfFound IsSpelled found → AreAbove (text_by found address)
  found_above address None is = number_above address
  found_above address (Some symbol) is = named_above address symbol is (stands_for address symbol) refl

  address_above : (address : ℕ) → AreAbove (address_text symbols address)
  address_above address = found_above address (nearest address symbols) (nearest_of IsSpelled address symbols spelled)

  one : (byte : ℕ) → 32 ≤ byte → AreAbove (byte ∷ [])
  one byte least = (least, tt)

  index_above : (number : ℕ) (register : Register) → AreAbove (index_text (number_text number) register)
  index_above number register =
      above_both (number_text number) (between (codes "(") register (codes ")")) (number_above number)
      (between_above (codes "(") (codes ")") register (omega arith, tt) (omega arith, tt))

  argument_above : (a : Argument) → AreAbove (argument_text symbols a)
  argument_above (argument.Plain register) = register_above register
  argument_above (argument.Deferred register) = between_above (codes "(") (codes ")") register (omega arith, tt) (omega arith, tt)
  argument_above (argument.Forward register) = between_above (codes "(") (codes ")+") register (omega arith, tt) (omega arith, (omega arith, tt))
  argument_above (argument.DeferredForward register) =
      between_above (codes "@(") (codes ")+") register (omega arith, (omega arith, tt)) (omega arith, (omega arith, tt))
  argument_above (argument.Backward register) = between_above (codes "-(") (codes ")") register (omega arith, (omega arith, tt)) (omega arith, tt)
  argument_above (argument.DeferredBackward register) =
      between_above (codes "@-(") (codes ")") register (omega arith, (omega arith, (omega arith, tt))) (omega arith, tt)
  argument_above (argument.Indexed number register) = index_above number register
  argument_above (argument.DeferredIndexed number register) = (omega arith, index_above number register)
  argument_above (argument.Immediate number) = (omega arith, number_above number)
  argument_above (argument.Absolute address) = (omega arith, (omega arith, address_above address))
  argument_above (argument.Relative address) = address_above address
  argument_above (argument.DeferredRelative address) = (omega arith, address_above address)

  pair_above : (one other : Bytes) → AreAbove one → AreAbove other → AreAbove (one ++ 0o54 ∷ other)
  pair_above one other is also = above_both one (0o54 ∷ other) is (omega arith, also)

  operands_above : (operands : Operands) → AreAbove (operands_text symbols operands)
  operands_above statements.Nothing = tt
  operands_above (statements.One first) = argument_above first
  operands_above (statements.Two first second) =
      pair_above (argument_text symbols first) (argument_text symbols second) (argument_above first) (argument_above second)
  operands_above (statements.Target address) = address_above address
  operands_above (statements.Loop register address) =
      pair_above (register_text register) (address_text symbols address) (register_above register) (address_above address)
  operands_above (statements.Number number) = number_above number

  -- ---- lines

  tab_plain : (text : Bytes) → AreAbove text → IsPlainText (9 ∷ text)
  tab_plain text above = (refl, all_plain text above)

  with_name : (name : Bytes) (operands : Operands) → is_padded name ≡ true
      → AreAbove ((name ++ 0o40 ∷ []) ++ named.operands_text symbols no_references operands)
  with_name name operands padded =
      above_both (name ++ 0o40 ∷ []) (named.operands_text symbols no_references operands)
      (above_both name (0o40 ∷ []) (row_above name padded) (omega arith, tt))
      (subst AreAbove (sym (operands_unreferred symbols operands)) (operands_above operands))

  named_plain : (name : Bytes) (operands : Operands) → is_padded name ≡ true → IsPlainText (line_text symbols (statements.Named name operands))
  named_plain name statements.Nothing padded =
      tab_plain (bare_name name) (name_text_above (bare_name name) (name_parts name padded).named)
  named_plain name (statements.One first) padded = tab_plain _ (with_name name (statements.One first) padded)
  named_plain name (statements.Two first second) padded = tab_plain _ (with_name name (statements.Two first second) padded)
  named_plain name (statements.Target address) padded = tab_plain _ (with_name name (statements.Target address) padded)
  named_plain name (statements.Loop register address) padded = tab_plain _ (with_name name (statements.Loop register address) padded)
  named_plain name (statements.Number number) padded = tab_plain _ (with_name name (statements.Number number) padded)

  word_plain : (word : ℕ) → IsPlainText (line_text symbols (statements.DataWord word))
  word_plain word =
      tab_plain (prefixed (codes ".WORD  ") word) (above_both (codes ".WORD  ") (number_text word)
      (omega arith, (omega arith, (omega arith, (omega arith, (omega arith, (omega arith, (omega arith, tt))))))) (number_above word))

  byte_plain : (byte : ℕ) → IsPlainText (line_text symbols (statements.DataByte byte))
  byte_plain byte =
      tab_plain (prefixed (codes ".BYTE  ") byte) (above_both (codes ".BYTE  ") (number_text byte)
      (omega arith, (omega arith, (omega arith, (omega arith, (omega arith, (omega arith, (omega arith, tt))))))) (number_above byte))

  statement_plain : (row : Option Row) (here word : ℕ) (more : List ℕ) → OfFound IsPadded row
      → IsPlainText (line_text symbols (statement_by row here word more))
  statement_plain None here word more padded = word_plain word
  statement_plain (Some row) here word more padded = named_plain row.name (operands_of here more (instruction_of word)) padded

  item_plain : (here : ℕ) (item : Item) → AllByRecursion IsSpelled (all_defined (item ∷ [])) → IsSound here item
      → IsPlainText (item_text symbols here item)
  item_plain here (Labelled symbol) is sound =
      all_plain (symbol_text symbol ++ codes ":") (above_both (symbol_text symbol) (codes ":") (symbol_above symbol is.0) (omega arith, tt))
  item_plain here (Assigned symbol) is sound =
      all_plain ((symbol_text symbol ++ codes "=") ++ number_text symbol.value) (valued_above symbol (symbol_above symbol is.0))
  item_plain here (Noted symbol) is sound =
      all_plain ((codes "; " ++ symbol_text symbol ++ codes "=") ++ number_text symbol.value)
      (omega arith, (omega arith, valued_above symbol (bare_above (name_text symbol.name) (name_characters_above symbol.name sound))))
  item_plain here (MovedTo address) is sound =
      tab_plain (0o56 ∷ (0o75 ∷ number_text address)) (omega arith, (omega arith, number_above address))
  item_plain here (Shows word more) is sound = statement_plain (whole_row word more) here word more (row_padded word more)
  item_plain here (ShowsByte byte) is sound = byte_plain byte

  texts_plain : (here : ℕ) (items : List Item) (others : List Bytes) → AllByRecursion IsSpelled (all_defined items) → AreSound here items
      → ArePlainTexts others → ArePlainTexts (texts_of symbols here items ++ others)
  texts_plain here [] others all sound rest = rest
  texts_plain here (Labelled symbol ∷ items) others all sound rest =
      (item_plain here (Labelled symbol) (all.0, tt) sound.0, texts_plain here items others all.1 sound.1 rest)
  texts_plain here (Assigned symbol ∷ items) others all sound rest =
      (item_plain here (Assigned symbol) (all.0, tt) sound.0, texts_plain here items others all.1 sound.1 rest)
  texts_plain here (Noted symbol ∷ items) others all sound rest =
      (item_plain here (Noted symbol) tt sound.0, texts_plain here items others all sound.1 rest)
  texts_plain here (MovedTo address ∷ items) others all sound rest =
      (item_plain here (MovedTo address) tt sound.0, texts_plain address items others all sound.1 rest)
  texts_plain here (Shows word more ∷ items) others all sound rest =
      (item_plain here (Shows word more) tt sound.0, texts_plain (after_item here (Shows word more)) items others all sound.1 rest)
  texts_plain here (ShowsByte byte ∷ items) others all sound rest =
      (item_plain here (ShowsByte byte) tt sound.0, texts_plain (after_item here (ShowsByte byte)) items others all sound.1 rest)

  end_by : (start : ℕ) (b : Bool) → IsPlainText (codes "\t.END" ++ (if b then codes "\t" ++ address_text symbols start else []))
  end_by start true = (refl, (refl, (refl, (refl, (refl, (refl, all_plain (address_text symbols start) (address_above start)))))))
  end_by start false = (refl, (refl, (refl, (refl, (refl, tt)))))

  pub source_plain : (start : ℕ) (items : List Item) → AllByRecursion IsSpelled (all_defined items) → AreSound 0 items
      → ArePlainTexts (source_of symbols start items)
  source_plain start items all sound = (
    (refl, (refl, (refl, (refl, (refl, (refl, (refl, tt))))))),
    texts_plain 0 items (end_text symbols start ∷ []) all sound (end_by start (start % 2 == 0), tt),
  )
