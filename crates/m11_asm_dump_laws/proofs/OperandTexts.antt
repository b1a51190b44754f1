-- The texts of all operands of an operation: their first token, and that they have no character that begins no token.
use Rattle.std.proofs.Common.{◌≡◌, ◌∙◌, ℕ, ◌+◌, Bool, true, false, List, [], ◌∷◌, ◌++◌, length, drop, refl, sym, ap, subst, arith, append-nil, append_assoc, codes}
use Rattle.std.specs.List.{AllByRecursion, list_all}
use Rattle.std.proofs.lemmas.Bool.{and_parts, eqb-true}
use Rattle.m11_base.specs.Devices.{Bytes}
use Rattle.m11_base_disassembly.specs.Arguments.{Argument}
use Rattle.m11_base_disassembly.specs.Arguments as argument
use Rattle.m11_base_disassembly.specs.Numbers.{number_text}
use Rattle.m11_base_disassembly.specs.Statements.{Operands}
use Rattle.m11_base_disassembly.specs.Statements as statements
use Rattle.m11_base_disassembly.specs.Texts.{register_text}
use Rattle.m11_base_disassembly.specs.Symbols.{address_text}
use Rattle.m11_base_disassembly.specs.declared.symbols.Symbol.{Symbol}
use Rattle.m11_asm_dump_laws.specs.Knowledge.{IsSpelled}
use Rattle.m11_asm_dump_laws.specs.Texts.{argument_text}
use Rattle.m11_asm_dump_laws.proofs.UnreferredOperands.{operands_text}
use Rattle.m11_scan.specs.Cutting.{tokens_from}
use Rattle.m11_scan.specs.Skipped.{has_skipped}
use Rattle.m11_scan.specs.declared.sort.Sort.{Sort}
use Rattle.m11_scan.specs.declared.sort.Sort.TheVariants as sorts
use Rattle.m11_asm_dump_laws.proofs.Addresses.{address_token, term_sort}
use Rattle.m11_asm_dump_laws.proofs.ArgumentTexts.{address_kept, argument_kept, blank_kept, number_kept, token_kept}
use Rattle.m11_asm_dump_laws.proofs.FirstTokens.{digits_begin, register_begins}
use Rattle.m11_asm_dump_laws.proofs.ReadStatements.{Opens, is_opening}
use Rattle.m11_asm_dump_laws.proofs.RowNames.{is_space}
use Rattle.m11_asm_dump_laws.proofs.Tokens.{Begins, Stops, at_begins, blank_first, blank_stops, comma_begins, comma_stops, minus_begins, no_token, none_stops, open_begins, open_stops, past, sharp_begins, token_first}

-- ---- the first token

term_opens : (b : Bool) → is_opening (term_sort b) ≡ true
term_opens true = refl
term_opens false = refl

module _ (line : Bytes) (column : ℕ) where
  opens_with : (sort : Sort) (first rest : Bytes) → is_opening sort ≡ true → Begins sort first rest → drop column line ≡ first ++ rest
      → Opens (tokens_from line column)
  opens_with sort first rest is begins at = subst Opens (sym (token_first sort first rest line column begins at)) is

  open_opens : (rest : Bytes) → drop column line ≡ 0o50 ∷ rest → Opens (tokens_from line column)
  open_opens rest at = opens_with sorts.Open (0o50 ∷ []) rest refl (open_begins rest) at

  minus_opens : (rest : Bytes) → drop column line ≡ 0o55 ∷ rest → Opens (tokens_from line column)
  minus_opens rest at = opens_with sorts.Minus (0o55 ∷ []) rest refl (minus_begins rest) at

  at_opens : (rest : Bytes) → drop column line ≡ 0o100 ∷ rest → Opens (tokens_from line column)
  at_opens rest at = opens_with sorts.At (0o100 ∷ []) rest refl (at_begins rest) at

  pub number_opens : (number : ℕ) (rest : Bytes) → Stops rest → drop column line ≡ number_text number ++ rest → Opens (tokens_from line column)
  number_opens number rest stops at = opens_with sorts.Number (number_text number) rest refl (digits_begin number rest stops) at

module _ (symbols : List Symbol) (spelled : AllByRecursion IsSpelled symbols) (line : Bytes) (column : ℕ) where
  pub address_opens : (address : ℕ) (rest : Bytes) → Stops rest → drop column line ≡ address_text symbols address ++ rest
      → Opens (tokens_from line column)
  address_opens address rest stops at =
      let one = address_token symbols spelled address in
      opens_with line column (term_sort one.is_name) (address_text symbols address) rest (term_opens one.is_name) (one.begins rest stops) at

  index_opens : (number : ℕ) (more rest : Bytes) → drop column line ≡ (number_text number ++ 0o50 ∷ more) ++ rest
      → Opens (tokens_from line column)
  index_opens number more rest at =
      number_opens line column number (0o50 ∷ (more ++ rest)) (open_stops (more ++ rest)) (at ∙ append_assoc (number_text number) (0o50 ∷ more) rest)

  argument_opens : (a : Argument) (rest : Bytes) → Stops rest → drop column line ≡ argument_text symbols a ++ rest
      → Opens (tokens_from line column)
  argument_opens (argument.Plain register) rest stops at =
      opens_with line column sorts.Name (register_text register) rest refl (register_begins register rest stops) at
  argument_opens (argument.Deferred register) rest stops at = open_opens line column _ at
  argument_opens (argument.Forward register) rest stops at = open_opens line column _ at
  argument_opens (argument.DeferredForward register) rest stops at = at_opens line column _ at
  argument_opens (argument.Backward register) rest stops at = minus_opens line column _ at
  argument_opens (argument.DeferredBackward register) rest stops at = at_opens line column _ at
  argument_opens (argument.Indexed number register) rest stops at =
      index_opens number (register_text register ++ codes ")") rest at
  argument_opens (argument.DeferredIndexed number register) rest stops at = at_opens line column _ at
  argument_opens (argument.Immediate number) rest stops at =
      opens_with line column sorts.NumberSign (0o43 ∷ []) _ refl (sharp_begins _) at
  argument_opens (argument.Absolute address) rest stops at = at_opens line column _ at
  argument_opens (argument.Relative address) rest stops at = address_opens address rest stops at
  argument_opens (argument.DeferredRelative address) rest stops at = at_opens line column _ at

  to_nil : (text : Bytes) → drop column line ≡ text → drop column line ≡ text ++ []
  to_nil text at = at ∙ sym (append-nil text)

  pub operands_open : (operands : Operands) → drop column line ≡ operands_text symbols operands → Opens (tokens_from line column)
  operands_open statements.Nothing at = subst Opens (sym (no_token line column at)) tt
  operands_open (statements.One a) at = argument_opens a [] none_stops (to_nil (argument_text symbols a) at)
  operands_open (statements.Two a b) at = argument_opens a (0o54 ∷ argument_text symbols b) (comma_stops (argument_text symbols b)) at
  operands_open (statements.Target address) at = address_opens address [] none_stops (to_nil (address_text symbols address) at)
  operands_open (statements.Loop register address) at =
      argument_opens (argument.Plain register) (0o54 ∷ address_text symbols address) (comma_stops (address_text symbols address)) at
  operands_open (statements.Number number) at = number_opens line column number [] none_stops (to_nil (number_text number) at)

-- ---- no character begins no token

pub digits_kept : (number : ℕ) → has_skipped (number_text number) ≡ false
digits_kept number = ap has_skipped (sym (append-nil (number_text number))) ∙ number_kept number [] none_stops

module _ (symbols : List Symbol) (spelled : AllByRecursion IsSpelled symbols) where
  last_kept : (a : Argument) → has_skipped (argument_text symbols a) ≡ false
  last_kept a = ap has_skipped (sym (append-nil (argument_text symbols a))) ∙ argument_kept symbols spelled a [] none_stops

  comma_kept : (first : Argument) (text : Bytes) → has_skipped text ≡ false → has_skipped (argument_text symbols first ++ 0o54 ∷ text) ≡ false
  comma_kept first text kept =
      argument_kept symbols spelled first (0o54 ∷ text) (comma_stops text) ∙ token_kept sorts.Comma (0o54 ∷ []) text (comma_begins text) ∙ kept

  pub operands_kept : (operands : Operands) → has_skipped (operands_text symbols operands) ≡ false
  operands_kept statements.Nothing = refl
  operands_kept (statements.One a) = last_kept a
  operands_kept (statements.Two a b) = comma_kept a (argument_text symbols b) (last_kept b)
  operands_kept (statements.Target address) = last_kept (argument.Relative address)
  operands_kept (statements.Loop register address) = comma_kept (argument.Plain register) (address_text symbols address) (last_kept (argument.Relative address))
  operands_kept (statements.Number number) = digits_kept number

-- ---- spaces

-- a text begins with at least one space: these, and one more
abbrev pub spaced : Bytes → Bytes → Bytes
spaced spaces text = spaces ++ 0o40 ∷ text

same_column : (column : ℕ) → column + 0 ≡ column
same_column column = omega arith

-- spaces are no tokens
pub spaces_first : (spaces text line : Bytes) (column : ℕ) → list_all is_space spaces ≡ true → drop column line ≡ spaced spaces text
    → tokens_from line column ≡ tokens_from line (column + length spaces + 1)
spaces_first [] text line column all at =
    blank_first text line column at ∙ ap (λ n. tokens_from line (n + 1)) (sym (same_column column))
spaces_first (byte ∷ spaces) text line column all at =
    let parts = and_parts (is_space byte) (list_all is_space spaces) all in
    let P : ℕ → Type 0 = λ b. drop column line ≡ b ∷ spaced spaces text in
    let written = subst P (eqb-true byte 0o40 parts.0) at in
    let on : column + 1 + length spaces ≡ column + length (byte ∷ spaces) = omega arith in
    blank_first (spaced spaces text) line column written
    ∙ spaces_first spaces text line (column + 1) parts.1 (past line (0o40 ∷ []) (spaced spaces text) column written)
    ∙ ap (λ n. tokens_from line (n + 1)) on

pub spaces_stop : (spaces text : Bytes) → list_all is_space spaces ≡ true → Stops (spaced spaces text)
spaces_stop [] text all = blank_stops text
spaces_stop (byte ∷ spaces) text all =
    let parts = and_parts (is_space byte) (list_all is_space spaces) all in
    let P : ℕ → Type 0 = λ b. Stops (b ∷ spaced spaces text) in
    subst P (sym (eqb-true byte 0o40 parts.0)) (blank_stops (spaced spaces text))

pub spaces_kept : (spaces text : Bytes) → list_all is_space spaces ≡ true → has_skipped (spaced spaces text) ≡ has_skipped text
spaces_kept [] text all = blank_kept text
spaces_kept (byte ∷ spaces) text all =
    let parts = and_parts (is_space byte) (list_all is_space spaces) all in
    ap (λ b. has_skipped (b ∷ spaced spaces text)) (eqb-true byte 0o40 parts.0)
    ∙ blank_kept (spaced spaces text) ∙ spaces_kept spaces text parts.1
