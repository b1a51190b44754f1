-- The texts of operands: their parts, and that they have no character that begins no token.
use Rattle.std.proofs.Common.{◌≡◌, ◌∙◌, ℕ, ◌+◌, List, [], ◌∷◌, ◌++◌, length, refl, sym, ap, arith, append_assoc, codes}
use Rattle.std.specs.List.{AllByRecursion}
use Rattle.std.proofs.Math.Seq.{drop-append_seam}
use Rattle.std.proofs.lemmas.List.{length-append}
use Rattle.m11_base.specs.Devices.{Bytes}
use Rattle.m11_base.specs.declared.operand.Register.{Register}
use Rattle.m11_base_disassembly.specs.Arguments.{Argument}
use Rattle.m11_base_disassembly.specs.Arguments as argument
use Rattle.m11_base_disassembly.specs.Numbers.{number_text}
use Rattle.m11_base_disassembly.specs.Texts.{between, index_text, register_text}
use Rattle.m11_base_disassembly.specs.Symbols.{address_text}
use Rattle.m11_base_disassembly.specs.declared.symbols.Symbol.{Symbol}
use Rattle.m11_asm_dump_laws.specs.Knowledge.{IsSpelled}
use Rattle.m11_asm_dump_laws.specs.Texts.{argument_text}
use Rattle.m11_scan.proofs.NextPieces.{skipped_first}
use Rattle.m11_scan.specs.Pieces.{first_piece, token}
use Rattle.m11_scan.specs.Skipped.{has_skipped}
use Rattle.m11_scan.specs.declared.sort.Form.TheVariants.{Blank}
use Rattle.m11_scan.specs.declared.sort.Sort.{Sort}
use Rattle.m11_scan.specs.declared.sort.Sort.TheVariants as sorts
use Rattle.m11_asm_dump_laws.proofs.Addresses.{address_token, term_sort}
use Rattle.m11_asm_dump_laws.proofs.FirstTokens.{digits_begin, register_begins}
use Rattle.m11_asm_dump_laws.proofs.Tokens.{Begins, Stops, at_begins, close_begins, close_stops, minus_begins, open_begins, open_stops, plus_begins, sharp_begins}

-- ---- registers in brackets

-- a register between two texts, and what follows
pub between_left : (first last rest : Bytes) (register : Register)
    → between first register last ++ rest ≡ first ++ (register_text register ++ (last ++ rest))
between_left first last rest register =
    append_assoc (first ++ register_text register) last rest ∙ append_assoc first (register_text register) (last ++ rest)

pub between_length : (first last : Bytes) (register : Register)
    → length (between first register last) ≡ length first + length (register_text register) + length last
between_length first last register =
    length-append (first ++ register_text register) last ∙ ap (λ n. n + length last) (length-append first (register_text register))

pub index_left : (number : ℕ) (rest : Bytes) (register : Register)
    → index_text (number_text number) register ++ rest ≡ number_text number ++ 0o50 ∷ (register_text register ++ 0o51 ∷ rest)
index_left number rest register =
    append_assoc (number_text number) (between (codes "(") register (codes ")")) rest
    ∙ ap (λ text. number_text number ++ text) (between_left (codes "(") (codes ")") rest register)

pub index_length : (number : ℕ) (register : Register)
    → length (index_text (number_text number) register) ≡ length (number_text number) + (2 + length (register_text register))
index_length number register =
    let e = length-append (number_text number) (between (codes "(") register (codes ")")) in
    let f = between_length (codes "(") (codes ")") register in omega (arith, e, f)

-- ---- no character of an operand begins no token

-- a token before a text adds no such character, and neither does a blank or a tab
pub token_kept : (sort : Sort) (first rest : Bytes) → Begins sort first rest → has_skipped (first ++ rest) ≡ has_skipped rest
token_kept sort first rest begins =
    skipped_first (first ++ rest) (token sort (length first)) (omega (arith, length-append first rest, begins.some)) (sym begins.is)
    begins.some
    ∙ ap has_skipped (drop-append_seam first rest)

pub blank_kept : (rest : Bytes) → has_skipped (0o40 ∷ rest) ≡ has_skipped rest
unfolding first_piece
blank_kept rest = skipped_first (0o40 ∷ rest) (record { form = Blank; length = 1 }) (omega arith) refl (omega arith)

pub tab_kept : (rest : Bytes) → has_skipped (9 ∷ rest) ≡ has_skipped rest
unfolding first_piece
tab_kept rest = skipped_first (9 ∷ rest) (record { form = Blank; length = 1 }) (omega arith) refl (omega arith)

register_kept : (register : Register) (rest : Bytes) → Stops rest → has_skipped (register_text register ++ rest) ≡ has_skipped rest
register_kept register rest stops = token_kept sorts.Name (register_text register) rest (register_begins register rest stops)

pub number_kept : (number : ℕ) (rest : Bytes) → Stops rest → has_skipped (number_text number ++ rest) ≡ has_skipped rest
number_kept number rest stops = token_kept sorts.Number (number_text number) rest (digits_begin number rest stops)

closed_kept : (register : Register) (rest : Bytes) → has_skipped (register_text register ++ 0o51 ∷ rest) ≡ has_skipped rest
closed_kept register rest =
    register_kept register (0o51 ∷ rest) (close_stops rest) ∙ token_kept sorts.Close (0o51 ∷ []) rest (close_begins rest)

bracketed_kept : (register : Register) (rest : Bytes)
    → has_skipped (0o50 ∷ (register_text register ++ 0o51 ∷ rest)) ≡ has_skipped rest
bracketed_kept register rest =
    let inner : Bytes = register_text register ++ 0o51 ∷ rest in
    token_kept sorts.Open (0o50 ∷ []) inner (open_begins inner) ∙ closed_kept register rest

stepped_kept : (register : Register) (rest : Bytes)
    → has_skipped (0o50 ∷ (register_text register ++ 0o51 ∷ (0o53 ∷ rest))) ≡ has_skipped rest
stepped_kept register rest =
    bracketed_kept register (0o53 ∷ rest) ∙ token_kept sorts.Plus (0o53 ∷ []) rest (plus_begins rest)

minus_kept : (register : Register) (rest : Bytes)
    → has_skipped (0o55 ∷ (0o50 ∷ (register_text register ++ 0o51 ∷ rest))) ≡ has_skipped rest
minus_kept register rest =
    let inner : Bytes = 0o50 ∷ (register_text register ++ 0o51 ∷ rest) in
    token_kept sorts.Minus (0o55 ∷ []) inner (minus_begins inner) ∙ bracketed_kept register rest

index_kept : (number : ℕ) (register : Register) (rest : Bytes)
    → has_skipped (number_text number ++ 0o50 ∷ (register_text register ++ 0o51 ∷ rest)) ≡ has_skipped rest
index_kept number register rest =
    let inner : Bytes = register_text register ++ 0o51 ∷ rest in
    number_kept number (0o50 ∷ inner) (open_stops inner) ∙ bracketed_kept register rest

sharp_kept : (text : Bytes) → has_skipped (0o43 ∷ text) ≡ has_skipped text
sharp_kept text = token_kept sorts.NumberSign (0o43 ∷ []) text (sharp_begins text)

at_kept : (text : Bytes) → has_skipped (0o100 ∷ text) ≡ has_skipped text
at_kept text = token_kept sorts.At (0o100 ∷ []) text (at_begins text)

module _ (symbols : List Symbol) (spelled : AllByRecursion IsSpelled symbols) where
  pub address_kept : (address : ℕ) (rest : Bytes) → Stops rest → has_skipped (address_text symbols address ++ rest) ≡ has_skipped rest
  address_kept address rest stops =
      let one = address_token symbols spelled address in
      token_kept (term_sort one.is_name) (address_text symbols address) rest (one.begins rest stops)

  pub argument_kept : (a : Argument) (rest : Bytes) → Stops rest → has_skipped (argument_text symbols a ++ rest) ≡ has_skipped rest
  argument_kept (argument.Plain register) rest stops = register_kept register rest stops
  argument_kept (argument.Deferred register) rest stops =
      ap has_skipped (between_left (codes "(") (codes ")") rest register) ∙ bracketed_kept register rest
  argument_kept (argument.Forward register) rest stops =
      ap has_skipped (between_left (codes "(") (codes ")+") rest register) ∙ stepped_kept register rest
  argument_kept (argument.DeferredForward register) rest stops =
      ap has_skipped (between_left (codes "@(") (codes ")+") rest register) ∙ at_kept _ ∙ stepped_kept register rest
  argument_kept (argument.Backward register) rest stops =
      ap has_skipped (between_left (codes "-(") (codes ")") rest register) ∙ minus_kept register rest
  argument_kept (argument.DeferredBackward register) rest stops =
      ap has_skipped (between_left (codes "@-(") (codes ")") rest register) ∙ at_kept _ ∙ minus_kept register rest
  argument_kept (argument.Indexed number register) rest stops =
      ap has_skipped (index_left number rest register) ∙ index_kept number register rest
  argument_kept (argument.DeferredIndexed number register) rest stops =
      ap (λ text. has_skipped (0o100 ∷ text)) (index_left number rest register) ∙ at_kept _ ∙ index_kept number register rest
  argument_kept (argument.Immediate number) rest stops = sharp_kept _ ∙ number_kept number rest stops
  argument_kept (argument.Absolute address) rest stops = at_kept _ ∙ sharp_kept _ ∙ address_kept address rest stops
  argument_kept (argument.Relative address) rest stops = address_kept address rest stops
  argument_kept (argument.DeferredRelative address) rest stops = at_kept _ ∙ address_kept address rest stops
