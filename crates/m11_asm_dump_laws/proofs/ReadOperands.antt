-- Operands are read as they are written.
use Rattle.std.proofs.Common.{◌≡◌, ◌∙◌, ℕ, ◌+◌, Bool, true, false, not, List, [], ◌∷◌, ◌++◌, length, drop, refl, sym, ap, ap₂, subst, arith, codes}
use Rattle.std.specs.Prelude.{if◌then◌else◌}
use Rattle.std.specs.List.{AllByRecursion}
use Rattle.m11_base.specs.Devices.{Bytes}
use Rattle.m11_base.specs.declared.operand.Register.{Register}
use Rattle.m11_base_disassembly.specs.Arguments.{Argument}
use Rattle.m11_base_disassembly.specs.Arguments as argument
use Rattle.m11_base_disassembly.specs.Numbers.{number_text}
use Rattle.m11_base_disassembly.specs.Texts.{register_text}
use Rattle.m11_base_disassembly.specs.Symbols.{address_text}
use Rattle.m11_base_disassembly.specs.declared.symbols.Symbol.{Symbol}
use Rattle.m11_asm_dump_laws.specs.Knowledge.{IsSpelled}
use Rattle.m11_asm_dump_laws.specs.Texts.{argument_text}
use Rattle.m11_scan.specs.Cutting.{Lexeme, tokens_from}
use Rattle.m11_scan.specs.Ends.{expression_end}
use Rattle.m11_scan.specs.ErrorFlags.{flag_A}
use Rattle.m11_scan.specs.Expressions.{role_of}
use Rattle.m11_scan.specs.declared.expressions.Role.TheVariants as roles
use Rattle.m11_scan.specs.declared.sort.Sort.{Sort}
use Rattle.m11_scan.specs.declared.sort.Sort.TheVariants as sorts
use Rattle.m11_scan_expressions.specs.Tokens.{Expression, expression}
use Rattle.m11_asm_rules.specs.Operands.{Read, after_minus, begun_by, bracketed, closed, closed_by, deferred_by, is_close, is_open, is_plus, operand_at, place, read, stepped_by}
use Rattle.m11_asm_rules.specs.declared.operands.WrittenOperand.{WrittenOperand}
use Rattle.m11_asm_rules.specs.declared.operands.WrittenOperand.TheVariants.{Absent, Before, Immediate, Indexed, Plain, Pointed, Stepped}
use Rattle.m11_asm_dump_laws.specs.Operands.{address_written, ends_operand, number_written, operand_written, register_written, single}
use Rattle.m11_asm_dump_laws.proofs.Addresses.{IsToken, address_token, term_sort}
use Rattle.m11_asm_dump_laws.proofs.ArgumentTexts.{between_left, between_length, index_left, index_length}
use Rattle.m11_asm_dump_laws.proofs.FirstTokens.{digits_begin, register_begins}
use Rattle.m11_asm_dump_laws.proofs.Terms.{Closes, EndTerm, closes_term, end_read, ended_closes, ended_stops, expression_read, foreign_ends, nothing_skipped}
use Rattle.m11_asm_dump_laws.proofs.Tokens.{Begins, at_begins, close_begins, close_stops, minus_begins, open_begins, open_stops, past, plus_begins, sharp_begins, token_at, token_first}

-- ---- operands by the tokens at their beginning

abbrev bracketed_by : Bool → Expression → ℕ → List Lexeme → Read
bracketed_by is_deferred register end tokens = elim tokens [
  | [] ↦ read (Pointed is_deferred register) end flag_A
  | token ∷ more ↦ if is_close token.sort then stepped_by is_deferred register token.end more else read (Pointed is_deferred register) end flag_A
]

abbrev place_by : Bool → Bytes → Expression → ℕ → List Lexeme → Read
place_by is_deferred line written end tokens = elim tokens [
  | [] ↦ read (Plain is_deferred written) end 0
  | token ∷ more ↦ if is_open token.sort then closed (Indexed is_deferred written) line token.end else read (Plain is_deferred written) end 0
]

abbrev operand_from : Bytes → ℕ → Sort → Sort → ℕ → List Lexeme → Read
operand_from line start of sort end tokens = elim sort [
  | sorts.At ↦ deferred_by line end tokens
  | sorts.Comma ↦ read Absent start flag_A
  | _ ↦ begun_by false line start of end tokens
]

abbrev operand_by : Bytes → ℕ → List Lexeme → Read
operand_by line start tokens = elim tokens [
  | [] ↦ read Absent start flag_A
  | token ∷ more ↦ operand_from line start token.sort token.sort token.end more
]

-- an operand that isn't an index ends where no token or a comma follows
closes_place : (is_deferred : Bool) (line : Bytes) (written : Expression) (end : ℕ) (tokens : List Lexeme) → Closes tokens
    → place_by is_deferred line written end tokens ≡ read (Plain is_deferred written) end 0
closes_place is_deferred line written end [] closes = refl
closes_place is_deferred line written end (token ∷ tokens) closes =
    ap (λ s. if is_open s then closed (Indexed is_deferred written) line token.end else read (Plain is_deferred written) end 0) closes

closes_step : (is_deferred : Bool) (register : Expression) (end : ℕ) (tokens : List Lexeme) → Closes tokens
    → stepped_by is_deferred register end tokens ≡ read (Pointed is_deferred register) end 0
closes_step is_deferred register end [] closes = refl
closes_step is_deferred register end (token ∷ tokens) closes =
    ap (λ s. if is_plus s then read (Stepped is_deferred register) token.end 0 else read (Pointed is_deferred register) end 0) closes

-- ---- a register before a bracket that closes

module _ (line rest : Bytes) (register : Register) (column : ℕ) (at : drop column line ≡ register_text register ++ 0o51 ∷ rest) where
  -- the column after the register
  abbrev after : ℕ
  after = column + length (register_text register)

  close : tokens_from line after ≡ token_at sorts.Close after (0o51 ∷ []) ∷ tokens_from line (after + 1)
  close =
      token_first sorts.Close (0o51 ∷ []) rest line after (close_begins rest) (past line (register_text register) (0o51 ∷ rest) column at)

  ends_there : EndTerm (tokens_from line after)
  ends_there = subst EndTerm (sym close) (foreign_ends (token_at sorts.Close after (0o51 ∷ [])) (tokens_from line (after + 1)) refl)

  begins : Begins sorts.Name (register_text register) (0o51 ∷ rest)
  begins = register_begins register (0o51 ∷ rest) (close_stops rest)

  register_is : expression line column ≡ register_written register
  register_is = expression_read line column column refl sorts.Name (register_text register) (0o51 ∷ rest) begins refl at ends_there

  register_ends : expression_end line column ≡ after
  register_ends = end_read line column column refl sorts.Name (register_text register) (0o51 ∷ rest) begins refl at ends_there

  left : drop (after + 1) line ≡ rest
  left = past line (0o51 ∷ []) rest after (past line (register_text register) (0o51 ∷ rest) column at)

  closed_read : (operand : Expression → WrittenOperand Expression)
      → closed operand line column ≡ read (operand (register_written register)) (after + 1) 0
  closed_read operand =
      ap (λ e. closed_by (operand e) (expression_end line column) (tokens_from line (expression_end line column))) register_is
      ∙ ap (λ n. closed_by (operand (register_written register)) n (tokens_from line n)) register_ends
      ∙ ap (closed_by (operand (register_written register)) after) close

  bracketed_read : (is_deferred : Bool) → bracketed is_deferred line column
      ≡ stepped_by is_deferred (register_written register) (after + 1) (tokens_from line (after + 1))
  bracketed_read is_deferred =
      ap (λ e. bracketed_by is_deferred e (expression_end line column) (tokens_from line (expression_end line column))) register_is
      ∙ ap (λ n. bracketed_by is_deferred (register_written register) n (tokens_from line n)) register_ends
      ∙ ap (bracketed_by is_deferred (register_written register) after) close

-- ---- what follows the first mark of an operand

closes_after : (text rest line : Bytes) (column : ℕ) → ends_operand rest ≡ true → drop column line ≡ text ++ rest
    → Closes (tokens_from line (column + length text))
closes_after text rest line column ends at = ended_closes rest line (column + length text) ends (past line text rest column at)

module _ (line rest : Bytes) (is_deferred : Bool) (column : ℕ) where
  -- `R)`
  pointed_read : (register : Register) → ends_operand rest ≡ true → drop column line ≡ register_text register ++ 0o51 ∷ rest
      → bracketed is_deferred line column
      ≡ read (Pointed is_deferred (register_written register)) (column + length (register_text register) + 1) 0
  pointed_read register ends at =
      let end : ℕ = column + length (register_text register) + 1 in
      bracketed_read line rest register column at is_deferred
      ∙ closes_step is_deferred (register_written register) end (tokens_from line end)
      (ended_closes rest line end ends (left line rest register column at))

  -- `R)+`
  stepped_read : (register : Register) → drop column line ≡ register_text register ++ 0o51 ∷ (0o53 ∷ rest)
      → bracketed is_deferred line column
      ≡ read (Stepped is_deferred (register_written register)) (column + length (register_text register) + 1 + 1) 0
  stepped_read register at =
      let end : ℕ = column + length (register_text register) + 1 in
      bracketed_read line (0o53 ∷ rest) register column at is_deferred
      ∙ ap (stepped_by is_deferred (register_written register) end)
      (token_first sorts.Plus (0o53 ∷ []) rest line end (plus_begins rest) (left line (0o53 ∷ rest) register column at))

  -- `(R)`, after a minus
  minus_read : (start : ℕ) (register : Register) → drop column line ≡ 0o50 ∷ (register_text register ++ 0o51 ∷ rest)
      → after_minus is_deferred line start column (tokens_from line column)
      ≡ read (Before is_deferred (register_written register)) (column + 1 + length (register_text register) + 1) 0
  minus_read start register at =
      let inner : Bytes = register_text register ++ 0o51 ∷ rest in
      ap (after_minus is_deferred line start column) (token_first sorts.Open (0o50 ∷ []) inner line column (open_begins inner) at)
      ∙ ap (λ b. if not b then closed (Before is_deferred) line (column + 1) else place is_deferred line start)
      (nothing_skipped line column)
      ∙ closed_read line rest register (column + 1) (past line (0o50 ∷ []) inner column at) (Before is_deferred)

  -- a term, after `#`
  immediate_read : (sort : Sort) (text : Bytes) → Begins sort text rest → role_of sort ≡ roles.Term → ends_operand rest ≡ true
      → drop column line ≡ text ++ rest
      → read (Immediate is_deferred (expression line column)) (expression_end line column) 0
      ≡ read (Immediate is_deferred (single sort text)) (column + length text) 0
  immediate_read sort text begins term ends at =
      let ended = closes_term (tokens_from line (column + length text)) (closes_after text rest line column ends at) in
      ap (λ e. read (Immediate is_deferred e) (expression_end line column) 0)
      (expression_read line column column refl sort text rest begins term at ended)
      ∙ ap (λ n. read (Immediate is_deferred (single sort text)) n 0)
      (end_read line column column refl sort text rest begins term at ended)

-- ---- operands that begin with a term; they are read from any column with the same tokens after it

module _ (line rest : Bytes) (is_deferred : Bool) (start column : ℕ) (same : tokens_from line start ≡ tokens_from line column) where
  -- a term by itself
  place_read : (sort : Sort) (text : Bytes) → Begins sort text rest → role_of sort ≡ roles.Term → ends_operand rest ≡ true
      → drop column line ≡ text ++ rest
      → place is_deferred line start ≡ read (Plain is_deferred (single sort text)) (column + length text) 0
  place_read sort text begins term ends at =
      let closes = closes_after text rest line column ends at in
      let ended = closes_term (tokens_from line (column + length text)) closes in
      ap (λ e. place_by is_deferred line e (expression_end line start) (tokens_from line (expression_end line start)))
      (expression_read line start column same sort text rest begins term at ended)
      ∙ ap (λ n. place_by is_deferred line (single sort text) n (tokens_from line n))
      (end_read line start column same sort text rest begins term at ended)
      ∙ closes_place is_deferred line (single sort text) (column + length text) (tokens_from line (column + length text)) closes

  -- an index, and a register in brackets
  index_read : (number : ℕ) (register : Register)
      → drop column line ≡ number_text number ++ 0o50 ∷ (register_text register ++ 0o51 ∷ rest)
      → place is_deferred line start
      ≡ read (Indexed is_deferred (number_written number) (register_written register))
      (column + length (number_text number) + 1 + length (register_text register) + 1) 0
  index_read number register at =
      let inner : Bytes = register_text register ++ 0o51 ∷ rest in
      let digits = number_text number in
      let begins = digits_begin number (0o50 ∷ inner) (open_stops inner) in
      let after : ℕ = column + length digits in
      let left = past line digits (0o50 ∷ inner) column at in
      let opens = token_first sorts.Open (0o50 ∷ []) inner line after (open_begins inner) left in
      let ended : EndTerm (tokens_from line after) =
      subst EndTerm (sym opens) (foreign_ends (token_at sorts.Open after (0o50 ∷ [])) (tokens_from line (after + 1)) refl) in
      ap (λ e. place_by is_deferred line e (expression_end line start) (tokens_from line (expression_end line start)))
      (expression_read line start column same sorts.Number digits (0o50 ∷ inner) begins refl at ended)
      ∙ ap (λ n. place_by is_deferred line (number_written number) n (tokens_from line n))
      (end_read line start column same sorts.Number digits (0o50 ∷ inner) begins refl at ended)
      ∙ ap (place_by is_deferred line (number_written number) after) opens
      ∙ closed_read line rest register (after + 1) (past line (0o50 ∷ []) inner after left)
      (Indexed is_deferred (number_written number))

-- ---- each operand

-- a name or a number is a term, and so it begins an operand by itself
pub term_role : (b : Bool) → role_of (term_sort b) ≡ roles.Term
term_role true = refl
term_role false = refl

term_placed : (line : Bytes) (start end : ℕ) (tokens : List Lexeme) (b : Bool)
    → operand_from line start (term_sort b) (term_sort b) end tokens ≡ place false line start
term_placed line start end tokens true = refl
term_placed line start end tokens false = refl

term_deferred : (line : Bytes) (start column end : ℕ) (text : Bytes) (tokens : List Lexeme) (b : Bool)
    → deferred_by line start (token_at (term_sort b) column text ∷ tokens) ≡ place true line start
term_deferred line start column end text tokens true = refl
term_deferred line start column end text tokens false = refl

module _ (symbols : List Symbol) (spelled : AllByRecursion IsSpelled symbols) (line rest : Bytes) (ends : ends_operand rest ≡ true)
    (start column : ℕ) (same : tokens_from line start ≡ tokens_from line column) where
  -- what the first token decides
  opened : (sort : Sort) (first text : Bytes) → Begins sort first text → drop column line ≡ first ++ text
      → operand_at line start ≡ operand_by line start (token_at sort column first ∷ tokens_from line (column + length first))
  opened sort first text begins at = ap (operand_by line start) (same ∙ token_first sort first text line column begins at)

  -- what the first token after `@` decides
  deferred : (sort : Sort) (first text : Bytes) → Begins sort first text → drop column line ≡ 0o100 ∷ (first ++ text)
      → operand_at line start
      ≡ deferred_by line (column + 1) (token_at sort (column + 1) first ∷ tokens_from line (column + 1 + length first))
  deferred sort first text begins at =
      opened sorts.At (0o100 ∷ []) (first ++ text) (at_begins (first ++ text)) at
      ∙ ap (deferred_by line (column + 1))
      (token_first sort first text line (column + 1) begins (past line (0o100 ∷ []) (first ++ text) column at))

  -- the column after an operand
  to_end : (operand : WrittenOperand Expression) (one other : ℕ) → one ≡ other → read operand one 0 ≡ read operand other 0
  to_end operand one other e = ap (λ n. read operand n 0) e

  pub operand_read : (a : Argument) → drop column line ≡ argument_text symbols a ++ rest
      → operand_at line start ≡ read (operand_written symbols a) (column + length (argument_text symbols a)) 0
  operand_read (argument.Plain register) at =
      let begins = register_begins register rest (ended_stops rest ends) in
      opened sorts.Name (register_text register) rest begins at
      ∙ place_read line rest false start column same sorts.Name (register_text register) begins refl ends at
  operand_read (argument.Deferred register) at =
      let inner : Bytes = register_text register ++ 0o51 ∷ rest in
      let written = at ∙ between_left (codes "(") (codes ")") rest register in
      opened sorts.Open (0o50 ∷ []) inner (open_begins inner) written
      ∙ pointed_read line rest false (column + 1) register ends (past line (0o50 ∷ []) inner column written)
      ∙ to_end (Pointed false (register_written register)) _ _ (omega (arith, between_length (codes "(") (codes ")") register))
  operand_read (argument.Forward register) at =
      let inner : Bytes = register_text register ++ 0o51 ∷ (0o53 ∷ rest) in
      let written = at ∙ between_left (codes "(") (codes ")+") rest register in
      opened sorts.Open (0o50 ∷ []) inner (open_begins inner) written
      ∙ stepped_read line rest false (column + 1) register (past line (0o50 ∷ []) inner column written)
      ∙ to_end (Stepped false (register_written register)) _ _ (omega (arith, between_length (codes "(") (codes ")+") register))
  operand_read (argument.DeferredForward register) at =
      let inner : Bytes = register_text register ++ 0o51 ∷ (0o53 ∷ rest) in
      let written = at ∙ between_left (codes "@(") (codes ")+") rest register in
      deferred sorts.Open (0o50 ∷ []) inner (open_begins inner) written
      ∙ stepped_read line rest true (column + 1 + 1) register
      (past line (0o50 ∷ []) inner (column + 1) (past line (0o100 ∷ []) (0o50 ∷ inner) column written))
      ∙ to_end (Stepped true (register_written register)) _ _ (omega (arith, between_length (codes "@(") (codes ")+") register))
  operand_read (argument.Backward register) at =
      let inner : Bytes = 0o50 ∷ (register_text register ++ 0o51 ∷ rest) in
      let written = at ∙ between_left (codes "-(") (codes ")") rest register in
      opened sorts.Minus (0o55 ∷ []) inner (minus_begins inner) written
      ∙ minus_read line rest false (column + 1) start register (past line (0o55 ∷ []) inner column written)
      ∙ to_end (Before false (register_written register)) _ _ (omega (arith, between_length (codes "-(") (codes ")") register))
  operand_read (argument.DeferredBackward register) at =
      let inner : Bytes = 0o50 ∷ (register_text register ++ 0o51 ∷ rest) in
      let written = at ∙ between_left (codes "@-(") (codes ")") rest register in
      deferred sorts.Minus (0o55 ∷ []) inner (minus_begins inner) written
      ∙ minus_read line rest true (column + 1 + 1) (column + 1) register
      (past line (0o55 ∷ []) inner (column + 1) (past line (0o100 ∷ []) (0o55 ∷ inner) column written))
      ∙ to_end (Before true (register_written register)) _ _ (omega (arith, between_length (codes "@-(") (codes ")") register))
  operand_read (argument.Indexed number register) at =
      let inner : Bytes = register_text register ++ 0o51 ∷ rest in
      let written = at ∙ index_left number rest register in
      opened sorts.Number (number_text number) (0o50 ∷ inner) (digits_begin number (0o50 ∷ inner) (open_stops inner)) written
      ∙ index_read line rest false start column same number register written
      ∙ to_end (Indexed false (number_written number) (register_written register)) _ _ (omega (arith, index_length number register))
  operand_read (argument.DeferredIndexed number register) at =
      let inner : Bytes = register_text register ++ 0o51 ∷ rest in
      let written = at ∙ ap (λ text. 0o100 ∷ text) (index_left number rest register) in
      deferred sorts.Number (number_text number) (0o50 ∷ inner) (digits_begin number (0o50 ∷ inner) (open_stops inner)) written
      ∙ index_read line rest true (column + 1) (column + 1) refl number register
      (past line (0o100 ∷ []) (number_text number ++ 0o50 ∷ inner) column written)
      ∙ to_end (Indexed true (number_written number) (register_written register)) _ _ (omega (arith, index_length number register))
  operand_read (argument.Immediate number) at =
      let inner : Bytes = number_text number ++ rest in
      opened sorts.NumberSign (0o43 ∷ []) inner (sharp_begins inner) at
      ∙ immediate_read line rest false (column + 1) sorts.Number (number_text number) (digits_begin number rest (ended_stops rest ends)) refl
      ends (past line (0o43 ∷ []) inner column at)
      ∙ to_end (Immediate false (number_written number)) _ _ (omega arith)
  operand_read (argument.Absolute address) at =
      let text : Bytes = address_text symbols address in
      let one = address_token symbols spelled address in
      let inner : Bytes = text ++ rest in
      deferred sorts.NumberSign (0o43 ∷ []) inner (sharp_begins inner) at
      ∙ immediate_read line rest true (column + 1 + 1) (term_sort one.is_name) text (one.begins rest (ended_stops rest ends))
      (term_role one.is_name) ends (past line (0o43 ∷ []) inner (column + 1) (past line (0o100 ∷ []) (0o43 ∷ inner) column at))
      ∙ ap₂ (λ e n. read (Immediate true e) n 0) (sym one.written) (omega arith)
  operand_read (argument.Relative address) at =
      let text : Bytes = address_text symbols address in
      let one = address_token symbols spelled address in
      let begins = one.begins rest (ended_stops rest ends) in
      opened (term_sort one.is_name) text rest begins at
      ∙ term_placed line start (column + length text) (tokens_from line (column + length text)) one.is_name
      ∙ place_read line rest false start column same (term_sort one.is_name) text begins (term_role one.is_name) ends at
      ∙ ap (λ e. read (Plain false e) (column + length text) 0) (sym one.written)
  operand_read (argument.DeferredRelative address) at =
      let text : Bytes = address_text symbols address in
      let one = address_token symbols spelled address in
      let begins = one.begins rest (ended_stops rest ends) in
      deferred (term_sort one.is_name) text rest begins at
      ∙ term_deferred line (column + 1) (column + 1) (column + 1 + length text) text (tokens_from line (column + 1 + length text)) one.is_name
      ∙ place_read line rest true (column + 1) (column + 1) refl (term_sort one.is_name) text begins (term_role one.is_name) ends
      (past line (0o100 ∷ []) (text ++ rest) column at)
      ∙ ap₂ (λ e n. read (Plain true e) n 0) (sym one.written) (omega arith)

pub argument_read : (symbols : List Symbol) → AllByRecursion IsSpelled symbols → (a : Argument) (rest line : Bytes) (column : ℕ) → ends_operand rest ≡ true
    → drop column line ≡ argument_text symbols a ++ rest
    → operand_at line column ≡ read (operand_written symbols a) (column + length (argument_text symbols a)) 0
argument_read symbols spelled a rest line column ends at = operand_read symbols spelled line rest ends column column refl a at
