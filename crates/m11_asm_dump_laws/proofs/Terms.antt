-- Expressions of one token, at a column where they are written.
use Rattle.std.proofs.Common.{◌≡◌, ◌∙◌, ℕ, suc, ◌+◌, ◌-◌, Bool, true, false, ◌&&◌, List, [], ◌∷◌, ◌++◌, length, take, drop, map, refl, sym, ap, subst, arith}
use Rattle.std.specs.Prelude.{nat_le, if◌then◌else◌}
use Rattle.std.proofs.lemmas.Bool.{eqb-true, le-leb}
use Rattle.m11_base.specs.Devices.{Bytes}
use Rattle.m11_scan.specs.Cutting.{Lexeme, tokens_from}
use Rattle.m11_scan.specs.Pieces.{first_piece}
use Rattle.m11_scan.specs.declared.sort.Form.TheVariants.{Blank}
use Rattle.m11_scan.proofs.NextPieces.{skipped_first}
use Rattle.m11_scan.specs.Ends.{column_after, expression_end, sort_in, taken_of}
use Rattle.m11_scan.specs.Expressions.{begin, count_from, goes_on, role_of, taken}
use Rattle.m11_scan.specs.Skipped.{has_skipped, skipped_between}
use Rattle.m11_scan.specs.declared.expressions.Role.TheVariants.{Foreign, Term}
use Rattle.m11_scan.specs.declared.expressions.Within.{Within}
use Rattle.m11_scan.specs.declared.sort.Sort.{Sort}
use Rattle.m11_scan.specs.declared.sort.Sort.TheVariants.{Comma}
use Rattle.m11_scan_expressions.specs.Tokens.{expression, plain}
use Rattle.m11_asm_dump_laws.specs.Operands.{ends_operand, single}
use Rattle.m11_asm_dump_laws.proofs.Tokens.{Begins, Stops, comma_begins, comma_stops, no_token, none_stops, token_at, token_first}

-- the state of an expression after a term outside brackets
abbrev after_term : Within
after_term = record { depth = 0; is_due = false }

-- no expression goes on with these tokens after a term
abbrev pub EndTerm : List Lexeme → Type 0
EndTerm tokens = taken (map sort_in tokens) after_term ≡ 0

-- a token that is no part of an expression ends one
pub foreign_ends : (token : Lexeme) (tokens : List Lexeme) → role_of token.sort ≡ Foreign → EndTerm (token ∷ tokens)
foreign_ends token tokens foreign =
    ap (λ r. count_from (goes_on r after_term) (λ next. taken (map sort_in tokens) next)) foreign

taken_one : (token : Lexeme) (tokens : List Lexeme) → role_of token.sort ≡ Term → EndTerm tokens
    → taken_of begin (token ∷ tokens) ≡ token ∷ []
taken_one token tokens term ends =
    ap (λ r. take (count_from (goes_on r begin) (λ next. taken (map sort_in tokens) next)) (token ∷ tokens)) term
    ∙ ap (λ n. take (suc n) (token ∷ tokens)) ends

-- a token that is a term, written at a column, is read from any column with the same tokens after it
module _ (line : Bytes) (start column : ℕ) (same : tokens_from line start ≡ tokens_from line column) (sort : Sort) (text rest : Bytes)
    (begins : Begins sort text rest) (term : role_of sort ≡ Term) (at : drop column line ≡ text ++ rest)
    (ends : EndTerm (tokens_from line (column + length text))) where
  taken_read : taken_of begin (tokens_from line start) ≡ token_at sort column text ∷ []
  taken_read =
      ap (taken_of begin) (same ∙ token_first sort text rest line column begins at)
      ∙ taken_one (token_at sort column text) (tokens_from line (column + length text)) term ends

  pub expression_read : expression line start ≡ single sort text
  expression_read = ap (map plain) taken_read

  pub end_read : expression_end line start ≡ column + length text
  end_read = ap (column_after start) taken_read

-- ---- the end of an operand

-- there is no token, or the first is a comma
abbrev pub Closes : List Lexeme → Type 0
Closes [] = Unit {0}
Closes (token ∷ tokens) = token.sort ≡ Comma

pub closes_term : (tokens : List Lexeme) → Closes tokens → EndTerm tokens
closes_term [] closes = refl
closes_term (token ∷ tokens) closes = foreign_ends token tokens (ap role_of closes)

pub ended_closes : (rest line : Bytes) (column : ℕ) → ends_operand rest ≡ true → drop column line ≡ rest → Closes (tokens_from line column)
ended_closes [] line column ends at = subst Closes (sym (no_token line column at)) tt
ended_closes (byte ∷ rest) line column ends at =
    let P : ℕ → Type 0 = λ b. drop column line ≡ b ∷ rest in
    let written = subst P (eqb-true byte 0o54 ends) at in
    subst Closes (sym (token_first Comma (0o54 ∷ []) rest line column (comma_begins rest) written)) refl

pub ended_stops : (rest : Bytes) → ends_operand rest ≡ true → Stops rest
ended_stops [] ends = none_stops
ended_stops (byte ∷ rest) ends =
    let P : ℕ → Type 0 = λ b. Stops (b ∷ rest) in subst P (sym (eqb-true byte 0o54 ends)) (comma_stops rest)

-- ---- no text

-- no text is between a column and itself, so no character there is skipped
pub nothing_skipped : (line : Bytes) (column : ℕ) → skipped_between line column column ≡ false
nothing_skipped line column = ap has_skipped (none (nat_le column column && nat_le column (length line)))
  where
    none : (b : Bool) → (if b then take (column - column) (drop column line) else []) ≡ []
    none true = let nothing : column - column ≡ 0 = omega arith in ap (λ n. take n (drop column line)) nothing
    none false = refl

-- a tab at the beginning of a line isn't skipped
pub first_tab_kept : (line rest : Bytes) → line ≡ 9 ∷ rest → skipped_between line 0 1 ≡ false
unfolding first_piece
first_tab_kept line rest at =
    let some : nat_le 1 (length (9 ∷ rest)) ≡ true = le-leb 1 (length (9 ∷ rest)) (omega arith) in
    ap (λ text. skipped_between text 0 1) at
    ∙ ap (λ b. has_skipped (if b then take 1 (9 ∷ rest) else [])) some
    ∙ skipped_first (9 ∷ []) (record { form = Blank; length = 1 }) (omega arith) refl (omega arith)
