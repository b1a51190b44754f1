-- Cutting a text one piece after another.
use Rattle.std.proofs.Common.{◌≡◌, ℕ, zero, suc, ◌+◌, ◌-◌, ◌<◌, ◌≤◌, true, false, List, [], ◌∷◌, ◌++◌, length, drop, take, refl, sym, ap, ◌∙◌, subst, arith}
use Rattle.std.specs.Prelude.{◌||◌}
use Rattle.std.specs.List.{list_any}
use Rattle.std.proofs.lemmas.List.{drop-drop, drop_all, length-drop, take_rest}
use Rattle.m11_scan.specs.declared.sort.Sort.{Sort}
use Rattle.m11_scan.specs.declared.sort.Form.{Form}
use Rattle.m11_scan.specs.declared.sort.Form.TheVariants.{Cut, Blank, Comment, Skipped}
use Rattle.m11_scan.specs.declared.pieces.Piece.{Piece}
use Rattle.m11_scan.specs.Pieces.{first_piece}
use Rattle.m11_scan.specs.Cutting.{Lexeme, lexemes_at, lexemes_from, pieces_after, pieces_of, tokens_from}
use Rattle.m11_scan.specs.Skipped.{has_skipped, is_skipped}
use Rattle.m11_scan.specs.Views.{lexeme}

-- the pieces after n characters of an earlier piece are the pieces of the text without these characters
pub pieces_after-drop : (n : ℕ) (text : List ℕ) → pieces_after n text ≡ pieces_of (drop n text)
pieces_after-drop zero text = refl
pieces_after-drop (suc n) [] = refl
pieces_after-drop (suc n) (byte ∷ text) = pieces_after-drop n text

drop_first : (n byte : ℕ) (text : List ℕ) → 0 < n → drop n (byte ∷ text) ≡ drop (n - 1) text
drop_first zero byte text positive = absurd (omega arith)
drop_first (suc n) byte text positive = let e : n ≡ suc n - 1 = omega arith in ap (λ m. drop m text) e

-- the pieces of a text that isn't empty are its first piece and the pieces of the rest
pub pieces_of-first : (text : List ℕ) → 0 < length text → 0 < (first_piece text).length
    → pieces_of text ≡ first_piece text ∷ pieces_of (drop (first_piece text).length text)
pieces_of-first [] nonempty begins = absurd (omega arith)
pieces_of-first (byte ∷ text) nonempty begins =
    ap (λ rest. first_piece (byte ∷ text) ∷ rest)
    (pieces_after-drop ((first_piece (byte ∷ text)).length - 1) text
    ∙ ap pieces_of (sym (drop_first (first_piece (byte ∷ text)).length byte text begins)))

-- the first piece of the slice from a column to the end of a text is the first piece of the line without the characters before
-- the column
pub cut_from : (line text : List ℕ) (start : ℕ) (piece : Piece) → text ≡ line
    → piece ≡ first_piece (take (length text - start) (drop start text)) → piece ≡ first_piece (drop start line)
cut_from line text start piece same is =
    is ∙ ap first_piece (take_rest text start ∙ ap (drop start) same)

-- a piece that isn't a token yields no token
no_lexeme : (line : List ℕ) (start end : ℕ) (form : Form) → ((sort : Sort) → form ≡ Cut sort → ⊥)
    → lexemes_at line start end form ≡ []
no_lexeme line start end (Cut sort) other = absurd (other sort refl)
no_lexeme line start end Blank other = refl
no_lexeme line start end Comment other = refl
no_lexeme line start end Skipped other = refl

module _ (line : List ℕ) (start : ℕ) (piece : Piece) (inside : start < length line)
    (is : piece ≡ first_piece (drop start line)) (begins : 0 < piece.length) where
  next_pieces : pieces_of (drop start line) ≡ piece ∷ pieces_of (drop (start + piece.length) line)
  next_pieces =
      let nonempty : 0 < length (drop start line) = simp length-drop (omega arith) in
      let P : Piece → Type 0 = λ p. 0 < p.length in
      pieces_of-first (drop start line) nonempty (subst P is begins)
      ∙ ap (λ p. p ∷ pieces_of (drop p.length (drop start line))) (sym is)
      ∙ ap (λ text. piece ∷ pieces_of text) (drop-drop piece.length start line)

  next_lexemes : lexemes_from line start (pieces_of (drop start line))
      ≡ lexemes_at line start (start + piece.length) piece.form
      ++ lexemes_from line (start + piece.length) (pieces_of (drop (start + piece.length) line))
  next_lexemes = ap (lexemes_from line start) next_pieces

  -- if the piece at a column is a token, the tokens there are this one and those after it
  pub token_stands : (sort : Sort) → piece.form ≡ Cut sort
      → tokens_from line start
      ≡ lexeme line (record { sort = sort; start = start; end = start + piece.length })
      ∷ tokens_from line (start + piece.length)
  token_stands sort form =
      let rest : List Lexeme = tokens_from line (start + piece.length) in
      next_lexemes ∙ ap (λ f. lexemes_at line start (start + piece.length) f ++ rest) form

  -- if the piece at a column isn't a token, the tokens there are those after the piece
  pub other_stands : ((sort : Sort) → piece.form ≡ Cut sort → ⊥)
      → tokens_from line start ≡ tokens_from line (start + piece.length)
  other_stands other =
      let rest : List Lexeme = tokens_from line (start + piece.length) in
      next_lexemes ∙ ap (λ ls. ls ++ rest) (no_lexeme line start (start + piece.length) piece.form other)

-- no token comes after the last character
pub none_stands : (line : List ℕ) (start : ℕ) → length line ≤ start → tokens_from line start ≡ []
none_stands line start le =
    ap (λ text. lexemes_from line start (pieces_of text)) (drop_all start line le)

-- a text has a skipped character if its first piece is one, or if the text after the first piece has one
pub skipped_first : (text : List ℕ) (piece : Piece) → 0 < length text → piece ≡ first_piece text → 0 < piece.length
    → has_skipped text ≡ (is_skipped piece.form || has_skipped (drop piece.length text))
skipped_first text piece nonempty is begins =
    let P : Piece → Type 0 = λ p. 0 < p.length in
    let Q : Piece → Type 0 = λ p. has_skipped text ≡ (is_skipped p.form || has_skipped (drop p.length text)) in
    subst Q (sym is) (ap (list_any (λ (p : Piece). is_skipped p.form)) (pieces_of-first text nonempty (subst P is begins)))

module _ (text : List ℕ) (piece : Piece) (nonempty : 0 < length text) (is : piece ≡ first_piece text)
    (begins : 0 < piece.length) where
  pub skipped_here : is_skipped piece.form ≡ true → true ≡ has_skipped text
  skipped_here here =
      sym (skipped_first text piece nonempty is begins
      ∙ ap (λ b. b || has_skipped (drop piece.length text)) here)

  pub skipped_later : (rest : List ℕ) → is_skipped piece.form ≡ false
      → rest ≡ take (length text - piece.length) (drop piece.length text) → has_skipped rest ≡ has_skipped text
  skipped_later rest here same =
      ap has_skipped (same ∙ take_rest text piece.length)
      ∙ sym (skipped_first text piece nonempty is begins
      ∙ ap (λ b. b || has_skipped (drop piece.length text)) here)
