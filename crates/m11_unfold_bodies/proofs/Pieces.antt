-- A line of a body is replaced piece by piece.
use Rattle.std.proofs.Common.{◌≡◌, ℕ, suc, ◌+◌, ◌<◌, Bool, true, false, List, [], ◌∷◌, ◌++◌, drop, take, refl, sym, ap, ◌∙◌, subst, arith, append_assoc}
use Rattle.std.specs.Prelude.{◌&&◌, ◌||◌, if◌then◌else◌, unwrap_or}
use Rattle.std.specs.List.{prefix_len}
use Rattle.std.proofs.lemmas.List.{append-nil}
use Rattle.m11_base.specs.NameCharacters.{is_name_character}
use Rattle.m11_scan.specs.Line.{SourceLine, line_of, with_bytes}
use Rattle.m11_scan.proofs.MoreBytes.{line_of-more}
use Rattle.m11_unfold_bodies.specs.Substitution.{Run, Other, pieces_of, piece_of, text_of, is_quote, begins_replaced, actual_for, is_replaced, joined, substituted}

-- a name character before a text begins a run that includes the name characters at the front of the text
pub run_first : (byte : ℕ) (text : List ℕ) → is_name_character byte ≡ true
    → pieces_of (byte ∷ text)
    ≡ Run (byte ∷ take (prefix_len is_name_character text) text) ∷ pieces_of (drop (prefix_len is_name_character text) text)
run_first byte [] named = rw named refl
run_first byte (next ∷ text) named = go (is_name_character next) refl (λ e. run_first next text e) where
  go : (b : Bool) → is_name_character next ≡ b
      → (is_name_character next ≡ true → pieces_of (next ∷ text)
      ≡ Run (next ∷ take (prefix_len is_name_character text) text) ∷ pieces_of (drop (prefix_len is_name_character text) text))
      → pieces_of (byte ∷ next ∷ text)
      ≡ Run (byte ∷ take (prefix_len is_name_character (next ∷ text)) (next ∷ text))
      ∷ pieces_of (drop (prefix_len is_name_character (next ∷ text)) (next ∷ text))
  go true e rest =
      let more = rest e in
      let one : 1 + prefix_len is_name_character text ≡ suc (prefix_len is_name_character text) = omega arith in
      rw (named, more, e, one) refl
  go false e rest = rw (named, e, e) refl

-- the first piece of a text that begins with name characters is the run of these characters
pub run_piece : (text : List ℕ) (n : ℕ) → n ≡ prefix_len is_name_character text → 0 < n
    → pieces_of text ≡ piece_of (take n text) ∷ pieces_of (drop n text)
run_piece [] n is some = absurd (omega arith)
run_piece (byte ∷ text) n is some = go (is_name_character byte) refl where
  go : (b : Bool) → is_name_character byte ≡ b → pieces_of (byte ∷ text) ≡ piece_of (take n (byte ∷ text)) ∷ pieces_of (drop n (byte ∷ text))
  go true e =
      let is' = rw e at is in
      let k : n ≡ suc (prefix_len is_name_character text) = omega arith in
      run_first byte text e
      ∙ ap (λ (b : Bool). (if b then Run (byte ∷ take (prefix_len is_name_character text) text) else Other byte)
      ∷ pieces_of (drop (prefix_len is_name_character text) text)) (sym e)
      ∙ sym (ap (λ (m : ℕ). piece_of (take m (byte ∷ text)) ∷ pieces_of (drop m (byte ∷ text))) k)
  go false e = let is' = rw e at is in absurd (omega arith)

module _ (formals : List (ℕ × ℕ)) (actuals : List (List ℕ)) (is_after : Bool) where
  pub next_joined : (rest piece tail put : List ℕ) (is_gone replaced : Bool)
      → pieces_of rest ≡ piece_of piece ∷ pieces_of tail → text_of (piece_of piece) ≡ piece
      → is_gone ≡ (is_quote (piece_of piece) && (is_after || begins_replaced formals actuals (pieces_of tail)))
      → put ≡ unwrap_or (actual_for formals actuals (piece_of piece)) (if is_gone then [] else piece)
      → replaced ≡ is_replaced formals actuals (piece_of piece)
      → joined formals actuals is_after (pieces_of rest) ≡ put ++ joined formals actuals replaced (pieces_of tail)
  next_joined rest piece tail put is_gone replaced pieces text gone is puts =
      ap (joined formals actuals is_after) pieces
      ∙ ap (λ (t : List ℕ). unwrap_or (actual_for formals actuals (piece_of piece))
      (if is_quote (piece_of piece) && (is_after || begins_replaced formals actuals (pieces_of tail)) then [] else t) ++ joined formals actuals (is_replaced formals actuals (piece_of piece)) (pieces_of tail)) text
      ∙ ap (λ (b : Bool). unwrap_or (actual_for formals actuals (piece_of piece)) (if b then [] else piece)
      ++ joined formals actuals (is_replaced formals actuals (piece_of piece)) (pieces_of tail)) (sym gone)
      ∙ ap (λ (t : List ℕ). t ++ joined formals actuals (is_replaced formals actuals (piece_of piece)) (pieces_of tail)) (sym is)
      ∙ ap (λ (b : Bool). put ++ joined formals actuals b (pieces_of tail)) (sym puts)

  pub step_joined : (n : ℕ) (rest piece tail put : List ℕ) (is_gone replaced : Bool) → piece ≡ take n rest → tail ≡ drop n rest
      → pieces_of rest ≡ piece_of (take n rest) ∷ pieces_of (drop n rest) → text_of (piece_of (take n rest)) ≡ take n rest
      → is_gone ≡ (is_quote (piece_of piece) && (is_after || begins_replaced formals actuals (pieces_of tail)))
      → put ≡ unwrap_or (actual_for formals actuals (piece_of piece)) (if is_gone then [] else piece)
      → replaced ≡ is_replaced formals actuals (piece_of piece)
      → joined formals actuals is_after (pieces_of rest) ≡ put ++ joined formals actuals replaced (pieces_of tail)
  step_joined n rest piece tail put is_gone replaced front back pieces text =
      let T : List ℕ → Type 0 = λ t. text_of (piece_of t) ≡ t in
      next_joined rest piece tail put is_gone replaced
      (pieces ∙ ap (λ (t : List ℕ). piece_of t ∷ pieces_of (drop n rest)) (sym front)
      ∙ ap (λ (t : List ℕ). piece_of piece ∷ pieces_of t) (sym back))
      (subst T (sym front) text)

-- the front of a substituted text is in the line, and the rest is still to be added
pub record SoFar (formals : List (ℕ × ℕ)) (actuals : List (List ℕ)) (text rest : List ℕ) (is_after : Bool) (line : SourceLine) : Type 0 where
  pub done : List ℕ
  pub is : line ≡ line_of done
  pub whole : done ++ joined formals actuals is_after (pieces_of rest) ≡ substituted formals actuals text

module _ {formals : List (ℕ × ℕ)} {actuals : List (List ℕ)} {text rest : List ℕ} {is_after : Bool} {line : SourceLine} where
  pub one_more : (so_far : SoFar formals actuals text rest is_after line) (out more : List ℕ) (replaced : Bool) (line' : SourceLine)
      → joined formals actuals is_after (pieces_of rest) ≡ out ++ joined formals actuals replaced (pieces_of more)
      → line' ≡ with_bytes line out → SoFar formals actuals text more replaced line'
  one_more so_far out more replaced line' next pushed = record {
    done = so_far.done ++ out;
    is = pushed ∙ ap (λ (l : SourceLine). with_bytes l out) so_far.is ∙ line_of-more so_far.done out;
    whole = append_assoc so_far.done out (joined formals actuals replaced (pieces_of more))
        ∙ ap (λ (t : List ℕ). so_far.done ++ t) (sym next) ∙ so_far.whole;
  }

  pub all_done : (so_far : SoFar formals actuals text rest is_after line) → rest ≡ [] → line ≡ line_of (substituted formals actuals text)
  all_done so_far empty =
      let P : List ℕ → Type 0 = λ r. so_far.done ++ joined formals actuals is_after (pieces_of r) ≡ substituted formals actuals text in
      let whole = subst P empty so_far.whole in
      so_far.is ∙ ap line_of (sym (append-nil so_far.done) ∙ whole)
