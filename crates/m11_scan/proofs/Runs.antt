-- The open line after bytes that are added in runs.
use Rattle.std.proofs.Common.{◌≡◌, ℕ, ◌+◌, ◌-◌, Bool, true, false, List, [], ◌∷◌, ◌++◌, length, take, drop, refl, sym, ap, ◌∙◌, arith, append_assoc, subst}
use Rattle.std.specs.Prelude.{◌==◌, ◌||◌, not}
use Rattle.std.specs.Bool.{IsTrue}
use Rattle.std.specs.List.{AllByRecursion}
use Rattle.std.proofs.lemmas.List.{length-append, append-nil, take-append-drop}
use Rattle.std.proofs.Math.Seq.{take-append_seam}
use Rattle.m11_scan.specs.Classes.{is_plain}
use Rattle.m11_scan.specs.Lines.{HasNoLineFeed}
use Rattle.m11_scan.specs.Line.{with_bytes}
use Rattle.m11_scan.specs.OpenLine.{OpenLine, with_byte, with_all, with_plain, with_return}
use Rattle.m11_scan.specs.Sources.{TookOf}
use Rattle.m11_scan.proofs.MoreBytes.{with_bytes-more}

pub none_of : (xs : List ℕ) → length xs ≡ 0 → xs ≡ []
none_of [] e = refl
none_of (x ∷ xs) e = absurd (omega arith)

pub free_then : (xs ys : List ℕ) → HasNoLineFeed xs → HasNoLineFeed ys → HasNoLineFeed (xs ++ ys)
free_then [] ys g h = h
free_then (x ∷ xs) ys g h = (g.0, free_then xs ys g.1 h)

pub with_all-append : (line : OpenLine) (xs ys : List ℕ) → with_all line (xs ++ ys) ≡ with_all (with_all line xs) ys
with_all-append line [] ys = refl
with_all-append line (x ∷ xs) ys = with_all-append (with_byte line x) xs ys

-- ---- runs of bytes that a line contains unchanged

abbrev Plain : List ℕ → Type 0
Plain bytes = AllByRecursion (λ byte. IsTrue (is_plain byte)) bytes

no_first : (a b c d : Bool) → IsTrue (not (a || b || c || d)) → (a ≡ false) × (b ≡ false) × (c ≡ false) × (d ≡ false)
no_first true b c d h = absurd (cc)
no_first false true c d h = absurd (cc)
no_first false false true d h = absurd (cc)
no_first false false false true h = absurd (cc)
no_first false false false false h = (refl, refl, refl, refl)

plain_free : (bytes : List ℕ) → Plain bytes → HasNoLineFeed bytes
plain_free [] h = tt
plain_free (byte ∷ bytes) h =
    ((no_first (byte == 0) (byte == 10) (byte == 12) (byte == 13) h.0).1, plain_free bytes h.1)

plain_byte : (line : OpenLine) (byte : ℕ) → IsTrue (is_plain byte)
    → with_byte line byte ≡ record { kept = with_bytes (with_return line) (byte ∷ []); has_return = false }
plain_byte line byte h =
    let n = no_first (byte == 0) (byte == 10) (byte == 12) (byte == 13) h in
    rw (n.0, n.3, n.2) refl

plain_more : (line : OpenLine) (byte : ℕ) (bytes : List ℕ)
    → with_plain (record { kept = with_bytes (with_return line) (byte ∷ []); has_return = false }) bytes
    ≡ with_plain line (byte ∷ bytes)
plain_more line byte [] = refl
plain_more line byte (next ∷ bytes) =
    ap (λ k. record { kept = k; has_return = false })
    (with_bytes-more (with_return line) (byte ∷ []) (next ∷ bytes))

plain_run : (line : OpenLine) (bytes : List ℕ) → Plain bytes → with_all line bytes ≡ with_plain line bytes
plain_run line [] h = refl
plain_run line (byte ∷ bytes) h =
    ap (λ (l : OpenLine). with_all l bytes) (plain_byte line byte h.0)
    ∙ plain_run (record { kept = with_bytes (with_return line) (byte ∷ []); has_return = false }) bytes h.1
    ∙ plain_more line byte bytes

-- ---- a loop over the bytes, so far

pub record SoFar (bytes rest : List ℕ) (old now : OpenLine) : Type 0 where
  pub given : List ℕ
  pub whole : bytes ≡ given ++ rest
  pub free : HasNoLineFeed given
  pub is : now ≡ with_all old given

pub begins : (bytes : List ℕ) (line : OpenLine) → SoFar bytes bytes line line
begins bytes line = record { given = []; whole = refl; free = tt; is = refl }

module _ (bytes rest after : List ℕ) (n : ℕ) (old now next : OpenLine) (s : SoFar bytes rest old now)
    (plain : Plain (take n rest)) (left : drop n rest ≡ after) (run : next ≡ with_plain now (take n rest)) where
  abbrev front : List ℕ
  front = s.given ++ take n rest

  front_whole : bytes ≡ front ++ after
  front_whole = s.whole ∙ ap (λ (t : List ℕ). s.given ++ t)
      (sym (take-append-drop n rest) ∙ ap (λ (t : List ℕ). take n rest ++ t) left)
      ∙ sym (append_assoc s.given (take n rest) after)

  front_free : HasNoLineFeed front
  front_free = free_then s.given (take n rest) s.free (plain_free (take n rest) plain)

  front_is : next ≡ with_all old front
  front_is = run ∙ sym (plain_run now (take n rest) plain) ∙ ap (λ (l : OpenLine). with_all l (take n rest)) s.is
      ∙ sym (with_all-append old s.given (take n rest))

  pub takes_all : after ≡ [] → TookOf bytes old next (length bytes) false
  takes_all e =
      let whole : bytes ≡ front = front_whole ∙ ap (λ (t : List ℕ). front ++ t) e ∙ append-nil front in
      let P : List ℕ → Type 0 = λ xs. HasNoLineFeed xs in
      (refl, subst P (sym whole) front_free, front_is ∙ ap (with_all old) (sym whole))

  pub takes_line_feed : (more : List ℕ) → after ≡ 10 ∷ more → TookOf bytes old next (length bytes - length more) true
  takes_line_feed more e =
      let whole : bytes ≡ (front ++ 10 ∷ []) ++ more =
      front_whole ∙ ap (λ (t : List ℕ). front ++ t) e ∙ sym (append_assoc front (10 ∷ []) more) in
      let longer : length ((front ++ 10 ∷ []) ++ more) ≡ length (front ++ 10 ∷ []) + length more =
      length-append (front ++ 10 ∷ []) more in
      let one : length (front ++ 10 ∷ []) ≡ length front + 1 = length-append front (10 ∷ []) in
      let size : length bytes ≡ length ((front ++ 10 ∷ []) ++ more) = ap length whole in
      let count : length bytes - length more ≡ length (front ++ 10 ∷ []) = omega arith in
      let part : take (length (front ++ 10 ∷ [])) ((front ++ 10 ∷ []) ++ more) ≡ front ++ 10 ∷ [] =
      take-append_seam (front ++ 10 ∷ []) more in
      (front, rw (count, whole) part, omega arith, front_free, front_is)

  pub takes_byte : (byte : ℕ) (more : List ℕ) (last : OpenLine) → after ≡ byte ∷ more → (byte == 10) ≡ false
      → last ≡ with_byte next byte → SoFar bytes more old last
  takes_byte byte more last e other is = record {
    given = front ++ byte ∷ [];
    whole = front_whole ∙ ap (λ (t : List ℕ). front ++ t) e ∙ sym (append_assoc front (byte ∷ []) more);
    free = free_then front (byte ∷ []) front_free (other, tt);
    is = is ∙ ap (λ (l : OpenLine). with_byte l byte) front_is ∙ sym (with_all-append old front (byte ∷ []));
  }
