-- A line with further bytes.
use Rattle.std.proofs.Common.{◌≡◌, ℕ, ◌+◌, ◌<◌, ◌≤◌, Bool, true, false, List, ◌++◌, length, take, refl, sym, ap, ◌∙◌, arith, inl, inr, append_assoc}
use Rattle.std.specs.Prelude.{◌||◌, nat_lt}
use Rattle.std.proofs.lemmas.Bool.{cases_lt, lt-ltb, le-ltb}
use Rattle.std.proofs.lemmas.List.{length-append, length-take-le, take_all, take-append-le}
use Rattle.std.proofs.Math.Seq.{take-append-add}
use Rattle.m11_scan.specs.Line.{SourceLine, no_line, line_of, with_bytes}

or_assoc : (a b c : Bool) → ((a || b) || c) ≡ (a || (b || c))
or_assoc true b c = refl
or_assoc false b c = refl

-- if a text is cut to 132 characters before further bytes are added, the result is the same as if it is cut only afterwards
module _ (xs ys : List ℕ) where
  together : length (xs ++ ys) ≡ length xs + length ys
  together = length-append xs ys

  cut_text : take 132 (take 132 xs ++ ys) ≡ take 132 (xs ++ ys)
  cut_text = elim (cases_lt (length xs) 132) [
    | inl lt ↦ let kept = take_all 132 xs (omega arith) in rw kept refl
    | inr le ↦
        let short : length (take 132 xs) ≡ 132 = length-take-le 132 xs le in
        let one : take 132 (take 132 xs ++ ys) ≡ take 132 (take 132 xs) = take-append-le 132 (take 132 xs) ys (omega arith) in
        let two : take 132 (take 132 xs) ≡ take 132 xs = take_all 132 (take 132 xs) (omega arith) in
        one ∙ two ∙ sym (take-append-le 132 xs ys le)
  ]

  cut_mark : (nat_lt 132 (length xs) || nat_lt 132 (length (take 132 xs ++ ys))) ≡ nat_lt 132 (length (xs ++ ys))
  cut_mark = elim (cases_lt 132 (length xs)) [
    | inl lt ↦
        let longer = together in
        let one = lt-ltb 132 (length xs) lt in
        let two = lt-ltb 132 (length (xs ++ ys)) (omega arith) in
        rw (one, two) refl
    | inr le ↦
        let kept = take_all 132 xs le in
        let one = le-ltb 132 (length xs) le in
        rw (one, kept) refl
  ]

pub with_bytes-more : (line : SourceLine) (xs ys : List ℕ)
    → with_bytes (with_bytes line xs) ys ≡ with_bytes line (xs ++ ys)
with_bytes-more line xs ys =
    ap (λ (t : List ℕ). record {
      text = t;
      is_over_long = (line.is_over_long || nat_lt 132 (length (line.text ++ xs)))
          || nat_lt 132 (length (take 132 (line.text ++ xs) ++ ys));
    }) (cut_text (line.text ++ xs) ys)
    ∙ ap (λ (b : Bool). record { text = take 132 ((line.text ++ xs) ++ ys); is_over_long = b })
    (or_assoc line.is_over_long (nat_lt 132 (length (line.text ++ xs))) (nat_lt 132 (length (take 132 (line.text ++ xs) ++ ys)))
    ∙ ap (λ (b : Bool). line.is_over_long || b) (cut_mark (line.text ++ xs) ys))
    ∙ ap (λ (t : List ℕ). record { text = take 132 t; is_over_long = line.is_over_long || nat_lt 132 (length t) })
    (append_assoc line.text xs ys)

pub line_of-more : (xs ys : List ℕ) → with_bytes (line_of xs) ys ≡ line_of (xs ++ ys)
line_of-more xs ys = with_bytes-more no_line xs ys

-- ---- the characters of further bytes

or_true : (a : Bool) → (a || true) ≡ true
or_true true = refl
or_true false = refl

or_false : (a : Bool) → (a || false) ≡ a
or_false true = refl
or_false false = refl

pub kept_in_part : (text bytes : List ℕ) (is_over_long : Bool) (room : ℕ) → length text + room ≡ 132
    → room < length bytes
    → record { text = text ++ take room bytes; is_over_long = true }
    ≡ with_bytes (record { text = text; is_over_long = is_over_long }) bytes
kept_in_part text bytes is_over_long room all more =
    let longer = length-append text bytes in
    let over = lt-ltb 132 (length (text ++ bytes)) (omega arith) in
    let cut : take (length text + room) (text ++ bytes) ≡ text ++ take room bytes = take-append-add text bytes room in
    let kept = rw all at cut in
    rw (over, or_true is_over_long, kept) refl

pub kept_whole : (text bytes : List ℕ) (is_over_long : Bool) → length text + length bytes ≤ 132
    → record { text = text ++ bytes; is_over_long = is_over_long }
    ≡ with_bytes (record { text = text; is_over_long = is_over_long }) bytes
kept_whole text bytes is_over_long fits =
    let longer = length-append text bytes in
    let within = le-ltb 132 (length (text ++ bytes)) (omega arith) in
    let kept = take_all 132 (text ++ bytes) (omega arith) in
    rw (within, or_false is_over_long, kept) refl
