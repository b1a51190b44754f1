-- The open line after some bytes.
use Rattle.std.proofs.Common.{◌≡◌, ℕ, Bool, true, false, cond, List, [], ◌∷◌, ◌++◌, refl, sym, ap, ◌∙◌, append_assoc, inl, inr}
use Rattle.std.specs.Prelude.{◌==◌}
use Rattle.std.proofs.lemmas.Bool.{eqb-true}
use Rattle.std.proofs.lemmas.List.{append-nil}
use Rattle.m11_scan.specs.Lines.{cleaned, as_read, is_empty, without_return}
use Rattle.m11_scan.specs.Line.{line_of}
use Rattle.m11_scan.specs.OpenLine.{OpenLine, nothing_open, with_return, with_byte, with_all, is_unbegun}
use Rattle.m11_scan.proofs.Cuts.{either}
use Rattle.m11_scan.proofs.MoreBytes.{line_of-more}
use Rattle.m11_scan.proofs.SourceSteps.{cleaned-append}

-- whether the last byte is a CR
abbrev pub ends_in_return : List ℕ → Bool
ends_in_return [] = false
ends_in_return (x ∷ xs) = cond (is_empty xs) (x == 13) (ends_in_return xs)

-- ---- one more character

past_first : (xs : List ℕ) (y : ℕ) → is_empty (xs ++ y ∷ []) ≡ false
past_first [] y = refl
past_first (x ∷ xs) y = refl

without-return : (xs : List ℕ) → without_return (xs ++ 13 ∷ []) ≡ xs
without-return [] = refl
without-return (x ∷ xs) = rw (past_first xs 13) (ap (λ (t : List ℕ). x ∷ t) (without-return xs))

without-other : (xs : List ℕ) (y : ℕ) → (y == 13) ≡ false → without_return (xs ++ y ∷ []) ≡ xs ++ y ∷ []
without-other [] y e = rw e refl
without-other (x ∷ xs) y e = rw (past_first xs y) (ap (λ (t : List ℕ). x ∷ t) (without-other xs y e))

ends-push : (xs : List ℕ) (y : ℕ) → ends_in_return (xs ++ y ∷ []) ≡ (y == 13)
ends-push [] y = refl
ends-push (x ∷ xs) y = rw (past_first xs y) (ends-push xs y)

abbrev return_of : Bool → List ℕ
return_of has_return = cond has_return (13 ∷ []) []

put_back : (xs : List ℕ) → without_return xs ++ return_of (ends_in_return xs) ≡ xs
put_back [] = refl
put_back (x ∷ []) = elim (either (x == 13)) [
  | inl e ↦ let is = eqb-true x 13 e in rw e (ap (λ n. n ∷ []) (sym is))
  | inr e ↦ rw e refl
]
put_back (x ∷ y ∷ xs) = ap (λ (t : List ℕ). x ∷ t) (put_back (y ∷ xs))

-- ---- the open line of some bytes

abbrev open_of : List ℕ → OpenLine
open_of text = record { kept = line_of (without_return text); has_return = ends_in_return text }

returned : (xs : List ℕ) (has_return : Bool)
    → with_return (record { kept = line_of xs; has_return = has_return }) ≡ line_of (xs ++ return_of has_return)
returned xs true = line_of-more xs (13 ∷ [])
returned xs false = ap line_of (sym (append-nil xs))

pub open_returned : (text : List ℕ) → with_return (open_of text) ≡ line_of text
open_returned text = returned (without_return text) (ends_in_return text) ∙ ap line_of (put_back text)

some_read : (x : ℕ) → (x == 0) ≡ false → cleaned (x ∷ []) ≡ as_read x ∷ []
some_read x e = rw e refl

none_read : (x : ℕ) → (x == 0) ≡ true → cleaned (x ∷ []) ≡ []
none_read x e = rw e refl

read_as_other : (x : ℕ) → (x == 13) ≡ false → (as_read x == 13) ≡ false
read_as_other x e = elim (either (x == 12)) [ inl is ↦ rw is refl | inr other ↦ rw other e ]

read_as_return : (x : ℕ) → (x == 13) ≡ true → as_read x ≡ 13
read_as_return x e = let is = eqb-true x 13 e in rw is refl

one_more : (text : List ℕ) (byte : ℕ) → with_byte (open_of text) byte ≡ open_of (text ++ cleaned (byte ∷ []))
one_more text byte = elim (either (byte == 0)) [
  | inl nul ↦ rw (none_read byte nul, nul, append-nil text) refl
  | inr some ↦ elim (either (byte == 13)) [
    | inl return ↦
        rw (some_read byte some, some, return, read_as_return byte return, open_returned text, without-return text, ends-push text 13)
        refl
    | inr other ↦
        rw (
          some_read byte some,
          some,
          other,
          open_returned text,
          line_of-more text (as_read byte ∷ []),
          without-other text (as_read byte) (read_as_other byte other),
          ends-push text (as_read byte),
          read_as_other byte other,
        )
        refl
  ]
]

all_more : (text bytes : List ℕ) → with_all (open_of text) bytes ≡ open_of (text ++ cleaned bytes)
all_more text [] = ap open_of (sym (append-nil text))
all_more text (byte ∷ bytes) = ap (λ (l : OpenLine). with_all l bytes) (one_more text byte)
    ∙ all_more (text ++ cleaned (byte ∷ [])) bytes
    ∙ ap open_of (append_assoc text (cleaned (byte ∷ [])) (cleaned bytes)
    ∙ ap (λ (t : List ℕ). text ++ t) (sym (cleaned-append (byte ∷ []) bytes)))

opened : (bytes : List ℕ) → with_all nothing_open bytes ≡ open_of (cleaned bytes)
opened bytes = all_more [] bytes

-- ---- facts about it

either_way : (b : Bool) → cond b false false ≡ false
either_way true = refl
either_way false = refl

unbegun : (text : List ℕ) → is_unbegun (open_of text) ≡ is_empty text
unbegun [] = refl
unbegun (x ∷ []) = elim (either (x == 13)) [ inl e ↦ rw e refl | inr e ↦ rw e refl ]
unbegun (x ∷ y ∷ xs) = either_way (ends_in_return (y ∷ xs))

module _ (line : OpenLine) (bytes : List ℕ) (is : line ≡ with_all nothing_open bytes) where
  pub at_line_feed : line.kept ≡ line_of (without_return (cleaned bytes))
  at_line_feed = ap (λ (l : OpenLine). l.kept) (is ∙ opened bytes)

  pub at_end : with_return line ≡ line_of (cleaned bytes)
  at_end = ap with_return (is ∙ opened bytes) ∙ open_returned (cleaned bytes)

  pub tells : is_unbegun line ≡ is_empty (cleaned bytes)
  tells = ap is_unbegun (is ∙ opened bytes) ∙ unbegun (cleaned bytes)

  pub stays_unbegun : cleaned bytes ≡ [] → line ≡ nothing_open
  stays_unbegun e = is ∙ opened bytes ∙ ap open_of e
