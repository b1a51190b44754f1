-- The number of an option, in terms of its entries.
use Rattle.std.proofs.Common.{◌≡◌, ◌∙◌, ◌<◌, ◌≤◌, ◌^◌, ap, sym, refl, arith, Bool, true, false, ℕ, List, Option, Some, None, Result, Ok, Err}
use Rattle.std.proofs.lemmas.Bool.{false≢true, leb-true, le-leb, lt-leb}
use Rattle.std.specs.Prelude.{if◌then◌else◌, ◌&&◌, nat_le}
use Rattle.std.specs.Str.Parse.{IsNumeral, ParsesUnsigned, digits_value, without_leading_plus}
use Rattle.clap.specs.Words.{Text, one_of, one_text, rows_of, ReadsOne}
use Rattle.clap.specs.ValueTests.{is_unsigned_in}
use Rattle.clap.specs.declared.parser.matches.Found.{Found}
use Rattle.clap.specs.declared.builder.value_parser.ValueParser.TheVariants.{Unsigned}
use Rattle.clap.proofs.ValueTestLemmas.{Accepts-accepts, accepts-Accepts}
use Rattle.clap.proofs.WalkLemmas.{both, one_text-rows}
use Rattle.m11_cli_tasks.specs.Tasks.{number_or}

-- the number that was read, if there is one and it is within the bounds; otherwise `other`
abbrev pub within_or : ℕ → ℕ → ℕ → Option ℕ → ℕ
within_or other least most None = other
within_or other least most (Some n) = if nat_le least n && nat_le n most then n else other

-- whether a parser of type u32 reads a number from a text or not, the same value is made: `make` of the number if it is within the bounds,
-- else `other`
module _ {A : Type 0} (make : ℕ → A) (other : A) (least most : ℕ) (fits : most < 2 ^ 32) where
  pub not_read : (t : Text) (b : Bool) → is_unsigned_in least most t ≡ b
      → ¬ (IsNumeral 10 (without_leading_plus t) × (digits_value 10 (without_leading_plus t) < 2 ^ 32))
      → other ≡ (if b then make (digits_value 10 (without_leading_plus t)) else other)
  not_read t true e unread =
      let is = accepts-Accepts false (Unsigned least most) t e in
      absurd (unread (is.0, omega (arith, is.3, fits)))
  not_read t false e unread = refl

  pub was_read : (t : Text) (n : ℕ) (b c : Bool) → is_unsigned_in least most t ≡ b → (nat_le least n && nat_le n most) ≡ c
      → IsNumeral 10 (without_leading_plus t) → n ≡ digits_value 10 (without_leading_plus t)
      → (if c then make n else other) ≡ (if b then make (digits_value 10 (without_leading_plus t)) else other)
  was_read t n true true e f digits is = ap make is
  was_read t n false false e f digits is = refl
  was_read t n true false e f digits is =
      let inside = accepts-Accepts false (Unsigned least most) t e in
      let kept : (nat_le least n && nat_le n most) ≡ true =
      rw (le-leb least n (rw is inside.2), le-leb n most (rw is inside.3)) refl in
      absurd (false≢true (sym f ∙ kept))
  was_read t n false true e f digits is =
      let parts = both _ _ f in
      let inside = Accepts-accepts false (Unsigned least most) t (
        digits,
        omega (arith, is, leb-true _ _ parts.1, fits),
        rw (← is) (leb-true _ _ parts.0),
        rw (← is) (leb-true _ _ parts.1),
      ) in
      absurd (false≢true (sym e ∙ inside))

-- the number of an option is the same by what the parser read and by the option's text
module _ {E : Type 0} (G : List ℕ → Result ℕ E → Type 0) (other least most : ℕ)
    (parses : (u : List ℕ) (x : Result ℕ E) → G u x → ParsesUnsigned 32 10 u x) (fits : most < 2 ^ 32) where
  read_number : (t : Text) (r : Option ℕ) → ReadsOne G t r
      → within_or other least most r ≡ number_or other least most (Some t)
  read_number t None h = not_read (λ n. n) other least most fits t (is_unsigned_in least most t) refl (parses t (Err h.0) h.1)
  read_number t (Some n) h =
      let parsed = parses t (Ok n) h in
      was_read (λ n. n) other least most fits t n (is_unsigned_in least most t) (nat_le least n && nat_le n most) refl refl parsed.0.0
      parsed.1

  module _ (f : Found) (id : Text) (r : Option ℕ) (none : one_text f id ≡ None → r ≡ None)
      (some : (t : Text) → one_text f id ≡ Some t → ReadsOne G t r) where
    number_is : within_or other least most r ≡ number_or other least most (one_of id (rows_of f))
    number_is = go (one_text f id) refl ∙ ap (number_or other least most) (one_text-rows f id)
      where
        go : (o : Option Text) → one_text f id ≡ o
            → within_or other least most r ≡ number_or other least most (one_text f id)
        go None e = rw (e, none e) refl
        go (Some t) e = rw e (read_number t r (some t e))

    pub inside : (n : ℕ) → r ≡ Some n → least ≤ n → n ≤ most → n ≡ number_or other least most (one_of id (rows_of f))
    inside n e low high =
        let is : within_or other least most (Some n) ≡ n = rw (le-leb least n low, le-leb n most high) refl in
        sym is ∙ ap (within_or other least most) (sym e) ∙ number_is

    pub below : (n : ℕ) → r ≡ Some n → n < least → other ≡ number_or other least most (one_of id (rows_of f))
    below n e low =
        let is : within_or other least most (Some n) ≡ other = rw (lt-leb least n low) refl in
        sym is ∙ ap (within_or other least most) (sym e) ∙ number_is

    pub above : (n : ℕ) → r ≡ Some n → least ≤ n → most < n → other ≡ number_or other least most (one_of id (rows_of f))
    above n e low high =
        let is : within_or other least most (Some n) ≡ other = rw (le-leb least n low, lt-leb n most high) refl in
        sym is ∙ ap (within_or other least most) (sym e) ∙ number_is

    pub absent : r ≡ None → other ≡ number_or other least most (one_of id (rows_of f))
    absent e = ap (within_or other least most) (sym e) ∙ number_is
