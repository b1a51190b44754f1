-- The elements of a list of names: the first one, and those after it.
use Rattle.std.proofs.Common.{◌≡◌, ◌∙◌, ◌≤◌, ◌-◌, ◌||◌, ℕ, Bool, true, false, List, [], ◌∷◌, ◌++◌, drop, flat_map, get_or, length, take, Option, Some, None, refl, sym, ap, subst, arith}
use Rattle.std.proofs.lemmas.List.{take_all}
use Rattle.std.proofs.lemmas.List.Folds.{list_any-append}
use Rattle.std.specs.List.{list_any}
use Rattle.std.specs.Option.{option_to_list}
use Rattle.m11_base.specs.Devices.{Bytes}
use Rattle.m11_obj.specs.declared.attributes.Attribute.{Attribute}
use Rattle.m11_scan_statements.specs.declared.spans.Span.{Span}
use Rattle.m11_asm_rules.specs.Elements.{texts_of}
use Rattle.m11_asm_rules.specs.Psects.{with_attributes}

none_first : 1 ≤ 0 → ⊥
none_first some = omega (arith, some)

-- ---- the names of a list, read one after the other

-- the texts of the names in a list are that of the first one, if it is a name, and those of the others
pub texts_first : (line : Bytes) (name : Option Span) (rest : List (Option Span))
    → texts_of line (name ∷ rest) ≡ texts_of line (name ∷ []) ++ texts_of line rest
texts_first line (Some name) rest = refl
texts_first line None rest = refl

-- the results of reading each text, without the texts for which there is no result
module _ {A : Type 0} (read : Bytes → Option A) (line : Bytes) where
  abbrev pub read_of : List (Option Span) → List A
  read_of names = flat_map (λ text. option_to_list (read text)) (texts_of line names)

  one_read : (found : Option A) (more : List A) → option_to_list found ++ more ≡ (option_to_list found ++ []) ++ more
  one_read (Some found) more = refl
  one_read None more = refl

  pub read_first : (name : Option Span) (rest : List (Option Span)) → read_of (name ∷ rest) ≡ read_of (name ∷ []) ++ read_of rest
  read_first (Some name) rest = one_read (read _) (read_of rest)
  read_first None rest = refl

-- ---- whether a test holds of one of the results

module _ {A : Type 0} (is : A → Bool) (read : List (Option Span) → List A)
    (first : (name : Option Span) (rest : List (Option Span)) → read (name ∷ rest) ≡ read (name ∷ []) ++ read rest) where
  any_first : (name : Option Span) (rest : List (Option Span))
      → list_any is (read (name ∷ rest)) ≡ (list_any is (read (name ∷ [])) || list_any is (read rest))
  any_first name rest = ap (list_any is) (first name rest) ∙ list_any-append is (read (name ∷ [])) (read rest)

  -- if the test holds of the first element, it holds of one in the list
  pub found_first : (names : List (Option Span)) (name other : Option Span) → 1 ≤ length names → get_or names 0 other ≡ name
      → list_any is (read (name ∷ [])) ≡ true → true ≡ list_any is (read names)
  found_first [] name other some same found = absurd (none_first some)
  found_first (item ∷ rest) name other some same found =
      let P : Option Span → Type 0 = λ n. list_any is (read (n ∷ [])) ≡ true in
      sym (any_first item rest ∙ ap (λ (b : Bool). b || list_any is (read rest)) (subst P (sym same) found))

  -- if the test doesn't hold of the first element, the elements after it decide
  pub later_first : (names : List (Option Span)) (name other : Option Span) → 1 ≤ length names → get_or names 0 other ≡ name
      → list_any is (read (name ∷ [])) ≡ false
      → list_any is (read (take (length names - 1) (drop 1 names))) ≡ list_any is (read names)
  later_first [] name other some same passed = absurd (none_first some)
  later_first (item ∷ rest) name other some same passed =
      let P : Option Span → Type 0 = λ n. list_any is (read (n ∷ [])) ≡ false in
      ap (λ (l : List (Option Span)). list_any is (read l)) (take_all (length (item ∷ rest) - 1) rest (omega arith))
      ∙ sym (any_first item rest ∙ ap (λ (b : Bool). b || list_any is (read rest)) (subst P (sym same) passed))

-- ---- attributes, one after the other

module _ (read : Bytes → Option Attribute) (line : Bytes) where
  both_put : (one more : List Attribute) (bits : ℕ) → with_attributes bits (one ++ more) ≡ with_attributes (with_attributes bits one) more
  both_put [] more bits = refl
  both_put (attribute ∷ one) more bits = both_put one more _

  pub put_first : (names : List (Option Span)) (name other : Option Span) (before after : ℕ) → 1 ≤ length names → get_or names 0 other ≡ name
      → after ≡ with_attributes before (read_of read line (name ∷ []))
      → with_attributes after (read_of read line (take (length names - 1) (drop 1 names)))
      ≡ with_attributes before (read_of read line names)
  put_first [] name other before after some same put = absurd (none_first some)
  put_first (item ∷ rest) name other before after some same put =
      ap (λ (l : List (Option Span)). with_attributes after (read_of read line l))
      (take_all (length (item ∷ rest) - 1) rest (omega arith))
      ∙ ap (λ (n : ℕ). with_attributes n (read_of read line rest))
      (put ∙ ap (λ (n : Option Span). with_attributes before (read_of read line (n ∷ []))) (sym same))
      ∙ sym (ap (with_attributes before) (read_first read line item rest)
      ∙ both_put (read_of read line (item ∷ [])) (read_of read line rest) before)
