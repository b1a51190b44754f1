-- The value of an expression from the values of its parts.
use Rattle.std.proofs.Common.{◌≡◌, ℕ, zero, suc, ◌<◌, ◌≤◌, List, [], ◌∷◌, length, take, drop, Option, Some, None, refl, ap, ◌∙◌, subst, arith, nat_lt}
use Rattle.std.proofs.lemmas.List.{length-take, length-drop, length-map}
use Rattle.m11_scan.specs.Expressions.{begin}
use Rattle.m11_scan.specs.declared.radix.Radix.{Radix}
use Rattle.m11_scan_expressions.specs.declared.prefixes.Prefix.{Prefix}
use Rattle.m11_scan_expressions.specs.Operations.{combined}
use Rattle.m11_scan_expressions.specs.Splits.{Split, last_operator}
use Rattle.m11_scan_expressions.specs.Prefixes.{applied, prefix_of, radix_under, reach}
use Rattle.m11_scan_expressions.specs.Quantities.{Quantity}
use Rattle.m11_scan_expressions.specs.Terms.{Item}
use Rattle.m11_scan_expressions.specs.Values.{by_parts, sorts_of, split_value, term_value, value_of, value_within}
use Rattle.m11_scan_expressions.proofs.LastOperators.{IsBelow, last_below}

-- two functions yield the same values for lists that are shorter than this size
abbrev Agree : ℕ → (Radix → List Item → Quantity) → (Radix → List Item → Quantity) → Type 0
Agree size f g = (radix : Radix) (items : List Item) → length items < size → f radix items ≡ g radix items

taken_below : (n : ℕ) (items : List Item) → n < length items → length (take n items) < length items
taken_below n items lt = let e = length-take n items in omega arith

dropped_below : (n : ℕ) (items : List Item) → n < length items → length (drop (suc n) items) < length items
dropped_below n items lt = let e = length-drop (suc n) items in omega arith

term_agrees : (f g : Radix → List Item → Quantity) (radix : Radix) (item : Item) (items : List Item) (prefix : Option Prefix)
    → Agree (suc (length items)) f g → term_value f radix item items prefix ≡ term_value g radix item items prefix
term_agrees f g radix item items None agree = refl
term_agrees f g radix item items (Some prefix) agree =
    let e = length-take (reach prefix (sorts_of items)) items in
    ap (λ (v : Quantity). applied prefix (nat_lt (reach prefix (sorts_of items)) (length items)) v)
    (agree (radix_under prefix radix) (take (reach prefix (sorts_of items)) items) (omega arith))

split_agrees : (f g : Radix → List Item → Quantity) (radix : Radix) (items : List Item) (split : Option Split)
    → IsBelow (length items) split → Agree (length items) f g
    → split_value f radix items split ≡ split_value g radix items split
split_agrees f g radix items (Some split) below agree =
    let left = agree radix (take split.index items) (taken_below split.index items below) in
    let right = agree radix (drop (suc split.index) items) (dropped_below split.index items below) in
    ap (λ (v : Quantity). combined split.operator v (f radix (drop (suc split.index) items))) left
    ∙ ap (λ (v : Quantity). combined split.operator (g radix (take split.index items)) v) right
split_agrees f g radix [] None below agree = refl
split_agrees f g radix (item ∷ items) None below agree = term_agrees f g radix item items (prefix_of item.sort) agree

below_length : (items : List Item) → IsBelow (length items) (last_operator begin (sorts_of items))
below_length items =
    let P : ℕ → Type 0 = λ n. IsBelow n (last_operator begin (sorts_of items)) in
    subst P (length-map items (λ (item : Item). item.sort)) (last_below begin (sorts_of items))

parts_agree : (f g : Radix → List Item → Quantity) (radix : Radix) (items : List Item) → Agree (length items) f g
    → by_parts f radix items ≡ by_parts g radix items
parts_agree f g radix items agree =
    split_agrees f g radix items (last_operator begin (sorts_of items)) (below_length items) agree

-- the value is the same with any bound that is at least the number of tokens
bounds_agree : (n m : ℕ) (radix : Radix) (items : List Item) → length items ≤ n → length items ≤ m
    → value_within n radix items ≡ value_within m radix items
bounds_agree zero zero radix items a b = refl
bounds_agree zero (suc m) radix [] a b = refl
bounds_agree zero (suc m) radix (item ∷ items) a b = absurd (omega arith)
bounds_agree (suc n) zero radix [] a b = refl
bounds_agree (suc n) zero radix (item ∷ items) a b = absurd (omega arith)
bounds_agree (suc n) (suc m) radix items a b =
    parts_agree (λ r i. value_within n r i) (λ r i. value_within m r i) radix items
    (λ r i lt. bounds_agree n m r i (omega arith) (omega arith))

-- the value of an expression follows from those of its parts
pub value_by_parts : (radix : Radix) (items : List Item) → value_of radix items ≡ by_parts value_of radix items
unfolding value_of
value_by_parts radix [] = refl
value_by_parts radix (item ∷ items) =
    parts_agree (λ r i. value_within (length items) r i) (λ r i. value_within (length i) r i) radix (item ∷ items)
    (λ r i lt. bounds_agree (length items) (length i) r i (omega arith) (omega arith))
