-- The number of tokens and the value of a term and of an expression, which are read from left to right.
use Rattle.std.proofs.Common.{◌≡◌, ℕ, zero, suc, ◌+◌, ◌-◌, ◌≤◌, Bool, true, false, ◌&&◌, List, [], ◌∷◌, ◌++◌, length, take, drop, Option, Some, None, refl, sym, ap, ◌∙◌, subst, arith, eqb, if◌then◌else◌}
use Rattle.std.proofs.lemmas.Bool.{and_parts}
use Rattle.std.proofs.lemmas.List.{append_assoc, length-append, length-take-le, take-append-drop}
use Rattle.std.specs.Option.{option_map_or}
use Rattle.m11_scan.specs.Expressions.{begin, role_of}
use Rattle.m11_scan.specs.declared.expressions.Role.{Role}
use Rattle.m11_scan.specs.declared.expressions.Role.TheVariants as roles
use Rattle.m11_scan.specs.declared.expressions.Within.{Within}
use Rattle.m11_scan.specs.declared.radix.Radix.{Radix}
use Rattle.m11_scan.specs.declared.sort.Sort.{Sort}
use Rattle.m11_scan.specs.declared.sort.Sort.TheVariants as tokens
use Rattle.m11_scan_expressions.specs.declared.operators.Operator.{Operator}
use Rattle.m11_scan_expressions.specs.Laws.{within_after}
use Rattle.m11_scan_expressions.specs.Operations.{combined}
use Rattle.m11_scan_expressions.specs.Prefixes.{bracket_length, depth_after}
use Rattle.m11_scan_expressions.specs.Quantities.{Quantity}
use Rattle.m11_scan_expressions.specs.Reaches.{ends_before, ends_term, operator_after, part_length, term_length}
use Rattle.m11_scan_expressions.specs.Splits.{Split, after, last_operator, later, operator_at, operator_of}
use Rattle.m11_scan_expressions.specs.Terms.{Item}
use Rattle.m11_scan_expressions.specs.Values.{sorts_of, split_value, value_as_term, value_of}
use Rattle.m11_scan_expressions.proofs.Folds.{joined_value, operator_outside, sorts-append, within-append}
use Rattle.m11_scan_expressions.proofs.Groups.{at, not_zero}
use Rattle.m11_scan_expressions.proofs.Parts.{value_by_parts}

-- ---- numbers

zero_more : (n : ℕ) → n ≡ 0 + n
zero_more n = omega arith

suc_sum : (whole part rest : ℕ) → whole ≡ part + rest → suc whole ≡ suc part + rest
suc_sum whole part rest is = omega arith

sums : (whole front rest inner term last all again : ℕ) → whole ≡ front + rest → rest ≡ suc inner → inner ≡ term + last
    → all ≡ front + suc term → again ≡ last → whole ≡ all + again
sums whole front rest inner term last all again a b c d e = omega arith

all_read : (whole again front rest count : ℕ) → again ≡ front + rest → again ≡ whole → front ≡ count → rest ≡ 0 → count ≡ whole
all_read whole again front rest count a b c d = omega arith

-- ---- the token before which a term ends

operator_ends : (in_bracket due : Bool) (sort : Sort) (operator : Operator) → ends_before in_bracket due (role_of sort) ≡ true
    → operator_of false sort ≡ Some operator → operator_of due sort ≡ Some operator
operator_ends in_bracket true tokens.Plus operator ends is = cc
operator_ends in_bracket false tokens.Plus operator ends is = is
operator_ends in_bracket true tokens.Minus operator ends is = cc
operator_ends in_bracket false tokens.Minus operator ends is = is
operator_ends in_bracket due tokens.Times operator ends is = is
operator_ends in_bracket due tokens.Over operator ends is = is
operator_ends in_bracket due tokens.And operator ends is = is
operator_ends in_bracket due tokens.Or operator ends is = is
operator_ends in_bracket due sort operator ends is = cc

closing_ends : (in_bracket due : Bool) (sort : Sort) → ends_before in_bracket due (role_of sort) ≡ true
    → operator_of false sort ≡ None → (sort ≡ tokens.Greater) × (in_bracket ≡ true)
closing_ends in_bracket due tokens.Plus ends is = absurd (cc)
closing_ends in_bracket due tokens.Minus ends is = absurd (cc)
closing_ends in_bracket due tokens.Times ends is = absurd (cc)
closing_ends in_bracket due tokens.Over ends is = absurd (cc)
closing_ends in_bracket due tokens.And ends is = absurd (cc)
closing_ends in_bracket due tokens.Or ends is = absurd (cc)
closing_ends in_bracket due tokens.Greater ends is = (refl, ends)
closing_ends in_bracket due sort ends is = absurd (cc)

goes_past : (in_bracket due : Bool) (sort : Sort) → ends_before in_bracket due (role_of sort) ≡ false → operator_of due sort ≡ None
goes_past in_bracket true tokens.Plus goes = refl
goes_past in_bracket false tokens.Plus goes = absurd (cc)
goes_past in_bracket true tokens.Minus goes = refl
goes_past in_bracket false tokens.Minus goes = absurd (cc)
goes_past in_bracket due tokens.Times goes = absurd (cc)
goes_past in_bracket due tokens.Over goes = absurd (cc)
goes_past in_bracket due tokens.And goes = absurd (cc)
goes_past in_bracket due tokens.Or goes = absurd (cc)
goes_past in_bracket due sort goes = refl

operator_here : (in_bracket : Bool) (within : Within) (sort : Sort) (operator : Operator)
    → ends_term in_bracket within (role_of sort) ≡ true → operator_of false sort ≡ Some operator
    → operator_at sort within ≡ Some operator
operator_here in_bracket within sort operator ends is =
    let both : (eqb within.depth 0 ≡ true) × (ends_before in_bracket within.is_due (role_of sort) ≡ true) =
    and_parts (eqb within.depth 0) (ends_before in_bracket within.is_due (role_of sort)) ends in
    ap (λ (b : Bool). if b then operator_of within.is_due sort else None) both.0
    ∙ operator_ends in_bracket within.is_due sort operator both.1 is

none_if : (outer in_bracket due : Bool) (sort : Sort) → (outer && ends_before in_bracket due (role_of sort)) ≡ false
    → (if outer then operator_of due sort else None) ≡ None
none_if true in_bracket due sort goes = goes_past in_bracket due sort goes
none_if false in_bracket due sort goes = refl

none_here : (in_bracket : Bool) (within : Within) (sort : Sort) → ends_term in_bracket within (role_of sort) ≡ false
    → operator_at sort within ≡ None
none_here in_bracket within sort goes = none_if (eqb within.depth 0) in_bracket within.is_due sort goes

-- ---- the number of tokens of an expression, token by token

next_length : (in_bracket : Bool) (depth next : ℕ) (sort : Sort) (rest : List Sort) → depth_after (role_of sort) depth ≡ Some next
    → part_length in_bracket depth (sort ∷ rest) ≡ suc (part_length in_bracket next rest)
next_length true depth next sort rest goes = ap (λ (d : Option ℕ). option_map_or (λ n. suc (bracket_length n rest)) d 0) goes
next_length false depth next sort rest goes = refl

stays : (role : Role) (depth : ℕ) (due : Bool) → (eqb depth 0 && ends_before true due role) ≡ false
    → depth_after role depth ≡ Some (after role (at depth due)).depth
stays roles.Closes zero due goes = absurd (cc)
stays roles.Closes (suc depth) due goes = ap (λ (b : Bool). if b then None else Some (suc depth - 1)) (not_zero depth)
stays role depth due goes = refl

-- a token before which a term doesn't end is one more token of the expression
token_length : (in_bracket : Bool) (within : Within) (sort : Sort) (rest : List Sort)
    → ends_term in_bracket within (role_of sort) ≡ false
    → part_length in_bracket within.depth (sort ∷ rest) ≡ suc (part_length in_bracket (after (role_of sort) within).depth rest)
token_length true within sort rest goes =
    next_length true within.depth (after (role_of sort) within).depth sort rest
    (stays (role_of sort) within.depth within.is_due goes)
token_length false within sort rest goes = refl

operator_stays : (sort : Sort) (depth : ℕ) (due : Bool) (operator : Operator)
    → operator_at sort (at depth due) ≡ Some operator → depth_after (role_of sort) depth ≡ Some 0
operator_stays tokens.Plus zero due operator here = refl
operator_stays tokens.Minus zero due operator here = refl
operator_stays tokens.Times zero due operator here = refl
operator_stays tokens.Over zero due operator here = refl
operator_stays tokens.And zero due operator here = refl
operator_stays tokens.Or zero due operator here = refl
operator_stays sort zero due operator here = absurd (cc)
operator_stays sort (suc depth) due operator here =
    let no : None ≡ Some operator = sym (ap (λ (b : Bool). if b then operator_of due sort else None) (not_zero depth)) ∙ here in
    absurd (cc)

-- an operator outside brackets is one more token of the expression
operator_length : (in_bracket : Bool) (within : Within) (sort : Sort) (rest : List Sort) (operator : Operator)
    → operator_at sort within ≡ Some operator
    → part_length in_bracket within.depth (sort ∷ rest) ≡ suc (part_length in_bracket 0 rest)
operator_length in_bracket within sort rest operator here =
    next_length in_bracket within.depth 0 sort rest (operator_stays sort within.depth within.is_due operator here)

-- ---- tokens up to where a term ends

abbrev pub Ends : Bool → Within → List Sort → Type 0
Ends in_bracket within [] = Unit {0}
Ends in_bracket within (sort ∷ rest) = ends_term in_bracket within (role_of sort) ≡ true

pub record Reach (in_bracket : Bool) (within : Within) (front back : List Item) : Type 0 where
  pub ends : Ends in_bracket (within_after within (sorts_of front)) (sorts_of back)
  pub size : part_length in_bracket within.depth (sorts_of (front ++ back))
      ≡ length front + part_length in_bracket (within_after within (sorts_of front)).depth (sorts_of back)

-- the first `count` of these tokens are a term: they have no operator outside brackets, and the term ends after them
pub record TermOf (in_bracket : Bool) (within : Within) (items : List Item) (count : ℕ) : Type 0 where
  pub none : last_operator within (sorts_of (take count items)) ≡ None
  pub reach : Reach in_bracket within (take count items) (drop count items)

module _ (in_bracket : Bool) where
  ends_here : (within : Within) (item : Item) (items : List Item) → ends_term in_bracket within (role_of item.sort) ≡ true
      → TermOf in_bracket within (item ∷ items) 0
  ends_here within item items ends = record {
    none = refl;
    reach =
        record {
          ends = ends;
          size = zero_more (part_length in_bracket within.depth (sorts_of (item ∷ items)));
        };
  }

  ends_later : (within : Within) (item : Item) (items : List Item) (count : ℕ)
      → ends_term in_bracket within (role_of item.sort) ≡ false
      → TermOf in_bracket (after (role_of item.sort) within) items count → TermOf in_bracket within (item ∷ items) (suc count)
  ends_later within item items count goes term = record {
    none =
        ap (λ (h : Option Operator). later h (last_operator (after (role_of item.sort) within) (sorts_of (take count items))))
        (none_here in_bracket within item.sort goes)
        ∙ ap (λ (m : Option Split). later None m) term.none;
    reach =
        record {
          ends = term.reach.ends;
          size =
              token_length in_bracket within item.sort (sorts_of (take count items ++ drop count items)) goes
              ∙ suc_sum
              (part_length in_bracket (after (role_of item.sort) within).depth (sorts_of (take count items ++ drop count items)))
              (length (take count items))
              (part_length in_bracket
              (within_after (after (role_of item.sort) within) (sorts_of (take count items))).depth (sorts_of (drop count items)))
              term.reach.size;
        };
  }

  by_end : (within : Within) (item : Item) (items : List Item) (count : ℕ) (ends : Bool)
      → ends_term in_bracket within (role_of item.sort) ≡ ends
      → TermOf in_bracket (after (role_of item.sort) within) items count
      → TermOf in_bracket within (item ∷ items) (if ends then 0 else suc count)
  by_end within item items count true is term = ends_here within item items is
  by_end within item items count false is term = ends_later within item items count is term

  pub term_of : (within : Within) (items : List Item) → TermOf in_bracket within items (term_length in_bracket within (sorts_of items))
  term_of within [] = record {
    none = refl;
    reach = record { ends = tt; size = zero_more (part_length in_bracket within.depth []) };
  }
  term_of within (item ∷ items) =
      by_end within item items (term_length in_bracket (after (role_of item.sort) within) (sorts_of items))
      (ends_term in_bracket within (role_of item.sort)) refl (term_of (after (role_of item.sort) within) items)

-- ---- an operator and one more term

module _ (in_bracket : Bool) (front : List Item) (mark : Item) (term rest : List Item) (operator : Operator)
    (here : operator_at mark.sort (within_after begin (sorts_of front)) ≡ Some operator) where
  joins_within : within_after begin (sorts_of (front ++ mark ∷ term)) ≡ within_after begin (sorts_of term)
  joins_within =
      ap (λ (l : List Sort). within_after begin l) (sorts-append front (mark ∷ term))
      ∙ within-append begin (sorts_of front) (sorts_of (mark ∷ term))
      ∙ ap (λ (p : Within). within_after p (sorts_of term))
      (operator_outside mark.sort (within_after begin (sorts_of front)) operator here)

  joins_size : Reach in_bracket begin front (mark ∷ (term ++ rest)) → Reach in_bracket begin term rest
      → part_length in_bracket 0 (sorts_of ((front ++ mark ∷ term) ++ rest))
      ≡ length (front ++ mark ∷ term)
      + part_length in_bracket (within_after begin (sorts_of (front ++ mark ∷ term))).depth (sorts_of rest)
  joins_size reach next =
      sums (part_length in_bracket 0 (sorts_of ((front ++ mark ∷ term) ++ rest))) (length front)
      (part_length in_bracket (within_after begin (sorts_of front)).depth (sorts_of (mark ∷ (term ++ rest))))
      (part_length in_bracket 0 (sorts_of (term ++ rest))) (length term)
      (part_length in_bracket (within_after begin (sorts_of term)).depth (sorts_of rest)) (length (front ++ mark ∷ term))
      (part_length in_bracket (within_after begin (sorts_of (front ++ mark ∷ term))).depth (sorts_of rest))
      (ap (λ (l : List Item). part_length in_bracket 0 (sorts_of l)) (append_assoc front (mark ∷ term) rest) ∙ reach.size)
      (operator_length in_bracket (within_after begin (sorts_of front)) mark.sort (sorts_of (term ++ rest)) operator here)
      next.size (length-append front (mark ∷ term))
      (ap (λ (p : Within). part_length in_bracket p.depth (sorts_of rest)) joins_within)

  joins_reach : Reach in_bracket begin front (mark ∷ (term ++ rest)) → Reach in_bracket begin term rest
      → Reach in_bracket begin (front ++ mark ∷ term) rest
  joins_reach reach next =
      let E : Within → Type 0 = λ p. Ends in_bracket p (sorts_of rest) in
      record { ends = subst E (sym joins_within) next.ends; size = joins_size reach next }

-- ---- what was read of an expression, and its value

pub record Reads (in_bracket : Bool) (radix : Radix) (front back : List Item) (value : Quantity) : Type 0 where
  pub value_is : value ≡ value_of radix front
  pub reach : Reach in_bracket begin front back

pub as_term : (radix : Radix) (items : List Item) → last_operator begin (sorts_of items) ≡ None
    → value_of radix items ≡ value_as_term radix items
as_term radix items none =
    value_by_parts radix items ∙ ap (λ (s : Option Split). split_value value_of radix items s) none

-- the first term of an expression was read
pub reads_first : (in_bracket : Bool) (radix : Radix) (items : List Item) (count : ℕ) (value : Quantity)
    → count ≡ term_length in_bracket begin (sorts_of items) → value ≡ value_as_term radix (take count items)
    → Reads in_bracket radix (take count items) (drop count items) value
reads_first in_bracket radix items count value is value_is =
    let P : ℕ → Type 0 = λ n. TermOf in_bracket begin items n in
    let term : TermOf in_bracket begin items count = subst P (sym is) (term_of in_bracket begin items) in
    record { value_is = value_is ∙ sym (as_term radix (take count items) term.none); reach = term.reach }

take_past : (count more : ℕ) (items : List Item) (mark : Item) (back : List Item) → drop count items ≡ mark ∷ back
    → take (count + (more + 1)) items ≡ take count items ++ mark ∷ take more back
take_past zero more items mark back is =
    let e : 0 + (more + 1) ≡ suc more = omega arith in
    ap (λ (n : ℕ). take n items) e ∙ ap (λ (l : List Item). take (suc more) l) is
take_past (suc count) more [] mark back is = absurd (cc)
take_past (suc count) more (item ∷ items) mark back is =
    let e : suc count + (more + 1) ≡ suc (count + (more + 1)) = omega arith in
    ap (λ (n : ℕ). take n (item ∷ items)) e ∙ ap (λ (l : List Item). item ∷ l) (take_past count more items mark back is)

drop_past : (count more : ℕ) (items : List Item) (mark : Item) (back : List Item) → drop count items ≡ mark ∷ back
    → drop (count + (more + 1)) items ≡ drop more back
drop_past zero more items mark back is =
    let e : 0 + (more + 1) ≡ suc more = omega arith in
    ap (λ (n : ℕ). drop n items) e ∙ ap (λ (l : List Item). drop (suc more) l) is
drop_past (suc count) more [] mark back is = absurd (cc)
drop_past (suc count) more (item ∷ items) mark back is =
    let e : suc count + (more + 1) ≡ suc (count + (more + 1)) = omega arith in
    ap (λ (n : ℕ). drop n (item ∷ items)) e ∙ drop_past count more items mark back is

-- an operator and the term after it were read
joins : (in_bracket : Bool) (radix : Radix) (front : List Item) (mark : Item) (term rest : List Item) (operator : Operator)
    (value next : Quantity) → Reads in_bracket radix front (mark ∷ (term ++ rest)) value
    → operator_of false mark.sort ≡ Some operator → last_operator begin (sorts_of term) ≡ None
    → Reach in_bracket begin term rest → next ≡ value_as_term radix term
    → Reads in_bracket radix (front ++ mark ∷ term) rest (combined operator value next)
joins in_bracket radix front mark term rest operator value next reads is none reach next_is =
    let here : operator_at mark.sort (within_after begin (sorts_of front)) ≡ Some operator =
    operator_here in_bracket (within_after begin (sorts_of front)) mark.sort operator reads.reach.ends is in
    record {
      value_is =
          ap (λ (v : Quantity). combined operator v next) reads.value_is
          ∙ ap (λ (v : Quantity). combined operator (value_of radix front) v) (next_is ∙ sym (as_term radix term none))
          ∙ sym (joined_value radix front term mark operator here none);
      reach = joins_reach in_bracket front mark term rest operator here reads.reach reach;
    }

pub reads_next : (in_bracket : Bool) (radix : Radix) (items : List Item) (count more : ℕ) (mark : Item) (back : List Item)
    (operator : Operator) (value next : Quantity) → Reads in_bracket radix (take count items) (drop count items) value
    → drop count items ≡ mark ∷ back → operator_of false mark.sort ≡ Some operator
    → more ≡ term_length in_bracket begin (sorts_of back) → next ≡ value_as_term radix (take more back)
    → Reads in_bracket radix (take (count + (more + 1)) items) (drop (count + (more + 1)) items) (combined operator value next)
reads_next in_bracket radix items count more mark back operator value next reads at_mark is more_is next_is =
    let P : ℕ → Type 0 = λ n. TermOf in_bracket begin back n in
    let term : TermOf in_bracket begin back more = subst P (sym more_is) (term_of in_bracket begin back) in
    let B : List Item → Type 0 = λ l. Reads in_bracket radix (take count items) l value in
    let F : List Item → Type 0 = λ l. Reads in_bracket radix l (drop (count + (more + 1)) items) (combined operator value next) in
    let G : List Item → Type 0 =
    λ l. Reads in_bracket radix (take count items ++ mark ∷ take more back) l (combined operator value next) in
    let split : drop count items ≡ mark ∷ (take more back ++ drop more back) =
    at_mark ∙ ap (λ (l : List Item). mark ∷ l) (sym (take-append-drop more back)) in
    subst F (sym (take_past count more items mark back at_mark))
    (subst G (sym (drop_past count more items mark back at_mark))
    (joins in_bracket radix (take count items) mark (take more back) (drop more back) operator value next (subst B split reads) is
    term.none term.reach next_is))

-- ---- its end

no_more : (in_bracket : Bool) (within : Within) (rest : List Sort) → Ends in_bracket within rest → operator_after rest ≡ None
    → part_length in_bracket within.depth rest ≡ 0
no_more true within [] ends none = refl
no_more false within [] ends none = refl
no_more in_bracket within (sort ∷ rest) ends none =
    let both : (eqb within.depth 0 ≡ true) × (ends_before in_bracket within.is_due (role_of sort) ≡ true) =
    and_parts (eqb within.depth 0) (ends_before in_bracket within.is_due (role_of sort)) ends in
    let closing : (sort ≡ tokens.Greater) × (in_bracket ≡ true) = closing_ends in_bracket within.is_due sort both.1 none in
    ap (λ (s : Sort). part_length in_bracket within.depth (s ∷ rest)) closing.0
    ∙ ap (λ (b : Bool). part_length b within.depth (tokens.Greater ∷ rest)) closing.1
    ∙ ap (λ (b : Bool). option_map_or (λ n. suc (bracket_length n rest)) (if b then None else Some (within.depth - 1)) 0) both.0

pub reads_all : (in_bracket : Bool) (radix : Radix) (items : List Item) (count : ℕ) (value : Quantity)
    → Reads in_bracket radix (take count items) (drop count items) value → count ≤ length items
    → operator_after (sorts_of (drop count items)) ≡ None → count ≡ part_length in_bracket 0 (sorts_of items)
reads_all in_bracket radix items count value reads le none =
    all_read (part_length in_bracket 0 (sorts_of items)) (part_length in_bracket 0 (sorts_of (take count items ++ drop count items)))
    (length (take count items))
    (part_length in_bracket (within_after begin (sorts_of (take count items))).depth (sorts_of (drop count items))) count
    reads.reach.size
    (ap (λ (l : List Item). part_length in_bracket 0 (sorts_of l)) (take-append-drop count items))
    (length-take-le count items le)
    (no_more in_bracket (within_after begin (sorts_of (take count items))) (sorts_of (drop count items)) reads.reach.ends none)
