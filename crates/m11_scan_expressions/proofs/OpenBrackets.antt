-- The value of an expression in brackets. If a bracket of the expression itself isn't closed, the `>` closes that one, and the outer
-- bracket isn't closed: the value and its flags stay the same.
use Rattle.std.proofs.Common.{◌≡◌, ℕ, zero, suc, ◌+◌, ◌-◌, ◌<◌, ◌≤◌, Bool, true, false, List, [], ◌∷◌, ◌++◌, length, take, drop, Option, Some, None, nat_lt, refl, sym, ap, ◌∙◌, subst, arith, eqb, if◌then◌else◌}
use Rattle.std.proofs.Math.Seq.{take-length}
use Rattle.std.proofs.lemmas.Bool.{le-ltb}
use Rattle.std.proofs.lemmas.List.{append-nil, drop-append-le, length-append, length-drop, take-append-le}
use Rattle.std.specs.List.{drop-map}
use Rattle.std.specs.Option.{option_map_or}
use Rattle.m11_scan.specs.Expressions.{begin, count_from, expression_length, goes_on, role_of, taken}
use Rattle.m11_scan.specs.ErrorFlags.{flag_Q}
use Rattle.m11_scan.specs.declared.expressions.Role.{Role}
use Rattle.m11_scan.specs.declared.expressions.Role.TheVariants as roles
use Rattle.m11_scan.specs.declared.expressions.Within.{Within}
use Rattle.m11_scan.specs.declared.radix.Radix.{Radix}
use Rattle.m11_scan.specs.declared.radix.Radix.TheVariants.{Binary, Octal, Decimal}
use Rattle.m11_scan.specs.declared.sort.Sort.{Sort}
use Rattle.m11_scan.specs.declared.sort.Sort.TheVariants as tokens
use Rattle.m11_scan_expressions.specs.declared.operators.Operator.{Operator}
use Rattle.m11_scan_expressions.specs.declared.operators.Operator.TheVariants.{Multiply, Divide, And, Or}
use Rattle.m11_scan_expressions.specs.declared.prefixes.Prefix.{Prefix}
use Rattle.m11_scan_expressions.specs.declared.prefixes.Prefix.TheVariants.{Plus, Minus, Complement, Register, InRadix, Bracket}
use Rattle.m11_scan_expressions.specs.Laws.{within_after}
use Rattle.m11_scan_expressions.specs.Operations.{combined}
use Rattle.m11_scan_expressions.specs.Splits.{Split, after, last_operator, later, operator_at, operator_of}
use Rattle.m11_scan_expressions.specs.Prefixes.{applied, bracket_length, prefix_of, radix_under}
use Rattle.m11_scan_expressions.specs.Quantities.{Quantity, with_flags}
use Rattle.m11_scan_expressions.specs.Terms.{Item}
use Rattle.m11_scan_expressions.specs.Values.{sorts_of, split_value, term_value, value_of}
use Rattle.m11_scan_expressions.proofs.Folds.{operator_outside, size_of, sorts-append}
use Rattle.m11_scan_expressions.proofs.FurtherFlags.{applied_keeps, combined_keeps}
use Rattle.m11_scan_expressions.proofs.Groups.{Goes, at, at_depth, closed_value, deeper, goes, is_taken, length_inside, none_outside, not_zero, sorts_are}
use Rattle.m11_scan_expressions.proofs.LastOperators.{IsBelow, last_below}
use Rattle.m11_scan_expressions.proofs.Parts.{value_by_parts}
use Rattle.m11_scan_expressions.proofs.PlainPrefixes.{IsPlain, none_here, none_later, plain_term}

-- all of these tokens continue an expression, and a bracket is open after them
record IsOpen (within : Within) (sorts : List Sort) : Type 0 where
  whole : taken sorts within ≡ length sorts
  inside : 0 < (within_after within sorts).depth

rest_open : (within : Within) (rest : List Sort) → suc (taken rest within) ≡ suc (length rest)
    → 0 < (within_after within rest).depth → IsOpen within rest
rest_open within rest whole inside = record { whole = omega arith; inside = inside }

-- outside brackets, an expression continues after a term only with an operator
stops : (sort : Sort) → operator_of false sort ≡ None → goes_on (role_of sort) (at 0 false) ≡ None
stops tokens.Plus h = absurd (cc)
stops tokens.Minus h = absurd (cc)
stops tokens.Times h = absurd (cc)
stops tokens.Over h = absurd (cc)
stops tokens.And h = absurd (cc)
stops tokens.Or h = absurd (cc)
stops sort h = refl

-- so no bracket is open after tokens that follow a term and have no operator outside brackets
no_more : (sorts : List Sort) → IsOpen (at 0 false) sorts → last_operator (at 0 false) sorts ≡ None → ⊥
no_more [] is none = omega (arith, is.inside)
no_more (sort ∷ rest) is none =
    let here : operator_of false sort ≡ None =
    none_here (operator_at sort (at 0 false)) (last_operator (after (role_of sort) (at 0 false)) rest) none in
    let stop : 0 ≡ suc (length rest) =
    sym (ap (λ (p : Option Within). count_from p (λ next. taken rest next)) (stops sort here)) ∙ is.whole in
    omega arith

-- the first token of an expression that has an open bracket and no operator outside brackets: a prefix or a `<`
data First (sort : Sort) (rest : List Sort) : Type 0 where
  Before : (prefix : Prefix) → prefix_of sort ≡ Some prefix → IsPlain prefix → IsOpen begin rest → First sort rest
  Bracketed : sort ≡ tokens.Less → IsOpen (deeper begin) rest → last_operator (deeper begin) rest ≡ None → First sort rest

no_term : (sort : Sort) (rest : List Sort) (here : Option Operator) → later here (last_operator (at 0 false) rest) ≡ None
    → suc (taken rest (at 0 false)) ≡ suc (length rest) → 0 < (within_after (at 0 false) rest).depth → First sort rest
no_term sort rest here none whole inside =
    absurd (no_more rest (rest_open (at 0 false) rest whole inside) (none_later here (last_operator (at 0 false) rest) none))

no_first : (operator : Operator) (sort : Sort) (rest : List Sort) (more : Option Split) → later (Some operator) more ≡ None
    → First sort rest
no_first operator sort rest more none = let here = none_here (Some operator) more none in absurd (cc)

first : (sort : Sort) (rest : List Sort) → IsOpen begin (sort ∷ rest) → last_operator begin (sort ∷ rest) ≡ None → First sort rest
first tokens.Plus rest is none = Before Plus refl tt (rest_open begin rest is.whole is.inside)
first tokens.Minus rest is none = Before Minus refl tt (rest_open begin rest is.whole is.inside)
first tokens.Complement rest is none = Before Complement refl tt (rest_open begin rest is.whole is.inside)
first tokens.Percent rest is none = Before Register refl tt (rest_open begin rest is.whole is.inside)
first tokens.BinaryRadix rest is none = Before (InRadix Binary) refl tt (rest_open begin rest is.whole is.inside)
first tokens.OctalRadix rest is none = Before (InRadix Octal) refl tt (rest_open begin rest is.whole is.inside)
first tokens.DecimalRadix rest is none = Before (InRadix Decimal) refl tt (rest_open begin rest is.whole is.inside)
first tokens.Less rest is none =
    Bracketed refl (rest_open (deeper begin) rest is.whole is.inside) (none_later None (last_operator (deeper begin) rest) none)
first tokens.Name rest is none = no_term tokens.Name rest None none is.whole is.inside
first tokens.Number rest is none = no_term tokens.Number rest None none is.whole is.inside
first tokens.DecimalNumber rest is none = no_term tokens.DecimalNumber rest None none is.whole is.inside
first tokens.LocalSymbol rest is none = no_term tokens.LocalSymbol rest None none is.whole is.inside
first tokens.Character rest is none = no_term tokens.Character rest None none is.whole is.inside
first tokens.TwoCharacters rest is none = no_term tokens.TwoCharacters rest None none is.whole is.inside
first tokens.Packed rest is none = no_term tokens.Packed rest None none is.whole is.inside
first tokens.Times rest is none = no_first Multiply tokens.Times rest (last_operator begin rest) none
first tokens.Over rest is none = no_first Divide tokens.Over rest (last_operator begin rest) none
first tokens.And rest is none = no_first And tokens.And rest (last_operator begin rest) none
first tokens.Or rest is none = no_first Or tokens.Or rest (last_operator begin rest) none
first sort rest is none = absurd (omega (arith, is.whole))

-- if tokens don't close the bracket before them, they are an expression by themselves
abbrev IsWithin : List Sort → Type 0
IsWithin sorts =
    (within : Within) → IsOpen (deeper within) sorts → last_operator (deeper within) sorts ≡ None → taken sorts within ≡ length sorts

within_at : (rest : List Sort) → IsWithin rest → (outer within : Within) → outer ≡ deeper within → IsOpen outer rest
    → last_operator outer rest ≡ None → taken rest within ≡ length rest
within_at rest are_within outer within e is none =
    let P : Within → Type 0 = λ p. IsOpen p rest in
    let N : Within → Type 0 = λ p. last_operator p rest ≡ None in
    are_within within (subst P e is) (subst N e none)

one_within : (role : Role) (depth : ℕ) (due : Bool) (rest : List Sort) → IsWithin rest
    → IsOpen (after role (at (suc depth) due)) rest → last_operator (after role (at (suc depth) due)) rest ≡ None
    → count_from (goes_on role (at (suc depth) due)) (λ next. taken rest next) ≡ suc (length rest)
    → count_from (goes_on role (at depth due)) (λ next. taken rest next) ≡ suc (length rest)
one_within roles.Term depth true rest are_within is none h = ap (λ (n : ℕ). suc n) (are_within (at depth false) is none)
one_within roles.Term depth false rest are_within is none h = absurd (omega arith)
one_within roles.Prefix depth true rest are_within is none h = ap (λ (n : ℕ). suc n) (are_within (at depth true) is none)
one_within roles.Prefix depth false rest are_within is none h = absurd (omega arith)
one_within roles.Sign depth due rest are_within is none h = ap (λ (n : ℕ). suc n) (are_within (at depth true) is none)
one_within roles.Operator depth due rest are_within is none h = ap (λ (n : ℕ). suc n) (are_within (at depth true) is none)
one_within roles.Opens depth true rest are_within is none h =
    ap (λ (n : ℕ). suc n)
    (within_at rest are_within (at (suc depth + 1) true) (at (depth + 1) true)
    (at_depth (suc depth + 1) (suc (depth + 1)) true (omega arith)) is none)
one_within roles.Opens depth false rest are_within is none h = absurd (omega arith)
one_within roles.Closes zero due rest are_within is none h = absurd (no_more rest is none)
one_within roles.Closes (suc depth) due rest are_within is none h =
    ap (λ (b : Bool). count_from (if b then None else Some (at (suc depth - 1) false)) (λ next. taken rest next)) (not_zero depth)
    ∙ ap (λ (n : ℕ). suc n)
    (within_at rest are_within (at (suc (suc depth) - 1) false) (at (suc depth - 1) false)
    (at_depth (suc (suc depth) - 1) (suc (suc depth - 1)) false (omega arith)) is none)
one_within roles.Foreign depth due rest are_within is none h = absurd (omega arith)

all_within : (sorts : List Sort) → IsWithin sorts
all_within [] within is none = refl
all_within (sort ∷ rest) within is none =
    let g : Goes (role_of sort) (deeper within) (λ next. taken rest next) (length rest) =
    goes (role_of sort) (suc within.depth) within.is_due (λ next. taken rest next) (length rest) is.whole in
    one_within (role_of sort) within.depth within.is_due rest (all_within rest) (record { whole = g.rest; inside = is.inside })
    (none_later (operator_at sort (deeper within)) (last_operator (after (role_of sort) (deeper within)) rest) none) is.whole

-- the tokens after the last operator are an expression by themselves, with the same bracket open
abbrev index_in : Option Split → ℕ
index_in None = 0
index_in (Some split) = split.index

open_at : (here : Option Operator) (more : Option Split) (split : Split) (rest : List Sort) → later here more ≡ Some split
    → ((next : Split) → more ≡ Some next → IsOpen begin (drop (suc next.index) rest))
    → ((operator : Operator) → here ≡ Some operator → IsOpen begin rest) → IsOpen begin (drop split.index rest)
open_at here (Some next) split rest found more now =
    let P : ℕ → Type 0 = λ n. IsOpen begin (drop n rest) in
    subst P (ap index_in found) (more next refl)
open_at (Some operator) None split rest found more now =
    let P : ℕ → Type 0 = λ n. IsOpen begin (drop n rest) in
    subst P (ap index_in found) (now operator refl)
open_at None None split rest found more now = absurd (cc)

right_open : (within : Within) (sorts : List Sort) (split : Split) → last_operator within sorts ≡ Some split → IsOpen within sorts
    → IsOpen begin (drop (suc split.index) sorts)
right_open within [] split found is = absurd (cc)
right_open within (sort ∷ rest) split found is =
    let g : Goes (role_of sort) within (λ next. taken rest next) (length rest) =
    goes (role_of sort) within.depth within.is_due (λ next. taken rest next) (length rest) is.whole in
    let more : IsOpen (after (role_of sort) within) rest = record { whole = g.rest; inside = is.inside } in
    let P : Within → Type 0 = λ p. IsOpen p rest in
    open_at (operator_at sort within) (last_operator (after (role_of sort) within) rest) split rest found
    (λ next e. right_open (after (role_of sort) within) rest next e more)
    (λ operator e. subst P (operator_outside sort within operator e) more)

-- the value of an expression from the values of its parts, in each case
split_is : (radix : Radix) (items : List Item) (split : Split) → last_operator begin (sorts_of items) ≡ Some split
    → value_of radix items
    ≡ combined split.operator (value_of radix (take split.index items)) (value_of radix (drop (suc split.index) items))
split_is radix items split found =
    value_by_parts radix items ∙ ap (λ (s : Option Split). split_value value_of radix items s) found

plain_value : (radix : Radix) (item : Item) (items : List Item) (prefix : Prefix) → prefix_of item.sort ≡ Some prefix
    → IsPlain prefix → last_operator begin (sorts_of (item ∷ items)) ≡ None
    → value_of radix (item ∷ items) ≡ applied prefix false (value_of (radix_under prefix radix) items)
plain_value radix item items prefix is plain none =
    value_by_parts radix (item ∷ items)
    ∙ ap (λ (s : Option Split). split_value value_of radix (item ∷ items) s) none
    ∙ plain_term radix item items prefix is plain

unclosed_value : (radix : Radix) (less : Item) (items : List Item) → less.sort ≡ tokens.Less
    → last_operator begin (sorts_of (less ∷ items)) ≡ None → bracket_length 0 (sorts_of items) ≡ length items
    → value_of radix (less ∷ items) ≡ with_flags flag_Q (value_of radix items)
unclosed_value radix less items opens none reaches =
    value_by_parts radix (less ∷ items)
    ∙ ap (λ (s : Option Split). split_value value_of radix (less ∷ items) s) none
    ∙ ap (λ (s : Sort). term_value value_of radix less items (prefix_of s)) opens
    ∙ ap (λ (n : ℕ). applied Bracket (nat_lt n (length items)) (value_of radix (take n items))) reaches
    ∙ ap (λ (b : Bool). applied Bracket b (value_of radix (take (length items) items)))
    (le-ltb (length items) (length items) (omega arith))
    ∙ ap (λ (l : List Item). with_flags flag_Q (value_of radix l)) (take-length items)

whole_length : (sorts : List Sort) → taken sorts begin ≡ length sorts → bracket_length 0 sorts ≡ length sorts
whole_length sorts whole =
    let all : bracket_length 0 (sorts ++ []) ≡ length sorts + 0 = length_inside begin sorts [] whole in
    ap (λ (s : List Sort). bracket_length 0 s) (sym (append-nil sorts)) ∙ omega arith

abbrev none_if : Bool → Option Operator
none_if outside = if outside then None else None

no_operator : (outside : Bool) → none_if outside ≡ None
no_operator true = refl
no_operator false = refl

module _ (greater : Item) (closes : greater.sort ≡ tokens.Greater) where
  -- with one more `>`, an expression with an open bracket has the same value, apart from the flag Q
  abbrev Keeps : Radix → List Item → Type 0
  Keeps radix items = with_flags flag_Q (value_of radix (items ++ greater ∷ [])) ≡ value_of radix items

  last_in : (within : Within) (sorts : List Sort) → last_operator within (sorts ++ greater.sort ∷ []) ≡ last_operator within sorts
  last_in within [] =
      ap (λ (s : Sort). later (operator_at s within) None) closes
      ∙ ap (λ (h : Option Operator). later h None) (no_operator (eqb within.depth 0))
  last_in within (sort ∷ rest) =
      ap (λ (m : Option Split). later (operator_at sort within) m) (last_in (after (role_of sort) within) rest)

  same_last : (items : List Item) → last_operator begin (sorts_of (items ++ greater ∷ [])) ≡ last_operator begin (sorts_of items)
  same_last items =
      ap (λ (s : List Sort). last_operator begin s) (sorts-append items (greater ∷ [])) ∙ last_in begin (sorts_of items)

  joined : (radix : Radix) (items : List Item) (split : Split) → last_operator begin (sorts_of items) ≡ Some split
      → Keeps radix (drop (suc split.index) items) → Keeps radix items
  joined radix items split found keeps =
      let P : Option Split → Type 0 = λ s. IsBelow (length (sorts_of items)) s in
      let inside : split.index < length (sorts_of items) = subst P found (last_below begin (sorts_of items)) in
      let size = size_of items in
      let left = value_of radix (take split.index items) in
      ap (λ (v : Quantity). with_flags flag_Q v) (split_is radix (items ++ greater ∷ []) split (same_last items ∙ found))
      ∙ ap (λ (l : List Item). with_flags flag_Q
      (combined split.operator (value_of radix l) (value_of radix (drop (suc split.index) (items ++ greater ∷ [])))))
      (take-append-le split.index items (greater ∷ []) (omega arith))
      ∙ ap (λ (l : List Item). with_flags flag_Q (combined split.operator left (value_of radix l)))
      (drop-append-le (suc split.index) items (greater ∷ []) (omega arith))
      ∙ combined_keeps flag_Q split.operator left (value_of radix (drop (suc split.index) items ++ greater ∷ []))
      ∙ ap (λ (v : Quantity). combined split.operator left v) keeps
      ∙ sym (split_is radix items split found)

  before : (radix : Radix) (item : Item) (items : List Item) (prefix : Prefix) → prefix_of item.sort ≡ Some prefix
      → IsPlain prefix → last_operator begin (sorts_of (item ∷ items)) ≡ None → Keeps (radix_under prefix radix) items
      → Keeps radix (item ∷ items)
  before radix item items prefix is plain none keeps =
      ap (λ (v : Quantity). with_flags flag_Q v)
      (plain_value radix item (items ++ greater ∷ []) prefix is plain (same_last (item ∷ items) ∙ none))
      ∙ applied_keeps flag_Q prefix false (value_of (radix_under prefix radix) (items ++ greater ∷ []))
      ∙ ap (λ (v : Quantity). applied prefix false v) keeps
      ∙ sym (plain_value radix item items prefix is plain none)

  module _ (radix : Radix) (less : Item) (items : List Item) (opens : less.sort ≡ tokens.Less)
      (whole : expression_length (sorts_of items) ≡ length items) where
    outer_length : (depth : ℕ) → (within_after begin (sorts_of items)).depth ≡ suc depth
        → bracket_length 0 (sorts_of (items ++ greater ∷ [])) ≡ length (items ++ greater ∷ [])
    outer_length depth inside =
        let last : bracket_length (within_after begin (sorts_of items)).depth (greater.sort ∷ []) ≡ 1 =
        ap (λ (s : Sort). bracket_length (within_after begin (sorts_of items)).depth (s ∷ [])) closes
        ∙ ap (λ (d : ℕ). bracket_length d (tokens.Greater ∷ [])) inside
        ∙ ap (λ (b : Bool). option_map_or (λ next. suc (bracket_length next [])) (if b then None else Some (suc depth - 1)) 0) (not_zero depth) in
        let size = size_of items in
        let more = length-append items (greater ∷ []) in
        let all = length_inside begin (sorts_of items) (greater.sort ∷ [])
        (is_taken radix less greater items opens closes whole) in
        ap (λ (s : List Sort). bracket_length 0 s) (sorts_are radix less greater items opens closes whole) ∙ omega arith

    in_brackets : (depth : ℕ) → (within_after begin (sorts_of items)).depth ≡ depth
        → (0 < (within_after begin (sorts_of items)).depth → Keeps radix items)
        → value_of radix (less ∷ (items ++ greater ∷ [])) ≡ value_of radix items
    in_brackets zero closed keeps = closed_value radix less greater items opens closes whole closed
    in_brackets (suc depth) inside keeps =
        unclosed_value radix less (items ++ greater ∷ []) opens (none_outside radix less greater items opens closes whole)
        (outer_length depth inside)
        ∙ keeps (omega arith)

  -- the same holds for each expression that has at most as many tokens as these
  abbrev Shorter : List Item → Type 0
  Shorter items = (radix : Radix) (part : List Item) → length part ≤ length items → IsOpen begin (sorts_of part) → Keeps radix part

  alone : (radix : Radix) (item : Item) (items : List Item) → last_operator begin (sorts_of (item ∷ items)) ≡ None
      → Shorter items → First item.sort (sorts_of items) → Keeps radix (item ∷ items)
  alone radix item items none shorter (Before prefix is plain rest) =
      before radix item items prefix is plain none (shorter (radix_under prefix radix) items (omega arith) rest)
  alone radix item items none shorter (Bracketed opens rest last) =
      let own : taken (sorts_of items) begin ≡ length (sorts_of items) = all_within (sorts_of items) begin rest last in
      ap (λ (v : Quantity). with_flags flag_Q v)
      (in_brackets radix item items opens (own ∙ size_of items) (within_after begin (sorts_of items)).depth refl
      (λ inside. shorter radix items (omega arith) (record { whole = own; inside = inside })))
      ∙ sym (unclosed_value radix item items opens none (whole_length (sorts_of items) own ∙ size_of items))

  by_last : (radix : Radix) (item : Item) (items : List Item) (found : Option Split)
      → last_operator begin (sorts_of (item ∷ items)) ≡ found → IsOpen begin (sorts_of (item ∷ items)) → Shorter items
      → Keeps radix (item ∷ items)
  by_last radix item items (Some split) e is shorter =
      let P : List Sort → Type 0 = λ s. IsOpen begin s in
      let size = length-drop split.index items in
      joined radix (item ∷ items) split e
      (shorter radix (drop split.index items) (omega arith)
      (subst P (drop-map (λ (one : Item). one.sort) split.index items) (right_open begin (sorts_of (item ∷ items)) split e is)))
  by_last radix item items None e is shorter =
      alone radix item items e shorter (first item.sort (sorts_of items) is e)

  kept : (bound : ℕ) (radix : Radix) (items : List Item) → length items ≤ bound → IsOpen begin (sorts_of items) → Keeps radix items
  kept bound radix [] are_within is = absurd (omega (arith, is.inside))
  kept zero radix (item ∷ items) are_within is = absurd (omega arith)
  kept (suc bound) radix (item ∷ items) are_within is =
      by_last radix item items (last_operator begin (sorts_of (item ∷ items))) refl is
      (λ r part le open_part. kept bound r part (omega arith) open_part)

pub bracketed_value : (radix : Radix) (less greater : Item) (items : List Item) → less.sort ≡ tokens.Less
    → greater.sort ≡ tokens.Greater → expression_length (sorts_of items) ≡ length items
    → value_of radix (less ∷ (items ++ greater ∷ [])) ≡ value_of radix items
bracketed_value radix less greater items opens closes whole =
    in_brackets greater closes radix less items opens whole (within_after begin (sorts_of items)).depth refl
    (λ inside. kept greater closes (length items) radix items (omega arith)
    (record { whole = whole ∙ sym (size_of items); inside = inside }))
