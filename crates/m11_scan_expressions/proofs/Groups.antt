-- The value of an expression in brackets, if its own brackets are closed.
use Rattle.std.proofs.Common.{◌≡◌, ℕ, zero, suc, ◌+◌, ◌-◌, Bool, true, false, List, [], ◌∷◌, ◌++◌, length, take, Option, Some, None, nat_lt, refl, sym, ap, ◌∙◌, arith, eqb, if◌then◌else◌}
use Rattle.std.proofs.lemmas.List.{length-append}
use Rattle.std.proofs.lemmas.Bool.{ne_eqb, lt-ltb}
use Rattle.std.specs.Option.{option_map_or}
use Rattle.m11_scan.specs.Expressions.{begin, count_from, expression_length, goes_on, role_of, taken}
use Rattle.m11_scan.specs.declared.expressions.Role.{Role}
use Rattle.m11_scan.specs.declared.expressions.Role.TheVariants.{Term, Prefix, Sign, Operator, Opens, Closes, Foreign}
use Rattle.m11_scan.specs.declared.expressions.Within.{Within}
use Rattle.m11_scan.specs.declared.radix.Radix.{Radix}
use Rattle.m11_scan.specs.declared.sort.Sort.{Sort}
use Rattle.m11_scan.specs.declared.sort.Sort.TheVariants.{Less, Greater}
use Rattle.m11_scan_expressions.specs.declared.prefixes.Prefix.TheVariants.{Bracket}
use Rattle.m11_scan_expressions.specs.Laws.{within_after}
use Rattle.m11_scan_expressions.specs.Splits.{Split, after, last_operator, later, operator_at, operator_of}
use Rattle.m11_scan_expressions.specs.Prefixes.{applied, bracket_length, depth_after, prefix_of}
use Rattle.m11_scan_expressions.specs.Terms.{Item}
use Rattle.m11_scan_expressions.specs.Values.{sorts_of, split_value, term_value, value_of}
use Rattle.m11_scan_expressions.proofs.Parts.{value_by_parts}
use Rattle.m11_scan_expressions.proofs.Folds.{front_is, size_of, sorts-append}

abbrev pub at : ℕ → Bool → Within
at depth due = record { depth = depth; is_due = due }

-- the same state inside one more bracket
abbrev pub deeper : Within → Within
deeper within = at (suc within.depth) within.is_due

pub not_zero : (depth : ℕ) → eqb (suc depth) 0 ≡ false
not_zero depth = ne_eqb (suc depth) 0 (λ e. omega arith)

-- an expression continues with a token: the token closes no outer bracket, and `more` further tokens are counted after it
pub record Goes (role : Role) (within : Within) (count : Within → ℕ) (more : ℕ) : Type 0 where
  pub stays : depth_after role within.depth ≡ Some (after role within).depth
  pub rest : count (after role within) ≡ more

close_goes : (depth : ℕ) (due : Bool) (count : Within → ℕ) (more : ℕ)
    → count_from (goes_on Closes (at (suc depth) due)) count ≡ suc more → Goes Closes (at (suc depth) due) count more
close_goes depth due count more h =
    let other = not_zero depth in
    let goes : suc (count (at (suc depth - 1) false)) ≡ suc more =
    sym (ap (λ (b : Bool). count_from (if b then None else Some (at (suc depth - 1) false)) count) other) ∙ h in
    record {
      stays = ap (λ (b : Bool). if b then None else Some (suc depth - 1)) other;
      rest = omega arith;
    }

pub goes : (role : Role) (depth : ℕ) (due : Bool) (count : Within → ℕ) (more : ℕ)
    → count_from (goes_on role (at depth due)) count ≡ suc more → Goes role (at depth due) count more
goes Term depth true count more h = record { stays = refl; rest = omega arith }
goes Term depth false count more h = absurd (omega arith)
goes Prefix depth true count more h = record { stays = refl; rest = omega arith }
goes Prefix depth false count more h = absurd (omega arith)
goes Sign depth due count more h = record { stays = refl; rest = omega arith }
goes Operator depth due count more h = record { stays = refl; rest = omega arith }
goes Opens depth true count more h = record { stays = refl; rest = omega arith }
goes Opens depth false count more h = absurd (omega arith)
goes Closes zero due count more h = absurd (omega arith)
goes Closes (suc depth) due count more h = close_goes depth due count more h
goes Foreign depth due count more h = absurd (omega arith)

-- inside one more bracket, the state after a token is the same but for this bracket
pub at_depth : (a b : ℕ) (due : Bool) → a ≡ b → at a due ≡ at b due
at_depth a b due e = ap (λ (n : ℕ). at n due) e

pub deeper_after : (role : Role) (depth : ℕ) (due : Bool) → depth_after role depth ≡ Some (after role (at depth due)).depth
    → after role (deeper (at depth due)) ≡ deeper (after role (at depth due))
deeper_after Term depth due h = refl
deeper_after Prefix depth due h = refl
deeper_after Sign depth due h = refl
deeper_after Operator depth due h = refl
deeper_after Opens depth due h = at_depth (suc depth + 1) (suc (depth + 1)) true (omega arith)
deeper_after Closes zero due h = cc
deeper_after Closes (suc depth) due h = at_depth (suc (suc depth) - 1) (suc (suc depth - 1)) false (omega arith)
deeper_after Foreign depth due h = refl

no_operator_in : (sort : Sort) (within : Within) → operator_at sort (deeper within) ≡ None
no_operator_in sort within = ap (λ (b : Bool). if b then operator_of within.is_due sort else None) (not_zero within.depth)

-- an expression in brackets has no operator outside these brackets
none_inside : (within : Within) (sorts rest : List Sort) → taken sorts within ≡ length sorts
    → last_operator (deeper (within_after within sorts)) rest ≡ None → last_operator (deeper within) (sorts ++ rest) ≡ None
none_inside within [] rest whole none = none
none_inside within (sort ∷ sorts) rest whole none =
    let g : Goes (role_of sort) within (λ next. taken sorts next) (length sorts) =
    goes (role_of sort) within.depth within.is_due (λ next. taken sorts next) (length sorts) whole in
    ap (λ h. later h (last_operator (after (role_of sort) (deeper within)) (sorts ++ rest))) (no_operator_in sort within)
    ∙ ap (λ (p : Within). later None (last_operator p (sorts ++ rest)))
    (deeper_after (role_of sort) within.depth within.is_due g.stays)
    ∙ ap (λ (m : Option Split). later None m) (none_inside (after (role_of sort) within) sorts rest g.rest none)

pub length_inside : (within : Within) (sorts rest : List Sort) → taken sorts within ≡ length sorts
    → bracket_length within.depth (sorts ++ rest) ≡ length sorts + bracket_length (within_after within sorts).depth rest
length_inside within [] rest whole = omega arith
length_inside within (sort ∷ sorts) rest whole =
    let g : Goes (role_of sort) within (λ next. taken sorts next) (length sorts) =
    goes (role_of sort) within.depth within.is_due (λ next. taken sorts next) (length sorts) whole in
    let more = length_inside (after (role_of sort) within) sorts rest g.rest in
    ap (λ (d : Option ℕ). option_map_or (λ next. suc (bracket_length next (sorts ++ rest))) d 0) g.stays ∙ omega arith

one_token : (greater : Sort) (within : Within) → greater ≡ Greater → last_operator (deeper within) (greater ∷ []) ≡ None
one_token greater within is = ap (λ h. later h None) (no_operator_in greater within)

module _ (radix : Radix) (less greater : Item) (items : List Item) (opens : less.sort ≡ Less) (closes : greater.sort ≡ Greater)
    (whole : expression_length (sorts_of items) ≡ length items) where
  pub is_taken : taken (sorts_of items) begin ≡ length (sorts_of items)
  is_taken = whole ∙ sym (size_of items)

  pub sorts_are : sorts_of (items ++ greater ∷ []) ≡ sorts_of items ++ greater.sort ∷ []
  sorts_are = sorts-append items (greater ∷ [])

  pub none_outside : last_operator begin (less.sort ∷ sorts_of (items ++ greater ∷ [])) ≡ None
  none_outside =
      ap (λ (s : Sort). last_operator begin (s ∷ sorts_of (items ++ greater ∷ []))) opens
      ∙ ap (λ (s : List Sort). later None (last_operator (deeper begin) s)) sorts_are
      ∙ ap (λ (m : Option Split). later None m)
      (none_inside begin (sorts_of items) (greater.sort ∷ []) is_taken
      (one_token greater.sort (within_after begin (sorts_of items)) closes))

  reaches : (within_after begin (sorts_of items)).depth ≡ 0 → bracket_length 0 (sorts_of (items ++ greater ∷ [])) ≡ length items
  reaches closed =
      let last : bracket_length (within_after begin (sorts_of items)).depth (greater.sort ∷ []) ≡ 0 =
      ap (λ (s : Sort). bracket_length (within_after begin (sorts_of items)).depth (s ∷ [])) closes
      ∙ ap (λ (d : ℕ). bracket_length d (Greater ∷ [])) closed in
      let size = size_of items in
      let all = length_inside begin (sorts_of items) (greater.sort ∷ []) is_taken in
      ap (λ (s : List Sort). bracket_length 0 s) sorts_are ∙ omega arith

  is_closed : nat_lt (length items) (length (items ++ greater ∷ [])) ≡ true
  is_closed =
      let size = length-append items (greater ∷ []) in
      lt-ltb (length items) (length (items ++ greater ∷ [])) (omega arith)

  pub closed_value : (within_after begin (sorts_of items)).depth ≡ 0
      → value_of radix (less ∷ (items ++ greater ∷ [])) ≡ value_of radix items
  closed_value closed =
      value_by_parts radix (less ∷ (items ++ greater ∷ []))
      ∙ ap (λ (s : Option Split). split_value value_of radix (less ∷ (items ++ greater ∷ [])) s) none_outside
      ∙ ap (λ (s : Sort). term_value value_of radix less (items ++ greater ∷ []) (prefix_of s)) opens
      ∙ ap (λ (n : ℕ). applied Bracket (nat_lt n (length (items ++ greater ∷ []))) (value_of radix (take n (items ++ greater ∷ []))))
      (reaches closed)
      ∙ ap (λ (b : Bool). applied Bracket b (value_of radix (take (length items) (items ++ greater ∷ [])))) is_closed
      ∙ ap (λ (l : List Item). value_of radix l) (front_is items (greater ∷ []))
