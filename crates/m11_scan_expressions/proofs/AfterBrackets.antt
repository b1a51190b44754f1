-- A term that begins with a bracket: how many tokens it has, and its value.
use Rattle.std.proofs.Common.{◌≡◌, ℕ, zero, suc, ◌+◌, ◌-◌, ◌<◌, ◌≤◌, Bool, true, false, List, [], ◌∷◌, length, take, drop, Option, Some, None, nat_lt, refl, sym, ap, ◌∙◌, arith, eqb, if◌then◌else◌}
use Rattle.std.proofs.lemmas.Bool.{and_left, lt-ltb}
use Rattle.std.proofs.lemmas.List.{length-take, take-take, take_all}
use Rattle.std.specs.Option.{option_map_or}
use Rattle.m11_scan.specs.Expressions.{role_of}
use Rattle.m11_scan.specs.declared.expressions.Role.{Role}
use Rattle.m11_scan.specs.declared.expressions.Role.TheVariants as roles
use Rattle.m11_scan.specs.declared.expressions.Within.{Within}
use Rattle.m11_scan.specs.declared.radix.Radix.{Radix}
use Rattle.m11_scan.specs.declared.sort.Sort.{Sort}
use Rattle.m11_scan_expressions.specs.declared.prefixes.Prefix.{Prefix}
use Rattle.m11_scan_expressions.specs.declared.prefixes.Prefix.TheVariants.{Bracket}
use Rattle.m11_scan_expressions.specs.Prefixes.{applied, bracket_length, depth_after, prefix_of}
use Rattle.m11_scan_expressions.specs.Reaches.{ends_before, opened, term_length}
use Rattle.m11_scan_expressions.specs.Splits.{after}
use Rattle.m11_scan_expressions.specs.Terms.{Item}
use Rattle.m11_scan_expressions.specs.Values.{sorts_of, term_value, value_as_term, value_of}
use Rattle.m11_scan_expressions.proofs.Folds.{size_of}
use Rattle.m11_scan_expressions.proofs.Groups.{at, deeper_after, not_zero}

-- ---- how many tokens it has

zero_more : (n : ℕ) → n ≡ 0 + n
zero_more n = omega arith

suc_out : (a b : ℕ) → suc (suc (a + b)) ≡ suc (suc a + b)
suc_out a b = omega arith

-- the rest of a term in which brackets are open: either a `>` closes the outermost one, and the term continues after it, or none
-- does, and the term has all tokens
pub data AfterBracket (in_bracket : Bool) (depth : ℕ) (due : Bool) (rest : List Sort) : Type 0 where
  Closed : bracket_length depth rest < length rest
      → term_length in_bracket (at (suc depth) due) rest
      ≡ suc (bracket_length depth rest + term_length in_bracket (at 0 false) (drop (suc (bracket_length depth rest)) rest))
      → AfterBracket in_bracket depth due rest
  Open : bracket_length depth rest ≡ length rest → term_length in_bracket (at (suc depth) due) rest ≡ length rest
      → AfterBracket in_bracket depth due rest

-- a token is inside the outermost bracket, or closes it
data Step (role : Role) (depth : ℕ) (due : Bool) : Type 0 where
  Stays : depth_after role depth ≡ Some (after role (at depth due)).depth → Step role depth due
  Shuts : role ≡ roles.Closes → depth ≡ 0 → Step role depth due

step : (role : Role) (depth : ℕ) (due : Bool) → Step role depth due
step roles.Closes zero due = Shuts refl refl
step roles.Closes (suc depth) due = Stays (ap (λ (b : Bool). if b then None else Some (suc depth - 1)) (not_zero depth))
step role depth due = Stays refl

module _ (in_bracket : Bool) where
  -- a term doesn't end inside its brackets
  one_further : (depth : ℕ) (due : Bool) (sort : Sort) (rest : List Sort)
      → term_length in_bracket (at (suc depth) due) (sort ∷ rest)
      ≡ suc (term_length in_bracket (after (role_of sort) (at (suc depth) due)) rest)
  one_further depth due sort rest =
      ap (λ (b : Bool). if b then 0 else suc (term_length in_bracket (after (role_of sort) (at (suc depth) due)) rest))
      (and_left (eqb (suc depth) 0) (ends_before in_bracket due (role_of sort)) (not_zero depth))

  shuts : (depth : ℕ) (due : Bool) (sort : Sort) (rest : List Sort) → role_of sort ≡ roles.Closes → depth ≡ 0
      → AfterBracket in_bracket depth due (sort ∷ rest)
  shuts depth due sort rest closes outermost =
      let size : bracket_length depth (sort ∷ rest) ≡ 0 =
      ap (λ (r : Role). option_map_or (λ n. suc (bracket_length n rest)) (depth_after r depth) 0) closes
      ∙ ap (λ (d : ℕ). option_map_or (λ n. suc (bracket_length n rest)) (depth_after roles.Closes d) 0) outermost in
      let lt : bracket_length depth (sort ∷ rest) < suc (length rest) = omega arith in
      let goes : term_length in_bracket (at (suc depth) due) (sort ∷ rest) ≡ suc (term_length in_bracket (at 0 false) rest) =
      one_further depth due sort rest
      ∙ ap (λ (r : Role). suc (term_length in_bracket (after r (at (suc depth) due)) rest)) closes
      ∙ ap (λ (d : ℕ). suc (term_length in_bracket (at (suc d - 1) false) rest)) outermost in
      Closed lt
      (goes ∙ ap (λ (n : ℕ). suc n) (zero_more (term_length in_bracket (at 0 false) rest))
      ∙ ap (λ (m : ℕ). suc (m + term_length in_bracket (at 0 false) (drop (suc m) (sort ∷ rest)))) (sym size))

  further : (depth next : ℕ) (due then_due : Bool) (sort : Sort) (rest : List Sort)
      → bracket_length depth (sort ∷ rest) ≡ suc (bracket_length next rest)
      → term_length in_bracket (at (suc depth) due) (sort ∷ rest) ≡ suc (term_length in_bracket (at (suc next) then_due) rest)
      → AfterBracket in_bracket next then_due rest → AfterBracket in_bracket depth due (sort ∷ rest)
  further depth next due then_due sort rest size goes (Closed lt is) =
      let within : bracket_length depth (sort ∷ rest) < suc (length rest) = omega arith in
      Closed within
      (goes ∙ ap (λ (n : ℕ). suc n) is
      ∙ suc_out (bracket_length next rest) (term_length in_bracket (at 0 false) (drop (suc (bracket_length next rest)) rest))
      ∙ ap (λ (m : ℕ). suc (m + term_length in_bracket (at 0 false) (drop (suc m) (sort ∷ rest)))) (sym size))
  further depth next due then_due sort rest size goes (Open all is) =
      Open (size ∙ ap (λ (n : ℕ). suc n) all) (goes ∙ ap (λ (n : ℕ). suc n) is)

  one_token : (depth : ℕ) (due : Bool) (sort : Sort) (rest : List Sort) → Step (role_of sort) depth due
      → ((next : ℕ) (then_due : Bool) → AfterBracket in_bracket next then_due rest)
      → AfterBracket in_bracket depth due (sort ∷ rest)
  one_token depth due sort rest (Shuts closes outermost) others = shuts depth due sort rest closes outermost
  one_token depth due sort rest (Stays stays) others =
      further depth (after (role_of sort) (at depth due)).depth due (after (role_of sort) (at depth due)).is_due sort rest
      (ap (λ (d : Option ℕ). option_map_or (λ n. suc (bracket_length n rest)) d 0) stays)
      (one_further depth due sort rest
      ∙ ap (λ (p : Within). suc (term_length in_bracket p rest)) (deeper_after (role_of sort) depth due stays))
      (others (after (role_of sort) (at depth due)).depth (after (role_of sort) (at depth due)).is_due)

  pub after_bracket : (depth : ℕ) (due : Bool) (rest : List Sort) → AfterBracket in_bracket depth due rest
  after_bracket depth due [] = Open refl refl
  after_bracket depth due (sort ∷ rest) =
      one_token depth due sort rest (step (role_of sort) depth due) (λ next then_due. after_bracket next then_due rest)

  -- the number of tokens of a term after its `<`, if it has the `>`, and if the `>` is missing
  closed_size : (rest : List Sort) (inside more : ℕ) → AfterBracket in_bracket 0 true rest → inside ≡ bracket_length 0 rest
      → inside < length rest → more ≡ term_length in_bracket (at 0 false) (drop (suc inside) rest)
      → inside + 1 + more ≡ term_length in_bracket opened rest
  closed_size rest inside more (Closed lt is) reached closed more_is =
      let same : more ≡ term_length in_bracket (at 0 false) (drop (suc (bracket_length 0 rest)) rest) =
      more_is ∙ ap (λ (m : ℕ). term_length in_bracket (at 0 false) (drop (suc m) rest)) reached in
      let sum : inside + 1 + more ≡ suc (inside + more) = omega arith in
      sum ∙ ap (λ (m : ℕ). suc (m + more)) reached ∙ ap (λ (m : ℕ). suc (bracket_length 0 rest + m)) same ∙ sym is
  closed_size rest inside more (Open all is) reached closed more_is = absurd (omega arith)

  pub closed_length : (rest : List Sort) (inside more : ℕ) → inside ≡ bracket_length 0 rest → inside < length rest
      → more ≡ term_length in_bracket (at 0 false) (drop (suc inside) rest) → inside + 1 + more ≡ term_length in_bracket opened rest
  closed_length rest inside more reached closed more_is =
      closed_size rest inside more (after_bracket 0 true rest) reached closed more_is

  open_size : (rest : List Sort) (inside : ℕ) → AfterBracket in_bracket 0 true rest → inside ≡ bracket_length 0 rest
      → length rest ≤ inside → length rest ≡ term_length in_bracket opened rest
  open_size rest inside (Closed lt is) reached unclosed = absurd (omega arith)
  open_size rest inside (Open all is) reached unclosed = sym is

  pub open_length : (rest : List Sort) (inside : ℕ) → inside ≡ bracket_length 0 rest → length rest ≤ inside
      → length rest ≡ term_length in_bracket opened rest
  open_length rest inside reached unclosed = open_size rest inside (after_bracket 0 true rest) reached unclosed

-- ---- its value

one_in : (next : Option ℕ) (count : ℕ) (items : List Item) → option_map_or (λ d. suc (bracket_length d (sorts_of items))) next 0 ≤ suc count
    → ((d : ℕ) → bracket_length d (sorts_of items) ≤ count
    → bracket_length d (sorts_of (take count items)) ≡ bracket_length d (sorts_of items))
    → option_map_or (λ d. suc (bracket_length d (sorts_of (take count items)))) next 0 ≡ option_map_or (λ d. suc (bracket_length d (sorts_of items))) next 0
one_in None count items le others = refl
one_in (Some depth) count items le others = ap (λ (n : ℕ). suc n) (others depth (omega arith))

-- tokens after the end of a bracket make no difference to where the bracket ends
inner_length : (depth count : ℕ) (items : List Item) → bracket_length depth (sorts_of items) ≤ count
    → bracket_length depth (sorts_of (take count items)) ≡ bracket_length depth (sorts_of items)
inner_length depth zero items le = omega arith
inner_length depth (suc count) [] le = refl
inner_length depth (suc count) (item ∷ items) le =
    one_in (depth_after (role_of item.sort) depth) count items le (λ d inner. inner_length d count items inner)

-- the value of a term whose tokens include all tokens inside its bracket, and the `>` if there is one
bracket_term : (radix : Radix) (item : Item) (items : List Item) (count : ℕ) → prefix_of item.sort ≡ Some Bracket
    → bracket_length 0 (sorts_of items) ≤ count
    → nat_lt (bracket_length 0 (sorts_of items)) (length (take count items)) ≡ nat_lt (bracket_length 0 (sorts_of items)) (length items)
    → value_as_term radix (item ∷ take count items)
    ≡ applied Bracket (nat_lt (bracket_length 0 (sorts_of items)) (length items))
    (value_of radix (take (bracket_length 0 (sorts_of items)) items))
bracket_term radix item items count is inside closed =
    ap (λ (p : Option Prefix). term_value value_of radix item (take count items) p) is
    ∙ ap (λ (n : ℕ). applied Bracket (nat_lt n (length (take count items))) (value_of radix (take n (take count items))))
    (inner_length 0 count items inside)
    ∙ ap (λ (b : Bool). applied Bracket b (value_of radix (take (bracket_length 0 (sorts_of items)) (take count items)))) closed
    ∙ ap (λ (l : List Item). applied Bracket (nat_lt (bracket_length 0 (sorts_of items)) (length items)) (value_of radix l))
    (take-take (bracket_length 0 (sorts_of items)) count items inside)

by_bracket : (in_bracket : Bool) (radix : Radix) (item : Item) (items : List Item) (count : ℕ)
    → AfterBracket in_bracket 0 true (sorts_of items) → prefix_of item.sort ≡ Some Bracket
    → count ≡ term_length in_bracket opened (sorts_of items)
    → value_as_term radix (item ∷ take count items)
    ≡ applied Bracket (nat_lt (bracket_length 0 (sorts_of items)) (length items))
    (value_of radix (take (bracket_length 0 (sorts_of items)) items))
by_bracket in_bracket radix item items count (Closed lt ends) is count_is =
    let size = size_of items in
    let all : count
    ≡ suc (bracket_length 0 (sorts_of items)
    + term_length in_bracket (at 0 false) (drop (suc (bracket_length 0 (sorts_of items))) (sorts_of items))) = count_is ∙ ends in
    let taken = length-take count items in
    let inside : bracket_length 0 (sorts_of items) ≤ count = omega arith in
    let lt_taken : bracket_length 0 (sorts_of items) < length (take count items) = omega arith in
    let lt_all : bracket_length 0 (sorts_of items) < length items = omega arith in
    bracket_term radix item items count is inside
    (lt-ltb (bracket_length 0 (sorts_of items)) (length (take count items)) lt_taken
    ∙ sym (lt-ltb (bracket_length 0 (sorts_of items)) (length items) lt_all))
by_bracket in_bracket radix item items count (Open all ends) is count_is =
    let size = size_of items in
    let every : count ≡ length (sorts_of items) = count_is ∙ ends in
    let inside : bracket_length 0 (sorts_of items) ≤ count = omega arith in
    let le : length items ≤ count = omega arith in
    bracket_term radix item items count is inside
    (ap (λ (l : List Item). nat_lt (bracket_length 0 (sorts_of items)) (length l)) (take_all count items le))

pub bracket_value : (in_bracket : Bool) (radix : Radix) (item : Item) (items : List Item) (count : ℕ)
    → prefix_of item.sort ≡ Some Bracket → count ≡ term_length in_bracket opened (sorts_of items)
    → value_as_term radix (item ∷ take count items)
    ≡ applied Bracket (nat_lt (bracket_length 0 (sorts_of items)) (length items))
    (value_of radix (take (bracket_length 0 (sorts_of items)) items))
bracket_value in_bracket radix item items count is count_is =
    by_bracket in_bracket radix item items count (after_bracket in_bracket 0 true (sorts_of items)) is count_is
