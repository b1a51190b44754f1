-- The value of an expression and the number of its tokens, at each place where a function that reads it returns.
use Rattle.std.proofs.Common.{◌≡◌, ℕ, zero, suc, ◌+◌, ◌-◌, ◌<◌, ◌≤◌, Bool, false, List, [], ◌∷◌, length, map, take, drop, get_or, Option, Some, None, true, nat_lt, refl, sym, ap, ◌∙◌, subst, arith, add-one}
use Rattle.std.proofs.lemmas.List.{length-drop, length-map, take_rest, take-map, drop-map}
use Rattle.m11_scan.specs.Expressions.{begin, role_of, sort_of}
use Rattle.m11_scan.specs.declared.cutting.Token.{Token}
use Rattle.m11_scan.specs.declared.radix.Radix.{Radix}
use Rattle.m11_scan.specs.declared.sort.Sort.{Sort}
use Rattle.m11_scan.specs.declared.sort.Sort.TheVariants.{BinaryRadix, OctalRadix, DecimalRadix, Complement, Plus, Minus, Less, Percent}
use Rattle.m11_scan_expressions.specs.declared.names.Symbol.{Symbol}
use Rattle.m11_scan_expressions.specs.declared.operators.Operator.{Operator}
use Rattle.m11_scan_expressions.specs.declared.prefixes.Prefix.{Prefix}
use Rattle.m11_scan_expressions.specs.declared.prefixes.Prefix.TheVariants.{Bracket}
use Rattle.m11_scan_expressions.specs.Expressions.{is_term}
use Rattle.m11_scan_expressions.specs.Operations.{combined}
use Rattle.m11_scan_expressions.specs.Prefixes.{applied, bracket_length, prefix_of, radix_under}
use Rattle.m11_scan_expressions.specs.Quantities.{Quantity}
use Rattle.m11_scan_expressions.specs.Reaches.{opened, operator_after, outside, part_length, term_length}
use Rattle.m11_scan_expressions.specs.Terms.{Item, atom_value}
use Rattle.m11_scan_expressions.specs.Values.{items_of, seen, sorts_of, term_value, value_as_term, value_of}
use Rattle.m11_scan_expressions.proofs.AfterBrackets.{bracket_value, closed_length, open_length}
use Rattle.m11_scan_expressions.proofs.PlainPrefixes.{IsPlain, no_bracket, plain_length, plain_term}
use Rattle.m11_scan_expressions.proofs.ReadTokens.{Reads, TermOf, as_term, reads_all, reads_first, reads_next, term_of}

-- the tokens after the first one, and those after the first `count`, as slices have them
abbrev pub rest_of : List Token → List Token
rest_of tokens = take (length tokens - 1) (drop 1 tokens)

abbrev pub rest_from : ℕ → List Token → List Token
rest_from count tokens = take (length tokens - count) (drop count tokens)

-- if an operator comes next, a token is left
some_from : (count : ℕ) (tokens : List Token) (operator : Operator) (found : List Token) → drop count tokens ≡ found
    → Some operator ≡ operator_after (map sort_of found) → count < length tokens
some_from count tokens operator [] found is = absurd (cc)
some_from count tokens operator (mark ∷ back) found is =
    let size = length-drop count tokens in
    let one = ap length found in
    omega arith

pub some_left : (count : ℕ) (tokens : List Token) (operator : Operator)
    → Some operator ≡ operator_after (map sort_of (rest_from count tokens)) → count < length tokens
some_left count tokens operator is =
    some_from count tokens operator (drop count tokens) refl
    (is ∙ ap (λ (l : List Token). operator_after (map sort_of l)) (take_rest tokens count))

one_and : (n : ℕ) → 1 + n ≡ suc n
one_and n = omega arith

-- ---- the number of tokens of a term that begins with a bracket

abbrev sorts_from : ℕ → List Token → List Sort
sorts_from count tokens = map sort_of (rest_from count tokens)

sorts_after : (count : ℕ) (tokens : List Token) → sorts_from (count + 1) tokens ≡ drop (suc count) (map sort_of tokens)
sorts_after count tokens =
    ap (λ (l : List Token). map sort_of l) (take_rest tokens (count + 1))
    ∙ ap (λ (n : ℕ). map sort_of (drop n tokens)) (add-one count)
    ∙ sym (drop-map sort_of (suc count) tokens)

pub closed_exit : (in_bracket : Bool) (tokens : List Token) (inside more : ℕ) → inside ≡ bracket_length 0 (map sort_of tokens)
    → inside < length tokens → more ≡ term_length in_bracket (outside false) (sorts_from (inside + 1) tokens)
    → inside + 1 + more ≡ term_length in_bracket opened (map sort_of tokens)
closed_exit in_bracket tokens inside more reached closed more_is =
    let size = length-map tokens sort_of in
    let lt : inside < length (map sort_of tokens) = omega arith in
    closed_length in_bracket (map sort_of tokens) inside more reached lt
    (more_is ∙ ap (λ (l : List Sort). term_length in_bracket (outside false) l) (sorts_after inside tokens))

pub open_exit : (in_bracket : Bool) (tokens : List Token) (inside : ℕ) → inside ≡ bracket_length 0 (map sort_of tokens)
    → length tokens ≤ inside → length tokens ≡ term_length in_bracket opened (map sort_of tokens)
open_exit in_bracket tokens inside reached unclosed =
    let size = length-map tokens sort_of in
    let le : length (map sort_of tokens) ≤ inside = omega arith in
    sym size ∙ open_length in_bracket (map sort_of tokens) inside reached le

-- a token that is a term isn't a prefix
term_prefix : (sort : Sort) → is_term (role_of sort) ≡ true → prefix_of sort ≡ None
term_prefix Plus term = absurd (cc)
term_prefix Minus term = absurd (cc)
term_prefix Complement term = absurd (cc)
term_prefix Percent term = absurd (cc)
term_prefix BinaryRadix term = absurd (cc)
term_prefix OctalRadix term = absurd (cc)
term_prefix DecimalRadix term = absurd (cc)
term_prefix Less term = absurd (cc)
term_prefix sort term = refl

-- ---- the number of tokens of a term with a prefix

module _ (in_bracket : Bool) where
  pub plain_size : (tokens : List Token) (default : Token) (prefix : Prefix) (count : ℕ)
      → 1 ≤ length tokens
      → Some prefix ≡ prefix_of (get_or tokens 0 default).sort
      → (prefix ≡ Bracket → ⊥)
      → count ≡ term_length in_bracket begin (map sort_of (rest_of tokens))
      → 1 + count ≡ term_length in_bracket begin (map sort_of tokens)
  plain_size [] default prefix count one found other is = absurd (omega arith)
  plain_size (token ∷ more) default prefix count one found other is =
      one_and count
      ∙ ap (λ (n : ℕ). suc n)
      (is ∙ ap (λ (l : List Token). term_length in_bracket begin (map sort_of l)) (take_rest (token ∷ more) 1))
      ∙ sym (plain_length in_bracket token.sort (map sort_of more) prefix (sym found) (no_bracket prefix other))

-- ---- an expression, and terms with prefixes

module _ (value_of_symbol : Symbol → Quantity) (line : List ℕ) (in_bracket : Bool) (radix : Radix) where
  sorts_seen : (tokens : List Token) → sorts_of (items_of value_of_symbol line tokens) ≡ map sort_of tokens
  sorts_seen [] = refl
  sorts_seen (token ∷ tokens) = ap (λ (sorts : List Sort). token.sort ∷ sorts) (sorts_seen tokens)

  -- the first `count` of these tokens were read, and have this value
  abbrev pub ReadsOf : List Token → ℕ → Quantity → Type 0
  ReadsOf tokens count value =
      Reads in_bracket radix (take count (items_of value_of_symbol line tokens)) (drop count (items_of value_of_symbol line tokens)) value

  pub first_exit : (tokens : List Token) (count : ℕ) (value : Quantity) → count ≡ term_length in_bracket begin (map sort_of tokens)
      → value ≡ value_as_term radix (items_of value_of_symbol line (take count tokens)) → ReadsOf tokens count value
  first_exit tokens count value is value_is =
      reads_first in_bracket radix (items_of value_of_symbol line tokens) count value
      (is ∙ ap (λ (l : List Sort). term_length in_bracket begin l) (sym (sorts_seen tokens)))
      (value_is ∙ ap (λ (l : List Item). value_as_term radix l) (sym (take-map (seen value_of_symbol line) count tokens)))

  back_is : (count : ℕ) (tokens : List Token)
      → items_of value_of_symbol line (rest_from count tokens) ≡ drop count (items_of value_of_symbol line tokens)
  back_is count tokens =
      ap (λ (l : List Token). items_of value_of_symbol line l) (take_rest tokens count)
      ∙ sym (drop-map (seen value_of_symbol line) count tokens)

  -- the tokens after an operator
  one_less : (count : ℕ) (tokens : List Token) (mark : Token) (back : List Token) → drop count tokens ≡ mark ∷ back
      → drop (count + 1) tokens ≡ back
  one_less zero tokens mark back is = ap (λ (l : List Token). drop 1 l) is
  one_less (suc count) [] mark back is = absurd (cc)
  one_less (suc count) (token ∷ tokens) mark back is =
      let e : suc count + 1 ≡ suc (count + 1) = omega arith in
      ap (λ (n : ℕ). drop n (token ∷ tokens)) e ∙ one_less count tokens mark back is

  next_from : (tokens : List Token) (count more : ℕ) (operator : Operator) (value next result : Quantity) (found : List Token)
      → drop count tokens ≡ found → ReadsOf tokens count value → Some operator ≡ operator_after (map sort_of found)
      → more ≡ term_length in_bracket begin (map sort_of (drop (count + 1) tokens))
      → next ≡ value_as_term radix (items_of value_of_symbol line (take more (drop (count + 1) tokens)))
      → result ≡ combined operator value next → ReadsOf tokens (count + (more + 1)) result
  next_from tokens count more operator value next result [] found reads is more_is next_is result_is = absurd (cc)
  next_from tokens count more operator value next result (mark ∷ back) found reads is more_is next_is result_is =
      let P : Quantity → Type 0 = λ v. ReadsOf tokens (count + (more + 1)) v in
      let rest : drop (count + 1) tokens ≡ back = one_less count tokens mark back found in
      let items : drop count (items_of value_of_symbol line tokens) ≡ seen value_of_symbol line mark ∷ items_of value_of_symbol line back =
      drop-map (seen value_of_symbol line) count tokens ∙ ap (λ (l : List Token). items_of value_of_symbol line l) found in
      subst P (sym result_is)
      (reads_next in_bracket radix (items_of value_of_symbol line tokens) count more (seen value_of_symbol line mark)
      (items_of value_of_symbol line back) operator value next reads items (sym is)
      (more_is ∙ ap (λ (l : List Token). term_length in_bracket begin (map sort_of l)) rest
      ∙ ap (λ (l : List Sort). term_length in_bracket begin l) (sym (sorts_seen back)))
      (next_is ∙ ap (λ (l : List Token). value_as_term radix (items_of value_of_symbol line (take more l))) rest
      ∙ ap (λ (l : List Item). value_as_term radix l) (sym (take-map (seen value_of_symbol line) more back))))

  pub next_exit : (tokens : List Token) (count more : ℕ) (operator : Operator) (value next result : Quantity)
      → ReadsOf tokens count value → Some operator ≡ operator_after (map sort_of (rest_from count tokens))
      → more ≡ term_length in_bracket begin (map sort_of (rest_from (count + 1) tokens))
      → next ≡ value_as_term radix (items_of value_of_symbol line (take more (rest_from (count + 1) tokens)))
      → result ≡ combined operator value next → ReadsOf tokens (count + (more + 1)) result
  next_exit tokens count more operator value next result reads is more_is next_is result_is =
      let rest = take_rest tokens (count + 1) in
      next_from tokens count more operator value next result (drop count tokens) refl reads
      (is ∙ ap (λ (l : List Token). operator_after (map sort_of l)) (take_rest tokens count))
      (more_is ∙ ap (λ (l : List Token). term_length in_bracket begin (map sort_of l)) rest)
      (next_is ∙ ap (λ (l : List Token). value_as_term radix (items_of value_of_symbol line (take more l))) rest) result_is

  pub length_exit : (tokens : List Token) (count : ℕ) (value : Quantity) → ReadsOf tokens count value → count ≤ length tokens
      → None ≡ operator_after (map sort_of (rest_from count tokens)) → count ≡ part_length in_bracket 0 (map sort_of tokens)
  length_exit tokens count value reads le none =
      let size = length-map tokens (seen value_of_symbol line) in
      let within : count ≤ length (items_of value_of_symbol line tokens) = omega arith in
      reads_all in_bracket radix (items_of value_of_symbol line tokens) count value reads within
      (ap (λ (l : List Item). operator_after (sorts_of l)) (sym (back_is count tokens))
      ∙ ap (λ (l : List Sort). operator_after l) (sorts_seen (rest_from count tokens)) ∙ sym none)
      ∙ ap (λ (l : List Sort). part_length in_bracket 0 l) (sorts_seen tokens)

  pub value_exit : (tokens : List Token) (count : ℕ) (value : Quantity) → ReadsOf tokens count value
      → value ≡ value_of radix (items_of value_of_symbol line (take count tokens))
  value_exit tokens count value reads =
      reads.value_is ∙ ap (λ (l : List Item). value_of radix l) (take-map (seen value_of_symbol line) count tokens)

  pub one_token : (all : List Token) (default : Token) (count : ℕ) (result : Quantity) → 1 ≤ length all
      → is_term (role_of (get_or all 0 default).sort) ≡ true
      → result ≡ atom_value radix (seen value_of_symbol line (get_or all 0 default)).atom
      → result ≡ value_as_term radix (items_of value_of_symbol line (take (1 + count) all))
  one_token [] default count result one term r = absurd (omega arith)
  one_token (token ∷ more) default count result one term r =
      r
      ∙ ap (λ (p : Option Prefix). term_value value_of radix (seen value_of_symbol line token) (items_of value_of_symbol line (take count more)) p)
      (sym (term_prefix token.sort term))
      ∙ ap (λ (n : ℕ). value_as_term radix (items_of value_of_symbol line (take n (token ∷ more)))) (sym (one_and count))

  plain_part : (token : Token) (more : List Token) (prefix : Prefix) (count : ℕ) (value result : Quantity) (under : Radix)
      → Some prefix ≡ prefix_of token.sort → IsPlain prefix → under ≡ radix_under prefix radix
      → count ≡ term_length in_bracket begin (map sort_of more)
      → value ≡ value_as_term under (items_of value_of_symbol line (take count more))
      → result ≡ applied prefix false value
      → result ≡ value_as_term radix (items_of value_of_symbol line (token ∷ take count more))
  plain_part token more prefix count value result under found plain u is v r =
      let P : ℕ → Type 0 = λ n. TermOf in_bracket begin (items_of value_of_symbol line more) n in
      let term : TermOf in_bracket begin (items_of value_of_symbol line more) count =
      subst P (sym (is ∙ ap (λ (l : List Sort). term_length in_bracket begin l) (sym (sorts_seen more))))
      (term_of in_bracket begin (items_of value_of_symbol line more)) in
      let taken : take count (items_of value_of_symbol line more) ≡ items_of value_of_symbol line (take count more) =
      take-map (seen value_of_symbol line) count more in
      r
      ∙ ap (λ (q : Quantity). applied prefix false q)
      (v ∙ ap (λ (l : List Item). value_as_term under l) (sym taken)
      ∙ sym (as_term under (take count (items_of value_of_symbol line more)) term.none)
      ∙ ap (λ (l : List Item). value_of under l) taken
      ∙ ap (λ (x : Radix). value_of x (items_of value_of_symbol line (take count more))) u)
      ∙ sym (plain_term radix (seen value_of_symbol line token) (items_of value_of_symbol line (take count more)) prefix (sym found) plain)

  pub plain_exit : (tokens : List Token) (default : Token) (prefix : Prefix) (count : ℕ) (value result : Quantity) (under : Radix)
      → 1 ≤ length tokens
      → Some prefix ≡ prefix_of (get_or tokens 0 default).sort
      → (prefix ≡ Bracket → ⊥)
      → under ≡ radix_under prefix radix
      → count ≡ term_length in_bracket begin (map sort_of (rest_of tokens))
      → value ≡ value_as_term under (items_of value_of_symbol line (take count (rest_of tokens)))
      → result ≡ applied prefix false value
      → result ≡ value_as_term radix (items_of value_of_symbol line (take (1 + count) tokens))
  plain_exit [] default prefix count value result under one found other u is v r = absurd (omega arith)
  plain_exit (token ∷ more) default prefix count value result under one found other u is v r =
      let rest : rest_of (token ∷ more) ≡ more = take_rest (token ∷ more) 1 in
      plain_part token more prefix count value result under found (no_bracket prefix other) u
      (is ∙ ap (λ (l : List Token). term_length in_bracket begin (map sort_of l)) rest)
      (v ∙ ap (λ (l : List Token). value_as_term under (items_of value_of_symbol line (take count l))) rest) r
      ∙ ap (λ (n : ℕ). value_as_term radix (items_of value_of_symbol line (take n (token ∷ more)))) (sym (one_and count))

  bracket_part : (token : Token) (more : List Token) (inside count : ℕ) (value result : Quantity)
      → prefix_of token.sort ≡ Some Bracket
      → inside ≡ bracket_length 0 (map sort_of more)
      → value ≡ value_of radix (items_of value_of_symbol line (take inside more))
      → count ≡ term_length in_bracket opened (map sort_of more)
      → result ≡ applied Bracket (nat_lt inside (length more)) value
      → result ≡ value_as_term radix (items_of value_of_symbol line (token ∷ take count more))
  bracket_part token more inside count value result found is v count_is r =
      let sorts : sorts_of (items_of value_of_symbol line more) ≡ map sort_of more = sorts_seen more in
      let reached : inside ≡ bracket_length 0 (sorts_of (items_of value_of_symbol line more)) =
      is ∙ ap (λ (s : List Sort). bracket_length 0 s) (sym sorts) in
      let size : length more ≡ length (items_of value_of_symbol line more) = sym (length-map more (seen value_of_symbol line)) in
      r
      ∙ ap (λ (n : ℕ). applied Bracket (nat_lt inside n) value) size
      ∙ ap (λ (q : Quantity). applied Bracket (nat_lt inside (length (items_of value_of_symbol line more))) q)
      (v ∙ ap (λ (l : List Item). value_of radix l) (sym (take-map (seen value_of_symbol line) inside more)))
      ∙ ap (λ (n : ℕ). applied Bracket (nat_lt n (length (items_of value_of_symbol line more)))
      (value_of radix (take n (items_of value_of_symbol line more)))) reached
      ∙ sym (bracket_value in_bracket radix (seen value_of_symbol line token) (items_of value_of_symbol line more) count found
      (count_is ∙ ap (λ (s : List Sort). term_length in_bracket opened s) (sym sorts)))
      ∙ ap (λ (l : List Item). value_as_term radix (seen value_of_symbol line token ∷ l)) (take-map (seen value_of_symbol line) count more)

  pub bracket_exit : (tokens : List Token) (default : Token) (prefix : Prefix) (inside count : ℕ) (value result : Quantity)
      → 1 ≤ length tokens
      → Some prefix ≡ prefix_of (get_or tokens 0 default).sort
      → prefix ≡ Bracket
      → inside ≡ bracket_length 0 (map sort_of (rest_of tokens))
      → value ≡ value_of radix (items_of value_of_symbol line (take inside (rest_of tokens)))
      → count ≡ term_length in_bracket opened (map sort_of (rest_of tokens))
      → result ≡ applied prefix (nat_lt inside (length (rest_of tokens))) value
      → result ≡ value_as_term radix (items_of value_of_symbol line (take (1 + count) tokens))
  bracket_exit [] default prefix inside count value result one found bracket is v count_is r = absurd (omega arith)
  bracket_exit (token ∷ more) default prefix inside count value result one found bracket is v count_is r =
      let rest : rest_of (token ∷ more) ≡ more = take_rest (token ∷ more) 1 in
      bracket_part token more inside count value result (sym found ∙ ap (λ (p : Prefix). Some p) bracket)
      (is ∙ ap (λ (l : List Token). bracket_length 0 (map sort_of l)) rest)
      (v ∙ ap (λ (l : List Token). value_of radix (items_of value_of_symbol line (take inside l))) rest)
      (count_is ∙ ap (λ (l : List Token). term_length in_bracket opened (map sort_of l)) rest)
      (r ∙ ap (λ (p : Prefix). applied p (nat_lt inside (length (rest_of (token ∷ more)))) value) bracket
      ∙ ap (λ (l : List Token). applied Bracket (nat_lt inside (length l)) value) rest)
      ∙ ap (λ (n : ℕ). value_as_term radix (items_of value_of_symbol line (take n (token ∷ more)))) (sym (one_and count))
