-- The value of terms that are joined by operators, from the values of the parts.
use Rattle.std.proofs.Common.{◌≡◌, ℕ, zero, suc, Bool, true, false, List, [], ◌∷◌, ◌++◌, length, take, drop, Option, Some, None, refl, sym, ap, ◌∙◌, arith, eqb, if◌then◌else◌}
use Rattle.std.proofs.lemmas.List.{append_assoc, append-nil, length-map, map-append}
use Rattle.std.proofs.lemmas.Bool.{ne_eqb}
use Rattle.m11_scan.specs.Expressions.{begin, role_of}
use Rattle.m11_scan.specs.declared.expressions.Role.{Role}
use Rattle.m11_scan.specs.declared.expressions.Role.TheVariants.{Term}
use Rattle.m11_scan.specs.declared.expressions.Within.{Within}
use Rattle.m11_scan.specs.declared.radix.Radix.{Radix}
use Rattle.m11_scan.specs.declared.sort.Sort.{Sort}
use Rattle.m11_scan.specs.declared.sort.Sort.TheVariants.{Name, Number, DecimalNumber, LocalSymbol, Character, TwoCharacters, Packed, BinaryRadix, OctalRadix, DecimalRadix, Complement, Plus, Minus, Times, Over, And, Or, Less, Greater, Percent, NumberSign, At, Open, Close, Comma, Colon, TwoColons, Equals, TwoEquals}
use Rattle.m11_scan_expressions.specs.declared.operators.Operator.{Operator}
use Rattle.m11_scan_expressions.specs.declared.prefixes.Prefix.{Prefix}
use Rattle.m11_scan_expressions.specs.Laws.{AreSteps, NoStep, OneMore, IsOperator, IsTerm, Step, left_fold, within_after, written}
use Rattle.m11_scan_expressions.specs.Operations.{combined}
use Rattle.m11_scan_expressions.specs.Splits.{Split, after, last_operator, later, operator_at, operator_of}
use Rattle.m11_scan_expressions.specs.Prefixes.{prefix_of}
use Rattle.m11_scan_expressions.specs.Quantities.{Quantity}
use Rattle.m11_scan_expressions.specs.Terms.{Item, atom_value}
use Rattle.m11_scan_expressions.specs.Values.{sorts_of, split_value, term_value, value_of}
use Rattle.m11_scan_expressions.proofs.Parts.{value_by_parts}

abbrev found : ℕ → Operator → Option Split
found index operator = Some (record { index = index; operator = operator })

-- an operator is the last one if no other follows it outside brackets
last_found : (within : Within) (front : List Sort) (sort : Sort) (back : List Sort) (operator : Operator)
    → operator_at sort (within_after within front) ≡ Some operator
    → last_operator (after (role_of sort) (within_after within front)) back ≡ None
    → last_operator within (front ++ sort ∷ back) ≡ found (length front) operator
last_found within [] sort back operator here none =
    ap (λ (h : Option Operator). later h (last_operator (after (role_of sort) within) back)) here
    ∙ ap (λ (m : Option Split). later (Some operator) m) none
last_found within (first ∷ front) sort back operator here none =
    ap (λ (m : Option Split). later (operator_at first within) m)
    (last_found (after (role_of first) within) front sort back operator here none)

-- after an operator a term is due
due_after : (sort : Sort) (due : Bool) (operator : Operator) → operator_of due sort ≡ Some operator
    → after (role_of sort) (record { depth = 0; is_due = due }) ≡ begin
due_after Name due operator h = cc
due_after Number due operator h = cc
due_after DecimalNumber due operator h = cc
due_after LocalSymbol due operator h = cc
due_after Character due operator h = cc
due_after TwoCharacters due operator h = cc
due_after Packed due operator h = cc
due_after BinaryRadix due operator h = cc
due_after OctalRadix due operator h = cc
due_after DecimalRadix due operator h = cc
due_after Complement due operator h = cc
due_after Plus true operator h = cc
due_after Plus false operator h = refl
due_after Minus true operator h = cc
due_after Minus false operator h = refl
due_after Times due operator h = refl
due_after Over due operator h = refl
due_after And due operator h = refl
due_after Or due operator h = refl
due_after Less due operator h = cc
due_after Greater due operator h = cc
due_after Percent due operator h = cc
due_after NumberSign due operator h = cc
due_after At due operator h = cc
due_after Open due operator h = cc
due_after Close due operator h = cc
due_after Comma due operator h = cc
due_after Colon due operator h = cc
due_after TwoColons due operator h = cc
due_after Equals due operator h = cc
due_after TwoEquals due operator h = cc

at_depth : (sort : Sort) (depth : ℕ) (due : Bool) (operator : Operator)
    → operator_at sort (record { depth = depth; is_due = due }) ≡ Some operator
    → after (role_of sort) (record { depth = depth; is_due = due }) ≡ begin
at_depth sort zero due operator h = due_after sort due operator h
at_depth sort (suc depth) due operator h =
    let other : eqb (suc depth) 0 ≡ false = ne_eqb (suc depth) 0 (λ e. omega arith) in
    let no : None ≡ Some operator = sym (ap (λ (b : Bool). if b then operator_of due sort else None) other) ∙ h in
    cc

-- after an operator outside brackets, the state is the same as at the beginning of an expression
pub operator_outside : (sort : Sort) (within : Within) (operator : Operator) → operator_at sort within ≡ Some operator
    → after (role_of sort) within ≡ begin
operator_outside sort within operator h = at_depth sort within.depth within.is_due operator h

-- a token that is a term is neither a prefix nor an operator
no_prefix : (sort : Sort) → role_of sort ≡ Term → prefix_of sort ≡ None
no_prefix Name h = refl
no_prefix Number h = refl
no_prefix DecimalNumber h = refl
no_prefix LocalSymbol h = refl
no_prefix Character h = refl
no_prefix TwoCharacters h = refl
no_prefix Packed h = refl
no_prefix BinaryRadix h = cc
no_prefix OctalRadix h = cc
no_prefix DecimalRadix h = cc
no_prefix Complement h = cc
no_prefix Plus h = cc
no_prefix Minus h = cc
no_prefix Times h = cc
no_prefix Over h = cc
no_prefix And h = cc
no_prefix Or h = cc
no_prefix Less h = cc
no_prefix Greater h = cc
no_prefix Percent h = cc
no_prefix NumberSign h = cc
no_prefix At h = cc
no_prefix Open h = cc
no_prefix Close h = cc
no_prefix Comma h = cc
no_prefix Colon h = cc
no_prefix TwoColons h = cc
no_prefix Equals h = cc
no_prefix TwoEquals h = cc

pub no_operator : (sort : Sort) → role_of sort ≡ Term → last_operator begin (sort ∷ []) ≡ None
no_operator Name h = refl
no_operator Number h = refl
no_operator DecimalNumber h = refl
no_operator LocalSymbol h = refl
no_operator Character h = refl
no_operator TwoCharacters h = refl
no_operator Packed h = refl
no_operator BinaryRadix h = cc
no_operator OctalRadix h = cc
no_operator DecimalRadix h = cc
no_operator Complement h = cc
no_operator Plus h = cc
no_operator Minus h = cc
no_operator Times h = cc
no_operator Over h = cc
no_operator And h = cc
no_operator Or h = cc
no_operator Less h = cc
no_operator Greater h = cc
no_operator Percent h = cc
no_operator NumberSign h = cc
no_operator At h = cc
no_operator Open h = cc
no_operator Close h = cc
no_operator Comma h = cc
no_operator Colon h = cc
no_operator TwoColons h = cc
no_operator Equals h = cc
no_operator TwoEquals h = cc

pub sorts-append : (front back : List Item) → sorts_of (front ++ back) ≡ sorts_of front ++ sorts_of back
sorts-append front back = map-append (λ (item : Item). item.sort) front back

pub size_of : (front : List Item) → length (sorts_of front) ≡ length front
size_of front = length-map front (λ (item : Item). item.sort)

pub front_is : (front back : List Item) → take (length front) (front ++ back) ≡ front
front_is [] back = refl
front_is (item ∷ front) back = ap (λ (l : List Item). item ∷ l) (front_is front back)

back_is : (front : List Item) (mark : Item) (back : List Item) → drop (suc (length front)) (front ++ mark ∷ back) ≡ back
back_is [] mark back = refl
back_is (item ∷ front) mark back = back_is front mark back

pub joined_value : (radix : Radix) (front back : List Item) (mark : Item) (operator : Operator)
    → IsOperator operator front mark → IsTerm back
    → value_of radix (front ++ mark ∷ back) ≡ combined operator (value_of radix front) (value_of radix back)
joined_value radix front back mark operator here none =
    let rest : last_operator (after (role_of mark.sort) (within_after begin (sorts_of front))) (sorts_of back) ≡ None =
    ap (λ (p : Within). last_operator p (sorts_of back))
    (operator_outside mark.sort (within_after begin (sorts_of front)) operator here) ∙ none in
    let last : last_operator begin (sorts_of (front ++ mark ∷ back)) ≡ found (length front) operator =
    ap (λ (s : List Sort). last_operator begin s) (sorts-append front (mark ∷ back))
    ∙ last_found begin (sorts_of front) mark.sort (sorts_of back) operator here rest
    ∙ ap (λ (n : ℕ). found n operator) (size_of front) in
    value_by_parts radix (front ++ mark ∷ back)
    ∙ ap (λ (s : Option Split). split_value value_of radix (front ++ mark ∷ back) s) last
    ∙ ap (λ (l : List Item). combined operator (value_of radix l) (value_of radix (drop (suc (length front)) (front ++ mark ∷ back))))
    (front_is front (mark ∷ back))
    ∙ ap (λ (l : List Item). combined operator (value_of radix front) (value_of radix l)) (back_is front mark back)

-- the value of a term of one token is the value of the token
single_value : (radix : Radix) (term : Item) → role_of term.sort ≡ Term → value_of radix (term ∷ []) ≡ atom_value radix term.atom
single_value radix term is =
    value_by_parts radix (term ∷ [])
    ∙ ap (λ (s : Option Split). split_value value_of radix (term ∷ []) s) (no_operator term.sort is)
    ∙ ap (λ (p : Option Prefix). term_value value_of radix term [] p) (no_prefix term.sort is)

after_term : Within
after_term = record { depth = 0; is_due = false }

pub within-append : (within : Within) (front back : List Sort) → within_after within (front ++ back) ≡ within_after (within_after within front) back
within-append within [] back = refl
within-append within (sort ∷ front) back = within-append (after (role_of sort) within) front back

-- after one more step the state is again the one after a term
step_within : (front : List Item) (step : Step) → within_after begin (sorts_of front) ≡ after_term
    → operator_of false step.mark.sort ≡ Some step.operator → role_of step.term.sort ≡ Term
    → within_after begin (sorts_of (front ++ step.mark ∷ step.term ∷ [])) ≡ after_term
unfolding after_term
step_within front step ends here term =
    ap (λ (s : List Sort). within_after begin s) (sorts-append front (step.mark ∷ step.term ∷ []))
    ∙ within-append begin (sorts_of front) (step.mark.sort ∷ step.term.sort ∷ [])
    ∙ ap (λ (p : Within). after (role_of step.term.sort) (after (role_of step.mark.sort) p)) ends
    ∙ ap (λ (p : Within). after (role_of step.term.sort) p) (due_after step.mark.sort false step.operator here)
    ∙ ap (λ (r : Role). after r begin) term

steps_fold : (radix : Radix) (front : List Item) {steps : List Step} → within_after begin (sorts_of front) ≡ after_term
    → AreSteps steps → value_of radix (front ++ written steps) ≡ left_fold radix (value_of radix front) steps
unfolding after_term
steps_fold radix front ends NoStep = ap (λ (l : List Item). value_of radix l) (append-nil front)
steps_fold radix front ends (OneMore step steps here term more) =
    let is : IsOperator step.operator front step.mark =
    ap (λ (p : Within). operator_at step.mark.sort p) ends ∙ here in
    ap (λ (l : List Item). value_of radix l) (sym (append_assoc front (step.mark ∷ step.term ∷ []) (written steps)))
    ∙ steps_fold radix (front ++ step.mark ∷ step.term ∷ []) (step_within front step ends here term) more
    ∙ ap (λ (v : Quantity). left_fold radix v steps)
    (joined_value radix front (step.term ∷ []) step.mark step.operator is (no_operator step.term.sort term)
    ∙ ap (λ (v : Quantity). combined step.operator (value_of radix front) v) (single_value radix step.term term))

pub folded_value : (radix : Radix) (first : Item) (steps : List Step) → role_of first.sort ≡ Term → AreSteps steps
    → value_of radix (first ∷ written steps) ≡ left_fold radix (atom_value radix first.atom) steps
unfolding after_term
folded_value radix first steps is are =
    steps_fold radix (first ∷ []) (ap (λ (r : Role). after r begin) is) are
    ∙ ap (λ (v : Quantity). left_fold radix v steps) (single_value radix first is)
