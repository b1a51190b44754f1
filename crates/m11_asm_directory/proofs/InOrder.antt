-- Names in order: a list in order is determined by its names.
use Rattle.std.proofs.Common.{◌≡◌, ◌∙◌, ℕ, ◌==◌, ◌&&◌, ◌||◌, Bool, true, false, true≢false, cond, List, [], ◌∷◌, refl, sym, ap, subst, arith}
use Rattle.std.specs.BTreeSet.{insert_key}
use Rattle.std.specs.Cmp.{IsTotalOrder}
use Rattle.std.specs.List.{AllByRecursion, dedup, dedup_from}
use Rattle.std.specs.List.Sorted.{IsPermutation, IsSorted, IsStrictlySortedBy}
use Rattle.std.specs.Ordering.{is_eq, match_ordering, nat_cmp, ordering_reverse, ordering_then}
use Rattle.std.specs.declared.cmp.Ordering.{Ordering}
use Rattle.std.specs.declared.cmp.Ordering.TheVariants.{Less, Equal, Greater}
use Rattle.std.proofs.lemmas.Bool.Decides.{nat_tests}
use Rattle.std.proofs.lemmas.Cmp.{nat_cmp_total, on_total, then_total}
use Rattle.std.proofs.lemmas.List.Kept.{IsStrictlySortedBy-dedup}
use Rattle.std.proofs.lemmas.List.Sorted.{list_any-IsPermutation}
use Rattle.m11_base.specs.Rad50.{Name, is_same_name}
use Rattle.m11_base.proofs.SameNames.{same_name_equal, same_name_itself}
use Rattle.m11_asm_directory.specs.Laws.{AreInOrder, AreOrdered, HaveTheSame}
use Rattle.m11_asm_directory.specs.Names.{has_name, name_order, ordered}

-- ---- the order of two names

names_total : IsTotalOrder name_order
names_total = then_total (on_total (λ (n : Name). n.0) nat_cmp_total) (on_total (λ (n : Name). n.1) nat_cmp_total)

number_ties : (x y : ℕ) → (x == y) ≡ is_eq (nat_cmp x y)
number_ties x y = grind (arith, nat_tests)

both_ties : (one other : Ordering) → (is_eq one && is_eq other) ≡ is_eq (ordering_then one other)
both_ties Less other = refl
both_ties Equal other = refl
both_ties Greater other = refl

-- two names are equal in the order exactly if they are the same
name_ties : (one other : Name) → is_same_name one other ≡ is_eq (name_order one other)
name_ties one other =
    ap (λ (b : Bool). b && (one.1 == other.1)) (number_ties one.0 other.0)
    ∙ ap (λ (b : Bool). is_eq (nat_cmp one.0 other.0) && b) (number_ties one.1 other.1)
    ∙ both_ties (nat_cmp one.0 other.0) (nat_cmp one.1 other.1)

tied_names : (one other : Name) → name_order one other ≡ Equal → one ≡ other
tied_names one other e = same_name_equal one other (name_ties one other ∙ ap is_eq e)

back : (one other : Name) (r : Ordering) → name_order one other ≡ r → name_order other one ≡ ordering_reverse r
back one other r e = names_total.antisymm other one ∙ ap ordering_reverse e

apart : (one other : Name) → name_order one other ≡ Less → is_same_name other one ≡ false
apart one other e = name_ties other one ∙ ap is_eq (back one other Less e)

-- ---- names after a name

abbrev Before : Name → List Name → Type 0
Before name names = AllByRecursion (λ other. name_order name other ≡ Less) names

before_them : (name first : Name) (names : List Name) → name_order name first ≡ Less → Before first names → Before name names
before_them name first [] e all = tt
before_them name first (next ∷ names) e all =
    (names_total.trans name first next e all.0, before_them name first names e all.1)

not_there : (name : Name) (names : List Name) → Before name names → has_name name names ≡ false
not_there name [] all = refl
not_there name (next ∷ names) all =
    ap (λ (b : Bool). b || has_name name names) (apart name next all.0) ∙ not_there name names all.1

there : (name : Name) (names : List Name) → has_name name (name ∷ names) ≡ true
there name names = ap (λ (b : Bool). b || has_name name names) (same_name_itself name)

-- ---- lists in order with the same names

same_after : (name first : Name) (one other : List Name) (is_first : Bool) → is_same_name first name ≡ is_first
    → Before first one → Before first other
    → (is_same_name first name || has_name name one) ≡ (is_same_name first name || has_name name other)
    → has_name name one ≡ has_name name other
same_after name first one other true e all_one all_other same =
    let is : first ≡ name = same_name_equal first name e in
    ap (λ (n : Name). has_name n one) (sym is) ∙ not_there first one all_one
    ∙ sym (not_there first other all_other) ∙ ap (λ (n : Name). has_name n other) is
same_after name first one other false e all_one all_other same =
    let P : Bool → Type 0 = λ b. (b || has_name name one) ≡ (b || has_name name other) in
    subst P e same

same_first : (first : Name) (one : List Name) (head : Name) (other : List Name) (r : Ordering) → name_order first head ≡ r
    → Before first one → Before head other → HaveTheSame (first ∷ one) (head ∷ other)
    → (HaveTheSame one other → one ≡ other) → first ∷ one ≡ head ∷ other
same_first first one head other Less e all_one all_other same more =
    absurd (true≢false
    (sym (there first one) ∙ same first ∙ not_there first (head ∷ other) (e, before_them first head other e all_other)))
same_first first one head other Equal e all_one all_other same more =
    let is : first ≡ head = tied_names first head e in
    let P : Name → Type 0 = λ n. Before n other in
    let alike : HaveTheSame one other = λ name. same_after name first one other (is_same_name first name) refl all_one
    (subst P (sym is) all_other)
    (same name ∙ ap (λ (n : Name). is_same_name n name || has_name name other) (sym is)) in
    ap (λ (n : Name). n ∷ one) is ∙ ap (λ (names : List Name). head ∷ names) (more alike)
same_first first one head other Greater e all_one all_other same more =
    let f : name_order head first ≡ Less = back first head Greater e in
    absurd (true≢false
    (sym (there head other) ∙ sym (same head) ∙ not_there head (first ∷ one) (f, before_them head first one f all_one)))

same_ordered : (one other : List Name) → AreOrdered one → AreOrdered other → HaveTheSame one other → one ≡ other
unfolding IsStrictlySortedBy
same_ordered [] [] up_one up_other same = refl
same_ordered [] (head ∷ other) up_one up_other same = absurd (true≢false (sym (there head other) ∙ sym (same head)))
same_ordered (first ∷ one) [] up_one up_other same = absurd (true≢false (sym (there first one) ∙ same first))
same_ordered (first ∷ one) (head ∷ other) up_one up_other same =
    same_first first one head other (name_order first head) refl up_one.0 up_other.0 same
    (λ alike. same_ordered one other up_one.1 up_other.1 alike)

-- ---- one more name in its place

or_again : (a b : Bool) → (a || b) ≡ (a || (a || b))
or_again true b = refl
or_again false b = refl

or_swap : (a b c : Bool) → (a || (b || c)) ≡ (b || (a || c))
or_swap true true c = refl
or_swap true false c = refl
or_swap false true c = refl
or_swap false false c = refl

abbrev placed : Ordering → Name → Name → List Name → List Name
placed r name first names =
    match_ordering r (name ∷ first ∷ names) (first ∷ names) (first ∷ insert_key name_order names name)

has_placed : (sought name first : Name) (names : List Name) (r : Ordering) → name_order name first ≡ r
    → has_name sought (insert_key name_order names name) ≡ (is_same_name name sought || has_name sought names)
    → has_name sought (placed r name first names) ≡ (is_same_name name sought || has_name sought (first ∷ names))
has_placed sought name first names Less e more = refl
has_placed sought name first names Equal e more =
    or_again (is_same_name first sought) (has_name sought names)
    ∙ ap (λ (n : Name). is_same_name n sought || has_name sought (first ∷ names)) (sym (tied_names name first e))
has_placed sought name first names Greater e more =
    ap (λ (b : Bool). is_same_name first sought || b) more
    ∙ or_swap (is_same_name first sought) (is_same_name name sought) (has_name sought names)

has_inserted : (sought name : Name) (names : List Name)
    → has_name sought (insert_key name_order names name) ≡ (is_same_name name sought || has_name sought names)
has_inserted sought name [] = refl
has_inserted sought name (first ∷ names) =
    has_placed sought name first names (name_order name first) refl (has_inserted sought name names)

before_placed : (least name first : Name) (names : List Name) (r : Ordering) → name_order least name ≡ Less
    → Before least (first ∷ names) → Before least (insert_key name_order names name) → Before least (placed r name first names)
before_placed least name first names Less e all more = (e, all)
before_placed least name first names Equal e all more = all
before_placed least name first names Greater e all more = (all.0, more)

before_inserted : (least name : Name) (names : List Name) → name_order least name ≡ Less → Before least names
    → Before least (insert_key name_order names name)
before_inserted least name [] e all = (e, tt)
before_inserted least name (first ∷ names) e all =
    before_placed least name first names (name_order name first) e all (before_inserted least name names e all.1)

placed_ordered : (name first : Name) (names : List Name) (r : Ordering) → name_order name first ≡ r → AreOrdered (first ∷ names)
    → AreOrdered (insert_key name_order names name) → AreOrdered (placed r name first names)
unfolding IsStrictlySortedBy
placed_ordered name first names Less e up more = ((e, before_them name first names e up.0), up)
placed_ordered name first names Equal e up more = up
placed_ordered name first names Greater e up more =
    (before_inserted first name names (back name first Greater e) up.0, more)

inserted_ordered : (name : Name) (names : List Name) → AreOrdered names → AreOrdered (insert_key name_order names name)
unfolding IsStrictlySortedBy
inserted_ordered name [] up = (tt, tt)
inserted_ordered name (first ∷ names) up =
    placed_ordered name first names (name_order name first) refl up (inserted_ordered name names up.1)

-- ---- the names of a list in order

pub has_ordered : (sought : Name) (names : List Name) → has_name sought (ordered names) ≡ has_name sought names
has_ordered sought [] = refl
has_ordered sought (name ∷ names) =
    has_inserted sought name (ordered names)
    ∙ ap (λ (b : Bool). is_same_name name sought || b) (has_ordered sought names)

are_ordered : (names : List Name) → AreOrdered (ordered names)
unfolding IsStrictlySortedBy
are_ordered [] = tt
are_ordered (name ∷ names) = inserted_ordered name (ordered names) (are_ordered names)

pub ordered_in_order : (names : List Name) → AreInOrder (ordered names) names
ordered_in_order names = record { ordered = are_ordered names; same = λ name. has_ordered name names }

pub ordered_alone : (list names : List Name) → AreInOrder list names → list ≡ ordered names
ordered_alone list names h =
    same_ordered list (ordered names) h.ordered (are_ordered names) (λ name. h.same name ∙ sym (has_ordered name names))

-- ---- a sorted list without duplicates

has_from : (sought last next : Name) (names : List Name) (is_same : Bool) → is_same_name next last ≡ is_same
    → has_name sought (dedup_from is_same_name last names) ≡ has_name sought (last ∷ names)
    → has_name sought (dedup_from is_same_name next names) ≡ has_name sought (next ∷ names)
    → has_name sought (cond is_same (dedup_from is_same_name last names) (last ∷ dedup_from is_same_name next names))
    ≡ has_name sought (last ∷ next ∷ names)
has_from sought last next names true e more_last more_next =
    more_last ∙ or_again (is_same_name last sought) (has_name sought names)
    ∙ ap (λ (n : Name). is_same_name last sought || (is_same_name n sought || has_name sought names))
    (sym (same_name_equal next last e))
has_from sought last next names false e more_last more_next =
    ap (λ (b : Bool). is_same_name last sought || b) more_next

has_after : (sought last : Name) (names : List Name)
    → has_name sought (dedup_from is_same_name last names) ≡ has_name sought (last ∷ names)
has_after sought last [] = refl
has_after sought last (next ∷ names) =
    has_from sought last next names (is_same_name next last) refl (has_after sought last names) (has_after sought next names)

has_once : (sought : Name) (names : List Name) → has_name sought (dedup is_same_name names) ≡ has_name sought names
has_once sought [] = refl
has_once sought (name ∷ names) = has_after sought name names

pub sorted_once : (names sorted list : List Name) → IsPermutation names sorted → IsSorted name_order sorted
    → list ≡ dedup is_same_name sorted → list ≡ ordered names
sorted_once names sorted list moved up e =
    ordered_alone list names (record {
      ordered = subst AreOrdered (sym e) (IsStrictlySortedBy-dedup names_total name_ties sorted up);
      same = λ name. ap (has_name name) e ∙ has_once name sorted
          ∙ sym (list_any-IsPermutation (λ (other : Name). is_same_name other name) names sorted moved);
    })
