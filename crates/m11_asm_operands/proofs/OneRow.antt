-- The table of indices misses no row: the index by the hash of a name is that of the row found by a search of the lists.
use Rattle.std.proofs.Common.{◌≡◌, ℕ, zero, suc, Bool, true, false, cond, eqb, List, [], ◌∷◌, ◌++◌, Option, Some, None, find, get_or, refl, sym, ap, subst, ◌∙◌, arith}
use Rattle.std.proofs.lemmas.Bool.{and_parts, eqb-true}
use Rattle.std.proofs.lemmas.List.Folds.{find-append, find_at}
use Rattle.std.proofs.lemmas.Slice.Eq.{bytes_eq-Decides}
use Rattle.std.specs.List.{list_all, position_or_len, slice_get}
use Rattle.std.specs.Option.{option_or}
use Rattle.std.specs.Str.{bytes_eq}
use Rattle.m11_base.specs.Instructions.{operation_in, other_names, rows}
use Rattle.m11_base.specs.Mnemonics.{named_in, or_else}
use Rattle.m11_base.specs.declared.instruction_list.Row.{Row}
use Rattle.m11_asm_operands.specs.Hashes.{hash_of, operation_named}
use Rattle.m11_asm_operands.specs.declared.operations.TheConstants.{INDICES}

abbrev has : List ℕ → Row → Bool
has name row = bytes_eq row.name name

abbrev index_by_hash : List ℕ → ℕ
index_by_hash name = get_or INDICES (hash_of name) 0

-- whether the table has the index of the first row with a row's name
is_indexed : Row → Bool
is_indexed row = eqb (position_or_len (has row.name) (rows ++ other_names)) (index_by_hash row.name)

all_indexed : list_all is_indexed (rows ++ other_names) ≡ true
unfolding is_indexed rows other_names
all_indexed = refl

-- what a search finds passes its test, and any other test that all passing items pass; if it finds nothing, no item passes
module _ {A : Type 0} (test : A → Bool) where
  passes_by : (here : Bool) (y x : A) (more : Option A) → test y ≡ here → (more ≡ Some x → test x ≡ true)
      → cond here (Some y) more ≡ Some x → test x ≡ true
  passes_by true y x more is rest e = grind arith
  passes_by false y x more is rest e = rest e

  passes : (xs : List A) (x : A) → find test xs ≡ Some x → test x ≡ true
  passes [] x e = grind arith
  passes (y ∷ xs) x e = passes_by (test y) y x (find test xs) refl (passes xs x) e

  all_pass_by : (other : A → Bool) (here : Bool) (y x : A) (more : Option A) → other y ≡ true → (more ≡ Some x → other x ≡ true)
      → cond here (Some y) more ≡ Some x → other x ≡ true
  all_pass_by other true y x more all rest e = grind arith
  all_pass_by other false y x more all rest e = rest e

  all_pass : (other : A → Bool) (xs : List A) (x : A) → list_all other xs ≡ true → find test xs ≡ Some x → other x ≡ true
  all_pass other [] x all e = grind arith
  all_pass other (y ∷ xs) x all e =
      let parts = and_parts (other y) (list_all other xs) all in
      all_pass_by other (test y) y x (find test xs) parts.0 (all_pass other xs x parts.1) e

  none_by : (here : Bool) (y : A) (more : Option A) → cond here (Some y) more ≡ None → (here ≡ false) × (more ≡ None)
  none_by true y more e = grind arith
  none_by false y more e = (refl, e)

  none_passes : (xs : List A) (index : ℕ) (x : A) → find test xs ≡ None → slice_get xs index ≡ Some x → test x ≡ false
  none_passes [] index x e there = grind arith
  none_passes (y ∷ xs) zero x e there = let none = none_by (test y) y (find test xs) e in grind arith
  none_passes (y ∷ xs) (suc index) x e there =
      none_passes xs index x (none_by (test y) y (find test xs) e).1 there

module _ (name : List ℕ) where
  same_name : (row : Row) → has name row ≡ true → row.name ≡ name
  same_name row is = grind (arith, bytes_eq-Decides)

  named : (row : Row) → has name row ≡ true → operation_named (Some row) name ≡ Some row.operation
  named row is = rw is refl

  unnamed : (row : Row) → has name row ≡ false → operation_named (Some row) name ≡ None
  unnamed row is = rw is refl

  index_of : (row : Row) → row.name ≡ name → is_indexed row ≡ true → position_or_len (has name) (rows ++ other_names) ≡ index_by_hash name
  unfolding is_indexed
  index_of row same is =
      subst (λ (n : List ℕ). position_or_len (has n) (rows ++ other_names) ≡ index_by_hash n) same (eqb-true _ _ is)

  by_search : (found there : Option Row) → find (has name) (rows ++ other_names) ≡ found
      → slice_get (rows ++ other_names) (index_by_hash name) ≡ there → operation_named there name ≡ operation_in found
  by_search (Some row) there e f =
      let is = passes (has name) (rows ++ other_names) row e in
      let indexed = index_of row (same_name row is) (all_pass (has name) is_indexed (rows ++ other_names) row all_indexed e) in
      ap (λ (r : Option Row). operation_named r name)
      (sym f ∙ ap (slice_get (rows ++ other_names)) (sym indexed) ∙ sym (find_at (has name) (rows ++ other_names)) ∙ e)
      ∙ named row is
  by_search None None e f = refl
  by_search None (Some row) e f =
      unnamed row (none_passes (has name) (rows ++ other_names) (index_by_hash name) row e f)

  in_either : (first other : Option Row) → operation_in (option_or first other) ≡ or_else (operation_in first) (operation_in other)
  in_either (Some row) other = refl
  in_either None other = refl

  pub only_row : operation_named (slice_get (rows ++ other_names) (index_by_hash name)) name
      ≡ or_else (named_in rows name) (named_in other_names name)
  only_row =
      by_search (find (has name) (rows ++ other_names)) _ refl refl
      ∙ ap operation_in (find-append (has name) rows other_names)
      ∙ in_either (find (has name) rows) (find (has name) other_names)
