-- The references that are gathered are those of all parts.
use Rattle.std.proofs.Common.{◌≡◌, ℕ, Bool, true, false, cond, ◌&&◌, ◌||◌, if◌then◌else◌, List, [], ◌∷◌, ◌++◌, map, is_some, Option, Some, None, refl, sym, ap, ◌∙◌, subst, true≢false}
use Rattle.std.specs.List.{cons_option, list_any}
use Rattle.std.specs.Map.{keys_of, lookup}
use Rattle.std.specs.Option.{unwrap_or}
use Rattle.std.proofs.lemmas.List.{map-append}
use Rattle.std.proofs.lemmas.List.Folds.{list_any-append}
use Rattle.std.proofs.lemmas.Map.Made.{is_some-lookup}
use Rattle.indexmap.specs.IndexMap.{insert_entry}
use Rattle.indexmap.specs.IndexSet.{insert_key}
use Rattle.indexmap.proofs.SetLemmas.{keys_insert_entry}
use Rattle.m11_base.specs.Rad50.{is_same_name}
use Rattle.m11_base.proofs.SameNames.{same_name_itself, same_name_equal}
use Rattle.m11_link_modules.specs.Parts.{Part}
use Rattle.m11_link_modules.specs.Positions.{distinct}
use Rattle.m11_link_layout.specs.Globals.{is_strong_to, reference_in, references_of}
use Rattle.m11_link_layout.proofs.Finding.{Apart, apart_inserted, lookup_inserted, pairs_found}
use Rattle.m11_link_layout.proofs.Reporting.{names_more, reported_more}

abbrev References : Type 0
References = List ((ℕ × ℕ) × Bool)

-- whether a name has a strong reference among these; None if it has no reference
abbrev pub strong_in : ℕ × ℕ → List ((ℕ × ℕ) × Bool) → Option Bool
strong_in name references =
    if list_any (is_same_name name) (keys_of references) then Some (list_any (is_strong_to name) references) else None

-- the table has each name of these references once, with whether it has a strong reference
pub record TableOf (references table : List ((ℕ × ℕ) × Bool)) : Type 0 where
  pub names : keys_of table ≡ distinct (keys_of references)
  pub apart : Apart is_same_name (keys_of table)
  pub found : (name : ℕ × ℕ) → lookup (is_same_name name) table ≡ strong_in name references

-- ---- one more reference

none_strong : (name : ℕ × ℕ) (references : References) → list_any (is_same_name name) (keys_of references) ≡ false
    → list_any (is_strong_to name) references ≡ false
none_strong name [] e = refl
none_strong name (first ∷ references) e = by (is_same_name name first.0) first.1 _ _ (none_strong name references) e
  where
    by : (b strong there any : Bool) → (there ≡ false → any ≡ false) → (b || there) ≡ false
        → ((b && strong) || any) ≡ false
    by true strong there any h e = absurd (true≢false e)
    by false strong there any h e = h e

strong_by : (named strong there any : Bool) (found : Option Bool) → (there ≡ false → any ≡ false)
    → (named ≡ true → found ≡ (if there then Some any else None))
    → cond named (Some (unwrap_or found false || strong)) (if there then Some any else None)
    ≡ (if there || (named || false) then Some (any || ((named && strong) || false)) else None)
strong_by true true true true found h f =
    let P : Option Bool → Type 0 = λ o. Some (unwrap_or o false || true) ≡ Some true in subst P (sym (f refl)) refl
strong_by true false true true found h f =
    let P : Option Bool → Type 0 = λ o. Some (unwrap_or o false || false) ≡ Some true in subst P (sym (f refl)) refl
strong_by true true true false found h f =
    let P : Option Bool → Type 0 = λ o. Some (unwrap_or o false || true) ≡ Some true in subst P (sym (f refl)) refl
strong_by true false true false found h f =
    let P : Option Bool → Type 0 = λ o. Some (unwrap_or o false || false) ≡ Some false in subst P (sym (f refl)) refl
strong_by true strong false true found h f = absurd (true≢false (h refl))
strong_by true true false false found h f =
    let P : Option Bool → Type 0 = λ o. Some (unwrap_or o false || true) ≡ Some true in subst P (sym (f refl)) refl
strong_by true false false false found h f =
    let P : Option Bool → Type 0 = λ o. Some (unwrap_or o false || false) ≡ Some false in subst P (sym (f refl)) refl
strong_by false strong true true found h f = refl
strong_by false strong true false found h f = refl
strong_by false strong false any found h f = refl

strong_more : (references : References) (name other : ℕ × ℕ) (strong : Bool)
    → cond (is_same_name other name) (Some (unwrap_or (strong_in name references) false || strong))
    (strong_in other references)
    ≡ strong_in other (references ++ (name, strong) ∷ [])
strong_more references name other strong =
    strong_by (is_same_name other name) strong (list_any (is_same_name other) (keys_of references))
    (list_any (is_strong_to other) references)
    (strong_in name references) (none_strong other references)
    (λ e. ap (λ n. strong_in n references) (sym (same_name_equal other name e)))
    ∙ (λ j. if (sym (ap (list_any (is_same_name other)) (map-append (λ e. e.0) references ((name, strong) ∷ []))
    ∙ list_any-append (is_same_name other) (keys_of references) (name ∷ []))) j
    then Some (sym (list_any-append (is_strong_to other) references ((name, strong) ∷ [])) j) else None)

pub one_referred : (references table : References) (name : ℕ × ℕ) (strong : Bool) → TableOf references table
    → TableOf (references ++ (name, strong) ∷ []) (insert_entry is_same_name table name
    (unwrap_or (lookup (is_same_name name) table) false || strong))
one_referred references table name strong t =
    let value = unwrap_or (lookup (is_same_name name) table) false || strong in
    let keys = keys_insert_entry is_same_name table name value in
    let P : List (ℕ × ℕ) → Type 0 = λ names. Apart is_same_name names in
    record {
      names = keys ∙ ap (λ names. insert_key is_same_name names name) t.names ∙ sym (names_more references (name, strong));
      apart = subst P (sym keys) (apart_inserted is_same_name same_name_equal same_name_itself (keys_of table) name t.apart);
      found = λ other. lookup_inserted is_same_name same_name_equal same_name_itself other name value table
          ∙ (λ j. cond (is_same_name other name) (Some (unwrap_or (t.found name j) false || strong)) (t.found other j))
          ∙ strong_more references name other strong;
    }

pub none_referred : TableOf [] []
unfolding distinct
none_referred = record { names = refl; apart = tt; found = λ name. refl }

-- ---- the table of all references

there : (references : References) (name : ℕ × ℕ) (b : Bool) → list_any (is_same_name name) (keys_of references) ≡ b
    → is_some (if b then Some (list_any (is_strong_to name) references) else None) ≡ true
    → (if b then Some (list_any (is_strong_to name) references) else None)
    ≡ Some (list_any (is_strong_to name) references)
there references name true e t = refl
there references name false e t = absurd (true≢false (sym t))

pub table_is : (references table : References) → TableOf references table
    → table ≡ map (λ name. (name, list_any (is_strong_to name) references)) (distinct (keys_of references))
table_is references table t =
    pairs_found is_same_name same_name_equal same_name_itself (λ name. list_any (is_strong_to name) references) table t.apart
    (λ name e. t.found name ∙ there references name (list_any (is_same_name name) (keys_of references)) refl
    (sym (ap is_some (t.found name)) ∙ is_some-lookup (is_same_name name) table ∙ e))
    ∙ ap (λ names. map (λ name. (name, list_any (is_strong_to name) references)) names) t.names

-- ---- references after one more part

pub references_more : (before : List Part) (part : Part)
    → references_of (before ++ part ∷ []) ≡ references_of before ++ cons_option (reference_in before part) []
unfolding references_of
references_more before part = reported_more reference_in before part
