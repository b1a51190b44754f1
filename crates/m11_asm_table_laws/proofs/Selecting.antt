-- The sections of a table, and the number of the current one, after a section is selected.
use Rattle.std.proofs.Common.{◌≡◌, ◌∙◌, ℕ, suc, ◌+◌, ◌||◌, Bool, true, false, not, cond, if◌then◌else◌, List, [], ◌∷◌, ◌++◌, length, nat_lt, Option, Some, None, option_map, one-add, unwrap_or, refl, sym, ap, true≢false, arith}
use Rattle.std.specs.List.{list_any, position_or_len}
use Rattle.std.proofs.lemmas.List.Folds.{list_any-append}
use Rattle.std.proofs.lemmas.Bool.Decides.{nat_tests}
use Rattle.m11_base.specs.Rad50.{Name, is_same_name}
use Rattle.m11_base.proofs.SameNames.{same_name_equal, same_name_itself}
use Rattle.m11_asm_rules.specs.Changes.{with_new}
use Rattle.m11_asm_rules.specs.Sections.{number_of, numbered, section}
use Rattle.m11_asm_rules.specs.declared.sections.Section.{Section}
use Rattle.m11_asm_table_laws.specs.Places.{has_section, index_of, with_selected}

zero_below : (n : ℕ) → nat_lt 0 (suc n) ≡ true
zero_below n = grind (arith, nat_tests)

below_more : (p n : ℕ) → nat_lt (1 + p) (suc n) ≡ nat_lt p n
below_more p n = grind (arith, nat_tests)

module _ {A : Type 0} (test : A → Bool) where
  -- the index of the first item that passes a test is below the length of the list, if any item passes it
  below_by : (is_this any : Bool) (p n : ℕ) → nat_lt p n ≡ any
      → nat_lt (cond (not is_this) (1 + p) 0) (suc n) ≡ (is_this || any)
  below_by true any p n below = zero_below n
  below_by false any p n below = below_more p n ∙ below

  is_below : (items : List A) → nat_lt (position_or_len test items) (length items) ≡ list_any test items
  is_below [] = refl
  is_below (item ∷ items) =
      below_by (test item) (list_any test items) (position_or_len test items) (length items) (is_below items)

  -- the index of an item that comes last and is the first to pass a test is the length of the list before it
  last_by : (is_this any : Bool) (p n : ℕ) → (is_this || any) ≡ false → (any ≡ false → p ≡ n)
      → cond (not is_this) (1 + p) 0 ≡ suc n
  last_by true any p n none same = absurd (true≢false none)
  last_by false any p n none same = let e = same none in omega (arith, e)

  is_last : (items : List A) (new : A) → test new ≡ true → list_any test items ≡ false
      → position_or_len test (items ++ new ∷ []) ≡ length items
  is_last [] new passes none = ap (λ (b : Bool). cond (not b) (1 + 0) 0) passes
  is_last (item ∷ items) new passes none =
      last_by (test item) (list_any test items) (position_or_len test (items ++ new ∷ [])) (length items) none
      (is_last items new passes)

-- ---- one more section

new_by : {A : Type 0} (is_there : Bool) (number : ℕ) (new : A) (items : List A)
    → with_new (cond is_there (Some number) None) new items ≡ (if is_there then items else items ++ new ∷ [])
new_by true number new items = refl
new_by false number new items = refl

module _ (name : Name) (attributes : ℕ) (known : List Section) where
  abbrev is_this : Section → Bool
  is_this one = is_same_name one.name name

  abbrev new : Section
  new = section name attributes

  number_by : number_of name known ≡ cond (has_section name known) (Some (index_of name known)) None
  number_by = ap (λ (b : Bool). cond b (Some (index_of name known)) None) (is_below is_this known)

  pub sections_selected : with_new (number_of name known) new known ≡ with_selected known (Some new)
  sections_selected =
      ap (λ (o : Option ℕ). with_new o new known) number_by ∙ new_by (has_section name known) (index_of name known) new known

  index_by : (is_there : Bool) → has_section name known ≡ is_there
      → unwrap_or (cond is_there (Some (index_of name known)) None) (length known)
      ≡ index_of name (if is_there then known else known ++ new ∷ [])
  index_by true found = refl
  index_by false found = sym (is_last is_this known new (same_name_itself name) found)

  pub section_selected : unwrap_or (number_of name known) (length known) ≡ index_of name (with_selected known (Some new))
  section_selected =
      ap (λ (o : Option ℕ). unwrap_or o (length known)) number_by ∙ index_by (has_section name known) refl

-- ---- the name of the current section

-- the section with the index of a name has that name, if any section has it
name_by : (name : Name) (one : Section) (known : List Section) (is_first : Bool) → is_same_name one.name name ≡ is_first
    → (is_first || has_section name known) ≡ true → (has_section name known ≡ true → (numbered (index_of name known) known).name ≡ name)
    → (numbered (cond (not is_first) (1 + index_of name known) 0) (one ∷ known)).name ≡ name
name_by name one known true same found others = same_name_equal one.name name same
name_by name one known false same found others =
    ap (λ (n : ℕ). (numbered n (one ∷ known)).name) (one-add (index_of name known)) ∙ others found

pub found_name : (name : Name) (known : List Section) → has_section name known ≡ true → (numbered (index_of name known) known).name ≡ name
found_name name [] found = absurd (true≢false (sym found))
found_name name (one ∷ known) found = name_by name one known (is_same_name one.name name) refl found (found_name name known)

found_by : (name : Name) (attributes : ℕ) (known : List Section) (is_there : Bool) → has_section name known ≡ is_there
    → has_section name (if is_there then known else known ++ section name attributes ∷ []) ≡ true
found_by name attributes known true found = found
found_by name attributes known false found =
    list_any-append (λ (one : Section). is_same_name one.name name) known (section name attributes ∷ [])
    ∙ ap (λ (b : Bool). b || (is_same_name name name || false)) found ∙ ap (λ (b : Bool). b || false) (same_name_itself name)

-- a section that was selected is one of the sections
pub found_selected : (name : Name) (known : List Section) (selected : Option Section) → has_section name known ≡ true
    → has_section (unwrap_or (option_map (λ (one : Section). one.name) selected) name) (with_selected known selected) ≡ true
found_selected name known None found = found
found_selected name known (Some new) found = found_by new.name new.attributes known (has_section new.name known) refl
