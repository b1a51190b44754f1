-- The sections of a table by their entries.
use Rattle.std.proofs.Common.{◌≡◌, ◌∙◌, ℕ, suc, ◌+◌, Bool, true, false, not, cond, if◌then◌else◌, List, [], ◌∷◌, ◌++◌, map, length, nat_lt, Option, Some, None, refl, sym, ap, arith}
use Rattle.std.specs.List.{prefix_len}
use Rattle.std.specs.Map.{keys_of}
use Rattle.std.specs.Option.{unwrap_or}
use Rattle.std.specs.Prelude.{position}
use Rattle.std.proofs.lemmas.List.{length-append, length-map, map-append}
use Rattle.std.proofs.lemmas.Bool.Decides.{nat_tests}
use Rattle.indexmap.specs.IndexMap.{insert_entry}
use Rattle.m11_base.specs.Names.{absolute_name, blank_name}
use Rattle.m11_base.specs.Rad50.{Name, is_same_name}
use Rattle.m11_base.proofs.NameWords.{absolute_words}
use Rattle.m11_asm_rules.specs.declared.sections.Section.{Section}
use Rattle.m11_asm_rules.specs.Entries.{empty_table, section_in, with_new_section}
use Rattle.m11_asm_rules.specs.Sections.{number_of, of_absolute, section}
use Rattle.m11_asm_rules.specs.Tables.{Table}
use Rattle.m11_asm_rules.proofs.LastDefinitions.{names_swap}

prefix_alike : (name : Name) (entries : List (Name × ℕ))
    → prefix_len (λ key. not (is_same_name name key)) (keys_of entries)
    ≡ prefix_len (λ (known : Section). not (is_same_name known.name name)) (map section_in entries)
prefix_alike name [] = refl
prefix_alike name (entry ∷ entries) =
    rw (names_swap name entry.0) (ap (λ (n : ℕ). cond (not (is_same_name entry.0 name)) (1 + n) 0) (prefix_alike name entries))

-- the number of a section is the index of its name among the names of the entries
pub section_found : (name : Name) (entries : List (Name × ℕ))
    → position (is_same_name name) (keys_of entries) ≡ number_of name (map section_in entries)
section_found name entries =
    ap (λ (n : ℕ). cond (nat_lt n (length (keys_of entries))) (Some n) None) (prefix_alike name entries)
    ∙ ap (λ (n : ℕ). cond (nat_lt (prefix_len (λ (known : Section). not (is_same_name known.name name)) (map section_in entries)) n)
    (Some (prefix_len (λ (known : Section). not (is_same_name known.name name)) (map section_in entries))) None)
    (length-map entries (λ (e : Name × ℕ). e.0) ∙ sym (length-map entries section_in))

-- ---- a new section is the last one

some_none : {X : Type 0} (x : X) → Some x ≡ None → ⊥
some_none x e = cc

zero_below : (n : ℕ) → nat_lt 0 (suc n) ≡ true
zero_below n = grind (arith, nat_tests)

below_more : (p n : ℕ) → nat_lt (1 + p) (suc n) ≡ nat_lt p n
below_more p n = grind (arith, nat_tests)

none_by : (is_below : Bool) (p q : ℕ) → cond is_below (Some p) None ≡ None → cond is_below (Some q) None ≡ None
none_by true p q e = absurd (some_none p e)
none_by false p q e = refl

not_first : (is_this : Bool) (p n : ℕ)
    → cond (nat_lt (cond (not is_this) (1 + p) 0) (suc n)) (Some (cond (not is_this) (1 + p) 0)) None ≡ None
    → is_this ≡ false
not_first true p n e = absurd (some_none 0 (sym (ap (λ (b : Bool). cond b (Some 0) None) (zero_below n)) ∙ e))
not_first false p n e = refl

not_later : (is_this : Bool) (p n : ℕ) → is_this ≡ false
    → cond (nat_lt (cond (not is_this) (1 + p) 0) (suc n)) (Some (cond (not is_this) (1 + p) 0)) None ≡ None
    → cond (nat_lt p n) (Some p) None ≡ None
not_later true p n f e = cc
not_later false p n f e =
    none_by (nat_lt p n) (1 + p) p (sym (ap (λ (b : Bool). cond b (Some (1 + p)) None) (below_more p n)) ∙ e)

pub put_last : (name : Name) (value : ℕ) (entries : List (Name × ℕ)) → number_of name (map section_in entries) ≡ None
    → insert_entry is_same_name entries name value ≡ entries ++ (name, value) ∷ []
put_last name value [] e = refl
put_last name value (entry ∷ entries) e =
    let p : ℕ = prefix_len (λ (known : Section). not (is_same_name known.name name)) (map section_in entries) in
    let n : ℕ = length (map section_in entries) in
    let differs : is_same_name entry.0 name ≡ false = not_first (is_same_name entry.0 name) p n e in
    ap (λ (b : Bool). if b then (entry.0, value) ∷ entries else entry ∷ insert_entry is_same_name entries name value)
    (names_swap name entry.0 ∙ differs)
    ∙ ap (λ (es : List (Name × ℕ)). entry ∷ es)
    (put_last name value entries (not_later (is_same_name entry.0 name) p n differs e))

pub section_added : (name : Name) (attributes : ℕ) (entries : List (Name × ℕ)) → number_of name (map section_in entries) ≡ None
    → map section_in (insert_entry is_same_name entries name attributes) ≡ map section_in entries ++ section name attributes ∷ []
section_added name attributes entries absent =
    ap (map section_in) (put_last name attributes entries absent) ∙ map-append section_in entries ((name, attributes) ∷ [])

pub one_section_more : (name : Name) (attributes : ℕ) (entries : List (Name × ℕ)) → number_of name (map section_in entries) ≡ None
    → length (insert_entry is_same_name entries name attributes) ≡ length entries + 1
one_section_more name attributes entries absent =
    ap (λ (es : List (Name × ℕ)). length es) (put_last name attributes entries absent) ∙ length-append entries ((name, attributes) ∷ [])

-- ---- the blank section isn't the absolute section

pub blank_is_new : (before with_absolute : Table) (blank : Name) → before ≡ empty_table
    → with_absolute ≡ with_new_section (section absolute_name of_absolute) before → blank ≡ blank_name
    → number_of blank with_absolute.sections ≡ None
blank_is_new before with_absolute blank e f g =
    ap (λ (n : Name). number_of n with_absolute.sections) g
    ∙ ap (λ (t : Table). number_of blank_name t.sections) (f ∙ ap (with_new_section (section absolute_name of_absolute)) e)
    ∙ ap (λ (o : Option Name). number_of blank_name (section (unwrap_or o (0, 0)) of_absolute ∷ [])) absolute_words
