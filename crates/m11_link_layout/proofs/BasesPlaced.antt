-- Sections one after another have the bases of the definitions, or one of them ends too high.
use Rattle.std.proofs.Common.{◌≡◌, option_and_then, ℕ, ◌+◌, min, sum_by, Bool, true, false, ◌&&◌, ◌||◌, nat_lt, if◌then◌else◌, List, [], ◌∷◌, ◌++◌, map, append-nil, Option, Some, None, refl, sym, ap, ◌∙◌, subst, arith}
use Rattle.std.specs.List.{list_any}
use Rattle.std.proofs.Math.Seq.{append_snoc}
use Rattle.std.proofs.lemmas.Bool.Decides.{nat_tests}
use Rattle.std.proofs.lemmas.List.{map-append}
use Rattle.std.proofs.lemmas.List.Sums.{sum_by_push}
use Rattle.indexmap.specs.IndexMap.{insert_entry}
use Rattle.m11_base.specs.Rad50.{is_same_name}
use Rattle.m11_base.proofs.SameNames.{same_name_itself, same_name_equal}
use Rattle.m11_link_modules.specs.Parts.{Part}
use Rattle.m11_link_modules.specs.Positions.{section_names}
use Rattle.m11_link_layout.specs.Tables.{size_cap}
use Rattle.m11_link_layout.specs.Plan.{Bases, bases_onto}
use Rattle.m11_link_layout.specs.Sections.{first_attributes, flags_of, is_relocatable, is_too_large, names_before, section_base, section_size, top}
use Rattle.m11_link_layout.specs.declared.definition.Total.{Total}
use Rattle.m11_link_layout.proofs.Finding.{neither, Apart, turned}
use Rattle.m11_link_layout.proofs.ModulesOfParts.{add_zero}
use Rattle.m11_link_layout.proofs.Sizing.{totals_in}

abbrev Name : Type 0
Name = ℕ × ℕ

-- ---- distinct names

pub none_of : (b c : Bool) → b ≡ false → c ≡ false → (b || c) ≡ false
none_of true c e f = search
none_of false c e f = f

-- if names are distinct, none of them is among those before it
pub apart_before : (done : List (ℕ × ℕ)) (name : ℕ × ℕ) (rest : List (ℕ × ℕ)) → Apart is_same_name (done ++ name ∷ rest)
    → list_any (is_same_name name) done ≡ false
apart_before [] name rest d = refl
apart_before (first ∷ done) name rest d =
    none_of (is_same_name name first) (list_any (is_same_name name) done)
    (turned is_same_name same_name_equal same_name_itself name first (is_same_name name first) refl
    (apart_later first done name rest d.0))
    (apart_before done name rest d.1)
  where
    apart_later : (first : Name) (done : List Name) (name : Name) (rest : List Name)
        → list_any (is_same_name first) (done ++ name ∷ rest) ≡ false → is_same_name first name ≡ false
    apart_later first [] name rest e = (neither (is_same_name first name) (list_any (is_same_name first) rest) e).0
    apart_later first (other ∷ done) name rest e =
        apart_later first done name rest (neither (is_same_name first other)
        (list_any (is_same_name first) (done ++ name ∷ rest)) e).1

pub before_it : (done : List (ℕ × ℕ)) (name : ℕ × ℕ) (rest : List (ℕ × ℕ)) → list_any (is_same_name name) done ≡ false
    → names_before name (done ++ name ∷ rest) ≡ done
before_it [] name rest e =
    let P : Bool → Type 0 = λ b. (if b then [] else name ∷ names_before name rest) ≡ [] in
    subst P (sym (same_name_itself name)) refl
before_it (first ∷ done) name rest e =
    let n = neither (is_same_name name first) (list_any (is_same_name name) done) e in
    let P : Bool → Type 0 = λ b. (if b then [] else first ∷ names_before name (done ++ name ∷ rest)) ≡ first ∷ done in
    subst P (sym n.0) (ap (λ names. first ∷ names) (before_it done name rest n.1))

inserted_last : (f : Name → ℕ) (done : List Name) (name : Name) (value : ℕ) → list_any (is_same_name name) done ≡ false
    → insert_entry is_same_name (map (λ n. (n, f n)) done) name value ≡ map (λ n. (n, f n)) done ++ (name, value) ∷ []
inserted_last f [] name value e = refl
inserted_last f (first ∷ done) name value e =
    let n = neither (is_same_name name first) (list_any (is_same_name name) done) e in
    let these = map (λ n. (n, f n)) done in
    let P : Bool → Type 0 =
    λ b. (if b then (first, value) ∷ these else (first, f first) ∷ insert_entry is_same_name these name value)
    ≡ (first, f first) ∷ (these ++ (name, value) ∷ []) in
    subst P (sym n.0) (ap (λ entries. (first, f first) ∷ entries) (inserted_last f done name value n.1))

-- ---- sections, of these attributes and sizes

moved : (a b c : ℕ) → a + b + c ≡ a + (b + c)
moved a b c = omega arith

-- capping a size at octal 200000 doesn't change whether a section ends past octal 160000
capped_test : (next size : ℕ) → nat_lt 57344 (next + min 65536 size) ≡ nat_lt 57344 (next + size)
capped_test next size = grind (arith, nat_tests)

uncapped : (next size : ℕ) → nat_lt 57344 (next + size) ≡ false → min 65536 size ≡ size
uncapped next size e = grind (arith, nat_tests)

-- one more section is placed, if placing the others after it has this result
module _ (onto : List (Name × ℕ) → ℕ → Option Bases) (bases : List (Name × ℕ)) (name : Name) (next size : ℕ)
    (more : Bool) (returned : Bases)
    (last : (value : ℕ) → insert_entry is_same_name bases name value ≡ bases ++ (name, value) ∷ []) where
  lower : (high : Bool) → (high ≡ false → min 65536 size ≡ size)
      → onto (bases ++ (name, next) ∷ []) (next + size) ≡ (if more then None else Some returned)
      → option_and_then (λ (following : Bases). onto following.bases following.top)
      (if high then None else Some
      (record { bases = insert_entry is_same_name bases name next; top = next + min 65536 size }))
      ≡ (if high || more then None else Some returned)
  lower true u h = refl
  lower false u h =
      let P : List (Name × ℕ) → Type 0 = λ entries. onto entries (next + min 65536 size)
      ≡ (if more then None else Some returned) in
      let Q : ℕ → Type 0 = λ n. onto (bases ++ (name, next) ∷ []) (next + n) ≡ (if more then None else Some returned) in
      subst P (sym (last next)) (subst Q (sym (u refl)) h)

  pub one_placed : (relocatable : Bool) (base : ℕ) → base ≡ next
      → onto (bases ++ (name, (if relocatable then base else 0)) ∷ []) (next + (if relocatable then size else 0))
      ≡ (if more then None else Some returned)
      → option_and_then (λ (following : Bases). onto following.bases following.top)
      (if relocatable
      then (if nat_lt 57344 (next + min 65536 size) then None
      else Some (record { bases = insert_entry is_same_name bases name next; top = next + min 65536 size }))
      else Some (record { bases = insert_entry is_same_name bases name 0; top = next }))
      ≡ (if (relocatable && nat_lt 57344 ((if relocatable then base else 0) + size)) || more then None else Some returned)
  one_placed true base e h =
      let P : Bool → Type 0 = λ b. option_and_then (λ (following : Bases). onto following.bases following.top)
      (if b then None else Some (record { bases = insert_entry is_same_name bases name next; top = next + min 65536 size }))
      ≡ (if nat_lt 57344 (base + size) || more then None else Some returned) in
      let Q : ℕ → Type 0 = λ n. option_and_then (λ (following : Bases). onto following.bases following.top)
      (if nat_lt 57344 (next + size) then None else Some
      (record { bases = insert_entry is_same_name bases name next; top = next + min 65536 size }))
      ≡ (if nat_lt 57344 (n + size) || more then None else Some returned) in
      let R : ℕ → Type 0 = λ n. onto (bases ++ (name, n) ∷ []) (next + size) ≡ (if more then None else Some returned) in
      subst P (sym (capped_test next size)) (subst Q (sym e)
      (lower (nat_lt 57344 (next + size)) (uncapped next size) (subst R e h)))
  one_placed false base e h =
      let P : List (Name × ℕ) → Type 0 = λ entries. onto entries next ≡ (if more then None else Some returned) in
      let Q : ℕ → Type 0 = λ n. onto (bases ++ (name, 0) ∷ []) n ≡ (if more then None else Some returned) in
      subst P (sym (last 0)) (subst Q (add_zero next) h)

module _ (attributes size : Name → ℕ) (bottom : ℕ) (all : List Name) where
  abbrev room : Name → ℕ
  room name = if is_relocatable (attributes name) then size name else 0

  abbrev base : Name → ℕ
  base name = if is_relocatable (attributes name) then bottom + sum_by room (names_before name all) else 0

  abbrev total_at : Name → Total
  total_at name = record { attributes = flags_of (attributes name); size = min size_cap (size name) }

  abbrev too_high : Name → Bool
  too_high name = is_relocatable (attributes name) && nat_lt 57344 (base name + size name)

  abbrev based : List Name → List (Name × ℕ)
  based names = map (λ name. (name, base name)) names

  abbrev Onto : List Name → List Name → Type 0
  Onto done rest = bases_onto (based done) (bottom + sum_by room done) (map (λ name. (name, total_at name)) rest)
      ≡ (if list_any too_high rest then None else Some (record { bases = based all; top = bottom + sum_by room all }))

  bases_walked : (done rest : List Name) → done ++ rest ≡ all → Apart is_same_name all → Onto done rest
  bases_walked done [] e d =
      let P : List Name → Type 0 = λ names. ◌≡◌ {A = Option Bases}
      (Some (record { bases = based done; top = bottom + sum_by room done }))
      (Some (record { bases = based names; top = bottom + sum_by room names })) in
      subst P (sym (append-nil done) ∙ e) refl
  bases_walked done (name ∷ rest) e d =
      let A : List Name → Type 0 = λ names. Apart is_same_name names in
      let a : list_any (is_same_name name) done ≡ false = apart_before done name rest (subst A (sym e) d) in
      let B : List Name → Type 0 = λ names. names_before name names ≡ done in
      let b : names_before name all ≡ done = subst B e (before_it done name rest a) in
      let returned : Bases = record { bases = based all; top = bottom + sum_by room all } in
      let onto : List (Name × ℕ) → ℕ → Option Bases =
      λ bases next. bases_onto bases next (map (λ name. (name, total_at name)) rest) in
      let more = bases_walked (done ++ name ∷ []) rest (append_snoc done name rest ∙ e) d in
      let P : List (Name × ℕ) → Type 0 = λ bases. onto bases (bottom + sum_by room (done ++ name ∷ []))
      ≡ (if list_any too_high rest then None else Some returned) in
      let Q : ℕ → Type 0 = λ n. onto (based done ++ (name, base name) ∷ []) n
      ≡ (if list_any too_high rest then None else Some returned) in
      one_placed onto (based done) name (bottom + sum_by room done) (size name) (list_any too_high rest) returned
      (λ value. inserted_last base done name value a) (is_relocatable (attributes name))
      (bottom + sum_by room (names_before name all))
      (ap (λ names. bottom + sum_by room names) b)
      (subst Q (ap (λ n. bottom + n) (sum_by_push room done name) ∙ sym (moved bottom (sum_by room done) (room name)))
      (subst P (map-append (λ n. (n, base n)) done (name ∷ [])) more))

-- placing the sections of some parts fails if they are too large, and otherwise yields the bases and the top of the definitions
pub bases_placed : (bottom : ℕ) (parts : List Part) → Apart is_same_name (section_names parts)
    → bases_onto [] bottom (totals_in parts) ≡ (if is_too_large bottom parts then None
    else Some (record {
      bases = map (λ name. (name, section_base bottom parts name))
          (section_names parts);
      top = top bottom parts;
    }))
unfolding is_too_large section_base section_size first_attributes top
bases_placed bottom parts d =
    let all = section_names parts in
    let P : ℕ → Type 0 = λ n. bases_onto [] n (totals_in parts) ≡ (if is_too_large bottom parts then None
    else Some (record { bases = map (λ name. (name, section_base bottom parts name)) all; top = top bottom parts })) in
    subst P (add_zero bottom) (bases_walked (first_attributes parts) (section_size parts) bottom all [] all refl d)
