-- The parts of one module, and of those before it.
use Rattle.std.proofs.Common.{◌≡◌, ℕ, ◌+◌, ◌<◌, nat_eq, nat_lt, Bool, true, false, if◌then◌else◌, List, [], ◌∷◌, ◌++◌, append-nil, append_assoc, Some, None, refl, sym, ap, ◌∙◌, subst, arith}
use Rattle.std.specs.List.{cons_option, filter_map}
use Rattle.std.proofs.lemmas.Bool.Decides.{nat_tests}
use Rattle.std.proofs.lemmas.List.Elements.{filter_map-append}
use Rattle.m11_link_modules.specs.Parts.{Part, Directory, Entry, EndOfDirectory, Text, Relocations, Relocated, EndOfModule, EndOfFile}
use Rattle.m11_link_modules.specs.Positions.{ends_module, modules_in, this_module}
use Rattle.m11_link_modules.proofs.KnownAfter.{this_module_ended, this_module_goes_on}
use Rattle.m11_link_layout.specs.Modules.{indexed, module_at, modules_before, part_at, part_before}
use Rattle.m11_link_layout.proofs.Walking.{grown}

zero_add : (n : ℕ) → 0 + n ≡ n
zero_add n = omega arith

pub add_zero : (n : ℕ) → n + 0 ≡ n
add_zero n = omega arith

one_moved : (a b : ℕ) → a + 1 + b ≡ a + (b + 1)
one_moved a b = omega arith

one_after : (a b : ℕ) → a + b + 1 ≡ a + 1 + b
one_after a b = omega arith

-- ---- one more part

pub modules_more : (before : List Part) (part : Part)
    → modules_in (before ++ part ∷ []) ≡ modules_in before + modules_in (part ∷ [])
unfolding modules_in
modules_more [] part = sym (zero_add (modules_in (part ∷ [])))
modules_more (Directory ∷ before) part = modules_more before part
modules_more (Entry entry ∷ before) part = modules_more before part
modules_more (EndOfDirectory ∷ before) part = modules_more before part
modules_more (Text address bytes ∷ before) part = modules_more before part
modules_more (Relocations ∷ before) part = modules_more before part
modules_more (Relocated relocation ∷ before) part = modules_more before part
modules_more (EndOfModule ∷ before) part =
    ap (λ n. n + 1) (modules_more before part) ∙ one_after (modules_in before) (modules_in (part ∷ []))
modules_more (EndOfFile ∷ before) part = modules_more before part

indexed_one : (index : ℕ) (part : Part) → indexed index (part ∷ []) ≡ (index, part) ∷ []
indexed_one index Directory = refl
indexed_one index (Entry entry) = refl
indexed_one index EndOfDirectory = refl
indexed_one index (Text address bytes) = refl
indexed_one index Relocations = refl
indexed_one index (Relocated relocation) = refl
indexed_one index EndOfModule = refl
indexed_one index EndOfFile = refl

indexed_more : (index : ℕ) (before : List Part) (part : Part)
    → indexed index (before ++ part ∷ []) ≡ indexed index before ++ (index + modules_in before, part) ∷ []
unfolding modules_in
indexed_more index [] part = indexed_one index part ∙ ap (λ n. (n, part) ∷ []) (sym (add_zero index))
indexed_more index (Directory ∷ before) part = ap (λ all. (index, Directory) ∷ all) (indexed_more index before part)
indexed_more index (Entry entry ∷ before) part = ap (λ all. (index, Entry entry) ∷ all) (indexed_more index before part)
indexed_more index (EndOfDirectory ∷ before) part =
    ap (λ all. (index, EndOfDirectory) ∷ all) (indexed_more index before part)
indexed_more index (Text address bytes ∷ before) part =
    ap (λ all. (index, Text address bytes) ∷ all) (indexed_more index before part)
indexed_more index (Relocations ∷ before) part = ap (λ all. (index, Relocations) ∷ all) (indexed_more index before part)
indexed_more index (Relocated relocation ∷ before) part =
    ap (λ all. (index, Relocated relocation) ∷ all) (indexed_more index before part)
indexed_more index (EndOfModule ∷ before) part =
    ap (λ all. (index, EndOfModule) ∷ all) (indexed_more (index + 1) before part)
    ∙ ap (λ n. (index, EndOfModule) ∷ (indexed (index + 1) before ++ (n, part) ∷ []))
    (one_moved index (modules_in before))
indexed_more index (EndOfFile ∷ before) part = ap (λ all. (index, EndOfFile) ∷ all) (indexed_more index before part)

indexed_last : (before : List Part) (part : Part) → indexed 0 (before ++ part ∷ [])
    ≡ indexed 0 before ++ (modules_in before, part) ∷ []
indexed_last before part =
    indexed_more 0 before part ∙ ap (λ n. indexed 0 before ++ (n, part) ∷ []) (zero_add (modules_in before))

abbrev pub where_true : Bool → Part → List Part
where_true b part = if b then part ∷ [] else []

only : (b : Bool) (part : Part) → cons_option (if b then Some part else None) [] ≡ where_true b part
only true part = refl
only false part = refl

pub module_more : (before : List Part) (part : Part) (index : ℕ)
    → module_at (before ++ part ∷ []) index ≡ module_at before index ++ where_true
    (nat_eq (modules_in before) index) part
unfolding module_at
module_more before part index =
    ap (λ all. filter_map (part_at index) all) (indexed_last before part)
    ∙ filter_map-append (part_at index) (indexed 0 before) ((modules_in before, part) ∷ [])
    ∙ ap (λ these. filter_map (part_at index) (indexed 0 before) ++ these)
    (only (nat_eq (modules_in before) index) part)

pub before_more : (before : List Part) (part : Part) (index : ℕ)
    → modules_before (before ++ part ∷ []) index ≡ modules_before before index ++ where_true
    (nat_lt (modules_in before) index) part
unfolding modules_before
before_more before part index =
    ap (λ all. filter_map (part_before index) all) (indexed_last before part)
    ∙ filter_map-append (part_before index) (indexed 0 before) ((modules_in before, part) ∷ [])
    ∙ ap (λ these. filter_map (part_before index) (indexed 0 before) ++ these)
    (only (nat_lt (modules_in before) index) part)

-- ---- the module that hasn't ended is the last one

pub record Modules (before : List Part) : Type 0 where
  pub this : module_at before (modules_in before) ≡ this_module before
  pub all : modules_before before (modules_in before) ++ this_module before ≡ before
  pub none : (index : ℕ) → modules_in before < index → module_at before index ≡ []
  pub earlier : (index : ℕ) → modules_in before < index → modules_before before index ≡ before

not_beyond : (n index : ℕ) → n < index → nat_eq n index ≡ false
not_beyond n index h = grind (arith, nat_tests)

beyond : (n index : ℕ) → n < index → nat_lt n index ≡ true
beyond n index h = grind (arith, nat_tests)

pub itself : (n : ℕ) → nat_eq n n ≡ true
itself n = grind (arith, nat_tests)

not_before : (n : ℕ) → nat_lt n n ≡ false
not_before n = grind (arith, nat_tests)

none_more : (before : List Part) (part : Part) (index : ℕ) → modules_in before < index → module_at before index ≡ []
    → module_at (before ++ part ∷ []) index ≡ []
none_more before part index h e =
    module_more before part index ∙ (λ j. e j ++ where_true (not_beyond (modules_in before) index h j) part)

earlier_more : (before : List Part) (part : Part) (index : ℕ) → modules_in before < index
    → modules_before before index ≡ before
    → modules_before (before ++ part ∷ []) index ≡ before ++ part ∷ []
earlier_more before part index h e =
    before_more before part index ∙ (λ j. e j ++ where_true (beyond (modules_in before) index h j) part)

goes_on : (before : List Part) (part : Part) → ends_module part ≡ false → modules_in (part ∷ []) ≡ 0 → Modules before
    → Modules (before ++ part ∷ [])
goes_on before part e z m =
    let same : modules_in (before ++ part ∷ []) ≡ modules_in before = modules_more before part
    ∙ ap (λ n. modules_in before + n) z ∙ add_zero (modules_in before) in
    let now = module_more before part (modules_in before)
    ∙ (λ j. m.this j ++ where_true (itself (modules_in before) j) part) ∙ sym (this_module_goes_on before part e) in
    let sooner = before_more before part (modules_in before)
    ∙ ap (λ b. modules_before before (modules_in before) ++ where_true b part) (not_before (modules_in before))
    ∙ append-nil (modules_before before (modules_in before)) in
    record {
      this = ap (λ n. module_at (before ++ part ∷ []) n) same ∙ now;
      all = (λ j. modules_before (before ++ part ∷ []) (same j) ++ this_module_goes_on before part e j)
          ∙ ap (λ these. these ++ (this_module before ++ part ∷ [])) sooner
          ∙ sym (append_assoc (modules_before before (modules_in before)) (this_module before) (part ∷ []))
          ∙ ap (λ these. these ++ part ∷ []) m.all;
      none = λ index h. let P : ℕ → Type 0 = λ n. n < index in let h' = subst P same h in
          none_more before part index h' (m.none index h');
      earlier = λ index h. let P : ℕ → Type 0 = λ n. n < index in let h' = subst P same h in
          earlier_more before part index h' (m.earlier index h');
    }

pub one_ended : (before : List Part) → modules_in (before ++ EndOfModule ∷ []) ≡ modules_in before + 1
unfolding modules_in
one_ended before = modules_more before EndOfModule

less : (n : ℕ) → n < n + 1
less n = omega arith

lesser : (n index : ℕ) → n + 1 < index → n < index
lesser n index h = omega arith

ended : (before : List Part) → Modules before → Modules (before ++ EndOfModule ∷ [])
ended before m =
    let next = modules_in before + 1 in
    record {
      this = ap (λ n. module_at (before ++ EndOfModule ∷ []) n) (one_ended before)
          ∙ none_more before EndOfModule next (less (modules_in before)) (m.none next (less (modules_in before)))
          ∙ sym (this_module_ended before);
      all = (λ j. modules_before (before ++ EndOfModule ∷ []) (one_ended before j) ++ this_module_ended before j)
          ∙ append-nil (modules_before (before ++ EndOfModule ∷ []) next)
          ∙ earlier_more before EndOfModule next (less (modules_in before)) (m.earlier next (less (modules_in before)));
      none = λ index h. let P : ℕ → Type 0 = λ n. n < index in
          let h' = lesser (modules_in before) index (subst P (one_ended before) h) in
          none_more before EndOfModule index h' (m.none index h');
      earlier = λ index h. let P : ℕ → Type 0 = λ n. n < index in
          let h' = lesser (modules_in before) index (subst P (one_ended before) h) in
          earlier_more before EndOfModule index h' (m.earlier index h');
    }

one_more : (before : List Part) (part : Part) → Modules before → Modules (before ++ part ∷ [])
unfolding modules_in
one_more before Directory m = goes_on before Directory refl refl m
one_more before (Entry entry) m = goes_on before (Entry entry) refl refl m
one_more before EndOfDirectory m = goes_on before EndOfDirectory refl refl m
one_more before (Text address bytes) m = goes_on before (Text address bytes) refl refl m
one_more before Relocations m = goes_on before Relocations refl refl m
one_more before (Relocated relocation) m = goes_on before (Relocated relocation) refl refl m
one_more before EndOfModule m = ended before m
one_more before EndOfFile m = goes_on before EndOfFile refl refl m

no_module : Modules []
unfolding module_at modules_before this_module modules_in
no_module = record { this = refl; all = refl; none = λ index h. refl; earlier = λ index h. refl }

pub modules_are : (parts : List Part) → Modules parts
modules_are parts = grown Modules one_more parts no_module
