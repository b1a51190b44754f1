-- Contributions of modules to a section lie one after another, and within it.
use Rattle.std.proofs.Common.{◌≡◌, ℕ, ◌+◌, ◌%◌, ◌<◌, ◌≤◌, max, sum, Bool, true, false, ◌&&◌, ◌||◌, not, cond, nat_eq, nat_lt, if◌then◌else◌, List, [], ◌∷◌, ◌++◌, map, is_some, Option, Some, None, refl, sym, ap, ◌∙◌, subst, arith, true≢false}
use Rattle.std.specs.List.{cons_option, filter_map, list_any}
use Rattle.std.specs.Map.{keys_of, lookup}
use Rattle.std.specs.Option.{option_or}
use Rattle.std.proofs.lemmas.Bool.Decides.{nat_tests}
use Rattle.std.proofs.lemmas.List.{map-append}
use Rattle.std.proofs.lemmas.List.Elements.{filter_map-append}
use Rattle.std.proofs.lemmas.List.Folds.{list_any-append}
use Rattle.std.proofs.lemmas.List.Sums.{sum_by-append}
use Rattle.std.proofs.lemmas.Map.Made.{is_some-lookup}
use Rattle.indexmap.specs.IndexSet.{insert_key}
use Rattle.m11_base.specs.Rad50.{is_same_name}
use Rattle.m11_base.proofs.SameNames.{same_name_equal}
use Rattle.m11_link_modules.specs.Parts.{Part}
use Rattle.m11_link_modules.specs.Positions.{distinct, distinct_after, modules_in, section_in, section_names, sections_in}
use Rattle.m11_link_layout.specs.Modules.{module_at, modules_before}
use Rattle.m11_link_layout.specs.Sections.{base_entered, contribution_base, ends_too_high, first_attributes, greatest, is_overlaid, is_relocatable, is_too_large, module_base, offset_after, rounded, section_base, section_size, size_under, sizes_of}
use Rattle.m11_link_layout.proofs.PlannedBases.{none_high}
use Rattle.m11_link_layout.proofs.Finding.{lookup_append, or_true}
use Rattle.m11_link_layout.proofs.ModulesOfParts.{modules_are}
use Rattle.m11_link_layout.proofs.Offsets.{earlier_sizes_more, entered_at, entered_more, reported_where}
use Rattle.m11_link_layout.proofs.Sizing.{sizes_more}
use Rattle.m11_link_layout.proofs.Walking.{grown}
use Rattle.m11_link_laws.specs.Spans.{size_entered}

abbrev Name : Type 0
Name = ℕ × ℕ

abbrev rounded_sum : List ℕ → ℕ
rounded_sum sizes = sum (map rounded sizes)

sum_more : (xs ys : List ℕ) → rounded_sum (xs ++ ys) ≡ rounded_sum xs + rounded_sum ys
sum_more xs ys = ap sum (map-append rounded xs ys) ∙ sum_by-append (λ n. n) (map rounded xs) (map rounded ys)

-- ---- the section that one part enters

abbrev reported_by : Bool → Part → Name → List ℕ
reported_by b part name = filter_map (size_under name) (reported_where b part)

reported_later : (sooner later : Bool) (part : Part) (name : Name) → (sooner ≡ true → later ≡ true)
    → rounded_sum (reported_by sooner part name) ≤ rounded_sum (reported_by later part name)
reported_later true true part name h = omega arith
reported_later true false part name h = absurd (true≢false (sym (h refl)))
reported_later false later part name h = omega arith

head_size : (first total rest : ℕ) → total ≡ 0 + (first + first % 2) + rest → first ≤ total
head_size first total rest e = omega arith

same_some : (a b : ℕ) → Some a ≡ Some b → a ≡ b
same_some a b e = cc

-- a size that is found under a name is at most the sum of the rounded sizes under this name
sizes_found : (name : Name) (reported : List (Name × ℕ)) (size : ℕ) → lookup (is_same_name name) reported ≡ Some size
    → size ≤ rounded_sum (filter_map (size_under name) reported)
sizes_found name [] size e = absurd cc
sizes_found name (first ∷ reported) size e = by (is_same_name name first.0) e (sizes_found name reported size)
  where
    by : (b : Bool) → cond b (Some first.1) (lookup (is_same_name name) reported) ≡ Some size
        → (lookup (is_same_name name) reported ≡ Some size → size ≤ rounded_sum (filter_map (size_under name) reported))
        → size ≤ rounded_sum (cons_option (if b then Some first.1 else None) (filter_map (size_under name) reported))
    by true e h =
        let rest = filter_map (size_under name) reported in
        let P : ℕ → Type 0 = λ n. n ≤ rounded_sum (first.1 ∷ rest) in
        subst P (same_some first.1 size e)
        (head_size first.1 (rounded_sum (first.1 ∷ rest)) (rounded_sum rest) (sum_more (first.1 ∷ []) rest))
    by false e h = h e

-- a size that is found under a name is at most the greatest of the rounded sizes under this name
greatest_found : (name : Name) (reported : List (Name × ℕ)) (size : ℕ) → lookup (is_same_name name) reported ≡ Some size
    → size ≤ greatest (map rounded (filter_map (size_under name) reported))
greatest_found name [] size e = absurd cc
greatest_found name (first ∷ reported) size e = by (is_same_name name first.0) e (greatest_found name reported size)
  where
    larger : (a b : ℕ) → a ≤ max (a + a % 2) b
    larger a b = omega arith

    by : (b : Bool) → cond b (Some first.1) (lookup (is_same_name name) reported) ≡ Some size
        → (lookup (is_same_name name) reported ≡ Some size → size ≤ greatest (map rounded (filter_map (size_under name) reported)))
        → size ≤ greatest (map rounded
        (cons_option (if b then Some first.1 else None) (filter_map (size_under name) reported)))
    by true e h =
        let rest = greatest (map rounded (filter_map (size_under name) reported)) in
        let P : ℕ → Type 0 = λ n. n ≤ max (rounded first.1) rest in
        subst P (same_some first.1 size e) (larger first.1 rest)
    by false e h = h e

greatest_left : (xs ys : List ℕ) (size : ℕ) → size ≤ greatest (map rounded xs)
    → size ≤ greatest (map rounded (xs ++ ys))
greatest_left [] ys size h = omega (arith, h)
greatest_left (x ∷ xs) ys size h = by (rounded x) (greatest (map rounded xs)) (greatest (map rounded (xs ++ ys))) h
    (greatest_left xs ys (greatest (map rounded xs)) (omega arith))
  where
    by : (a b c : ℕ) → size ≤ max a b → b ≤ c → size ≤ max a c
    by a b c h k = omega arith

greatest_right : (xs ys : List ℕ) (size : ℕ) → size ≤ greatest (map rounded ys)
    → size ≤ greatest (map rounded (xs ++ ys))
greatest_right [] ys size h = h
greatest_right (x ∷ xs) ys size h = by (rounded x) (greatest (map rounded (xs ++ ys))) (greatest_right xs ys size h)
  where
    by : (a c : ℕ) → size ≤ c → size ≤ max a c
    by a c k = omega arith

-- ---- contributions of earlier modules

abbrev earlier_sum : List Part → ℕ → Name → ℕ
earlier_sum parts index name = rounded_sum (sizes_of (modules_before parts index) name)

sum_step : (before : List Part) (part : Part) (index : ℕ) (name : Name)
    → earlier_sum (before ++ part ∷ []) index name
    ≡ earlier_sum before index name + rounded_sum (reported_by (nat_lt (modules_in before) index) part name)
sum_step before part index name =
    ap rounded_sum (earlier_sizes_more before part index name)
    ∙ sum_more (sizes_of (modules_before before index) name) (reported_by (nat_lt (modules_in before) index) part name)

-- the sum of the sizes before a module, plus the module's own size if it enters the section, is at most the sum before a later
-- module
abbrev Follow : List Part → Type 0
Follow parts = (sooner later : ℕ) (name : Name) → sooner < later
    → (earlier_sum parts sooner name ≤ earlier_sum parts later name)
    × ((size : ℕ) → entered_at parts sooner name ≡ Some size
    → earlier_sum parts sooner name + size ≤ earlier_sum parts later name)

also_later : (n sooner later : ℕ) → sooner < later → nat_lt n sooner ≡ true → nat_lt n later ≡ true
also_later n sooner later h e = grind (arith, nat_tests)

not_sooner : (n sooner : ℕ) → nat_eq n sooner ≡ true → nat_lt n sooner ≡ false
not_sooner n sooner e = grind (arith, nat_tests)

but_later : (n sooner later : ℕ) → sooner < later → nat_eq n sooner ≡ true → nat_lt n later ≡ true
but_later n sooner later h e = grind (arith, nat_tests)

added : (a b c d a' b' : ℕ) → a ≤ b → c ≤ d → a' ≡ a + c → b' ≡ b + d → a' ≤ b'
added a b c d a' b' h k e f = omega arith

added_old : (a b c d a' b' size : ℕ) → a + size ≤ b → c ≤ d → a' ≡ a + c → b' ≡ b + d → a' + size ≤ b'
added_old a b c d a' b' size h k e f = omega arith

added_new : (a b c d a' b' size : ℕ) → a ≤ b → c + size ≤ d → a' ≡ a + c → b' ≡ b + d → a' + size ≤ b'
added_new a b c d a' b' size h k e f = omega arith

-- if this part enters a section in the earlier module, its size counts for the later one and not for the earlier one
entered_here : (here sooner later : Bool) (part : Part) (name : Name) (size : ℕ) → (here ≡ true → sooner ≡ false)
    → (here ≡ true → later ≡ true) → lookup (is_same_name name) (reported_where here part) ≡ Some size
    → rounded_sum (reported_by sooner part name) + size ≤ rounded_sum (reported_by later part name)
entered_here false sooner later part name size h k e = absurd cc
entered_here true true later part name size h k e = absurd (true≢false (h refl))
entered_here true false false part name size h k e = absurd (true≢false (sym (k refl)))
entered_here true false true part name size h k e =
    from_nothing size (rounded_sum (reported_by true part name))
    (sizes_found name (filter_map section_in (part ∷ [])) size e)
  where
    from_nothing : (a b : ℕ) → a ≤ b → 0 + a ≤ b
    from_nothing a b h = omega arith

-- the earlier module's size comes before the later module, whether the module entered the section before or by this part
entered_by : (before : List Part) (part : Part) (sooner later : ℕ) (name : Name) (size : ℕ) (found : Option ℕ)
    → Follow before → sooner < later → entered_at before sooner name ≡ found
    → option_or found (lookup (is_same_name name) (reported_where (nat_eq (modules_in before) sooner) part)) ≡ Some size
    → earlier_sum (before ++ part ∷ []) sooner name + size ≤ earlier_sum (before ++ part ∷ []) later name
entered_by before part sooner later name size (Some first) h l f e =
    let m = modules_in before in
    added_old _ _ _ _ _ _ size ((h sooner later name l).1 size (f ∙ e))
    (reported_later (nat_lt m sooner) (nat_lt m later) part name (also_later m sooner later l))
    (sum_step before part sooner name) (sum_step before part later name)
entered_by before part sooner later name size None h l f e =
    let m = modules_in before in
    added_new _ _ _ _ _ _ size (h sooner later name l).0
    (entered_here (nat_eq m sooner) (nat_lt m sooner) (nat_lt m later) part name size (not_sooner m sooner)
    (but_later m sooner later l) e)
    (sum_step before part sooner name) (sum_step before part later name)

follow_more : (before : List Part) (part : Part) → Follow before → Follow (before ++ part ∷ [])
follow_more before part h sooner later name l =
    let m = modules_in before in (
      added _ _ _ _ _ _ (h sooner later name l).0
          (reported_later (nat_lt m sooner) (nat_lt m later) part name (also_later m sooner later l))
          (sum_step before part sooner name) (sum_step before part later name),
      λ size e. entered_by before part sooner later name size (entered_at before sooner name) h l refl
          (sym (entered_more before part sooner name) ∙ e),
    )

follow_none : Follow []
unfolding sizes_of modules_before module_at sections_in
follow_none sooner later name l = (omega arith, λ size e. absurd cc)

follow : (parts : List Part) → Follow parts
follow parts = grown Follow follow_more parts follow_none

-- ---- a contribution is inside its section

abbrev Within : List Part → Type 0
Within parts = (index : ℕ) (name : Name) (size : ℕ) → entered_at parts index name ≡ Some size
    → (size ≤ greatest (map rounded (sizes_of parts name)))
    × (is_some (lookup (is_same_name name) (sections_in parts)) ≡ true)

some_left : (one other : Option ℕ) → is_some one ≡ true → is_some (option_or one other) ≡ true
some_left None other e = absurd cc
some_left (Some x) other e = refl

some_right : (one other : Option ℕ) → is_some other ≡ true → is_some (option_or one other) ≡ true
some_right None other e = e
some_right (Some x) other e = refl

sections_more : (before : List Part) (part : Part) (name : Name)
    → lookup (is_same_name name) (sections_in (before ++ part ∷ []))
    ≡ option_or (lookup (is_same_name name) (sections_in before)) (lookup (is_same_name name) (filter_map section_in (part ∷ [])))
unfolding sections_in
sections_more before part name =
    ap (λ reported. lookup (is_same_name name) reported) (filter_map-append section_in before (part ∷ []))
    ∙ lookup_append (is_same_name name) (filter_map section_in before) (filter_map section_in (part ∷ []))

reported_here : (here : Bool) (part : Part) (name : Name) (size : ℕ)
    → lookup (is_same_name name) (reported_where here part) ≡ Some size
    → lookup (is_same_name name) (filter_map section_in (part ∷ [])) ≡ Some size
reported_here false part name size e = absurd cc
reported_here true part name size e = e

within_by : (before : List Part) (part : Part) (index : ℕ) (name : Name) (size : ℕ) (found : Option ℕ)
    → Within before → entered_at before index name ≡ found
    → option_or found (lookup (is_same_name name) (reported_where (nat_eq (modules_in before) index) part)) ≡ Some size
    → (size ≤ greatest (map rounded (sizes_of (before ++ part ∷ []) name)))
    × (is_some (lookup (is_same_name name) (sections_in (before ++ part ∷ []))) ≡ true)
within_by before part index name size (Some first) h f e =
    let w = h index name size (f ∙ e) in
    let old = sizes_of before name in
    let new = filter_map (size_under name) (filter_map section_in (part ∷ [])) in
    let P : List ℕ → Type 0 = λ sizes. size ≤ greatest (map rounded sizes) in (
      subst P (sym (sizes_more before part name)) (greatest_left old new size w.0),
      ap is_some (sections_more before part name) ∙ some_left _ _ w.1,
    )
within_by before part index name size None h f e =
    let old = sizes_of before name in
    let reported = filter_map section_in (part ∷ []) in
    let t = reported_here (nat_eq (modules_in before) index) part name size e in
    let P : List ℕ → Type 0 = λ sizes. size ≤ greatest (map rounded sizes) in (
      subst P (sym (sizes_more before part name))
          (greatest_right old (filter_map (size_under name) reported) size (greatest_found name reported size t)),
      ap is_some (sections_more before part name)
          ∙ some_right (lookup (is_same_name name) (sections_in before)) (lookup (is_same_name name) reported) (ap is_some t),
    )

within_more : (before : List Part) (part : Part) → Within before → Within (before ++ part ∷ [])
within_more before part h index name size e =
    within_by before part index name size (entered_at before index name) h refl
    (sym (entered_more before part index name) ∙ e)

within_none : Within []
unfolding module_at sections_in
within_none index name size e = absurd cc

within : (parts : List Part) → Within parts
within parts = grown Within within_more parts within_none

-- ---- a section that is entered is among the sections

or_either : (b c : Bool) → b ≡ true → (b || c) ≡ true
or_either true c e = refl
or_either false c e = absurd (true≢false (sym e))

key_kept : (name : Name) (seen : List Name) (other : Name) → list_any (is_same_name name) seen ≡ true
    → list_any (is_same_name name) (insert_key is_same_name seen other) ≡ true
key_kept name seen other e = by (list_any (is_same_name other) seen)
  where
    by : (b : Bool) → list_any (is_same_name name) (if b then seen else seen ++ other ∷ []) ≡ true
    by true = e
    by false = list_any-append (is_same_name name) seen (other ∷ [])
        ∙ or_either (list_any (is_same_name name) seen) (list_any (is_same_name name) (other ∷ [])) e

key_new : (name : Name) (seen : List Name) (other : Name) → is_same_name name other ≡ true
    → list_any (is_same_name name) (insert_key is_same_name seen other) ≡ true
key_new name seen other e = by (list_any (is_same_name other) seen) refl
  where
    by : (b : Bool) → list_any (is_same_name other) seen ≡ b
        → list_any (is_same_name name) (if b then seen else seen ++ other ∷ []) ≡ true
    by true f = let P : Name → Type 0 = λ n. list_any (is_same_name n) seen ≡ true in
        subst P (sym (same_name_equal name other e)) f
    by false f = list_any-append (is_same_name name) seen (other ∷ [])
        ∙ or_true (list_any (is_same_name name) seen) (is_same_name name other || false)
        (or_either (is_same_name name other) false e)

distinct_kept : (name : Name) (seen names : List Name) → list_any (is_same_name name) seen ≡ true
    → list_any (is_same_name name) (distinct_after seen names) ≡ true
distinct_kept name seen [] e = e
distinct_kept name seen (other ∷ names) e =
    distinct_kept name (insert_key is_same_name seen other) names (key_kept name seen other e)

distinct_found : (name : Name) (seen names : List Name) → list_any (is_same_name name) names ≡ true
    → list_any (is_same_name name) (distinct_after seen names) ≡ true
distinct_found name seen [] e = absurd (true≢false (sym e))
distinct_found name seen (other ∷ names) e =
    by (is_same_name name other) refl e (distinct_found name (insert_key is_same_name seen other) names)
  where
    by : (b : Bool) → is_same_name name other ≡ b → (b || list_any (is_same_name name) names) ≡ true
        → (list_any (is_same_name name) names ≡ true
        → list_any (is_same_name name) (distinct_after (insert_key is_same_name seen other) names) ≡ true)
        → list_any (is_same_name name) (distinct_after (insert_key is_same_name seen other) names) ≡ true
    by true f e h = distinct_kept name (insert_key is_same_name seen other) names (key_new name seen other f)
    by false f e h = h e

pub is_section : (parts : List Part) (index : ℕ) (name : Name) (size : ℕ) → entered_at parts index name ≡ Some size
    → list_any (is_same_name name) (section_names parts) ≡ true
unfolding section_names distinct
is_section parts index name size e = distinct_found name [] (keys_of (sections_in parts))
    (sym (is_some-lookup (is_same_name name) (sections_in parts)) ∙ (within parts index name size e).1)

-- ---- bases, if nothing is too large

after_all : (index modules : ℕ) → modules < index + (modules + 1)
after_all index modules = omega arith

sooner_than : (index modules : ℕ) → index < index + (modules + 1)
sooner_than index modules = omega arith

-- a contribution and the earlier ones together are at most the sum of all contributions to the section
sum_within : (parts : List Part) (index : ℕ) (name : Name) (size : ℕ) → entered_at parts index name ≡ Some size
    → earlier_sum parts index name + size ≤ rounded_sum (sizes_of parts name)
sum_within parts index name size e =
    let last = index + (modules_in parts + 1) in
    let P : List Part → Type 0 = λ these. earlier_sum parts index name + size ≤ rounded_sum (sizes_of these name) in
    subst P ((modules_are parts).earlier last (after_all index (modules_in parts)))
    ((follow parts index last name (sooner_than index (modules_in parts))).1 size e)

both_true : (b c : Bool) → b ≡ true → (b && c) ≡ false → c ≡ false
both_true true c e f = f
both_true false c e f = absurd (true≢false (sym e))

below : (base size : ℕ) → nat_lt 57344 (base + size) ≡ false → base + size ≤ 57344
below base size e = grind (arith, nat_tests)

-- if nothing is too large, a relocatable section ends at octal 160000 or below
pub ends_low : (bottom : ℕ) (parts : List Part) (name : Name) → is_too_large bottom parts ≡ false
    → is_relocatable (first_attributes parts name) ≡ true → list_any (is_same_name name) (section_names parts) ≡ true
    → section_base bottom parts name + section_size parts name ≤ 57344
unfolding is_too_large
ends_low bottom parts name n r t = below (section_base bottom parts name) (section_size parts name)
    (both_true (is_relocatable (first_attributes parts name)) _ r
    (none_high (ends_too_high bottom parts) (section_names parts) name n t))

offset_by : (r o : Bool) (n : ℕ) → r ≡ true → o ≡ false → (if r && not o then n else 0) ≡ n
offset_by true true n e f = absurd (true≢false f)
offset_by true false n e f = refl
offset_by false o n e f = absurd (true≢false (sym e))

no_offset_by : (r o : Bool) (n : ℕ) → o ≡ true → (if r && not o then n else 0) ≡ 0
no_offset_by true true n f = refl
no_offset_by true false n f = absurd (true≢false (sym f))
no_offset_by false o n f = refl

sum_by_flags : (r o : Bool) (a b c : ℕ) → r ≡ true → o ≡ false → (if r then (if o then a else b) else c) ≡ b
sum_by_flags true true a b c e f = absurd (true≢false f)
sum_by_flags true false a b c e f = refl
sum_by_flags false o a b c e f = absurd (true≢false (sym e))

greatest_by_flags : (r o : Bool) (a b c : ℕ) → r ≡ true → o ≡ true → (if r then (if o then a else b) else c) ≡ a
greatest_by_flags true true a b c e f = refl
greatest_by_flags true false a b c e f = absurd (true≢false (sym f))
greatest_by_flags false o a b c e f = absurd (true≢false (sym e))

-- if the base of a contribution is octal 160000 or below, it doesn't wrap around
base_reported : (bottom : ℕ) (parts : List Part) (index : ℕ) (name : Name) (size offset : ℕ)
    → entered_at parts index name ≡ Some size
    → offset_after (first_attributes parts name) (sizes_of (modules_before parts index) name) ≡ offset
    → section_base bottom parts name + offset ≤ 57344
    → module_base bottom parts index name ≡ section_base bottom parts name + offset
unfolding module_base contribution_base
base_reported bottom parts index name size offset e o h =
    (λ j. base_entered (e j) (section_base bottom parts name + o j) % 0o200000)
    ∙ as_it_is (section_base bottom parts name + offset) h
  where
    as_it_is : (n : ℕ) → n ≤ 57344 → n % 0o200000 ≡ n
    as_it_is n h = omega arith

-- ---- sections whose contributions are concatenated

concatenated_size : (parts : List Part) (name : Name) → is_relocatable (first_attributes parts name) ≡ true
    → is_overlaid (first_attributes parts name) ≡ false
    → section_size parts name ≡ rounded_sum (sizes_of parts name)
unfolding section_size
concatenated_size parts name r o =
    sum_by_flags (is_relocatable (first_attributes parts name)) (is_overlaid (first_attributes parts name))
    (greatest (map rounded (sizes_of parts name))) (rounded_sum (sizes_of parts name))
    (greatest (sizes_of parts name)) r o

room_before : (base offset size total whole : ℕ) → offset + size ≤ total → whole ≡ total → base + whole ≤ 57344
    → base + offset ≤ 57344
room_before base offset size total whole h e k = omega arith

concatenated_base : (bottom : ℕ) (parts : List Part) (index : ℕ) (name : Name) (size : ℕ)
    → is_too_large bottom parts ≡ false
    → is_relocatable (first_attributes parts name) ≡ true → is_overlaid (first_attributes parts name) ≡ false
    → entered_at parts index name ≡ Some size
    → module_base bottom parts index name ≡ section_base bottom parts name + earlier_sum parts index name
concatenated_base bottom parts index name size n r o e =
    base_reported bottom parts index name size (earlier_sum parts index name) e
    (offset_by (is_relocatable (first_attributes parts name)) (is_overlaid (first_attributes parts name))
    (earlier_sum parts index name) r o)
    (room_before (section_base bottom parts name) (earlier_sum parts index name) size
    (rounded_sum (sizes_of parts name)) (section_size parts name)
    (sum_within parts index name size e) (concatenated_size parts name r o)
    (ends_low bottom parts name n r (is_section parts index name size e)))

pub they_follow : (bottom : ℕ) (parts : List Part) (name : ℕ × ℕ) (earlier later size other : ℕ)
    → is_too_large bottom parts ≡ false
    → is_relocatable (first_attributes parts name) ≡ true → is_overlaid (first_attributes parts name) ≡ false
    → earlier < later
    → size_entered parts earlier name ≡ Some size
    → size_entered parts later name ≡ Some other
    → module_base bottom parts earlier name + size ≤ module_base bottom parts later name
they_follow bottom parts name earlier later size other n r o l e f =
    by (section_base bottom parts name) (earlier_sum parts earlier name) (earlier_sum parts later name)
    (module_base bottom parts earlier name) (module_base bottom parts later name)
    ((follow parts earlier later name l).1 size e)
    (concatenated_base bottom parts earlier name size n r o e)
    (concatenated_base bottom parts later name other n r o f)
  where
    by : (base one two first second : ℕ) → one + size ≤ two → first ≡ base + one → second ≡ base + two
        → first + size ≤ second
    by base one two first second h e f = omega arith

pub they_lie_within : (bottom : ℕ) (parts : List Part) (name : ℕ × ℕ) (index size : ℕ)
    → is_too_large bottom parts ≡ false
    → is_relocatable (first_attributes parts name) ≡ true → is_overlaid (first_attributes parts name) ≡ false
    → size_entered parts index name ≡ Some size
    → (section_base bottom parts name ≤ module_base bottom parts index name)
    × (module_base bottom parts index name + size ≤ section_base bottom parts name + section_size parts name)
they_lie_within bottom parts name index size n r o e =
    by (section_base bottom parts name) (earlier_sum parts index name) (rounded_sum (sizes_of parts name))
    (section_size parts name) (module_base bottom parts index name) (sum_within parts index name size e)
    (concatenated_size parts name r o) (concatenated_base bottom parts index name size n r o e)
  where
    by : (base one total whole first : ℕ) → one + size ≤ total → whole ≡ total → first ≡ base + one
        → (base ≤ first) × (first + size ≤ base + whole)
    by base one total whole first h e f = (omega arith, omega arith)

-- ---- sections whose contributions are overlaid

overlaid_size : (parts : List Part) (name : Name) → is_relocatable (first_attributes parts name) ≡ true
    → is_overlaid (first_attributes parts name) ≡ true
    → section_size parts name ≡ greatest (map rounded (sizes_of parts name))
unfolding section_size
overlaid_size parts name r o =
    greatest_by_flags (is_relocatable (first_attributes parts name)) (is_overlaid (first_attributes parts name))
    (greatest (map rounded (sizes_of parts name))) (rounded_sum (sizes_of parts name))
    (greatest (sizes_of parts name)) r o

pub overlaid_together : (bottom : ℕ) (parts : List Part) (name : ℕ × ℕ) (index size : ℕ)
    → is_too_large bottom parts ≡ false
    → is_relocatable (first_attributes parts name) ≡ true → is_overlaid (first_attributes parts name) ≡ true
    → size_entered parts index name ≡ Some size
    → module_base bottom parts index name ≡ section_base bottom parts name
overlaid_together bottom parts name index size n r o e =
    base_reported bottom parts index name size 0 e
    (no_offset_by (is_relocatable (first_attributes parts name)) (is_overlaid (first_attributes parts name))
    (earlier_sum parts index name) o)
    (low (section_base bottom parts name) (section_size parts name)
    (ends_low bottom parts name n r (is_section parts index name size e)))
    ∙ plain (section_base bottom parts name)
  where
    low : (base whole : ℕ) → base + whole ≤ 57344 → base + 0 ≤ 57344
    low base whole h = omega arith

    plain : (base : ℕ) → base + 0 ≡ base
    plain base = omega arith

pub overlaid_fits : (parts : List Part) (name : ℕ × ℕ) (index size : ℕ)
    → is_relocatable (first_attributes parts name) ≡ true → is_overlaid (first_attributes parts name) ≡ true
    → size_entered parts index name ≡ Some size → size ≤ section_size parts name
overlaid_fits parts name index size r o e =
    fits (section_size parts name) (greatest (map rounded (sizes_of parts name))) (overlaid_size parts name r o)
    (within parts index name size e).0
  where
    fits : (whole total : ℕ) → whole ≡ total → size ≤ total → size ≤ whole
    fits whole total e h = omega arith
