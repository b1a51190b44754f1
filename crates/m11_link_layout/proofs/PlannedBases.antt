-- The base of a contribution in a plan is that of the definitions.
use Rattle.std.proofs.Common.{◌≡◌, ℕ, ◌+◌, ◌%◌, ◌≤◌, min, sum, Bool, true, false, cond, ◌&&◌, ◌||◌, not, nat_lt, if◌then◌else◌, List, [], ◌∷◌, ◌++◌, map, is_some, Option, Some, None, refl, sym, ap, ◌∙◌, true≢false, arith}
use Rattle.std.specs.List.{filter_map, list_any}
use Rattle.std.specs.Map.{lookup}
use Rattle.std.specs.Option.{unwrap_or}
use Rattle.std.proofs.lemmas.Bool.Decides.{nat_tests}
use Rattle.std.proofs.lemmas.List.{map-append}
use Rattle.std.proofs.lemmas.List.Sums.{sum_by-append}
use Rattle.std.proofs.lemmas.Map.Made.{is_some-lookup}
use Rattle.m11_base.specs.Rad50.{is_same_name}
use Rattle.m11_base.proofs.SameNames.{same_name_equal}
use Rattle.m11_link_modules.specs.Parts.{Part}
use Rattle.m11_link_modules.specs.Positions.{known_of, modules_in, section_in, section_names}
use Rattle.m11_link_layout.specs.Tables.{size_cap}
use Rattle.m11_link_layout.specs.Modules.{modules_before}
use Rattle.m11_link_layout.specs.Plan.{PlanTables, after_offset, planned_base}
use Rattle.m11_link_layout.specs.Sections.{base_entered, contribution_base, ends_too_high, first_attributes, greatest, is_overlaid, is_relocatable, is_too_large, module_base, offset_after, rounded, section_base, section_size, size_under, sizes_of}
use Rattle.m11_link_layout.specs.declared.definition.Total.{Total}
use Rattle.m11_link_layout.proofs.ContributionsCollected.{ContributionsOf}
use Rattle.m11_link_layout.proofs.Offsets.{earlier_sizes_more, enters_reported, entered_at, offset_from, offset_in, reported_where}
use Rattle.m11_link_layout.proofs.SectionsCollected.{SectionsOf}
use Rattle.m11_link_layout.proofs.Sizing.{attributes_found, sizes_more, total_from}
use Rattle.m11_link_layout.proofs.Walking.{grown}

-- ---- a section that a module enters is among the sections

found_somewhere : (found : Option ℕ) (sizes : List ℕ) (entered : Option ℕ) (size : ℕ) → entered ≡ Some size
    → (found ≡ None → entered ≡ None)
    → is_some (total_from found sizes) ≡ true
found_somewhere None sizes entered size e h = absurd (true≢false (ap is_some (sym e ∙ h refl)))
found_somewhere (Some attributes) sizes entered size e h = refl

pub is_section : (parts : List Part) (sections : List ((ℕ × ℕ) × Total)) (index : ℕ) (name : ℕ × ℕ) (size : ℕ)
    → SectionsOf parts sections
    → entered_at parts index name ≡ Some size → list_any (is_same_name name) (section_names parts) ≡ true
unfolding known_of
is_section parts sections index name size s e =
    ap (λ names. list_any (is_same_name name) names) (sym s.names) ∙ sym (is_some-lookup (is_same_name name) sections)
    ∙ ap is_some (s.totals name)
    ∙ found_somewhere (attributes_found parts name) (sizes_of parts name) (entered_at parts index name) size e
    (enters_reported parts index name)

-- a test that is true for no name of a list is false for each name in it
pub none_high : (test : ℕ × ℕ → Bool) (names : List (ℕ × ℕ)) (name : ℕ × ℕ) → list_any test names ≡ false
    → list_any (is_same_name name) names ≡ true → test name ≡ false
none_high test [] name n t = absurd (true≢false (sym t))
none_high test (first ∷ names) name n t = by (test first) (is_same_name name first) refl refl n t (none_high test names name)
  where
    by : (b c : Bool) → test first ≡ b → is_same_name name first ≡ c → (b || list_any test names) ≡ false
        → (c || list_any (is_same_name name) names) ≡ true
        → (list_any test names ≡ false → list_any (is_same_name name) names ≡ true → test name ≡ false) → test name ≡ false
    by true c e f n t h = absurd (true≢false n)
    by false true e f n t h = ap test (same_name_equal name first f) ∙ e
    by false false e f n t h = h n t

pub found_mapped : (value : ℕ × ℕ → ℕ) (names : List (ℕ × ℕ)) (name : ℕ × ℕ) → list_any (is_same_name name) names ≡ true
    → lookup (is_same_name name) (map (λ n. (n, value n)) names) ≡ Some (value name)
found_mapped value [] name t = absurd (true≢false (sym t))
found_mapped value (first ∷ names) name t = by (is_same_name name first) refl t (found_mapped value names name)
  where
    by : (c : Bool) → is_same_name name first ≡ c → (c || list_any (is_same_name name) names) ≡ true
        → (list_any (is_same_name name) names ≡ true → lookup (is_same_name name) (map (λ n. (n, value n)) names)
        ≡ Some (value name))
        → cond c (Some (value first)) (lookup (is_same_name name) (map (λ n. (n, value n)) names)) ≡ Some (value name)
    by true f t h = ap (λ n. Some (value n)) (sym (same_name_equal name first f))
    by false f t h = h t

-- ---- offsets within the limit

sum_rounded : (xs ys : List ℕ) → sum (map rounded (xs ++ ys)) ≡ sum (map rounded xs) + sum (map rounded ys)
sum_rounded xs ys = ap sum (map-append rounded xs ys) ∙ sum_by-append (λ n. n) (map rounded xs) (map rounded ys)

abbrev rounded_sum : List ℕ → ℕ
rounded_sum sizes = sum (map rounded sizes)

part_of_sum : (b : Bool) (part : Part) (name : ℕ × ℕ)
    → rounded_sum (filter_map (size_under name) (reported_where b part))
    ≤ rounded_sum (filter_map (size_under name) (filter_map section_in (part ∷ [])))
part_of_sum true part name = omega arith
part_of_sum false part name = omega arith

abbrev Earlier : List Part → Type 0
Earlier parts = (index : ℕ) (name : ℕ × ℕ) → rounded_sum (sizes_of (modules_before parts index) name)
    ≤ rounded_sum (sizes_of parts name)

added : (a b c d a' b' : ℕ) → a ≤ b → c ≤ d → a' ≡ a + c → b' ≡ b + d → a' ≤ b'
added a b c d a' b' h k e f = omega arith

earlier_more : (before : List Part) (part : Part) → Earlier before → Earlier (before ++ part ∷ [])
earlier_more before part h index name =
    let first = sizes_of (modules_before before index) name in
    let more = filter_map (size_under name) (reported_where (nat_lt (modules_in before) index) part) in
    let all = sizes_of before name in
    let last = filter_map (size_under name) (filter_map section_in (part ∷ [])) in
    added (rounded_sum first) (rounded_sum all) (rounded_sum more) (rounded_sum last) _ _ (h index name)
    (part_of_sum (nat_lt (modules_in before) index) part name)
    (ap rounded_sum (earlier_sizes_more before part index name) ∙ sum_rounded first more)
    (ap rounded_sum (sizes_more before part name) ∙ sum_rounded all last)

earlier_none : Earlier []
unfolding sizes_of modules_before
earlier_none index name = omega arith

-- the sum of earlier contributions is at most the sum of all contributions to the section
earlier_within : (parts : List Part) (index : ℕ) (name : ℕ × ℕ)
    → rounded_sum (sizes_of (modules_before parts index) name) ≤ rounded_sum (sizes_of parts name)
earlier_within parts = grown Earlier earlier_more parts earlier_none

within_limit : (relocatable overlaid : Bool) (base : ℕ) (earlier sizes : List ℕ)
    → rounded_sum earlier ≤ rounded_sum sizes
    → (relocatable && nat_lt 57344 (base
    + (if relocatable then (if overlaid then greatest (map rounded sizes) else rounded_sum sizes) else greatest
    sizes))) ≡ false
    → min size_cap (if relocatable && not overlaid then rounded_sum earlier else 0)
    ≡ (if relocatable && not overlaid then rounded_sum earlier else 0)
within_limit true true base earlier sizes h n = refl
within_limit true false base earlier sizes h n = uncapped base (rounded_sum earlier) (rounded_sum sizes) h n
  where
    uncapped : (base offset size : ℕ) → offset ≤ size → nat_lt 57344 (base + size) ≡ false
        → min size_cap offset ≡ offset
    uncapped base offset size h n = grind (arith, nat_tests)
within_limit false overlaid base earlier sizes h n = refl

-- if nothing is too large, no offset is capped
offset_uncapped : (bottom : ℕ) (parts : List Part) (index : ℕ) (name : ℕ × ℕ) → is_too_large bottom parts ≡ false
    → list_any (is_same_name name) (section_names parts) ≡ true
    → offset_in parts index name ≡ offset_after (first_attributes parts name)
    (sizes_of (modules_before parts index) name)
unfolding is_too_large section_size
offset_uncapped bottom parts index name n t =
    within_limit (is_relocatable (first_attributes parts name)) (is_overlaid (first_attributes parts name))
    (section_base bottom parts name)
    (sizes_of (modules_before parts index) name) (sizes_of parts name) (earlier_within parts index name)
    (none_high (ends_too_high bottom parts) (section_names parts) name n t)

-- ---- the base of a contribution

-- the bases of all sections, each with the section's name
abbrev pub bases_of : ℕ → List Part → List ((ℕ × ℕ) × ℕ)
bases_of bottom parts = map (λ name. (name, section_base bottom parts name)) (section_names parts)

base_reported : (bottom : ℕ) (parts : List Part) (sections : List ((ℕ × ℕ) × Total)) (index : ℕ) (name : ℕ × ℕ)
    (entered : Option ℕ) → SectionsOf parts sections
    → is_too_large bottom parts ≡ false → entered_at parts index name ≡ entered
    → after_offset (offset_from entered (offset_in parts index name))
    (unwrap_or (lookup (is_same_name name) (bases_of bottom parts)) 0)
    ≡ base_entered entered (section_base bottom parts name + offset_after (first_attributes parts name)
    (sizes_of (modules_before parts index) name)) % 0o200000
base_reported bottom parts sections index name None s n e = refl
base_reported bottom parts sections index name (Some size) s n e =
    let t = is_section parts sections index name size s e in
    let found = ap (λ o. unwrap_or o 0) (found_mapped (section_base bottom parts) (section_names parts) name t) in
    let offset = offset_uncapped bottom parts index name n t in
    λ j. (found j + offset j) % 0o200000

pub base_planned : (bottom : ℕ) (parts : List Part) (plan : PlanTables) (index : ℕ) (name : ℕ × ℕ)
    → SectionsOf parts plan.gathered.sections
    → ContributionsOf parts plan.gathered.contributions → plan.bases ≡ bases_of bottom parts
    → is_too_large bottom parts ≡ false
    → planned_base plan index name ≡ module_base bottom parts index name
unfolding module_base contribution_base
base_planned bottom parts plan index name s c b n =
    (λ j. after_offset (c index name j) (unwrap_or (lookup (is_same_name name) (b j)) 0))
    ∙ base_reported bottom parts plan.gathered.sections index name (entered_at parts index name) s n refl
