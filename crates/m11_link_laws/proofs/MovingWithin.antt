-- If the link with the higher bottom isn't too large, no base wraps around.
use Rattle.std.proofs.Common.{◌≡◌, ℕ, ◌+◌, ◌%◌, ◌≤◌, sum, Bool, true, false, ◌&&◌, ◌||◌, not, nat_eq, nat_lt, if◌then◌else◌, List, [], ◌∷◌, ◌++◌, map, is_some, Option, Some, None, refl, sym, ap, ap₂, ◌∙◌, subst, true≢false, arith}
use Rattle.std.specs.List.{filter_map, list_any}
use Rattle.std.specs.Map.{keys_of, lookup}
use Rattle.std.specs.Option.{option_or}
use Rattle.std.proofs.lemmas.Bool.Decides.{nat_tests}
use Rattle.std.proofs.lemmas.List.{map-append}
use Rattle.std.proofs.lemmas.List.Elements.{filter_map-append}
use Rattle.std.proofs.lemmas.List.Folds.{list_any-append}
use Rattle.std.proofs.lemmas.List.Sums.{sum_by-append}
use Rattle.std.proofs.lemmas.Map.Made.{is_some-lookup}
use Rattle.indexmap.specs.IndexSet.{insert_key}
use Rattle.m11_base.specs.Rad50.{is_same_name}
use Rattle.m11_base.proofs.SameNames.{same_name_equal}
use Rattle.m11_link_modules.specs.Parts.{Part}
use Rattle.m11_link_modules.specs.Positions.{distinct, distinct_after, modules_in, section_in, section_names, sections_in}
use Rattle.m11_link_layout.specs.Modules.{module_at, modules_before}
use Rattle.m11_link_layout.specs.Sections.{base_entered, contribution_base, ends_too_high, first_attributes, greatest, is_overlaid, is_relocatable, is_too_large, module_base, rounded, section_base, section_size, size_under, sizes_of}
use Rattle.m11_link_layout.proofs.PlannedBases.{none_high}
use Rattle.m11_link_layout.proofs.Finding.{lookup_append}
use Rattle.m11_link_layout.proofs.Offsets.{earlier_sizes_more, entered_at, entered_more, reported_where}
use Rattle.m11_link_layout.proofs.Sizing.{sizes_more}
use Rattle.m11_link_layout.proofs.Walking.{grown}
use Rattle.m11_link_laws.specs.Moving.{farther, moves, section_moves}
use Rattle.m11_link_laws.proofs.MovingFindings.{section_is}

-- ---- a section that a module enters is among the sections

abbrev Name : Type 0
Name = ℕ × ℕ

or_left : (b c : Bool) → b ≡ true → (b || c) ≡ true
or_left true c e = refl
or_left false c e = absurd (true≢false (sym e))

or_right : (b c : Bool) → c ≡ true → (b || c) ≡ true
or_right true c e = refl
or_right false c e = e

inserted_keeps : (name : Name) (seen : List Name) (other : Name) → list_any (is_same_name name) seen ≡ true
    → list_any (is_same_name name) (insert_key is_same_name seen other) ≡ true
inserted_keeps name seen other e = by (list_any (is_same_name other) seen)
  where
    by : (b : Bool) → list_any (is_same_name name) (if b then seen else seen ++ other ∷ []) ≡ true
    by true = e
    by false =
        list_any-append (is_same_name name) seen (other ∷ [])
        ∙ or_left (list_any (is_same_name name) seen) (list_any (is_same_name name) (other ∷ [])) e

inserted_comes : (name : Name) (seen : List Name) (other : Name) → is_same_name name other ≡ true
    → list_any (is_same_name name) (insert_key is_same_name seen other) ≡ true
inserted_comes name seen other e = by (list_any (is_same_name other) seen) refl
  where
    by : (b : Bool) → list_any (is_same_name other) seen ≡ b
        → list_any (is_same_name name) (if b then seen else seen ++ other ∷ []) ≡ true
    by true f = ap (λ one. list_any (is_same_name one) seen) (same_name_equal name other e) ∙ f
    by false f =
        list_any-append (is_same_name name) seen (other ∷ [])
        ∙ or_right (list_any (is_same_name name) seen) (list_any (is_same_name name) (other ∷ []))
        (or_left (is_same_name name other) false e)

distinct_keeps : (name : Name) (seen names : List Name) → list_any (is_same_name name) seen ≡ true
    → list_any (is_same_name name) (distinct_after seen names) ≡ true
distinct_keeps name seen [] e = e
distinct_keeps name seen (other ∷ names) e =
    distinct_keeps name (insert_key is_same_name seen other) names (inserted_keeps name seen other e)

distinct_comes : (name : Name) (seen names : List Name) → list_any (is_same_name name) names ≡ true
    → list_any (is_same_name name) (distinct_after seen names) ≡ true
distinct_comes name seen [] e = absurd (true≢false (sym e))
distinct_comes name seen (other ∷ names) e =
    by (is_same_name name other) refl e (λ h. distinct_comes name (insert_key is_same_name seen other) names h)
  where
    by : (b : Bool) → is_same_name name other ≡ b → (b || list_any (is_same_name name) names) ≡ true
        → (list_any (is_same_name name) names ≡ true
        → list_any (is_same_name name) (distinct_after (insert_key is_same_name seen other) names) ≡ true)
        → list_any (is_same_name name) (distinct_after (insert_key is_same_name seen other) names) ≡ true
    by true f e rest = distinct_keeps name (insert_key is_same_name seen other) names (inserted_comes name seen other f)
    by false f e rest = rest e

-- if a look-up with an alternative finds nothing, the look-up by itself finds nothing
none_left : (first rest : Option ℕ) → option_or first rest ≡ None → first ≡ None
none_left None rest e = refl
none_left (Some x) rest e = search

none_right : (first rest : Option ℕ) → option_or first rest ≡ None → rest ≡ None
none_right None rest e = e
none_right (Some x) rest e = search

reported_none : (b : Bool) (part : Part) (name : Name) → lookup (is_same_name name) (filter_map section_in (part ∷ [])) ≡ None
    → lookup (is_same_name name) (reported_where b part) ≡ None
reported_none true part name e = e
reported_none false part name e = refl

abbrev Unentered : List Part → Type 0
Unentered parts = (index : ℕ) (name : Name) → lookup (is_same_name name) (filter_map section_in parts) ≡ None
    → entered_at parts index name ≡ None

unentered_more : (before : List Part) (part : Part) → Unentered before → Unentered (before ++ part ∷ [])
unentered_more before part h index name e =
    let both = sym (lookup_append (is_same_name name) (filter_map section_in before) (filter_map section_in (part ∷ [])))
    ∙ ap (λ reported. lookup (is_same_name name) reported) (sym (filter_map-append section_in before (part ∷ []))) ∙ e in
    let first = none_left (lookup (is_same_name name) (filter_map section_in before))
    (lookup (is_same_name name) (filter_map section_in (part ∷ []))) both in
    let last = none_right (lookup (is_same_name name) (filter_map section_in before))
    (lookup (is_same_name name) (filter_map section_in (part ∷ []))) both in
    entered_more before part index name
    ∙ ap₂ (λ one other. option_or one other) (h index name first)
    (reported_none (nat_eq (modules_in before) index) part name last)

unentered_none : Unentered []
unfolding module_at sections_in
unentered_none index name e = refl

unentered : (parts : List Part) → Unentered parts
unentered parts = grown Unentered unentered_more parts unentered_none

entered_somewhere : (found entered : Option ℕ) → (found ≡ None → entered ≡ None) → is_some entered ≡ true
    → is_some found ≡ true
entered_somewhere None entered h e = absurd (true≢false (sym e ∙ ap is_some (h refl)))
entered_somewhere (Some x) entered h e = refl

is_section : (parts : List Part) (index : ℕ) (name : Name) → is_some (entered_at parts index name) ≡ true
    → list_any (is_same_name name) (section_names parts) ≡ true
unfolding section_names distinct sections_in
is_section parts index name e =
    distinct_comes name [] (keys_of (filter_map section_in parts))
    (sym (is_some-lookup (is_same_name name) (filter_map section_in parts))
    ∙ entered_somewhere (lookup (is_same_name name) (filter_map section_in parts)) (entered_at parts index name)
    (unentered parts index name) e)

-- ---- a contribution begins within its section

abbrev rounded_sum : List ℕ → ℕ
rounded_sum sizes = sum (map rounded sizes)

sum_rounded : (xs ys : List ℕ) → rounded_sum (xs ++ ys) ≡ rounded_sum xs + rounded_sum ys
sum_rounded xs ys = ap sum (map-append rounded xs ys) ∙ sum_by-append (λ n. n) (map rounded xs) (map rounded ys)

part_of_sum : (b : Bool) (part : Part) (name : Name)
    → rounded_sum (filter_map (size_under name) (reported_where b part))
    ≤ rounded_sum (filter_map (size_under name) (filter_map section_in (part ∷ [])))
part_of_sum true part name = omega arith
part_of_sum false part name = omega arith

abbrev Earlier : List Part → Type 0
Earlier parts = (index : ℕ) (name : Name)
    → rounded_sum (sizes_of (modules_before parts index) name) ≤ rounded_sum (sizes_of parts name)

both_less : (a b c d a' b' : ℕ) → a ≤ b → c ≤ d → a' ≡ a + c → b' ≡ b + d → a' ≤ b'
both_less a b c d a' b' h k e f = omega arith

earlier_more : (before : List Part) (part : Part) → Earlier before → Earlier (before ++ part ∷ [])
earlier_more before part h index name =
    let first = sizes_of (modules_before before index) name in
    let more = filter_map (size_under name) (reported_where (nat_lt (modules_in before) index) part) in
    let all = sizes_of before name in
    let last = filter_map (size_under name) (filter_map section_in (part ∷ [])) in
    both_less (rounded_sum first) (rounded_sum all) (rounded_sum more) (rounded_sum last) _ _ (h index name)
    (part_of_sum (nat_lt (modules_in before) index) part name)
    (ap rounded_sum (earlier_sizes_more before part index name) ∙ sum_rounded first more)
    (ap rounded_sum (sizes_more before part name) ∙ sum_rounded all last)

earlier_none : Earlier []
unfolding sizes_of modules_before
earlier_none index name = omega arith

earlier_within : (parts : List Part) → Earlier parts
earlier_within parts = grown Earlier earlier_more parts earlier_none

-- ---- no base is above octal 160000

low_base : (overlaid : Bool) (base : ℕ) (earlier sizes : List ℕ) → rounded_sum earlier ≤ rounded_sum sizes
    → nat_lt 57344 (base + (if overlaid then greatest (map rounded sizes) else rounded_sum sizes)) ≡ false
    → base + (if not overlaid then rounded_sum earlier else 0) ≤ 57344
low_base true base earlier sizes h n = by base (greatest (map rounded sizes)) n
  where
    by : (base size : ℕ) → nat_lt 57344 (base + size) ≡ false → base + 0 ≤ 57344
    by base size n = grind (arith, nat_tests)
low_base false base earlier sizes h n = by base (rounded_sum earlier) (rounded_sum sizes) h n
  where
    by : (base offset size : ℕ) → offset ≤ size → nat_lt 57344 (base + size) ≡ false → base + offset ≤ 57344
    by base offset size h n = grind (arith, nat_tests)

whole : (number : ℕ) → number ≤ 57344 → number % 65536 ≡ number
whole number h = omega arith

nearer : (base distance offset : ℕ) → base + distance + offset ≤ 57344 → base + offset ≤ 57344
nearer base distance offset h = omega arith

past : (base distance offset : ℕ) → base + distance + offset ≡ base + offset + distance
past base distance offset = omega arith

-- if the section of a contribution doesn't end too high, the contribution's base moves by exactly the distance if the section is
-- relocatable, and otherwise stays; without a contribution the base is 0
plain_by : (entered : Option ℕ) (b overlaid : Bool) (distance near far : ℕ) (earlier sizes : List ℕ)
    → far ≡ farther distance b near
    → rounded_sum earlier ≤ rounded_sum sizes
    → (is_some entered ≡ true → (b && nat_lt 57344 (far
    + (if b then (if overlaid then greatest (map rounded sizes) else rounded_sum sizes) else greatest sizes))) ≡ false)
    → base_entered entered (far + (if b && not overlaid then rounded_sum earlier else 0)) % 65536
    ≡ farther distance (is_some entered && b)
    (base_entered entered (near + (if b && not overlaid then rounded_sum earlier else 0)) % 65536)
plain_by None b overlaid distance near far earlier sizes e h n = refl
plain_by (Some size) false overlaid distance near far earlier sizes e h n = ap (λ base. (base + 0) % 65536) e
plain_by (Some size) true overlaid distance near far earlier sizes e h n =
    let offset = if not overlaid then rounded_sum earlier else 0 in
    let low : far + offset ≤ 57344 = low_base overlaid far earlier sizes h (n refl) in
    let P : ℕ → Type 0 = λ base. base + offset ≤ 57344 in
    let same : near + distance + offset ≤ 57344 = subst P e low in
    whole (far + offset) low ∙ ap (λ base. base + offset) e ∙ past near distance offset
    ∙ ap (λ base. base + distance) (sym (whole (near + offset) (nearer near distance offset same)))

pub plain_base : (bottom distance : ℕ) (parts : List Part) (index : ℕ) (name : Name)
    → is_too_large (bottom + distance) parts ≡ false
    → module_base (bottom + distance) parts index name
    ≡ farther distance (moves parts index name) (module_base bottom parts index name)
unfolding module_base contribution_base section_size is_too_large
plain_base bottom distance parts index name n =
    plain_by (entered_at parts index name) (is_relocatable (first_attributes parts name))
    (is_overlaid (first_attributes parts name)) distance (section_base bottom parts name)
    (section_base (bottom + distance) parts name) (sizes_of (modules_before parts index) name) (sizes_of parts name)
    (section_is bottom distance parts name) (earlier_within parts index name)
    (λ t. none_high (ends_too_high (bottom + distance) parts) (section_names parts) name n
    (is_section parts index name t))

-- ---- the base with the higher bottom is at least as large

still_high : (b : Bool) (near far distance size : ℕ) → far ≡ farther distance b near
    → (b && nat_lt 57344 (near + size)) ≡ true → (b && nat_lt 57344 (far + size)) ≡ true
still_high false near far distance size e h = h
still_high true near far distance size e h = grind (arith, nat_tests)

any_still : (p q : Name → Bool) → ((name : Name) → p name ≡ true → q name ≡ true) → (names : List Name)
    → list_any p names ≡ true → list_any q names ≡ true
any_still p q h [] e = e
any_still p q h (name ∷ names) e = by (p name) refl e (any_still p q h names)
  where
    by : (b : Bool) → p name ≡ b → (b || list_any p names) ≡ true
        → (list_any p names ≡ true → list_any q names ≡ true) → (q name || list_any q names) ≡ true
    by true f e rest = or_left (q name) (list_any q names) (h name f)
    by false f e rest = or_right (q name) (list_any q names) (rest e)

too_large_stays : (bottom distance : ℕ) (parts : List Part) → is_too_large bottom parts ≡ true
    → is_too_large (bottom + distance) parts ≡ true
unfolding is_too_large
too_large_stays bottom distance parts e =
    any_still (ends_too_high bottom parts) (ends_too_high (bottom + distance) parts)
    (λ name h. still_high (section_moves parts name) (section_base bottom parts name)
    (section_base (bottom + distance) parts name) distance (section_size parts name)
    (section_is bottom distance parts name) h) (section_names parts) e

pub nearer_fits : (bottom distance : ℕ) (parts : List Part) → is_too_large (bottom + distance) parts ≡ false
    → is_too_large bottom parts ≡ false
nearer_fits bottom distance parts n = by (is_too_large bottom parts) refl
  where
    by : (b : Bool) → is_too_large bottom parts ≡ b → b ≡ false
    by true e = absurd (true≢false (sym (too_large_stays bottom distance parts e) ∙ n))
    by false e = refl
