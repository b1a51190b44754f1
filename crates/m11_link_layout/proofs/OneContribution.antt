-- The contributions of the modules after one more part.
use Rattle.std.proofs.Common.{◌≡◌, ℕ, ◌==◌, ◌<◌, ◌&&◌, min, nat_eq, nat_lt, Bool, true, false, cond, if◌then◌else◌, List, [], ◌∷◌, ◌++◌, append-nil, Option, Some, None, refl, sym, ap, ◌∙◌, subst, arith, true≢false}
use Rattle.std.specs.List.{cons_option, filter_map}
use Rattle.std.specs.Map.{lookup}
use Rattle.std.specs.Option.{option_or, unwrap_or}
use Rattle.std.proofs.lemmas.Bool.Decides.{nat_tests}
use Rattle.m11_base.specs.Rad50.{is_same_name}
use Rattle.m11_base.proofs.SameNames.{same_name_equal}
use Rattle.m11_link_modules.specs.Parts.{Part}
use Rattle.m11_link_modules.specs.Positions.{modules_in, section_in, sections_in, this_module}
use Rattle.m11_link_layout.specs.Tables.{is_contribution, next_offset, size_cap}
use Rattle.m11_link_layout.specs.Modules.{modules_before}
use Rattle.m11_link_layout.specs.Sections.{attributes_in, first_attributes, offset_after, size_under, sizes_of}
use Rattle.m11_link_layout.proofs.ModulesOfParts.{modules_are}
use Rattle.m11_link_layout.proofs.Offsets.{contribution_of, earlier_sizes, earlier_sizes_more, entered_at, entered_more, enters_reported, next_is, offset_from, reported_where}
use Rattle.m11_link_layout.proofs.Sizing.{attributes_found, attributes_more, no_sizes, or_none, total_of}

-- ---- one more part

abbrev contribution_from : Option ℕ → Option ℕ → List ℕ → Option ℕ
contribution_from entered found sizes = offset_from entered (min size_cap (offset_after (unwrap_or found 0) sizes))

contribution_more : (before : List Part) (part : Part) (index : ℕ) (name : ℕ × ℕ) (reported sizes : List ((ℕ × ℕ) × ℕ))
    (attributes : List ((ℕ × ℕ) × ℕ))
    → reported_where (nat_eq (modules_in before) index) part ≡ reported
    → reported_where (nat_lt (modules_in before) index) part ≡ sizes
    → filter_map attributes_in (part ∷ []) ≡ attributes
    → contribution_of (before ++ part ∷ []) index name
    ≡ contribution_from (option_or (entered_at before index name) (lookup (is_same_name name) reported))
    (option_or (attributes_found before name) (lookup (is_same_name name) attributes))
    (sizes_of (modules_before before index) name ++ filter_map (size_under name) sizes)
unfolding first_attributes
contribution_more before part index name reported sizes attributes t s a =
    let e = entered_more before part index name
    ∙ ap (λ these. option_or (entered_at before index name) (lookup (is_same_name name) these)) t in
    let f = attributes_more before part name
    ∙ ap (λ these. option_or (attributes_found before name) (lookup (is_same_name name) these)) a in
    let g = earlier_sizes_more before part index name
    ∙ ap (λ these. sizes_of (modules_before before index) name ++ filter_map (size_under name) these) s in
    λ j. contribution_from (e j) (f j) (g j)

reported_none : (b : Bool) (part : Part) → filter_map section_in (part ∷ []) ≡ [] → reported_where b part ≡ []
reported_none true part s = s
reported_none false part s = refl

reported_one : (b : Bool) (part : Part) (reported : List ((ℕ × ℕ) × ℕ)) → filter_map section_in (part ∷ []) ≡ reported
    → reported_where b part ≡ (if b then reported else [])
reported_one true part reported s = s
reported_one false part reported s = refl

-- a part that enters no section changes no contribution
pub contribution_kept : (before : List Part) (part : Part) (index : ℕ) (name : ℕ × ℕ)
    → filter_map attributes_in (part ∷ []) ≡ []
    → filter_map section_in (part ∷ []) ≡ [] → contribution_of (before ++ part ∷ []) index name
    ≡ contribution_of before index name
unfolding first_attributes
contribution_kept before part index name a s =
    contribution_more before part index name [] [] [] (reported_none (nat_eq (modules_in before) index) part s)
    (reported_none (nat_lt (modules_in before) index) part s) a
    ∙ (λ j. contribution_from (or_none (entered_at before index name) j) (or_none (attributes_found before name) j)
    (append-nil (sizes_of (modules_before before index) name) j))

-- the size that a part enters in this module under this name; None if it is in another module or has another name
reported_if : Bool → Bool → ℕ → Option ℕ
reported_if here named size = if here then cond named (Some size) None else None

sizes_if : Bool → Bool → ℕ → List ℕ
sizes_if here named size = if here then cons_option (if named then Some size else None) [] else []

same_more : (entered found : Option ℕ) (sizes : List ℕ)
    → contribution_from entered found sizes ≡ contribution_from (option_or entered None) (option_or found None)
    (sizes ++ [])
same_more entered found sizes =
    λ j. contribution_from (sym (or_none entered) j) (sym (or_none found) j) (sym (append-nil sizes) j)

none_more : (entered found found' : Option ℕ) (sizes sizes' : List ℕ) → entered ≡ None
    → contribution_from entered found sizes ≡ contribution_from (option_or entered None) found' sizes'
none_more entered found found' sizes sizes' e =
    let P : Option ℕ → Type 0 = λ o. contribution_from o found sizes
    ≡ contribution_from (option_or o None) found' sizes' in subst P (sym e) refl

other_more : (entered found : Option ℕ) (sizes : List ℕ) (attributes : ℕ) → (found ≡ None → entered ≡ None)
    → contribution_from entered found sizes ≡ contribution_from (option_or entered None)
    (option_or found (Some attributes)) (sizes ++ [])
other_more entered None sizes attributes f = none_more entered None (Some attributes) sizes (sizes ++ []) (f refl)
other_more entered (Some first) sizes attributes f =
    λ j. contribution_from (sym (or_none entered) j) (Some first) (sym (append-nil sizes) j)

first_more : (entered found : Option ℕ) (sizes : List ℕ) (offset attributes size : ℕ) → entered ≡ None
    → offset ≡ min size_cap (offset_after (unwrap_or (option_or found (Some attributes)) 0) sizes)
    → Some offset ≡ contribution_from (option_or entered (Some size)) (option_or found (Some attributes)) (sizes ++ [])
first_more entered found sizes offset attributes size e o =
    let P : Option ℕ → Type 0 = λ these. Some offset
    ≡ contribution_from (option_or these (Some size)) (option_or found (Some attributes)) (sizes ++ []) in
    subst P (sym e)
    (ap (λ n. Some n) o ∙ ap (λ these. Some (min size_cap
    (offset_after (unwrap_or (option_or found (Some attributes)) 0) these))) (sym (append-nil sizes)))

one_more : (here later named : Bool) (entered found : Option ℕ) (sizes : List ℕ) (offset attributes size : ℕ)
    → (here ≡ true → later ≡ false) → (found ≡ None → entered ≡ None) → (later ≡ true → entered ≡ None)
    → (here ≡ true → named ≡ true → (entered ≡ None)
    × (offset ≡ min size_cap (offset_after (unwrap_or (option_or found (Some attributes)) 0) sizes)))
    → cond (here && named) (Some offset) (contribution_from entered found sizes)
    ≡ contribution_from (option_or entered (reported_if here named size))
    (option_or found (cond named (Some attributes) None)) (sizes ++ sizes_if later named size)
unfolding reported_if sizes_if
one_more true true named entered found sizes offset attributes size h f l o = absurd (true≢false (h refl))
one_more true false true entered found sizes offset attributes size h f l o =
    first_more entered found sizes offset attributes size (o refl refl).0 (o refl refl).1
one_more true false false entered found sizes offset attributes size h f l o = same_more entered found sizes
one_more false true named entered found sizes offset attributes size h f l o =
    none_more entered found (option_or found (cond named (Some attributes) None)) sizes
    (sizes ++ sizes_if true named size) (l refl)
one_more false false true entered found sizes offset attributes size h f l o =
    other_more entered found sizes attributes f
one_more false false false entered found sizes offset attributes size h f l o = same_more entered found sizes

reported_is : (here : Bool) (name entered : ℕ × ℕ) (size : ℕ)
    → lookup (is_same_name name) (if here then (entered, size) ∷ [] else []) ≡ reported_if here (is_same_name name entered) size
unfolding reported_if
reported_is true name entered size = refl
reported_is false name entered size = refl

sizes_are : (here : Bool) (name entered : ℕ × ℕ) (size : ℕ)
    → filter_map (size_under name) (if here then (entered, size) ∷ [] else [])
    ≡ sizes_if here (is_same_name name entered) size
unfolding sizes_if
sizes_are true name entered size = refl
sizes_are false name entered size = refl

here_once : (n index : ℕ) → nat_eq n index ≡ true → nat_lt n index ≡ false
here_once n index e = grind (arith, nat_tests)

later_than : (n index : ℕ) → nat_lt n index ≡ true → n < index
later_than n index e = grind (arith, nat_tests)

here_is : (n index : ℕ) → nat_eq n index ≡ true → n ≡ index
here_is n index e = grind (arith, nat_tests)

turned_test : (n index : ℕ) → (index == n) ≡ nat_eq n index
turned_test n index = grind (arith, nat_tests)

-- the current module's first entry of a section has the offset after the contributions of earlier modules
this_offset : (before : List Part) (name : ℕ × ℕ) (attributes offset : ℕ)
    → lookup (is_same_name name) (sections_in (this_module before)) ≡ None
    → offset ≡ next_offset (total_of before name)
    → (entered_at before (modules_in before) name ≡ None)
    × (offset ≡ min size_cap
    (offset_after (unwrap_or (option_or (attributes_found before name) (Some attributes)) 0)
    (sizes_of (modules_before before (modules_in before)) name)))
this_offset before name attributes offset n o = (
  ap (λ parts. lookup (is_same_name name) (sections_in parts)) (modules_are before).this ∙ n,
  o ∙ next_is (attributes_found before name) (sizes_of before name) attributes (no_sizes before name)
      ∙ ap (λ sizes. min size_cap
      (offset_after (unwrap_or (option_or (attributes_found before name) (Some attributes)) 0) sizes))
      (sym (earlier_sizes before name n)),
)

beyond_none : (before : List Part) (index : ℕ) (name : ℕ × ℕ) → nat_lt (modules_in before) index ≡ true
    → entered_at before index name ≡ None
unfolding sections_in
beyond_none before index name l =
    ap (λ parts. lookup (is_same_name name) (sections_in parts))
    ((modules_are before).none index (later_than (modules_in before) index l))

pub contribution_entered : (before : List Part) (part : Part) (index : ℕ) (name entered : ℕ × ℕ)
    (attributes size offset : ℕ)
    → filter_map attributes_in (part ∷ []) ≡ (entered, attributes) ∷ []
    → filter_map section_in (part ∷ []) ≡ (entered, size) ∷ []
    → lookup (is_same_name entered) (sections_in (this_module before)) ≡ None
    → offset ≡ next_offset (total_of before entered)
    → cond (is_contribution (index, name) (modules_in before, entered)) (Some offset)
    (contribution_of before index name)
    ≡ contribution_of (before ++ part ∷ []) index name
unfolding first_attributes
contribution_entered before part index name entered attributes size offset a s n o =
    let m = modules_in before in
    let here = nat_eq m index in
    let later = nat_lt m index in
    let this : (here ≡ true → is_same_name name entered ≡ true → (entered_at before index name ≡ None)
    × (offset ≡ min size_cap
    (offset_after (unwrap_or (option_or (attributes_found before name) (Some attributes)) 0)
    (sizes_of (modules_before before index) name)))) =
    λ h t. let P : ℕ → ℕ × ℕ → Type 0 = λ i k. (entered_at before i k ≡ None)
    × (offset ≡ min size_cap (offset_after (unwrap_or (option_or (attributes_found before k) (Some attributes)) 0)
    (sizes_of (modules_before before i) k))) in
    subst (λ i. P i name) (here_is m index h) (subst (λ k. P m k) (sym (same_name_equal name entered t))
    (this_offset before entered attributes offset n o)) in
    ap (λ b. cond (b && is_same_name name entered) (Some offset) (contribution_of before index name)) (turned_test m index)
    ∙ one_more here later (is_same_name name entered) (entered_at before index name) (attributes_found before name)
    (sizes_of (modules_before before index) name)
    offset attributes size (here_once m index) (enters_reported before index name) (beyond_none before index name) this
    ∙ (λ j. contribution_from (option_or (entered_at before index name) (sym (reported_is here name entered size) j))
    (option_or (attributes_found before name) (cond (is_same_name name entered) (Some attributes) None))
    (sizes_of (modules_before before index) name ++ sym (sizes_are later name entered size) j))
    ∙ sym (contribution_more before part index name _ _ _ (reported_one here part ((entered, size) ∷ []) s)
    (reported_one later part ((entered, size) ∷ []) s) a)
