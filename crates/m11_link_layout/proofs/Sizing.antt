-- The totals of sections: the attributes of the first entry, and the size that all contributions yield.
use Rattle.std.proofs.Common.{◌≡◌, ℕ, ◌+◌, max, min, sum, Bool, true, false, cond, ◌&&◌, not, if◌then◌else◌, List, [], ◌∷◌, ◌++◌, map, append-nil, Option, Some, None, refl, sym, ap, ◌∙◌, subst, arith}
use Rattle.std.specs.Int.RustNames.{bit_and}
use Rattle.std.specs.List.{cons_option, filter_map}
use Rattle.std.specs.Map.{lookup}
use Rattle.std.specs.Option.{option_or}
use Rattle.std.proofs.lemmas.List.{map-append}
use Rattle.std.proofs.lemmas.List.Elements.{filter_map-append}
use Rattle.std.proofs.lemmas.List.Sums.{sum_by_push}
use Rattle.m11_base.specs.Rad50.{is_same_name}
use Rattle.m11_base.proofs.SameNames.{same_name_equal}
use Rattle.m11_obj.specs.declared.gsd.GsdEntry.{GsdEntry}
use Rattle.m11_obj.specs.declared.gsd.GsdKind.{GsdKind}
use Rattle.m11_obj.specs.declared.gsd.GsdKind.TheVariants.{ModuleName, ControlSection, InternalSymbol, TransferAddress, GlobalSymbol, ProgramSection, Identification}
use Rattle.m11_link_modules.specs.Parts.{Part, Directory, Entry, EndOfDirectory, Text, Relocations, Relocated, EndOfModule, EndOfFile}
use Rattle.m11_link_modules.specs.Positions.{section_by, section_in, section_names, sections_in}
use Rattle.m11_link_layout.specs.Tables.{size_cap, total_after}
use Rattle.m11_link_layout.specs.Sections.{attributes_by, attributes_in, first_attributes, flags_of, greatest, is_overlaid, is_relocatable, attribute_bits, control_attributes, rounded, section_size, size_under, sizes_of, total}
use Rattle.m11_link_layout.specs.declared.definition.Total.{Total}
use Rattle.m11_link_layout.proofs.Finding.{lookup_append}

-- ---- one more size

greatest_more : (sizes : List ℕ) (size : ℕ) → greatest (sizes ++ size ∷ []) ≡ max (greatest sizes) size
greatest_more [] size = omega arith
greatest_more (first ∷ sizes) size =
    let e = greatest_more sizes size in
    let g : max first (max (greatest sizes) size) ≡ max (max first (greatest sizes)) size = omega arith in
    ap (λ n. max first n) e ∙ g

rounded_more : (sizes : List ℕ) (size : ℕ) → map rounded (sizes ++ size ∷ []) ≡ map rounded sizes ++ rounded size ∷ []
rounded_more sizes size = map-append rounded sizes (size ∷ [])

greatest_rounded : (sizes : List ℕ) (size : ℕ) → greatest (map rounded (sizes ++ size ∷ []))
    ≡ max (greatest (map rounded sizes)) (rounded size)
greatest_rounded sizes size = ap greatest (rounded_more sizes size) ∙ greatest_more (map rounded sizes) (rounded size)

sum_rounded : (sizes : List ℕ) (size : ℕ) → sum (map rounded (sizes ++ size ∷ []))
    ≡ sum (map rounded sizes) + rounded size
sum_rounded sizes size = ap sum (rounded_more sizes size) ∙ sum_by_push (λ n. n) (map rounded sizes) (rounded size)

abbrev total_by : Bool → Bool → List ℕ → ℕ
total_by relocatable overlaid sizes =
    if relocatable then (if overlaid then greatest (map rounded sizes) else sum (map rounded sizes)) else greatest sizes

abbrev joined_by : Bool → Bool → ℕ → ℕ → ℕ
joined_by relocatable overlaid before size = min size_cap
    (if relocatable && not overlaid then min size_cap before
    + (if relocatable then rounded size else size) else max before (if relocatable then rounded size else size))

capped_sum : (a b : ℕ) → min 65536 (a + b) ≡ min 65536 (min 65536 (min 65536 a) + b)
capped_sum a b = omega arith

capped_max : (a b : ℕ) → min 65536 (max a b) ≡ min 65536 (max (min 65536 a) b)
capped_max a b = omega arith

total_more : (relocatable overlaid : Bool) (sizes : List ℕ) (size : ℕ)
    → min size_cap (total_by relocatable overlaid (sizes ++ size ∷ []))
    ≡ joined_by relocatable overlaid (min size_cap (total_by relocatable overlaid sizes)) size
total_more true true sizes size =
    ap (λ n. min size_cap n) (greatest_rounded sizes size) ∙ capped_max (greatest (map rounded sizes)) (rounded size)
total_more true false sizes size =
    ap (λ n. min size_cap n) (sum_rounded sizes size) ∙ capped_sum (sum (map rounded sizes)) (rounded size)
total_more false overlaid sizes size =
    ap (λ n. min size_cap n) (greatest_more sizes size) ∙ capped_max (greatest sizes) size

max_zero : (n : ℕ) → max n 0 ≡ n
max_zero n = omega arith

zero_more : (n : ℕ) → 0 + n ≡ n
zero_more n = omega arith

total_one : (relocatable overlaid : Bool) (size : ℕ)
    → min size_cap (total_by relocatable overlaid (size ∷ []))
    ≡ min size_cap (if relocatable then rounded size else size)
total_one true true size = ap (λ n. min size_cap n) (max_zero (rounded size))
total_one true false size = ap (λ n. min size_cap n) (zero_more (rounded size))
total_one false overlaid size = ap (λ n. min size_cap n) (max_zero size)

-- ---- the total of a section in some parts

abbrev pub total_from : Option ℕ → List ℕ → Option Total
total_from None sizes = None
total_from (Some attributes) sizes =
    Some (record { attributes = flags_of attributes; size = min size_cap (total attributes sizes) })

-- the attributes of a section's first entry, if it has one
abbrev pub attributes_found : List Part → ℕ × ℕ → Option ℕ
attributes_found parts name = lookup (is_same_name name) (filter_map attributes_in parts)

abbrev pub total_of : List Part → ℕ × ℕ → Option Total
total_of parts name = total_from (attributes_found parts name) (sizes_of parts name)

-- the total of a section that is entered
abbrev pub total_in : List Part → ℕ × ℕ → Total
total_in parts name =
    record { attributes = flags_of (first_attributes parts name); size = min size_cap (section_size parts name) }

-- the totals of all sections, in the order of first entries
abbrev pub totals_in : List Part → List ((ℕ × ℕ) × Total)
totals_in parts = map (λ name. (name, total_in parts name)) (section_names parts)

sized : (attributes one other : ℕ) → one ≡ other
    → ◌≡◌ {A = Option Total} (Some (record { attributes = flags_of attributes; size = one }))
    (Some (record { attributes = flags_of attributes; size = other }))
sized attributes one other e = ap (λ n. Some (record { attributes = flags_of attributes; size = n })) e

-- the total after a further entry is the total so far with the entry's size joined
total_joined : (found : Option ℕ) (sizes : List ℕ) (attributes size : ℕ) → (found ≡ None → sizes ≡ [])
    → total_from (option_or found (Some attributes)) (sizes ++ size ∷ [])
    ≡ Some (total_after (total_from found sizes) attributes size)
total_joined None sizes attributes size h =
    let P : List ℕ → Type 0 = λ before. total_from (Some attributes) (before ++ size ∷ [])
    ≡ Some (total_after None attributes size) in
    subst P (sym (h refl)) (sized attributes _ _ (total_one (is_relocatable attributes) (is_overlaid attributes) size))
total_joined (Some first) sizes attributes size h =
    sized first _ _ (total_more (is_relocatable first) (is_overlaid first) sizes size)

-- a section without attributes has no sizes
none_sized : (b : Bool) (attributes size : ℕ) (reported : Option ℕ) (sizes : List ℕ) → (reported ≡ None → sizes ≡ [])
    → cond b (Some attributes) reported ≡ None → cons_option (if b then Some size else None) sizes ≡ []
none_sized true attributes size reported sizes h e = search
none_sized false attributes size reported sizes h e = h e

entry_no_sizes : (kind : GsdKind) (entry : GsdEntry) (name : ℕ × ℕ) (reported sizes : List ((ℕ × ℕ) × ℕ))
    → (lookup (is_same_name name) reported ≡ None → filter_map (size_under name) sizes ≡ [])
    → lookup (is_same_name name) (cons_option (attributes_by kind entry) reported) ≡ None
    → filter_map (size_under name) (cons_option (section_by kind entry) sizes) ≡ []
entry_no_sizes ControlSection entry name reported sizes h e =
    none_sized (is_same_name name entry.name) (control_attributes entry.name) entry.value (lookup (is_same_name name) reported)
    (filter_map (size_under name) sizes) h e
entry_no_sizes ProgramSection entry name reported sizes h e =
    none_sized (is_same_name name entry.name) (bit_and entry.flags attribute_bits) entry.value
    (lookup (is_same_name name) reported) (filter_map (size_under name) sizes) h e
entry_no_sizes ModuleName entry name reported sizes h e = h e
entry_no_sizes InternalSymbol entry name reported sizes h e = h e
entry_no_sizes TransferAddress entry name reported sizes h e = h e
entry_no_sizes GlobalSymbol entry name reported sizes h e = h e
entry_no_sizes Identification entry name reported sizes h e = h e

pub no_sizes : (parts : List Part) (name : ℕ × ℕ) → attributes_found parts name ≡ None → sizes_of parts name ≡ []
unfolding sizes_of sections_in
no_sizes [] name e = refl
no_sizes (Directory ∷ parts) name e = no_sizes parts name e
no_sizes (Entry entry ∷ parts) name e =
    entry_no_sizes entry.kind entry name (filter_map attributes_in parts) (filter_map section_in parts)
    (no_sizes parts name) e
no_sizes (EndOfDirectory ∷ parts) name e = no_sizes parts name e
no_sizes (Text address bytes ∷ parts) name e = no_sizes parts name e
no_sizes (Relocations ∷ parts) name e = no_sizes parts name e
no_sizes (Relocated relocation ∷ parts) name e = no_sizes parts name e
no_sizes (EndOfModule ∷ parts) name e = no_sizes parts name e
no_sizes (EndOfFile ∷ parts) name e = no_sizes parts name e

-- ---- after one more part

pub attributes_more : (before : List Part) (part : Part) (name : ℕ × ℕ)
    → attributes_found (before ++ part ∷ []) name ≡ option_or (attributes_found before name)
    (lookup (is_same_name name) (filter_map attributes_in (part ∷ [])))
attributes_more before part name =
    ap (λ reported. lookup (is_same_name name) reported) (filter_map-append attributes_in before (part ∷ []))
    ∙ lookup_append (is_same_name name) (filter_map attributes_in before) (filter_map attributes_in (part ∷ []))

pub sizes_more : (before : List Part) (part : Part) (name : ℕ × ℕ)
    → sizes_of (before ++ part ∷ []) name ≡ sizes_of before name ++ filter_map (size_under name)
    (filter_map section_in (part ∷ []))
unfolding sizes_of sections_in
sizes_more before part name =
    ap (λ entered. filter_map (size_under name) entered) (filter_map-append section_in before (part ∷ []))
    ∙ filter_map-append (size_under name) (filter_map section_in before) (filter_map section_in (part ∷ []))

both_more : (found found' : Option ℕ) (sizes sizes' : List ℕ) → found ≡ found' → sizes ≡ sizes'
    → total_from found sizes ≡ total_from found' sizes'
both_more found found' sizes sizes' e f = λ j. total_from (e j) (f j)

pub or_none : {X : Type 0} (found : Option X) → option_or found None ≡ found
or_none None = refl
or_none (Some x) = refl

-- a part that enters no section changes no total
pub total_kept : (before : List Part) (part : Part) (name : ℕ × ℕ) → filter_map attributes_in (part ∷ []) ≡ []
    → filter_map section_in (part ∷ []) ≡ [] → total_of (before ++ part ∷ []) name ≡ total_of before name
total_kept before part name e f =
    both_more _ _ _ _
    (attributes_more before part name
    ∙ ap (λ reported. option_or (attributes_found before name) (lookup (is_same_name name) reported)) e
    ∙ or_none (attributes_found before name))
    (sizes_more before part name ∙ ap (λ entered. sizes_of before name ++ filter_map (size_under name) entered) f
    ∙ append-nil (sizes_of before name))

-- a part that enters a section changes only the total of this section
entered_by : (b : Bool) (before : List Part) (name entered : ℕ × ℕ) (attributes size : ℕ) → is_same_name name entered ≡ b
    → total_from (option_or (attributes_found before name) (cond b (Some attributes) None))
    (sizes_of before name ++ cons_option (if b then Some size else None) [])
    ≡ cond b (Some (total_after (total_of before entered) attributes size)) (total_of before name)
entered_by true before name entered attributes size e =
    let P : ℕ × ℕ → Type 0 = λ k. total_from (option_or (attributes_found before name) (Some attributes))
    (sizes_of before name ++ size ∷ [])
    ≡ Some (total_after (total_of before k) attributes size) in
    subst P (same_name_equal name entered e) (total_joined (attributes_found before name)
    (sizes_of before name) attributes size (no_sizes before name))
entered_by false before name entered attributes size e =
    both_more _ _ _ _ (or_none (attributes_found before name)) (append-nil (sizes_of before name))

pub total_entered : (before : List Part) (part : Part) (name entered : ℕ × ℕ) (attributes size : ℕ)
    → filter_map attributes_in (part ∷ []) ≡ (entered, attributes) ∷ []
    → filter_map section_in (part ∷ []) ≡ (entered, size) ∷ []
    → total_of (before ++ part ∷ []) name
    ≡ cond (is_same_name name entered) (Some (total_after (total_of before entered) attributes size)) (total_of before name)
total_entered before part name entered attributes size e f =
    both_more _ _ _ _
    (attributes_more before part name
    ∙ ap (λ reported. option_or (attributes_found before name) (lookup (is_same_name name) reported)) e)
    (sizes_more before part name ∙ ap (λ these. sizes_of before name ++ filter_map (size_under name) these) f)
    ∙ entered_by (is_same_name name entered) before name entered attributes size refl
