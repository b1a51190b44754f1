-- Contributions to relocatable sections begin at even distances from the bottom, so the bottom and an offset in one decide whether
-- its address is even.
use Rattle.std.proofs.Common.{◌≡◌, ℕ, ◌+◌, ◌%◌, max, sum, sum_by, nat_eq, Bool, true, false, ◌&&◌, not, if◌then◌else◌, List, [], ◌∷◌, map, is_some, Option, Some, None, refl, sym, ap, subst, arith}
use Rattle.std.proofs.lemmas.List.Sums.{sum_by-cons}
use Rattle.m11_link_modules.specs.Parts.{Part}
use Rattle.m11_link_modules.specs.Positions.{section_names}
use Rattle.m11_link_layout.specs.Tables.{is_even_after}
use Rattle.m11_link_layout.specs.Modules.{modules_before}
use Rattle.m11_link_layout.specs.Sections.{base_entered, contribution_base, first_attributes, greatest, is_overlaid, is_relocatable, module_base, names_before, room_of, rounded, section_base, section_size, sizes_of}
use Rattle.m11_link_layout.specs.Transfers.{is_even, transfer_value}
use Rattle.m11_link_layout.specs.declared.definition.Transfer.{Transfer}
use Rattle.m11_link_layout.proofs.Offsets.{entered_at}

abbrev Even : ℕ → Type 0
Even n = n % 2 ≡ 0

even_rounded : (n : ℕ) → Even (rounded n)
even_rounded n = omega arith

even_sum : (a b : ℕ) → Even a → Even b → Even (a + b)
even_sum a b e f = omega arith

even_max : (a b : ℕ) → Even a → Even b → Even (max a b)
even_max a b e f = omega arith

sum_even : (sizes : List ℕ) → Even (sum (map rounded sizes))
sum_even [] = refl
sum_even (size ∷ sizes) =
    subst Even (sym (sum_by-cons (λ n. n) (rounded size) (map rounded sizes)))
    (even_sum (rounded size) (sum (map rounded sizes)) (even_rounded size) (sum_even sizes))

greatest_even : (sizes : List ℕ) → Even (greatest (map rounded sizes))
greatest_even [] = refl
greatest_even (size ∷ sizes) =
    even_max (rounded size) (greatest (map rounded sizes)) (even_rounded size) (greatest_even sizes)

-- ---- rooms and offsets

room_by : (relocatable overlaid : Bool) (sizes : List ℕ)
    → Even (if relocatable then (if relocatable then
    (if overlaid then greatest (map rounded sizes) else sum (map rounded sizes)) else greatest sizes) else 0)
room_by true true sizes = greatest_even sizes
room_by true false sizes = sum_even sizes
room_by false overlaid sizes = refl

room_even : (parts : List Part) (name : ℕ × ℕ) → Even (room_of parts name)
unfolding section_size
room_even parts name =
    room_by (is_relocatable (first_attributes parts name)) (is_overlaid (first_attributes parts name))
    (sizes_of parts name)

rooms_even : (parts : List Part) (names : List (ℕ × ℕ)) → Even (sum_by (room_of parts) names)
rooms_even parts [] = refl
rooms_even parts (name ∷ names) =
    subst Even (sym (sum_by-cons (room_of parts) name names))
    (even_sum (room_of parts name) (sum_by (room_of parts) names) (room_even parts name) (rooms_even parts names))

offset_by : (b : Bool) (sizes : List ℕ) → Even (if b then sum (map rounded sizes) else 0)
offset_by true sizes = sum_even sizes
offset_by false sizes = refl

-- ---- addresses

-- whether a module's contribution to a section is relocated
abbrev pub relocated_at : List Part → ℕ → ℕ × ℕ → Bool
relocated_at parts index name = is_some (entered_at parts index name) && is_relocatable (first_attributes parts name)

even_far : (bottom rooms offset value : ℕ) → Even rooms → Even offset
    → ((bottom + rooms + offset) % 65536 + value) % 65536 % 2 ≡ (bottom + value) % 2
even_far bottom rooms offset value e f = omega arith

even_near : (value : ℕ) → ((0 + 0) % 65536 + value) % 65536 % 2 ≡ value % 2
even_near value = omega arith

even_none : (value : ℕ) → (0 % 65536 + value) % 65536 % 2 ≡ value % 2
even_none value = omega arith

even_by : (entered : Option ℕ) (relocatable overlaid : Bool) (bottom rooms value : ℕ) (sizes : List ℕ) → Even rooms
    → is_even ((base_entered entered ((if relocatable then bottom + rooms else 0)
    + (if relocatable && not overlaid then sum (map rounded sizes) else 0)) % 65536 + value) % 65536)
    ≡ is_even_after (is_some entered && relocatable) bottom value
even_by None relocatable overlaid bottom rooms value sizes e = ap (λ n. nat_eq n 0) (even_none value)
even_by (Some size) true overlaid bottom rooms value sizes e =
    ap (λ n. nat_eq n 0) (even_far bottom rooms (if not overlaid then sum (map rounded sizes) else 0) value e
    (offset_by (not overlaid) sizes))
even_by (Some size) false overlaid bottom rooms value sizes e = ap (λ n. nat_eq n 0) (even_near value)

pub even_is : (bottom : ℕ) (parts : List Part) (transfer : Transfer)
    → is_even (transfer_value bottom parts transfer)
    ≡ is_even_after (relocated_at parts transfer.module_index transfer.section) bottom transfer.value
unfolding module_base contribution_base section_base
even_is bottom parts transfer =
    even_by (entered_at parts transfer.module_index transfer.section)
    (is_relocatable (first_attributes parts transfer.section))
    (is_overlaid (first_attributes parts transfer.section)) bottom
    (sum_by (room_of parts) (names_before transfer.section (section_names parts))) transfer.value
    (sizes_of (modules_before parts transfer.module_index) transfer.section)
    (rooms_even parts (names_before transfer.section (section_names parts)))
