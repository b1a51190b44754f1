-- The names of a section's attributes, separated by commas, and how long they are.
use Rattle.std.proofs.Common.{◌≡◌, ◌+◌, ◌≤◌, ◌<◌, not, if◌then◌else◌, ℕ, Bool, true, false, List, [], ◌∷◌, ◌++◌, ◌∙◌, append-nil, length, slice_index_or, refl, sym, ap, subst, arith, lit≤}
use Rattle.std.proofs.lemmas.Bool.{false≢true}
use Rattle.std.proofs.lemmas.List.{length-append}
use Rattle.std.specs.List.{join_with_byte}
use Rattle.std.specs.Prelude.{codes}
use Rattle.m11_base.specs.Devices.{Bytes}
use Rattle.m11_obj.specs.Attributes.{attributes, has_attribute, names_among, overlaid_bit, relocatable_bit, shown_name}
use Rattle.m11_obj.specs.Gsd.{has_bits}
use Rattle.m11_obj.specs.declared.attributes.Attribute.{Attribute}
use Rattle.m11_obj_print.specs.Attributes.{attributes_text}

-- ---- a mark before the first name, and a comma before each of the others

abbrev pub comma : Bytes
comma = 44 ∷ []

abbrev pub marked : Bytes → List Bytes → Bytes
marked mark [] = []
marked mark (name ∷ names) = mark ++ (name ++ marked comma names)

after_first : (name : Bytes) (names : List Bytes) → name ++ marked comma names ≡ join_with_byte 44 (name ∷ names)
after_first name [] = append-nil name
after_first name (other ∷ names) = ap (λ (rest : Bytes). name ++ (44 ∷ rest)) (after_first other names)

pub joined : (names : List Bytes) → marked [] names ≡ join_with_byte 44 names
joined [] = refl
joined (name ∷ names) = after_first name names

-- ---- the length of names, each with a comma

abbrev widths : List Bytes → ℕ
widths [] = 0
widths (name ∷ names) = 1 + length name + widths names

after_commas : (names : List Bytes) → length (marked comma names) ≡ widths names
after_commas [] = refl
after_commas (name ∷ names) = omega (arith, length-append name (marked comma names), after_commas names)

without_first : (names : List Bytes) (most : ℕ) → widths names ≤ most + 1 → length (marked [] names) ≤ most
without_first [] most h = omega arith
without_first (name ∷ names) most h = omega (arith, h, length-append name (marked comma names), after_commas names)

-- ---- of two attributes that depend on the same bit, one is shown

one_of : (b : Bool) (clear set : Bytes) (width most : ℕ) (more : List Bytes) → length clear ≤ width → length set ≤ width
    → widths more ≤ most
    → widths (if not b then clear ∷ (if b then set ∷ more else more) else (if b then set ∷ more else more)) ≤ 1 + width + most
one_of true clear set width most more c s m = omega (arith, s, m)
one_of false clear set width most more c s m = omega (arith, c, m)

alone : (b : Bool) (name : Bytes) (width : ℕ) → length name ≤ width → widths (if b then name ∷ [] else []) ≤ 1 + width
alone true name width w = omega (arith, w)
alone false name width w = omega arith

narrow : (bits : ℕ) → widths (names_among attributes bits) ≤ 21
narrow bits =
    one_of (has_bits 0o020 bits) (codes "RW") (codes "RO") 2 18 _ (lit≤ tt) (lit≤ tt)
    (one_of (has_bits 0o200 bits) (codes "I") (codes "D") 1 16 _ (lit≤ tt) (lit≤ tt)
    (one_of (has_bits 0o100 bits) (codes "LCL") (codes "GBL") 3 12 _ (lit≤ tt) (lit≤ tt)
    (one_of (has_bits relocatable_bit bits) (codes "ABS") (codes "REL") 3 8 _ (lit≤ tt) (lit≤ tt)
    (one_of (has_bits overlaid_bit bits) (codes "CON") (codes "OVR") 3 4 _ (lit≤ tt) (lit≤ tt)
    (alone (has_bits 0o001 bits) (codes "SAV") 3 (lit≤ tt))))))

pub short : (bits : ℕ) → length (attributes_text bits) ≤ 20
short bits =
    let P : Bytes → Type 0 = λ text. length text ≤ 20 in
    subst P (joined (names_among attributes bits)) (without_first (names_among attributes bits) 20 (narrow bits))

pub no_longer : (before after text : Bytes) → after ≡ before ++ text → length text ≤ 20 → length after ≤ length before + 20
no_longer before after text is most = omega (arith, ap (λ (t : Bytes). length t) is, length-append before text, most)

-- ---- before the first name

pub at_first : (before : Bytes) (rows : List Attribute) (bits : ℕ) → rows ≡ attributes
    → before ++ marked [] (names_among rows bits) ≡ before ++ attributes_text bits
at_first before rows bits are =
    ap (λ (list : List Attribute). before ++ marked [] (names_among list bits)) are
    ∙ ap (λ (text : Bytes). before ++ text) (joined (names_among attributes bits))

-- ---- there is room for a name and its mark

whole : (first before text all : Bytes) → before ++ text ≡ first ++ all → length first ≤ 155 → length all ≤ 20
    → length before + length text ≤ 175
whole first before text all is h most =
    omega (arith, h, most, length-append before text, ap (λ (t : Bytes). length t) is, length-append first all)

fits_by : (b : Bool) (before mark name : Bytes) (more : List Bytes) → b ≡ true
    → length before + length (marked mark (if b then name ∷ more else more)) ≤ 175
    → length before + length mark + length name ≤ 175
fits_by true before mark name more e h =
    omega (arith, h, length-append mark (name ++ marked comma more), length-append name (marked comma more))
fits_by false before mark name more e h = absurd (false≢true e)

pub fits : (first before mark : Bytes) (row : Attribute) (rows : List Attribute) (bits : ℕ) → has_attribute bits row ≡ true
    → before ++ marked mark (names_among (row ∷ rows) bits) ≡ first ++ attributes_text bits → length first ≤ 155
    → length before + length mark + length (shown_name row.name) ≤ 175
fits first before mark row rows bits has is h =
    fits_by (has_attribute bits row) before mark (shown_name row.name) (names_among rows bits) has
    (whole first before (marked mark (names_among (row ∷ rows) bits)) (attributes_text bits) is h (short bits))

pub fits_first : (first before mark : Bytes) (rest : List Attribute) (none : Attribute) (bits : ℕ) → 1 ≤ length rest
    → has_attribute bits (slice_index_or rest 0 none) ≡ true
    → before ++ marked mark (names_among rest bits) ≡ first ++ attributes_text bits → length first ≤ 155
    → length before + length mark + length (shown_name (slice_index_or rest 0 none).name) ≤ 175
fits_first first before mark [] none bits l has is h = absurd (omega arith)
fits_first first before mark (row ∷ rows) none bits l has is h = fits first before mark row rows bits has is h

-- ---- no attribute remains

pub at_last : (first before mark : Bytes) (rest : List Attribute) (bits : ℕ) → length rest < 1
    → before ++ marked mark (names_among rest bits) ≡ first ++ attributes_text bits → length before ≤ length first + 20
at_last first before mark [] bits l is =
    no_longer first before (attributes_text bits) (sym (append-nil before) ∙ is) (short bits)
at_last first before mark (row ∷ rows) bits l is = absurd (omega arith)
