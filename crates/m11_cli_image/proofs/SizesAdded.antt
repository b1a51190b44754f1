-- The sizes of sections follow from the contributions of sources to them.
use Rattle.std.proofs.Common.{◌≡◌, ◌∙◌, ℕ, ◌≤◌, max, Bool, true, false, if◌then◌else◌, List, [], ◌∷◌, map, sum, sum_by, refl, sym, ap₂, subst, arith}
use Rattle.std.proofs.lemmas.List.Sums.{sum_by-cons}
use Rattle.std.specs.List.{AllByRecursion}
use Rattle.m11_base.specs.Rad50.{Name}
use Rattle.m11_link_layout.specs.Sections.{greatest, is_overlaid, is_relocatable, rounded}
use Rattle.m11_cli_image.specs.Contributions.{HasContributions, IsGreatest, in_words}
use Rattle.m11_cli_image.specs.Sections.{attributes_of, sizes_of}
use Rattle.m11_cli_image.specs.Sources.{Source}
use Rattle.m11_cli_image.proofs.LinkedLocations.{size_same}

same_words : (size : ℕ) → rounded size ≡ in_words size
same_words size = omega arith

all_words : (sizes : List ℕ) → map rounded sizes ≡ map in_words sizes
all_words [] = refl
all_words (size ∷ sizes) = ap₂ (λ (one : ℕ) (more : List ℕ). one ∷ more) (same_words size) (all_words sizes)

sum_words : (sizes : List ℕ) → sum (map rounded sizes) ≡ sum_by in_words sizes
sum_words [] = refl
sum_words (size ∷ sizes) =
    let first = sum_by-cons (λ n. n) (rounded size) (map rounded sizes) in
    let second = sum_by-cons in_words size sizes in
    let one = same_words size in
    let rest = sum_words sizes in
    first ∙ omega (arith, one, rest) ∙ sym second

-- ---- the greatest

still_hold : (most more : ℕ) (sizes : List ℕ) → most ≤ more → AllByRecursion (λ size. size ≤ most) sizes
    → AllByRecursion (λ size. size ≤ more) sizes
still_hold most more [] le h = tt
still_hold most more (size ∷ sizes) le h = (at_most h.0, still_hold most more sizes le h.1)
  where
    at_most : size ≤ most → size ≤ more
    at_most small = omega (arith, small, le)

greatest_holds : (sizes : List ℕ) → AllByRecursion (λ size. size ≤ greatest sizes) sizes
greatest_holds [] = tt
greatest_holds (size ∷ sizes) =
    (omega arith, still_hold (greatest sizes) (max size (greatest sizes)) sizes (omega arith) (greatest_holds sizes))

greatest_least : (sizes : List ℕ) (most : ℕ) → AllByRecursion (λ size. size ≤ most) sizes → greatest sizes ≤ most
greatest_least [] most h = omega arith
greatest_least (size ∷ sizes) most h =
    let first = h.0 in
    let rest = greatest_least sizes most h.1 in
    omega (arith, first, rest)

is_greatest : (sizes : List ℕ) → IsGreatest sizes (greatest sizes)
is_greatest sizes = record { holds = greatest_holds sizes; least = greatest_least sizes }

-- ---- sections

abbrev of_kind : Bool → Bool → List ℕ → ℕ
of_kind relocatable overlaid sizes =
    if relocatable then (if overlaid then greatest (map rounded sizes) else sum (map rounded sizes)) else greatest sizes

one_after : (relocatable overlaid : Bool) (sizes : List ℕ) → relocatable ≡ true → overlaid ≡ false
    → of_kind relocatable overlaid sizes ≡ sum_by in_words sizes
one_after true false sizes e f = sum_words sizes
one_after true true sizes e f = absurd cc
one_after false overlaid sizes e f = absurd cc

one_over : (relocatable overlaid : Bool) (sizes : List ℕ) → relocatable ≡ true → overlaid ≡ true
    → IsGreatest (map in_words sizes) (of_kind relocatable overlaid sizes)
one_over true true sizes e f =
    subst (λ (words : List ℕ). IsGreatest words (greatest (map rounded sizes))) (all_words sizes) (is_greatest (map rounded sizes))
one_over true false sizes e f = absurd cc
one_over false overlaid sizes e f = absurd cc

alone : (relocatable overlaid : Bool) (sizes : List ℕ) → relocatable ≡ false → IsGreatest sizes (of_kind relocatable overlaid sizes)
alone false overlaid sizes e = is_greatest sizes
alone true overlaid sizes e = absurd cc

pub has_contributions : (sources : List Source) (name : Name) → HasContributions sources name
has_contributions sources name =
    let attributes = attributes_of sources name in
    let sizes = sizes_of sources name in
    record {
      concatenated = one_after (is_relocatable attributes) (is_overlaid attributes) sizes;
      overlaid = one_over (is_relocatable attributes) (is_overlaid attributes) sizes;
      absolute = alone (is_relocatable attributes) (is_overlaid attributes) sizes;
      layout = size_same sources name;
    }
