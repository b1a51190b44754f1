-- If sources agree, the sections that one of them calls ABS are at 0 in the program.
use Rattle.std.proofs.Common.{◌≡◌, ◌∙◌, ℕ, zero, suc, ◌+◌, ◌==◌, Bool, true, false, not, ◌&&◌, if◌then◌else◌, List, [], ◌∷◌, ◌++◌, map, sum, sum_by, take, Option, Some, None, refl, sym, ap, subst, true≢false, arith}
use Rattle.std.proofs.lemmas.Bool.Decides.{nat_tests}
use Rattle.std.specs.Prelude.{bit_and}
use Rattle.std.specs.List.{AllByRecursion, enumerate_from}
use Rattle.std.specs.Map.{lookup}
use Rattle.std.proofs.lemmas.Nat.{and_assoc}
use Rattle.m11_base.specs.Names.{blank_name}
use Rattle.m11_base.specs.Rad50.{Name, is_same_name}
use Rattle.m11_asm_directory.specs.FirstPass.{DirectoryFacts}
use Rattle.m11_link_layout.specs.Sections as layout
use Rattle.m11_link_layout.specs.Sections.{base_entered, is_overlaid, names_before, rounded}
use Rattle.m11_link_text.specs.Relocation.{modulo}
use Rattle.m11_asm_rules.specs.Sections.{is_relocatable, numbered, of_program, section}
use Rattle.m11_asm_rules.specs.declared.sections.Section.{Section}
use Rattle.m11_cli_image.specs.Addresses.{Addresses}
use Rattle.m11_cli_image.specs.Image.{addresses_of}
use Rattle.m11_cli_image.specs.Sections.{all_sections, attributes_of, contribution, names_of, own_section, room_of, sections_of, size_entered, sizes_of, source_at}
use Rattle.m11_cli_image.specs.Sources.{Source}
use Rattle.m11_cli_image.specs.Agreement.{StaysAbsolute}

-- ---- ABS sections are at 0

abbrev pub LiesAtZero : Addresses → ℕ → Section → Type 0
LiesAtZero program source known = is_relocatable known ≡ false → program.base source known.name ≡ 0

abbrev pub LieAtZero : Addresses → ℕ → List Section → Type 0
LieAtZero program source sections = AllByRecursion (LiesAtZero program source) sections

blank_moves : (program : Addresses) (source : ℕ) → LiesAtZero program source (section blank_name of_program)
blank_moves program source e = absurd (true≢false e)

pub one_of : (program : Addresses) (source number : ℕ) (sections : List Section) → LieAtZero program source sections
    → LiesAtZero program source (numbered number sections)
one_of program source number [] all = blank_moves program source
one_of program source zero (known ∷ sections) all = all.0
one_of program source (suc number) (known ∷ sections) all = one_of program source number sections all.1

-- ---- agreement

at_zero : (entered : Option ℕ) (moves : Bool) (attributes before offset : ℕ) → layout.is_relocatable attributes ≡ moves → moves ≡ false
    → modulo (base_entered entered ((if layout.is_relocatable attributes then before else 0)
    + (if layout.is_relocatable attributes && not (is_overlaid attributes) then offset else 0))) ≡ 0
at_zero None moves attributes before offset e f = refl
at_zero (Some size) true attributes before offset e f = absurd (true≢false f)
at_zero (Some size) false attributes before offset e f =
    let P : Bool → Type 0 = λ found. modulo ((if found then before else 0) + (if found && not (is_overlaid attributes) then offset else 0)) ≡ 0 in
    subst P (sym e) refl

pub contributes_at_zero : (bottom : ℕ) (sources : List Source) (index : ℕ) (name : Name)
    → layout.is_relocatable (attributes_of sources name) ≡ false → contribution bottom sources index name ≡ 0
unfolding contribution
contributes_at_zero bottom sources index name stays =
    at_zero (lookup (is_same_name name) (map size_entered (all_sections (source_at sources index)))) false
    (attributes_of sources name) (bottom + sum_by (room_of sources) (names_before name (names_of sources)))
    (sum (map rounded (sizes_of (take index sources) name))) stays refl

-- the bit of REL is among the attributes that a linker stores
bit_kept : (attributes : ℕ) → bit_and (bit_and attributes 0o365) 0o040 ≡ bit_and attributes 0o040
bit_kept attributes = and_assoc 0o040 attributes 0o365

no_bit : (bits : ℕ) (none : Bool) → (bits == 0) ≡ none → not none ≡ false → (bits == 0o40) ≡ false
no_bit bits true e f = grind (arith, nat_tests)
no_bit bits false e f = absurd (true≢false f)

stays_clear : (attributes : ℕ) → not (bit_and attributes 0o040 == 0) ≡ false → layout.is_relocatable (bit_and attributes 0o365) ≡ false
stays_clear attributes e =
    ap (λ (bits : ℕ). bits == 0o40) (bit_kept attributes) ∙ no_bit (bit_and attributes 0o040) (bit_and attributes 0o040 == 0) refl e

module _ (bottom : ℕ) (sources : List Source) where
  zero_here : (index : ℕ) (facts : DirectoryFacts) (number : ℕ) (known : Section) → StaysAbsolute sources (own_section facts (number, known))
      → LiesAtZero (addresses_of bottom sources) index known
  unfolding addresses_of
  zero_here index facts number known stays moved =
      contributes_at_zero bottom sources index known.name (stays (stays_clear known.attributes moved))

  zeros_here : (index : ℕ) (facts : DirectoryFacts) (number : ℕ) (sections : List Section)
      → AllByRecursion (StaysAbsolute sources) (map (own_section facts) (enumerate_from number sections))
      → LieAtZero (addresses_of bottom sources) index sections
  zeros_here index facts number [] stay = tt
  zeros_here index facts number (known ∷ sections) stay =
      (zero_here index facts number known stay.0, zeros_here index facts (number + 1) sections stay.1)

  front_of : {X : Type 0} (P : X → Type 0) (xs ys : List X) → AllByRecursion P (xs ++ ys) → AllByRecursion P xs × AllByRecursion P ys
  front_of P [] ys all = (tt, all)
  front_of P (x ∷ xs) ys all = let more = front_of P xs ys all.1 in ((all.0, more.0), more.1)

  -- the sections of each source that it calls ABS are at 0; the first source has this index
  abbrev pub AllAtZero : ℕ → List Source → Type 0
  AllAtZero index [] = Unit {0}
  AllAtZero index (source ∷ others) =
      LieAtZero (addresses_of bottom sources) index source.facts.table.sections × AllAtZero (index + 1) others

  pub all_at_zero : (index : ℕ) (others : List Source) → AllByRecursion (StaysAbsolute sources) (all_sections others)
      → AllAtZero index others
  all_at_zero index [] stay = tt
  all_at_zero index (source ∷ others) stay =
      let both = front_of (StaysAbsolute sources) (sections_of source) (all_sections others) stay in
      (zeros_here index source.facts 0 source.facts.table.sections both.0, all_at_zero (index + 1) others both.1)
