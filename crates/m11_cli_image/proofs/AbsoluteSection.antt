-- `. ABS.` is at 0, since it is the first section of each assembled source, and is ABS there.
use Rattle.std.proofs.Common.{◌≡◌, ℕ, ◌+◌, Bool, not, ◌&&◌, if◌then◌else◌, List, [], ◌∷◌, ◌++◌, map, sum, sum_by, take, Option, Some, None, refl, sym, ap, subst}
use Rattle.std.specs.List.{AllByRecursion, enumerate_from}
use Rattle.std.specs.Map.{lookup}
use Rattle.std.specs.Option.{unwrap_or}
use Rattle.m11_base.specs.Names.{absolute_name}
use Rattle.m11_base.specs.Rad50.{Name, is_same_name}
use Rattle.m11_base.proofs.SameNames.{same_name_itself}
use Rattle.m11_link_layout.specs.Sections.{base_entered, is_overlaid, is_relocatable, names_before, rounded}
use Rattle.m11_link_text.specs.Relocation.{modulo}
use Rattle.m11_asm_rules.specs.Sections.{of_absolute, section}
use Rattle.m11_asm_rules.specs.declared.sections.Section.{Section}
use Rattle.m11_cli_image.specs.Objects.{SourceFits}
use Rattle.m11_cli_image.specs.Sections.{all_sections, attributes_entered, attributes_of, contribution, names_of, own_section, room_of, size_entered, sizes_of, source_at}
use Rattle.m11_cli_image.specs.Sources.{Source}

first_found : (name : Name) (value : ℕ) (others : List (Name × ℕ))
    → unwrap_or (lookup (is_same_name name) ((name, value) ∷ others)) 0 ≡ value
first_found name value others =
    ap (λ (b : Bool). unwrap_or (if b then Some value else lookup (is_same_name name) others) 0) (same_name_itself name)

-- the first section of a source is `. ABS.`
abbrev pub BeginsAbsolute : Source → Type 0
BeginsAbsolute source = (others : List Section) × (source.facts.table.sections ≡ section absolute_name of_absolute ∷ others)

attributes_are : (source : Source) (sources : List Source) → BeginsAbsolute source
    → attributes_of (source ∷ sources) absolute_name ≡ 0o104
attributes_are source sources begins =
    let P : List Section → Type 0 = λ sections. unwrap_or (lookup (is_same_name absolute_name)
    (map attributes_entered (map (own_section source.facts) (enumerate_from 0 sections) ++ all_sections sources))) 0 ≡ 0o104 in
    subst P (sym begins.1) (first_found absolute_name 0o104 _)

at_zero : (entered : Option ℕ) (attributes before offset : ℕ) → attributes ≡ 0o104
    → modulo (base_entered entered ((if is_relocatable attributes then before else 0)
    + (if is_relocatable attributes && not (is_overlaid attributes) then offset else 0))) ≡ 0
at_zero None attributes before offset e = refl
at_zero (Some size) attributes before offset e =
    let P : ℕ → Type 0 = λ found. modulo ((if is_relocatable found then before else 0)
    + (if is_relocatable found && not (is_overlaid found) then offset else 0)) ≡ 0 in
    subst P (sym e) refl

pub first_at_zero : (bottom : ℕ) (source : Source) (sources : List Source) (index : ℕ) → BeginsAbsolute source
    → contribution bottom (source ∷ sources) index absolute_name ≡ 0
unfolding contribution
first_at_zero bottom source sources index begins =
    let all = source ∷ sources in
    at_zero (lookup (is_same_name absolute_name) (map size_entered (all_sections (source_at all index))))
    (attributes_of all absolute_name)
    (bottom + sum_by (room_of all) (names_before absolute_name (names_of all)))
    (sum (map rounded (sizes_of (take index all) absolute_name))) (attributes_are source sources begins)

pub lies_at_zero : (bottom : ℕ) (sources : List Source) (index : ℕ) → AllByRecursion SourceFits sources
    → contribution bottom sources index absolute_name ≡ 0
unfolding contribution
lies_at_zero bottom [] index fit = refl
lies_at_zero bottom (source ∷ sources) index fit = first_at_zero bottom source sources index (fit.0.others, fit.0.absolute)
