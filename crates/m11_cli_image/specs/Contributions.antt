-- The sizes of sections, by the contributions of sources to them. (MACRO-11 Language Reference Manual, ".PSECT directive": CON and OVR, REL
-- and ABS. This project's own: a contribution to a relocatable section takes up whole words.)
use Rattle.std.specs.Prelude.{◌≡◌, ◌≤◌, ℕ, ◌+◌, ◌*◌, ◌/◌, sum_by, true, false, List, map}
use Rattle.std.specs.List.{AllByRecursion}
use Rattle.m11_base.specs.Rad50.{Name}
use Rattle.m11_link_layout.specs.Sections.{is_overlaid, is_relocatable, section_size}
use Rattle.m11_cli_image.specs.Objects.{link_parts}
use Rattle.m11_cli_image.specs.Sections.{attributes_of, size_of, sizes_of}
use Rattle.m11_cli_image.specs.Sources.{Source}

-- the bytes of all words that a contribution of this size takes up
abbrev pub in_words : ℕ → ℕ
in_words size = 2 * ((size + 1) / 2)

-- no size is greater than this one, and it is the smallest such number
pub record IsGreatest (sizes : List ℕ) (greatest : ℕ) : Type 0 where
  pub holds : AllByRecursion (λ size. size ≤ greatest) sizes
  pub least : (most : ℕ) → AllByRecursion (λ size. size ≤ most) sizes → greatest ≤ most

-- a concatenated section is as large as all contributions together, in whole words; an overlaid one as the greatest, in whole words; and an
-- absolute one as the greatest; a link of the sources' objects gives the section this size
pub record HasContributions (sources : List Source) (name : Name) : Type 0 where
  pub concatenated : is_relocatable (attributes_of sources name) ≡ true → is_overlaid (attributes_of sources name) ≡ false
      → size_of sources name ≡ sum_by in_words (sizes_of sources name)
  pub overlaid : is_relocatable (attributes_of sources name) ≡ true → is_overlaid (attributes_of sources name) ≡ true
      → IsGreatest (map in_words (sizes_of sources name)) (size_of sources name)
  pub absolute : is_relocatable (attributes_of sources name) ≡ false → IsGreatest (sizes_of sources name) (size_of sources name)
  pub layout : section_size (link_parts sources) name ≡ size_of sources name
