-- Sections one after another, and the sizes that modules enter. (MACRO-11 Language Reference Manual, ".PSECT directive": REL. This
-- project's own: sections are in the order of their first entries, without gaps.)
use Rattle.std.specs.Prelude.{ℕ, ◌+◌, Bool, List, [], ◌∷◌, Option}
use Rattle.std.specs.List.{filter}
use Rattle.std.specs.Map.{lookup}
use Rattle.m11_base.specs.Rad50.{Name, is_same_name}
use Rattle.m11_link_modules.specs.Parts.{Part}
use Rattle.m11_link_modules.specs.Positions.{section_names, sections_in}
use Rattle.m11_link_layout.specs.Modules.{module_at}
use Rattle.m11_link_layout.specs.Sections.{first_attributes, is_relocatable, section_base, section_size}

-- `size` consecutive addresses, the first of which is the base
pub record Span : Type 0 where
  pub base : ℕ
  pub size : ℕ

-- each span begins where the one before it ends, the first one at the bottom, and the last one ends at the top; without spans, the top is
-- the bottom
pub data LieInOrder : ℕ → List Span → ℕ → Type 0 where
  Nothing : {bottom : ℕ} → LieInOrder bottom [] bottom
  Section : {base size top : ℕ} {spans : List Span} → LieInOrder (base + size) spans top
      → LieInOrder base (record { base = base; size = size } ∷ spans) top

abbrev pub lies_from_bottom : List Part → Name → Bool
lies_from_bottom parts name = is_relocatable (first_attributes parts name)

-- the names of relocatable sections, in the order of their first entries
unfoldable pub relocatable_names : List Part → List Name
relocatable_names parts = filter (lies_from_bottom parts) (section_names parts)

-- the span of a section: its base and its size in bytes
abbrev pub span_of : ℕ → List Part → Name → Span
span_of bottom parts name = record { base = section_base bottom parts name; size = section_size parts name }

-- the size in bytes of a section in the module with this index, if the module has an entry for it
abbrev pub size_entered : List Part → ℕ → Name → Option ℕ
size_entered parts index name = lookup (is_same_name name) (sections_in (module_at parts index))
