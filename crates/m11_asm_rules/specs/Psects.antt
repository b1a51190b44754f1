-- `.ASECT`, `.CSECT` and `.PSECT`. (MACRO-11 Language Reference Manual, "Program section directives". This project's own: a bad name
-- doesn't change the section; and a different attribute for a known section is flagged and ignored.)
use Rattle.std.specs.Prelude.{ℕ, not, if◌then◌else◌, List, [], ◌∷◌, Option, Some, None, is_none, option_map, fold}
use Rattle.std.specs.List.{flat_map, list_any}
use Rattle.std.specs.Option.{option_to_list}
use Rattle.std.specs.Int.RustNames.{bit_or}
use Rattle.m11_scan_expressions.specs.LeftOvers.{left_over}
use Rattle.m11_unfold_rules.specs.Headers.{name_at}
use Rattle.m11_base.specs.Devices.{Bytes}
use Rattle.m11_base.specs.Names.{absolute_name, blank_name}
use Rattle.m11_base.specs.Rad50.{Name}
use Rattle.m11_scan.specs.Cutting.{tokens_from}
use Rattle.m11_scan.specs.ErrorFlags.{flag_A, flag_if}
use Rattle.m11_scan_statements.specs.Listed.{is_comma}
use Rattle.m11_obj.specs.Attributes.{attribute_named, has_attribute, with_attribute}
use Rattle.m11_obj.specs.declared.attributes.Attribute.{Attribute}
use Rattle.m11_unfold_rules.specs.Immediate.{column_after_comma}
use Rattle.m11_scan_statements.specs.declared.spans.Span.{Span}
use Rattle.m11_asm_rules.specs.Elements.{ListAt, argument_flags, names_at, names_flags, texts_of}
use Rattle.m11_asm_rules.specs.Actions.{Operation, Select, does, refused}
use Rattle.m11_asm_rules.specs.Sections.{Section, number_of, numbered, of_absolute, of_control, of_program}

-- ---- attributes

-- the attributes with these names; a name that isn't the name of an attribute is left out
abbrev pub attributes_named : List Bytes → List Attribute
attributes_named names = flat_map (λ name. option_to_list (attribute_named name)) names

-- attribute bits, changed by these attributes in turn; of two attributes for the same bit, the later one counts
abbrev pub with_attributes : ℕ → List Attribute → ℕ
with_attributes bits attributes = fold with_attribute bits attributes

-- A if a known section lacks one of these attributes; 0 for a new section
abbrev pub differing_flags : Option Section → List Attribute → ℕ
differing_flags None attributes = 0
differing_flags (Some known) attributes =
    flag_if (list_any (λ attribute. not (has_attribute known.attributes attribute)) attributes) flag_A

-- the section with this name, if there is one
abbrev pub known_section : Name → List Section → Option Section
known_section name sections = option_map (λ number. numbered number sections) (number_of name sections)

-- ---- the name of a section

-- no name, a name and the column after it, or something that isn't a name
pub data SectionAt : Type 0 where
  Unnamed : SectionAt
  NamedAt : Name → ℕ → SectionAt
  Bad : SectionAt

-- the name at a column: `Unnamed` if there is a comma or no token, `Bad` if there is any other token that isn't a name
abbrev pub section_at : Bytes → ℕ → SectionAt
section_at line start = elim (tokens_from line start) [
  | [] ↦ Unnamed
  | token ∷ tokens ↦
      if is_comma token.sort then Unnamed
      else elim (name_at (token ∷ tokens)) [ Some named ↦ NamedAt named.name named.end | None ↦ Bad ]
]

-- ---- .PSECT name,attribute,..: without a name the blank section

-- the names of the attributes, which follow the name of the section and a comma; none without a comma
abbrev pub attributes_at : Bytes → ℕ → ListAt (Option Span)
attributes_at line end = elim (column_after_comma line end) [ Some next ↦ names_at line next | None ↦ record { list = []; end = end } ]

-- the operation that selects a section, with these attributes if the section is new; its flags are those of the list, with A for a name
-- that isn't the name of an attribute
abbrev pub selecting : Bytes → ℕ → Name → ListAt (Option Span) → Operation
selecting line start name names =
    does (Select name of_program (attributes_named (texts_of line names.list)))
    (bit_or (flag_if (list_any (λ text. is_none (attribute_named text)) (texts_of line names.list)) flag_A) (names_flags line start names))

abbrev pub psect : Bytes → ℕ → Operation
psect line start = elim (section_at line start) [
  | Unnamed ↦ selecting line start blank_name (attributes_at line start)
  | NamedAt name end ↦ selecting line start name (attributes_at line end)
  | Bad ↦ refused line start
]

-- ---- .CSECT name: as `.PSECT name,RW,I,GBL,REL,OVR`; without a name the blank section

abbrev pub csect : Bytes → ℕ → Operation
csect line start = elim (section_at line start) [
  | Unnamed ↦ does (Select blank_name of_program []) (left_over line start)
  | NamedAt name end ↦ does (Select name of_control []) (argument_flags line start end)
  | Bad ↦ refused line start
]

-- ---- .ASECT

abbrev pub asect : Bytes → ℕ → Operation
asect line start = does (Select absolute_name of_absolute []) (left_over line start)
