-- The sections of an assembly, by their numbers. (MACRO-11 Language Reference Manual, "Program section directives". The attributes of
-- the blank section are those of `.PSECT` without arguments.)
use Rattle.std.specs.Prelude.{ℕ, ◌==◌, not, Bool, if◌then◌else◌, List, [], ◌∷◌, position, bit_and, slice_index_or, Option}
use Rattle.m11_base.specs.Names.{absolute_name, blank_name}
use Rattle.m11_base.specs.Rad50.{Name, is_same_name}
use Rattle.m11_scan_expressions.specs.declared.kinds.Kind.{Kind}
use Rattle.m11_scan_expressions.specs.declared.kinds.Kind.TheVariants as kind
use Rattle.m11_obj.specs.Attributes.{relocatable_bit}
pub use Rattle.m11_obj.specs.Attributes.{of_absolute, of_program, of_control}
pub use Rattle.m11_asm_rules.specs.declared.sections.Section.{Section}

abbrev pub section : Name → ℕ → Section
section name attributes = record { name = name; attributes = attributes }

-- the sections before the first line: the absolute one and the blank one
abbrev pub first_sections : List Section
first_sections = section absolute_name of_absolute ∷ section blank_name of_program ∷ []

-- the number of the section with this name, if there is one
abbrev pub number_of : Name → List Section → Option ℕ
number_of name sections = position (λ known. is_same_name known.name name) sections

-- the section with this number, or the blank section if no section has it
abbrev pub numbered : ℕ → List Section → Section
numbered number sections = slice_index_or sections number (section blank_name of_program)

abbrev pub is_relocatable : Section → Bool
is_relocatable known = not (bit_and known.attributes relocatable_bit == 0)

-- the kind of the locations of a section; those of an ABS section are absolute
abbrev pub location_kind : ℕ → List Section → Kind
location_kind number sections =
    if is_relocatable (numbered number sections) then kind.Section (numbered number sections).name else kind.Absolute
