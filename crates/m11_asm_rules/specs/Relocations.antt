-- The relocation of the values that a line emits. (MACRO-11 Language Reference Manual, "Relocation and linking"; RT-11 Volume and File
-- Formats Manual, "Object file format", RLD block. The choice of a command for each value is this project's own.)
use Rattle.std.specs.Prelude.{ℕ, ◌+◌, ◌-◌, ◌%◌, not, Bool, true, false, if◌then◌else◌}
use Rattle.m11_base.specs.Rad50.{Name, is_same_name}
use Rattle.m11_obj.specs.declared.pieces.RelocationKind.{RelocationKind}
use Rattle.m11_obj.specs.declared.pieces.RelocationKind.TheVariants as relocation
use Rattle.m11_obj.specs.declared.pieces.StoredConstant.{StoredConstant}
use Rattle.m11_scan_expressions.specs.declared.kinds.Kind.{Kind}
use Rattle.m11_scan_expressions.specs.declared.kinds.Kind.TheVariants as kind
use Rattle.m11_scan_expressions.specs.Quantities.{Quantity}
use Rattle.m11_asm_rules.specs.Sections.{is_relocatable, numbered}
use Rattle.m11_asm_rules.specs.Tables.{Table, section_name}

-- what a value is relative to, in the context of a line
pub data Origin : Type 0 where
  -- the current section
  Here : Origin
  -- location 0: the value is absolute
  Zero : Origin
  -- another section
  InSection : Name → Origin
  -- a name that another object defines
  InObject : Name → Origin

-- what a value of this kind is relative to; a register counts as an absolute number, since no register is allowed where values are emitted
abbrev pub origin_of : Table → Kind → Origin
origin_of table (kind.Section name) = if is_same_name name (section_name table) then Here else InSection name
origin_of table (kind.Reference name) = InObject name
origin_of table other = Zero

-- the relocations of a value: in a byte, or in a word that isn't a relative operand; in a relative operand in a REL section; and in a
-- relative operand in an ABS section
pub record Row : Type 0 where
  pub in_word : RelocationKind
  pub in_relocatable : RelocationKind
  pub in_absolute : RelocationKind

abbrev pub row : RelocationKind → RelocationKind → RelocationKind → Row
row in_word in_relocatable in_absolute =
    record { in_word = in_word; in_relocatable = in_relocatable; in_absolute = in_absolute }

-- the relocations of a value with this origin
abbrev pub row_of : Origin → Row
row_of Here = row relocation.Internal relocation.Fixed relocation.Fixed
row_of Zero = row relocation.Fixed relocation.InternalDisplaced relocation.Fixed
row_of (InSection name) =
    row (relocation.Section name) (relocation.SectionDisplaced name) (relocation.SectionDisplaced name)
row_of (InObject name) = row (relocation.Global name) (relocation.GlobalDisplaced name) (relocation.GlobalDisplaced name)

abbrev pub is_moved : Table → Bool
is_moved table = is_relocatable (numbered table.modes.section table.sections)

abbrev pub relocation_by : Bool → Bool → Row → RelocationKind
relocation_by is_relative is_moved row =
    if is_relative then (if is_moved then row.in_relocatable else row.in_absolute) else row.in_word

-- the distance in bytes from the location after a word to a target, modulo 65536
abbrev pub distance : ℕ → ℕ → ℕ
distance location target = (target + 131072 - (location + 2)) % 65536

-- the stored constant: for a relative operand that the linker doesn't change, the distance to its target; for any other value, the number
abbrev pub constant : Bool → RelocationKind → ℕ → ℕ → ℕ
constant true relocation.Fixed location number = distance location number
constant is_relative other location number = number

abbrev pub stored_as : Bool → RelocationKind → ℕ → ℕ → StoredConstant
stored_as is_relative kind location number =
    record { constant = constant is_relative kind location number; kind = kind }

-- what a location contains for a value: a constant and its relocation
abbrev pub stored : Table → Bool → ℕ → Quantity → StoredConstant
stored table is_relative location value =
    stored_as is_relative (relocation_by is_relative (is_moved table) (row_of (origin_of table value.kind))) location value.number

-- a number that the linker doesn't change
abbrev pub fixed : ℕ → StoredConstant
fixed number = record { constant = number; kind = relocation.Fixed }

-- whether a value of this kind belongs to the current section; in an ABS section every absolute number and every register does
abbrev pub is_here : Table → Kind → Bool
is_here table (kind.Section name) = is_same_name name (section_name table)
is_here table (kind.Reference name) = false
is_here table other = not (is_moved table)
