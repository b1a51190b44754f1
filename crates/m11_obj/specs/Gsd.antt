-- The entries of the global symbol directory. (RT-11 Volume and File Formats Manual, "Object file format", GSD block.) Refusing names that
-- aren't RADIX-50 words, in entries of every type, is this project's own choice.
use Rattle.std.specs.Prelude.{ℕ, ◌==◌, ◌<◌, ◌^◌, Bool, List, ◌∷◌, ◌++◌, All}
use Rattle.std.specs.Int.RustNames.{bit_and}
use Rattle.std.specs.List.{flat_map}
use Rattle.m11_base.specs.Devices.{Bytes}
use Rattle.m11_base.specs.Rad50.{Name, IsName}
use Rattle.m11_obj.specs.declared.gsd.GsdKind.{GsdKind}
use Rattle.m11_obj.specs.declared.gsd.GsdKind.TheVariants.{ModuleName, ControlSection, InternalSymbol, TransferAddress, GlobalSymbol, ProgramSection, Identification}
use Rattle.m11_obj.specs.declared.gsd.GsdEntry.{GsdEntry}
use Rattle.m11_obj_blocks.specs.Frames.{word_bytes}

-- the type byte of an entry of this kind
abbrev pub kind_code : GsdKind → ℕ
kind_code ModuleName = 0
kind_code ControlSection = 1
kind_code InternalSymbol = 2
kind_code TransferAddress = 3
kind_code GlobalSymbol = 4
kind_code ProgramSection = 5
kind_code Identification = 6

-- the four bytes of a name: its two words
abbrev pub name_bytes : Name → Bytes
name_bytes name = word_bytes name.0 ++ word_bytes name.1

-- whether all bits of a mask are set in a flags byte
abbrev pub has_bits : ℕ → ℕ → Bool
has_bits mask flags = bit_and flags mask == mask

-- the eight bytes of an entry: the two words of its name, the flags byte, the type byte, and the value
abbrev pub entry_bytes : GsdEntry → Bytes
entry_bytes entry =
    name_bytes entry.name ++ entry.flags ∷ kind_code entry.kind ∷ word_bytes entry.value

abbrev pub entries_bytes : List GsdEntry → Bytes
entries_bytes entries = flat_map entry_bytes entries

-- the fields of an entry fit into its eight bytes
pub record EntryFits (entry : GsdEntry) : Type 0 where
  pub name : IsName entry.name
  pub flags : entry.flags < 2 ^ 8
  pub value : entry.value < 2 ^ 16

abbrev pub EntriesFit : List GsdEntry → Type 0
EntriesFit entries = All EntryFits entries

-- the largest number of entries in a block
abbrev pub entry_limit : ℕ
entry_limit = 63
