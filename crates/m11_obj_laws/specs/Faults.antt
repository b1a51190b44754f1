-- Contents of blocks that are not records, for each fault. (RT-11 Volume and File Formats Manual, "Object file format". Which types and
-- commands are refused, and the names of the faults, are this project's own choices.)
use Rattle.std.specs.Prelude.{◌≡◌, ◌⊎◌, ℕ, ◌+◌, ◌<◌, ◌≤◌, ◌^◌, Bool, true, List, ◌∷◌, ◌++◌, length, IsSome}
use Rattle.m11_base.specs.Devices.{Bytes}
use Rattle.m11_base.specs.Rad50.{Name, IsName, word_limit}
use Rattle.m11_obj_blocks.specs.Frames.{word_bytes}
use Rattle.m11_obj.specs.Gsd.{name_bytes, entry_bytes, entries_bytes, EntryFits, EntriesFit}
use Rattle.m11_obj.specs.Relocations.{parts_of, byte_form, relocation_bytes, relocations_bytes, RelocationFits, RelocationsFit}
use Rattle.m11_obj.specs.declared.fault.RecordFault.{RecordFault}
use Rattle.m11_obj.specs.declared.fault.RecordFault.TheVariants.{UnknownType, BadLength, Library, MappedArray, Complex, UnknownRelocation, BadName}
use Rattle.m11_obj.specs.declared.gsd.GsdEntry.{GsdEntry}
use Rattle.m11_obj.specs.declared.relocations.Relocation.{Relocation}

-- these bytes are a prefix of those written, but not all of them
pub record IsCut (written bytes : Bytes) : Type 0 where
  pub missing : Bytes
  pub some : 0 < length missing
  pub split : written ≡ bytes ++ missing

-- ---- names

-- a word without characters: octal 175000 and above
abbrev pub HasNoCharacters : ℕ → Type 0
HasNoCharacters word = (word_limit ≤ word) × (word < 2 ^ 16)

-- the bytes begin with no valid name: their first word has no characters, or their second has none; any bytes may follow
pub data BeginsNoName (bytes : Bytes) : Type 0 where
  First : (word : ℕ) (rest : Bytes) → HasNoCharacters word → bytes ≡ word_bytes word ++ rest → BeginsNoName bytes
  Second : (first second : ℕ) (rest : Bytes) → first < word_limit → HasNoCharacters second
      → bytes ≡ word_bytes first ++ (word_bytes second ++ rest) → BeginsNoName bytes

-- ---- entries of the global symbol directory

-- the bytes, which should begin with an entry, show the entry's fault
abbrev pub ShowsInEntry : RecordFault → Bytes → Type 0
-- they end before the entry does
ShowsInEntry BadLength bytes = (entry : GsdEntry) × EntryFits entry × IsCut (entry_bytes entry) bytes
-- its name is invalid
ShowsInEntry BadName bytes = BeginsNoName bytes
-- after its name and its flags, type 7
ShowsInEntry MappedArray bytes =
    (name : Name) × (flags : ℕ) × (rest : Bytes) × IsName name × (bytes ≡ name_bytes name ++ flags ∷ 0o7 ∷ rest)
-- after its name and its flags, a type above 7
ShowsInEntry UnknownType bytes = (name : Name) × (flags : ℕ) × (type : ℕ) × (rest : Bytes) × IsName name × (0o7 < type)
    × (bytes ≡ name_bytes name ++ flags ∷ type ∷ rest)
ShowsInEntry other bytes = ⊥

-- ---- entries of a relocation directory

-- a command below octal 200 that doesn't exist: 0, octal 13, or octal 20 to 177
abbrev pub IsNoCommand : ℕ → Type 0
IsNoCommand command = (command ≡ 0) ⊎ (command ≡ 0o13) ⊎ ((0o20 ≤ command) × (command < 0o200))

-- a command that stores nothing or two words, and so has no byte form: octal 7 to 11
abbrev pub HasNoByteForm : ℕ → Type 0
HasNoByteForm command = (0o7 ≤ command) × (command ≤ 0o11)

-- a command byte whose command or byte form doesn't exist
abbrev pub IsRefused : ℕ → Bool → Type 0
IsRefused command is_byte = IsNoCommand command ⊎ ((is_byte ≡ true) × HasNoByteForm command)

-- the bytes, which should begin with a relocation, show the relocation's fault
abbrev pub ShowsInRelocation : RecordFault → Bytes → Type 0
-- they end before the relocation does
ShowsInRelocation BadLength bytes =
    (relocation : Relocation) × RelocationFits relocation × IsCut (relocation_bytes relocation) bytes
-- its command doesn't exist, or has no byte form
ShowsInRelocation UnknownRelocation bytes = (command : ℕ) × (is_byte : Bool) × (rest : Bytes) × IsRefused command is_byte
    × (bytes ≡ (command + byte_form is_byte) ∷ rest)
-- its command is that of a complex relocation
ShowsInRelocation Complex bytes = (is_byte : Bool) × (rest : Bytes) × (bytes ≡ (0o17 + byte_form is_byte) ∷ rest)
-- a command with a name, a displacement, and then no valid name
ShowsInRelocation BadName bytes = (relocation : Relocation) × (rest : Bytes) × RelocationFits relocation
    × IsSome (parts_of relocation.target).name × BeginsNoName rest
    × (bytes ≡ ((parts_of relocation.target).command + byte_form relocation.is_byte) ∷ relocation.displacement ∷ rest)
ShowsInRelocation other bytes = ⊥

-- ---- records

-- whole entries, and then bytes that show the fault of one more
abbrev pub ShowsInEntries : RecordFault → Bytes → Type 0
ShowsInEntries said bytes = (entries : List GsdEntry) × (rest : Bytes) × EntriesFit entries × (0 < length rest)
    × ShowsInEntry said rest × (bytes ≡ entries_bytes entries ++ rest)

abbrev pub ShowsInRelocations : RecordFault → Bytes → Type 0
ShowsInRelocations said bytes = (relocations : List Relocation) × (rest : Bytes) × RelocationsFit relocations
    × (0 < length rest) × ShowsInRelocation said rest × (bytes ≡ relocations_bytes relocations ++ rest)

-- a record type that doesn't exist: 0, or above octal 10
abbrev pub IsNoType : ℕ → Type 0
IsNoType type = (type ≡ 0) ⊎ ((0o10 < type) × (type < 2 ^ 16))

-- a record type of libraries: octal 7 or 10
abbrev pub IsLibraryType : ℕ → Type 0
IsLibraryType type = (type ≡ 0o7) ⊎ (type ≡ 0o10)

-- the bytes are not a record, and show this fault
pub data Shows (said : RecordFault) (bytes : Bytes) : Type 0 where
  -- they end before the type word does
  NoType : said ≡ BadLength → length bytes < 2 → Shows said bytes
  -- a type that doesn't exist
  OtherType : (type : ℕ) (rest : Bytes) → said ≡ UnknownType → IsNoType type → bytes ≡ word_bytes type ++ rest → Shows said bytes
  -- a record type of libraries
  OfLibrary : (type : ℕ) (rest : Bytes) → said ≡ Library → IsLibraryType type → bytes ≡ word_bytes type ++ rest → Shows said bytes
  -- a text that ends before its load address does
  NoAddress : (rest : Bytes) → said ≡ BadLength → length rest < 2 → bytes ≡ word_bytes 3 ++ rest → Shows said bytes
  -- a directory with an entry that shows the fault
  InEntries : (rest : Bytes) → ShowsInEntries said rest → bytes ≡ word_bytes 1 ++ rest → Shows said bytes
  -- relocations, one of which shows the fault
  InRelocations : (rest : Bytes) → ShowsInRelocations said rest → bytes ≡ word_bytes 4 ++ rest → Shows said bytes
