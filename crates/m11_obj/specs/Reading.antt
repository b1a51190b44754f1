-- The meaning of a block's bytes: a record, or the first fault in the order of the bytes. (RT-11 Volume and File Formats Manual, "Object
-- file format".) Which types and commands are refused is this project's own choice: libraries, mapped arrays and complex relocation aren't
-- supported. A missing byte is the fault `BadLength`, at the end of the bytes.
use Rattle.std.specs.Prelude.{◌≡◌, is_ok, true, ℕ, zero, suc, ◌+◌, ◌*◌, ◌%◌, ◌≤◌, Bool, ◌&&◌, List, [], ◌∷◌, length, slice_get, unwrap_or, Option, Some, None, Result, Ok, Err, nat_lt, nat_le, if◌then◌else◌}
use Rattle.std.specs.Result.{result_unwrap_or}
use Rattle.m11_base.specs.Devices.{Bytes}
use Rattle.m11_base.specs.Rad50 as rad50
use Rattle.m11_base.specs.Rad50.{word_limit}
use Rattle.m11_obj_blocks.specs.Frames.{content_limit}
use Rattle.m11_obj.specs.declared.fault.RecordFault.{RecordFault}
use Rattle.m11_obj.specs.declared.fault.RecordFault.TheVariants.{UnknownType, BadLength, Library, MappedArray, Complex, UnknownRelocation, BadName}
use Rattle.m11_obj.specs.declared.gsd.GsdKind.{GsdKind}
use Rattle.m11_obj.specs.declared.gsd.GsdKind.TheVariants.{ModuleName, ControlSection, InternalSymbol, TransferAddress, GlobalSymbol, ProgramSection, Identification}
use Rattle.m11_obj.specs.declared.gsd.GsdEntry.{GsdEntry}
use Rattle.m11_obj.specs.declared.relocations.Target.{Target}
use Rattle.m11_obj.specs.declared.relocations.Target.TheVariants.{Internal, Global, InternalDisplaced, GlobalDisplaced, GlobalAdditive, GlobalAdditiveDisplaced, LocationCounterDefinition, LocationCounterModification, ProgramLimits, Section, SectionDisplaced, SectionAdditive, SectionAdditiveDisplaced}
use Rattle.m11_obj.specs.declared.relocations.Relocation.{Relocation}
use Rattle.m11_obj.specs.declared.records.RecordKind.{RecordKind}
use Rattle.m11_obj.specs.declared.records.RecordKind.TheVariants as kind
use Rattle.m11_obj.specs.Records.{Content, Gsd, EndOfGsd, Text, Relocations, InternalSymbols, EndOfModule, IsRecordOf}

infixl 10 ◌>>=◌
abbrev pub ◌>>=◌ : {A B : Type 0} → Result A RecordFault → (A → Result B RecordFault) → Result B RecordFault
(Ok x) >>= f = f x
(Err e) >>= f = Err e

-- ---- the first field of some bytes, and the bytes after it

abbrev pub first_byte : Bytes → Result (ℕ × Bytes) RecordFault
first_byte [] = Err BadLength
first_byte (byte ∷ rest) = Ok (byte, rest)

unfoldable pub first_word : Bytes → Result (ℕ × Bytes) RecordFault
first_word [] = Err BadLength
first_word (low ∷ []) = Err BadLength
first_word (low ∷ high ∷ rest) = Ok (low + 256 * high, rest)

-- the first word, as one of a name's two words; the fault `BadName` if it isn't below octal 175000
unfoldable pub first_name_word : Bytes → Result (ℕ × Bytes) RecordFault
first_name_word bytes = do
  word ← first_word bytes
  if nat_lt word.0 word_limit then Ok word else Err BadName

unfoldable pub first_name : Bytes → Result (rad50.Name × Bytes) RecordFault
first_name bytes = do
  first ← first_name_word bytes
  second ← first_name_word first.1
  Ok ((first.0, second.0), second.1)

-- ---- consecutive items

-- at most n items, up to the end of the bytes, or the first fault
unfoldable pub items_within : {A : Type 0} → (Bytes → Result (A × Bytes) RecordFault) → ℕ → Bytes
    → Result (List A) RecordFault
items_within first zero bytes = Ok []
items_within first (suc n) [] = Ok []
items_within first (suc n) (byte ∷ bytes) = do
  item ← first (byte ∷ bytes)
  others ← items_within first n item.1
  Ok (item.0 ∷ others)

-- all items up to the end of the bytes, or the first fault; each has at least one byte, so there are at most as many items as bytes
unfoldable pub items_of : {A : Type 0} → (Bytes → Result (A × Bytes) RecordFault) → Bytes
    → Result (List A) RecordFault
items_of first bytes = items_within first (length bytes) bytes

-- ---- entries of the global symbol directory

-- the types of entries, by code; or the fault of a code without a type
abbrev pub kinds : List (Result GsdKind RecordFault)
kinds =
    Ok ModuleName ∷ Ok ControlSection ∷ Ok InternalSymbol ∷ Ok TransferAddress ∷ Ok GlobalSymbol
    ∷ Ok ProgramSection ∷ Ok Identification ∷ Err MappedArray ∷ []

unfoldable pub entry_kind : ℕ → Result GsdKind RecordFault
entry_kind code = unwrap_or (slice_get kinds code) (Err UnknownType)

unfoldable pub first_entry : Bytes → Result (GsdEntry × Bytes) RecordFault
first_entry bytes = do
  name ← first_name bytes
  flags ← first_byte name.1
  code ← first_byte flags.1
  kind ← entry_kind code.0
  value ← first_word code.1
  Ok (record { name = name.0; flags = flags.0; kind = kind; value = value.0 }, value.1)

unfoldable pub entries_of : Bytes → Result (List GsdEntry) RecordFault
entries_of bytes = items_of first_entry bytes

-- ---- entries of a relocation directory

-- the fields that follow a command's displacement, and the target that they yield
pub data Form : Type 0 where
  Nothing : Target → Form
  Constant : (ℕ → Target) → Form
  Name : (rad50.Name → Target) → Form
  NameAndConstant : (rad50.Name → ℕ → Target) → Form

-- the forms of the commands, by code; or the fault of a code without a form
abbrev pub forms : List (Result Form RecordFault)
forms =
    Err UnknownRelocation
    ∷ Ok (Constant (λ constant. Internal constant))
    ∷ Ok (Name (λ name. Global name))
    ∷ Ok (Constant (λ constant. InternalDisplaced constant))
    ∷ Ok (Name (λ name. GlobalDisplaced name))
    ∷ Ok (NameAndConstant (λ name constant. GlobalAdditive name constant))
    ∷ Ok (NameAndConstant (λ name constant. GlobalAdditiveDisplaced name constant))
    ∷ Ok (NameAndConstant (λ name constant. LocationCounterDefinition name constant))
    ∷ Ok (Constant (λ constant. LocationCounterModification constant))
    ∷ Ok (Nothing ProgramLimits)
    ∷ Ok (Name (λ name. Section name))
    ∷ Err UnknownRelocation
    ∷ Ok (Name (λ name. SectionDisplaced name))
    ∷ Ok (NameAndConstant (λ name constant. SectionAdditive name constant))
    ∷ Ok (NameAndConstant (λ name constant. SectionAdditiveDisplaced name constant))
    ∷ Err Complex
    ∷ []

-- whether the command with this code has no byte form: 7, octal 10 and octal 11 have none
abbrev pub is_without_byte_form : ℕ → Bool
is_without_byte_form code = nat_le 0o7 code && nat_le code 0o11

unfoldable pub row_of : ℕ → Result Form RecordFault
row_of code = unwrap_or (slice_get forms code) (Err UnknownRelocation)

unfoldable pub form_of : Bool → ℕ → Result Form RecordFault
form_of is_byte code =
    if is_byte && is_without_byte_form code then Err UnknownRelocation else row_of code

unfoldable pub first_target : Form → Bytes → Result (Target × Bytes) RecordFault
first_target (Nothing target) bytes = Ok (target, bytes)
first_target (Constant target) bytes = do
  constant ← first_word bytes
  Ok (target constant.0, constant.1)
first_target (Name target) bytes = do
  name ← first_name bytes
  Ok (target name.0, name.1)
first_target (NameAndConstant target) bytes = do
  name ← first_name bytes
  constant ← first_word name.1
  Ok (target name.0 constant.0, constant.1)

-- an entry of a relocation directory; bit octal 200 of its command byte selects the byte form, and the other bits are the command
unfoldable pub first_relocation : Bytes → Result (Relocation × Bytes) RecordFault
first_relocation bytes = do
  code ← first_byte bytes
  form ← form_of (nat_le 0o200 code.0) (code.0 % 0o200)
  displacement ← first_byte code.1
  target ← first_target form displacement.1
  Ok (record { is_byte = nat_le 0o200 code.0; displacement = displacement.0; target = target.0 }, target.1)

unfoldable pub relocations_of : Bytes → Result (List Relocation) RecordFault
relocations_of bytes = items_of first_relocation bytes

-- ---- records

-- the types of records, by code; or the fault of a code without a type
abbrev pub types : List (Result RecordKind RecordFault)
types =
    Err UnknownType ∷ Ok kind.Gsd ∷ Ok kind.EndOfGsd ∷ Ok kind.Text ∷ Ok kind.Relocations
    ∷ Ok kind.InternalSymbols ∷ Ok kind.EndOfModule ∷ Err Library ∷ Err Library ∷ []

unfoldable pub record_kind_of : ℕ → Result RecordKind RecordFault
record_kind_of code = unwrap_or (slice_get types code) (Err UnknownType)

-- the content of a record of this type, from the bytes after its type word, or the first fault; types 2, 5 and 6 may be followed by
-- any bytes
unfoldable pub content_after : RecordKind → Bytes → Result Content RecordFault
content_after kind.Gsd bytes = do
  entries ← entries_of bytes
  Ok (Gsd entries)
content_after kind.EndOfGsd bytes = Ok EndOfGsd
content_after kind.Text bytes = do
  address ← first_word bytes
  Ok (Text address.0 address.1)
content_after kind.Relocations bytes = do
  relocations ← relocations_of bytes
  Ok (Relocations relocations)
content_after kind.InternalSymbols bytes = Ok InternalSymbols
content_after kind.EndOfModule bytes = Ok EndOfModule

unfoldable pub first_type : Bytes → Result (RecordKind × Bytes) RecordFault
first_type bytes = do
  code ← first_word bytes
  type ← record_kind_of code.0
  Ok (type, code.1)

unfoldable pub content_of : Bytes → Result Content RecordFault
content_of bytes = do
  type ← first_type bytes
  content_after type.0 type.1

-- these bytes are a valid record
abbrev pub IsRecord : Bytes → Type 0
IsRecord bytes = is_ok (content_of bytes) ≡ true

-- these bytes are a valid record that fits into a block
abbrev pub IsHeldRecord : Bytes → Type 0
IsHeldRecord bytes = IsRecord bytes × (length bytes ≤ content_limit)

-- the bytes are a valid record, and its content is one that is written as these bytes, apart from ignored bytes at their end
abbrev pub SaysWhatIsWritten : Bytes → Type 0
SaysWhatIsWritten bytes = (content : Content) × (content_of bytes ≡ Ok content) × IsRecordOf content bytes

-- the bytes of a block's content, if they are a valid record, or the first fault
abbrev pub record_of : Bytes → Result Bytes RecordFault
record_of bytes = content_of bytes >>= λ content. Ok bytes

-- ---- the fields of a record, bytes that are entries or relocations, and what a call returns

abbrev pub kind_in : Content → RecordKind
kind_in (Gsd entries) = kind.Gsd
kind_in EndOfGsd = kind.EndOfGsd
kind_in (Text address bytes) = kind.Text
kind_in (Relocations relocations) = kind.Relocations
kind_in InternalSymbols = kind.InternalSymbols
kind_in EndOfModule = kind.EndOfModule

-- the type of a record, or the first fault
abbrev pub record_kind : Bytes → Result RecordKind RecordFault
record_kind bytes = content_of bytes >>= λ content. Ok (kind_in content)

abbrev pub entries_in : Result Content RecordFault → List GsdEntry
entries_in (Ok (Gsd entries)) = entries
entries_in content = []

-- the directory entries of a record; none unless it is a directory
abbrev pub record_entries : Bytes → List GsdEntry
record_entries bytes = entries_in (content_of bytes)

abbrev pub text_in : Result Content RecordFault → Option (ℕ × Bytes)
text_in (Ok (Text address bytes)) = Some (address, bytes)
text_in content = None

-- the load address and the bytes of a text record; None for other records
abbrev pub record_text : Bytes → Option (ℕ × Bytes)
record_text bytes = text_in (content_of bytes)

abbrev pub relocations_in : Result Content RecordFault → List Relocation
relocations_in (Ok (Relocations relocations)) = relocations
relocations_in content = []

-- the relocations of a record; none unless it is a relocation record
abbrev pub record_relocations : Bytes → List Relocation
record_relocations bytes = relocations_in (content_of bytes)

-- all these bytes are directory entries
abbrev pub AreEntries : Bytes → Type 0
AreEntries bytes = is_ok (entries_of bytes) ≡ true

-- all these bytes are relocations
abbrev pub AreRelocations : Bytes → Type 0
AreRelocations bytes = is_ok (relocations_of bytes) ≡ true

-- the relocations in these bytes, or none if they aren't relocations
abbrev pub relocations_left : Bytes → List Relocation
relocations_left bytes = result_unwrap_or (relocations_of bytes) []

-- success without the value that was read, or the fault
abbrev pub checked : {A : Type 0} → Result A RecordFault → Result (Unit {0}) RecordFault
checked read = read >>= λ x. Ok tt

-- a call returns what the definition reads: `view` turns the call's value into the definition's, and faults are the same
abbrev pub Gives : {X Y : Type 0} → (X → Y) → Result X RecordFault → Result Y RecordFault → Type 0
Gives view (Ok x) read = read ≡ Ok (view x)
Gives view (Err fault) read = read ≡ Err fault
