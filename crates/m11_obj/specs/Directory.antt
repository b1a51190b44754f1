-- The global symbol directory of an object that an assembler writes. (RT-11 Volume and File Formats Manual, "Object file format",
-- GSD block; MACRO-11 Language Reference Manual, ".TITLE", ".IDENT", ".PSECT", ".GLOBL", ".WEAK" and ".END" directives. The limit
-- of 15 entries in a record is this project's own.)
use Rattle.std.specs.Prelude.{◌≡◌, ℕ, Bool, ◌&&◌, nat_le, if◌then◌else◌, List, [], ◌∷◌, ◌++◌, length, map}
use Rattle.m11_base.specs.Rad50.{Name}
use Rattle.m11_obj.specs.declared.directory.DirectoryRow.{DirectoryRow}
use Rattle.m11_obj.specs.declared.directory.DirectoryRow.TheVariants as row
use Rattle.m11_obj.specs.declared.gsd.GsdEntry.{GsdEntry}
use Rattle.m11_obj.specs.declared.gsd.GsdKind.{GsdKind}
use Rattle.m11_obj.specs.declared.gsd.GsdKind.TheVariants as kind
use Rattle.m11_obj.specs.Records.{Content, Gsd}
use Rattle.m11_obj.specs.Fronts.{fronts_of}

-- ---- one row

abbrev pub entry : Name → ℕ → GsdKind → ℕ → GsdEntry
entry name flags kind value = record { name = name; flags = flags; kind = kind; value = value }

-- the entry of a row; in a global's flags octal 010 means defined, 040 relocated with the section of the definition, and 001 weak
abbrev pub entry_of : DirectoryRow → GsdEntry
entry_of (row.Module name) = entry name 0 kind.ModuleName 0
entry_of (row.Identification name) = entry name 0 kind.Identification 0
entry_of (row.Section name flags size) = entry name flags.0 kind.ProgramSection size
entry_of (row.Definition name is_relocatable value) =
    entry name (if is_relocatable then 0o050 else 0o010) kind.GlobalSymbol value
entry_of (row.Reference name is_weak) = entry name (if is_weak then 0o001 else 0) kind.GlobalSymbol 0
entry_of (row.Transfer section value) = entry section 0 kind.TransferAddress value

-- ---- the records

abbrev pub most_entries : ℕ
most_entries = 15

-- whether these entries fit into one record, which has 1 to 15
unfoldable pub is_one_record : List GsdEntry → Bool
is_one_record entries = nat_le 1 (length entries) && nat_le (length entries) most_entries

-- the entries divided into records; each record has as many of the remaining entries as fit
abbrev pub record_cutting : List DirectoryRow → List (List GsdEntry)
record_cutting rows = fronts_of is_one_record (map entry_of rows)

-- the records of a directory of these rows
abbrev pub directory_records : List DirectoryRow → List Content
directory_records rows = map (λ entries. Gsd entries) (record_cutting rows)

-- ---- all rows so far

-- the entries of all records but the last are in written records; those of the last are waiting
pub record IsLast (rows : List DirectoryRow) (written : List Content) (waiting : List GsdEntry) : Type 0 where
  pub closed : List (List GsdEntry)
  pub cut : record_cutting rows ≡ closed ++ waiting ∷ []
  pub records : written ≡ map (λ entries. Gsd entries) closed

-- the written records and the waiting entries are those of the rows so far
abbrev pub IsOpenDirectory : List DirectoryRow → List Content → List GsdEntry → Type 0
IsOpenDirectory rows written [] = (rows ≡ []) × (written ≡ [])
IsOpenDirectory rows written (first ∷ rest) = IsLast rows written (first ∷ rest)

-- the record of the waiting entries, or no record if none are waiting
abbrev pub written_by : List GsdEntry → List Content
written_by [] = []
written_by (first ∷ rest) = Gsd (first ∷ rest) ∷ []
