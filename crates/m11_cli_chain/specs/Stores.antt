-- The bytes of files by their paths, before and after a command. (This project's own.)
use Rattle.std.specs.Prelude.{◌≡◌, ◌≢◌, List, [], ◌∷◌, map, Option, Some, None, option_map, if◌then◌else◌, string_bytes}
use Rattle.std.specs.List.{AllByRecursion}
use Rattle.std.specs.Str.{bytes_eq}
use Rattle.m11_base.specs.Devices.{Bytes}
use Rattle.m11_base_files.specs.Opens.{CreatedFile, Files}
use Rattle.m11_base_files.specs.declared.memory_files.MemoryFile.{MemoryFile}
use Rattle.m11_cli_reports.specs.Streams.{Store}

-- the bytes of the first file created at this path, if its output was handed back; these other bytes if none was created there
abbrev pub created_or : Option Bytes → Bytes → List CreatedFile → Option Bytes
created_or other path [] = other
created_or other path (made ∷ more) = if bytes_eq made.path path then made.kept else created_or other path more

abbrev pub bytes_among : Bytes → Option Files → Option Bytes
bytes_among path None = None
bytes_among path (Some files) = created_or (option_map (λ text. text.bytes) (files.held path)) path files.made

-- the bytes of the file at this path, if there is such a file and its bytes are known
abbrev pub bytes_at : Store → Bytes → Option Bytes
bytes_at store path = bytes_among path store.files

-- these are the bytes of the files at these paths, in order
abbrev pub AreAt : Store → List Bytes → List Bytes → Type 0
AreAt store paths texts = map (bytes_at store) paths ≡ map (λ text. Some text) texts

-- the files are known, and none has been created yet, as it is when a command begins
abbrev pub IsFresh : Store → Type 0
IsFresh store = option_map (λ files. files.made) store.files ≡ Some []

-- a command begins with the files that an earlier one left: at each path the file has the same bytes
pub record Follows (left begun : Store) : Type 0 where
  pub fresh : IsFresh begun
  pub same : (path : Bytes) → bytes_at begun path ≡ bytes_at left path

-- the path is none of these
abbrev pub IsNoneOf : Bytes → List Bytes → Type 0
IsNoneOf path paths = AllByRecursion (λ other. path ≢ other) paths

-- none of these paths is one of those
abbrev pub AreApart : List Bytes → List Bytes → Type 0
AreApart paths others = AllByRecursion (λ path. IsNoneOf path others) paths

-- the files at all paths but these have the bytes that they had
abbrev pub KeepsOthers : List Bytes → Store → Store → Type 0
KeepsOthers written old new = (path : Bytes) → IsNoneOf path written → bytes_at new path ≡ bytes_at old path

-- the created file, whose output was handed back, that has become this stored file
abbrev pub created_as : MemoryFile → CreatedFile
created_as file = record { path = string_bytes file.path; kept = Some file.bytes.items }
