-- Files in memory. (This project's own.)
use Rattle.std.specs.Prelude.{Bool, List, [], ◌∷◌, map, Option, Some, None, option_map, if◌then◌else◌, string_bytes}
use Rattle.std.specs.Str.{bytes_eq}
use Rattle.m11_base.specs.Devices.{Bytes}
use Rattle.m11_base.specs.Feed.{Text, Ends}
use Rattle.m11_base_files.specs.Opens.{CreatedFile, Files}
use Rattle.m11_base_files.specs.declared.memory_files.MadeFile.{MadeFile}
use Rattle.m11_base_files.specs.declared.memory_files.MemoryFile.{MemoryFile}

-- the text of a file: all its bytes and then the end; no read fails
abbrev pub text_of : MemoryFile → Text
text_of file = record { bytes = file.bytes.items; ending = Ends }

-- the text of the first file with this path, if there is one
abbrev pub held_among : List MemoryFile → Bytes → Option Text
held_among [] path = None
held_among (file ∷ more) path =
    if bytes_eq (string_bytes file.path) path then Some (text_of file) else held_among more path

abbrev pub made_of : MadeFile → CreatedFile
made_of file = record { path = string_bytes file.path; kept = option_map (λ bytes. bytes.items) file.kept }

-- the stored files and the created files
abbrev pub files_of : List MemoryFile → List MadeFile → Files
files_of stored made = record { held = held_among stored; made = map made_of made }

-- whether the file was created at this path
abbrev pub has_path : Bytes → MadeFile → Bool
has_path path file = bytes_eq (string_bytes file.path) path
