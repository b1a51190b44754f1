-- Files by their paths: the files to read, the created ones, and the outputs handed back. (This project's own.)
use Rattle.std.specs.Prelude.{◌≡◌, ◌++◌, List, [], ◌∷◌, ℕ, map, ⊤, Option, Some, None, Result, Ok, Err, if◌then◌else◌, IsSome}
use Rattle.std.specs.Borrow.{Bor}
use Rattle.std.specs.Str.{bytes_eq}
use Rattle.m11_base.specs.Devices.{Bytes, Rises}
use Rattle.m11_base.specs.Feed.{Text}
use Rattle.m11_base_files.specs.declared.opens.OpenRefusal.{OpenRefusal}
use Rattle.m11_base_files.specs.declared.opens.OpenRefusal.TheVariants.{NotOpened, NoMemory}

-- a created file: its path, and its bytes once its output has been handed back
pub record CreatedFile : Type 0 where
  pub path : Bytes
  pub kept : Option Bytes

-- files: the text of each file to read, by its path, and the created files, in order
pub record Files : Type 0 where
  pub held : Bytes → Option Text
  pub made : List CreatedFile

-- ---- reading

-- there is a file at this path, with this text; this says nothing about unknown files
abbrev pub Holds : Option Files → Bytes → Option Text → Type 0
Holds None path text = ⊤
Holds (Some files) path text = (files.held path ≡ text) × IsSome text

-- there is no file at this path, if the files are known
abbrev pub Lacks : Option Files → Bytes → Type 0
Lacks None path = ⊤
Lacks (Some files) path = files.held path ≡ None

-- there is a file at this path, if the files are known
abbrev pub Has : Option Files → Bytes → Type 0
Has None path = ⊤
Has (Some files) path = IsSome (files.held path)

-- there is a file at each of these paths, if the files are known
abbrev pub HasAll : Option Files → List Bytes → Type 0
HasAll files [] = ⊤
HasAll files (path ∷ paths) = Has files path × HasAll files paths

-- the file at this path was opened for reading; or it couldn't be opened, and then there is no file at this path, if the files are known;
-- or memory was refused
abbrev pub Finds : {I : Type 0} → (I → Option Text) → Option Files → Bytes → Result I OpenRefusal → Type 0
Finds text files path (Ok input) = Holds files path (text input)
Finds text files path (Err NotOpened) = Lacks files path
Finds text files path (Err NoMemory) = ⊤

-- the file at this path was opened for two passes, each of which reads all of it; or it couldn't be opened, and then there is no file at
-- this path, if the files are known; or memory was refused
abbrev pub FindsTwice : {I : Type 0} → (I → Option Text) → Option Files → Bytes → Result (I × I) OpenRefusal → Type 0
FindsTwice text files path (Ok inputs) = Holds files path (text inputs.0) × Holds files path (text inputs.1)
FindsTwice text files path (Err NotOpened) = Lacks files path
FindsTwice text files path (Err NoMemory) = ⊤

-- the opened feeds are the files at these paths, in order
abbrev pub AreFiles : {I : Type 0} → (I → Option Text) → Option Files → List Bytes → List I → Type 0
AreFiles text files [] [] = ⊤
AreFiles text files [] (input ∷ inputs) = ⊥
AreFiles text files (path ∷ paths) [] = ⊥
AreFiles text files (path ∷ paths) (input ∷ inputs) =
    Holds files path (text input) × AreFiles text files paths inputs

-- this is the first of these paths at which there is no file, if the files are known
abbrev pub IsFirstLacking : Option Files → List Bytes → Bytes → Type 0
IsFirstLacking files paths path = (before : List Bytes) × (more : List Bytes)
    × (paths ≡ before ++ path ∷ more) × HasAll files before × Lacks files path

-- ---- writing

abbrev pub is_made : Bytes → CreatedFile
is_made path = record { path = path; kept = None }

-- these files with new ones created at these paths, in order, after those created before; unknown if these files are unknown
abbrev pub creating : List Bytes → Option Files → Option Files
creating paths None = None
creating paths (Some files) = Some (record { held = files.held; made = files.made ++ map is_made paths })

-- a new output is empty, if the files are known
abbrev pub IsEmptied : Option Files → Option Bytes → Type 0
IsEmptied None text = ⊤
IsEmptied (Some files) text = text ≡ Some []

-- a file was created at this path; or none was, and nothing changed
abbrev pub Creates : {O : Type 0} → Bytes → Option Files → Option Files → Result O OpenRefusal → Type 0
Creates path old new (Ok output) = new ≡ creating (path ∷ []) old
Creates path old new (Err refusal) = new ≡ old

-- these created files, where the first one at this path, if there is one, now has `text` as its bytes
abbrev pub stored_among : Bytes → Option Bytes → List CreatedFile → List CreatedFile
stored_among path text [] = []
stored_among path text (made ∷ more) =
    if bytes_eq made.path path then record made { kept = text } ∷ more else made ∷ stored_among path text more

abbrev pub keeping : Bytes → Option Bytes → Option Files → Option Files
keeping path text None = None
keeping path text (Some files) = Some (record { held = files.held; made = stored_among path text files.made })

-- there is an output if and only if there is a path for it, and the output is empty, if the files are known
abbrev pub IsEmptiedSome : {O : Type 0} → (O → Option Bytes) → Option Files → Option (Bor Bytes) → Option O → Type 0
IsEmptiedSome text files None None = ⊤
IsEmptiedSome text files (Some path) (Some output) = IsEmptied files (text output)
IsEmptiedSome text files path output = ⊥

-- these files, where the first one created at the path now has the bytes that `text` returns for the output; unchanged if there is no path
-- or no output
abbrev pub keeping_some : {O : Type 0} → (O → Option Bytes) → Option (Bor Bytes) → Option O → Option Files
    → Option Files
keeping_some text (Some path) (Some output) files = keeping path.now (text output) files
keeping_some text path output files = files

-- ---- refusals

-- a count of refusals rises if a file couldn't be opened or created, and is unchanged if memory was refused
abbrev pub Counts : ℕ → ℕ → OpenRefusal → Type 0
Counts old new NotOpened = Rises old new
Counts old new NoMemory = new ≡ old

-- a count of refusals rises if a call couldn't open or create a file, and is unchanged if it could or if memory was refused
abbrev pub CountsRefusal : {A : Type 0} → ℕ → ℕ → Result A OpenRefusal → Type 0
CountsRefusal old new (Ok file) = new ≡ old
CountsRefusal old new (Err refusal) = Counts old new refusal
