-- The names of addresses, in files: maps, load maps, listings and objects. (This project's own; docs/VIEWS.md, "Names of addresses".)
use Rattle.std.specs.Prelude.{◌≡◌, ◌⊎◌, ℕ, Bool, false, nat_lt, if◌then◌else◌, List, [], ◌∷◌, ◌++◌, Option, Some, None, Result, Ok, Err, ⊤, slice_index_or}
use Rattle.m11_base.specs.Devices.{Bytes, Rises}
use Rattle.m11_base.specs.Feed.{HasBytes, Text}
use Rattle.m11_base_disassembly.specs.ListedLines.{PlacedListing}
use Rattle.m11_base_disassembly.specs.Maps.{IsUnread, NamesSoFar, nothing, with_text}
use Rattle.m11_base_disassembly.specs.declared.kept.Kept.{Kept}
use Rattle.m11_base_disassembly.specs.declared.map_fault.MapFault.{MapFault}
use Rattle.m11_base_disassembly.specs.declared.map_fault.MapFault.TheVariants.{Read, BadMap, NoMemory}
use Rattle.m11_base_disassembly.specs.declared.symbols.Symbol.{Symbol}
use Rattle.m11_base_files.specs.Opens.{AreFiles, Files, Holds, Lacks}
use Rattle.m11_base_writes.specs.Passes.{pass_of}
use Rattle.m11_link_layout.specs.declared.fault.LinkFault.{LinkFault}
use Rattle.m11_link_layout.specs.declared.fault.LinkFault.TheVariants as link
use Rattle.m11_link_load_map.specs.LinkGlobals.{HasGlobals}
use Rattle.m11_link_load_map.specs.Stopping.{IsRefused}
use Rattle.m11_link_load_map.specs.declared.fault.ObjectsFault.{ObjectsFault}
use Rattle.m11_link_load_map.specs.declared.name_files.NoNames.{NoNames}
use Rattle.m11_link_load_map.specs.declared.name_files.NoNames.TheVariants.{NotOpened, InFile}

-- ---- one file

-- the file at this path has these bytes; they may be any bytes if the files or the file's text are unknown
abbrev pub HasFile : Option Files → Bytes → Bytes → Type 0
HasFile files path bytes = (text : Option Text) × Holds files path text × HasBytes text bytes

-- whether bytes are those of an object: the first one is 0 or 1, which begins no map and no listing
abbrev pub is_object : Bytes → Bool
is_object [] = false
is_object (byte ∷ bytes) = nat_lt byte 2

-- what files have given with a further file with these bytes, or the file's fault; nothing more with an object, since the names in all objects
-- are found together, after all others
abbrev pub with_file : ℕ → NamesSoFar → Bytes → Result NamesSoFar MapFault
with_file bottom old bytes = if is_object bytes then Ok old else with_text bottom old bytes

-- the path of a file, if it is an object
abbrev pub object_in : Bytes → Bytes → List Bytes
object_in path bytes = if is_object bytes then path ∷ [] else []

-- with the file at this path files have given this; `objects` holds the path if the file is an object, and otherwise nothing
abbrev pub Gives : ℕ → Option Files → Bytes → NamesSoFar → NamesSoFar → List Bytes → Type 0
Gives bottom files path old new objects = (bytes : Bytes) × HasFile files path bytes × (with_file bottom old bytes ≡ Ok new)
    × (objects ≡ object_in path bytes)

-- why the file at this path gives no names: memory was refused; or it couldn't be read, or is too long; or its bytes have none of the forms, or
-- it is a listing of no module of the load map before it
abbrev pub LacksNames : ℕ → Option Files → Bytes → NamesSoFar → MapFault → Type 0
LacksNames bottom files path old NoMemory = ⊤
LacksNames bottom files path old fault =
    ((text : Option Text) × Holds files path text × (faults : ℕ) × (faults' : ℕ) × IsUnread text faults faults' fault)
    ⊎ ((bytes : Bytes) × HasFile files path bytes × (with_file bottom old bytes ≡ Err fault))

-- why the file at this path gives no names, with the path: it can't be opened, or has this fault
abbrev pub GivesNone : ℕ → Option Files → Bytes → NamesSoFar → NoNames → Type 0
GivesNone bottom files path old (NotOpened named) = (named.now ≡ path) × Lacks files path
GivesNone bottom files path old (InFile named fault) = (named.now ≡ path) × LacksNames bottom files path old fault

-- ---- all files

-- with the files at these paths, in order, files have given this, and these are the paths of the objects among them
abbrev pub GiveAll : ℕ → Option Files → List Bytes → NamesSoFar → NamesSoFar → List Bytes → Type 0
GiveAll bottom files [] old new objects = (new ≡ old) × (objects ≡ [])
GiveAll bottom files (path ∷ paths) old new objects = (middle : NamesSoFar) × (own : List Bytes) × (others : List Bytes)
    × Gives bottom files path old middle own × GiveAll bottom files paths middle new others × (objects ≡ own ++ others)

-- why the files at these paths don't all give names: one of them gives none, for this reason, and each one before it gives names
abbrev pub LackNames : ℕ → Option Files → List Bytes → NamesSoFar → NoNames → Type 0
LackNames bottom files [] old none = ⊥
LackNames bottom files (path ∷ paths) old none = GivesNone bottom files path old none
    ⊎ ((middle : NamesSoFar) × (objects : List Bytes) × Gives bottom files path old middle objects
    × LackNames bottom files paths middle none)

-- ---- the objects among the files

-- the path of the object with this index; without an index, that of the first object
abbrev pub path_at : List Bytes → Option ℕ → Bytes
path_at objects (Some index) = slice_index_or objects index []
path_at objects None = slice_index_or objects 0 []

-- a fault of a link of objects, as a fault of a file of names
abbrev pub fault_of : LinkFault → MapFault
fault_of link.Read = Read
fault_of link.NoMemory = NoMemory
fault_of fault = BadMap

-- this is the reason why objects with this fault give no names: the path of the object at fault, and the fault
abbrev pub IsFor : List Bytes → ObjectsFault → NoNames → Type 0
IsFor objects stopped (NotOpened named) = ⊥
IsFor objects stopped (InFile named fault) = (named.now ≡ path_at objects stopped.object_index) × (fault ≡ fault_of stopped.fault)

module _ {I : Type 0} (text : I → Option Text) (faults : I → ℕ) where
  -- the names of the open objects at these paths: the globals of a link of them; none without objects
  abbrev pub ObjectsGive : ℕ → List Bytes → List I → List Symbol → Type 0
  ObjectsGive bottom [] inputs symbols = symbols ≡ []
  ObjectsGive bottom (object ∷ objects) inputs symbols =
      (inputs' : List I) × HasGlobals (pass_of text faults inputs inputs') bottom symbols

  -- why the open objects give no names: a link of them is refused, or memory was refused
  abbrev pub ObjectsLack : ℕ → List Bytes → List I → NoNames → Type 0
  ObjectsLack bottom objects inputs none = (stopped : ObjectsFault) × IsFor objects stopped none
      × ((inputs' : List I) × IsRefused (pass_of text faults inputs inputs') bottom stopped)

  -- the old names, and after them those of the open objects at these paths
  abbrev pub WithObjects : ℕ → List Bytes → List I → List Symbol → List Symbol → Type 0
  WithObjects bottom objects inputs old new = (more : List Symbol) × ObjectsGive bottom objects inputs more × (new ≡ old ++ more)

  -- the names in the files at these paths, and after them those of the objects among these files; and the listings among the files with their
  -- lines, in order, if lines are kept
  abbrev pub Names : Kept → ℕ → Option Files → List Bytes → List Symbol → List PlacedListing → Type 0
  Names kept bottom files paths symbols listings = (found : NamesSoFar) × (objects : List Bytes) × (inputs : List I)
      × GiveAll bottom files paths (nothing kept) found objects × AreFiles text files objects inputs
      × WithObjects bottom objects inputs found.symbols symbols × (listings ≡ found.listings)

  -- why there are no names: one of the files gives none, for a reason of its own; or each file was read, but a link of the objects
  -- among them is refused
  abbrev pub NoneNamed : Kept → ℕ → Option Files → List Bytes → NoNames → Type 0
  NoneNamed kept bottom files paths none = LackNames bottom files paths (nothing kept) none
      ⊎ ((found : NamesSoFar) × (objects : List Bytes) × (inputs : List I) × GiveAll bottom files paths (nothing kept) found objects
      × AreFiles text files objects inputs × ObjectsLack bottom objects inputs none)

  -- ---- adding names to others

  abbrev pub AddsObjects : ℕ → List Bytes → List I → List Symbol → List Symbol → Result (Unit {0}) NoNames → Type 0
  AddsObjects bottom objects inputs old new (Ok done) = WithObjects bottom objects inputs old new
  AddsObjects bottom objects inputs old new (Err none) = ObjectsLack bottom objects inputs none

module _ {I : Type 0} (text : I → Option Text) where
  abbrev pub HoldsObject : Option Files → Bytes → NamesSoFar → List Bytes → List I → NamesSoFar → List Bytes → List I
      → Result (Unit {0}) NoNames → Type 0
  HoldsObject files path old held opened new held' opened' (Ok done) = (new ≡ old) × (held' ≡ held ++ path ∷ [])
      × ((input : I) × Holds files path (text input) × (opened' ≡ opened ++ input ∷ []))
  HoldsObject files path old held opened new held' opened' (Err (NotOpened named)) = (named.now ≡ path) × Lacks files path
  HoldsObject files path old held opened new held' opened' (Err (InFile named fault)) = (named.now ≡ path) × (fault ≡ NoMemory)

  abbrev pub AddsFile : ℕ → Option Files → Bytes → NamesSoFar → List Bytes → List I → NamesSoFar → List Bytes → List I
      → Result (Unit {0}) NoNames → Type 0
  AddsFile bottom files path old held opened new held' opened' (Ok done) = (own : List Bytes) × (inputs : List I)
      × Gives bottom files path old new own × AreFiles text files own inputs × (held' ≡ held ++ own) × (opened' ≡ opened ++ inputs)
  AddsFile bottom files path old held opened new held' opened' (Err none) = GivesNone bottom files path old none

  abbrev pub AddsFiles : ℕ → Option Files → List Bytes → NamesSoFar → List Bytes → List I → NamesSoFar → List Bytes → List I
      → Result (Unit {0}) NoNames → Type 0
  AddsFiles bottom files paths old held opened new held' opened' (Ok done) = (own : List Bytes) × (inputs : List I)
      × GiveAll bottom files paths old new own × AreFiles text files own inputs × (held' ≡ held ++ own) × (opened' ≡ opened ++ inputs)
  AddsFiles bottom files paths old held opened new held' opened' (Err none) = LackNames bottom files paths old none

-- a count of refusals rises if and only if a file couldn't be opened
abbrev pub Counts : {A : Type 0} → ℕ → ℕ → Result A NoNames → Type 0
Counts old new (Err (NotOpened path)) = Rises old new
Counts old new result = new ≡ old
