-- The parts of modules, of files of modules, and of lists of records and ends of files. (RT-11 Volume and File Formats Manual, "Object file
-- format": the order of the records of a module. That a module may have no directory record and no text, and a file no module, is this
-- project's own choice.)
use Rattle.std.specs.Prelude.{ℕ, List, [], ◌∷◌, ◌++◌, map}
use Rattle.std.specs.List.{flat_map}
use Rattle.m11_base.specs.Devices.{Bytes}
use Rattle.m11_obj.specs.declared.gsd.GsdEntry.{GsdEntry}
use Rattle.m11_obj.specs.declared.relocations.Relocation.{Relocation}
use Rattle.m11_obj.specs.Records as records
use Rattle.m11_link_modules.specs.Parts.{Part, parts_of, Directory, Entry, EndOfDirectory, Text, Relocations, Relocated, EndOfModule, EndOfFile}

-- a text record or a relocation record, in the body of a module
pub data BodyRecord : Type 0 where
  TextRecord : ℕ → Bytes → BodyRecord
  RelocationRecord : List Relocation → BodyRecord

-- a module: the entries of each of its directory records, and the records of its body
pub record Module : Type 0 where
  pub directory : List (List GsdEntry)
  pub body : List BodyRecord

abbrev pub directory_parts : List GsdEntry → List Part
directory_parts entries = Directory ∷ map (λ entry. Entry entry) entries

abbrev pub body_parts : BodyRecord → List Part
body_parts (TextRecord address bytes) = Text address bytes ∷ []
body_parts (RelocationRecord relocations) = Relocations ∷ map (λ relocation. Relocated relocation) relocations

abbrev pub module_parts : Module → List Part
module_parts m = flat_map directory_parts m.directory ++ EndOfDirectory ∷ flat_map body_parts m.body ++ EndOfModule ∷ []

abbrev pub file_parts : List Module → List Part
file_parts modules = flat_map module_parts modules ++ EndOfFile ∷ []

-- the parts of files, one file after another; each file is a list of modules
abbrev pub files_parts : List (List Module) → List Part
files_parts files = flat_map file_parts files

-- the content of a record, or the end of a file
pub data Item : Type 0 where
  RecordOf : records.Content → Item
  FileEnds : Item

abbrev pub item_parts : Item → List Part
item_parts (RecordOf content) = parts_of content
item_parts FileEnds = EndOfFile ∷ []

abbrev pub items_parts : List Item → List Part
items_parts items = flat_map item_parts items
