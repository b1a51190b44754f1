-- The contents of objects, part by part, in the order of the bytes. (RT-11 Volume and File Formats Manual, "Object file format".) That the
-- directory of internal symbols is ignored wherever it comes is this project's own choice.
use Rattle.std.specs.Prelude.{ℕ, List, [], ◌∷◌, map, Result, Ok, Err}
use Rattle.m11_base.specs.Devices.{Bytes}
use Rattle.m11_obj.specs.declared.gsd.GsdEntry.{GsdEntry}
use Rattle.m11_obj.specs.declared.relocations.Relocation.{Relocation}
use Rattle.m11_obj.specs.Reading.{content_of}
use Rattle.m11_obj.specs.Records as records
use Rattle.m11_obj.specs.declared.fault.RecordFault.{RecordFault}

pub data Part : Type 0 where
  -- a directory record begins; its entries follow
  Directory : Part
  Entry : GsdEntry → Part
  EndOfDirectory : Part
  -- the offset of the first byte in its section, and the bytes
  Text : ℕ → Bytes → Part
  -- a relocation record begins; its relocations follow
  Relocations : Part
  Relocated : Relocation → Part
  EndOfModule : Part
  EndOfFile : Part

-- the parts of a record
abbrev pub parts_of : records.Content → List Part
parts_of (records.Gsd entries) = Directory ∷ map (λ entry. Entry entry) entries
parts_of records.EndOfGsd = EndOfDirectory ∷ []
parts_of (records.Text address bytes) = Text address bytes ∷ []
parts_of (records.Relocations relocations) = Relocations ∷ map (λ relocation. Relocated relocation) relocations
parts_of records.InternalSymbols = []
parts_of records.EndOfModule = EndOfModule ∷ []

-- the parts of the record that was read; none if reading it found a fault
abbrev pub parts_in : Result records.Content RecordFault → List Part
parts_in (Ok content) = parts_of content
parts_in (Err fault) = []

abbrev pub record_parts : Bytes → List Part
record_parts bytes = parts_in (content_of bytes)
