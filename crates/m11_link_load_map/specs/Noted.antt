-- The facts recorded about the parts of objects: the sections that modules contribute to, and the ends of modules. (This project's own.)
use Rattle.std.specs.Prelude.{ℕ, ◌+◌, List, [], ◌∷◌, Option, Some, None}
use Rattle.std.specs.List.{filter_map}
use Rattle.m11_obj.specs.declared.gsd.GsdEntry.{GsdEntry}
use Rattle.m11_obj.specs.declared.gsd.GsdKind.{GsdKind}
use Rattle.m11_obj.specs.declared.gsd.GsdKind.TheVariants.{ControlSection, ProgramSection}
use Rattle.m11_link_modules.specs.Parts.{Part, Entry, EndOfModule}
use Rattle.m11_link_load_map.specs.LoadMap.{Contribution}
use Rattle.m11_link_load_map.specs.declared.noted.MapFact.{MapFact}
use Rattle.m11_link_load_map.specs.declared.noted.MapFact.TheVariants.{Section, ModuleEnd}

abbrev pub noted_by : GsdKind → GsdEntry → Option MapFact
noted_by ControlSection entry = Some (Section entry.name entry.value)
noted_by ProgramSection entry = Some (Section entry.name entry.value)
noted_by kind entry = None

abbrev pub noted_in : Part → Option MapFact
noted_in (Entry entry) = noted_by entry.kind entry
noted_in EndOfModule = Some ModuleEnd
noted_in part = None

unfoldable pub noted_of : List Part → List MapFact
noted_of parts = filter_map noted_in parts

-- the contributions among these facts; the first fact belongs to the module with this index
abbrev pub contributions_from : ℕ → List MapFact → List Contribution
contributions_from index [] = []
contributions_from index (Section name size ∷ noted) =
    record { module_index = index; section = name; size = size } ∷ contributions_from index noted
contributions_from index (ModuleEnd ∷ noted) = contributions_from (index + 1) noted

-- the index of the module that the fact after this one belongs to; this fact belongs to the module with the index `index`
abbrev pub index_after : ℕ → MapFact → ℕ
index_after index (Section name size) = index
index_after index ModuleEnd = index + 1
