-- The modules of objects and their names. (RT-11 Volume and File Formats Manual, "Object file format", GSD block, module name.)
use Rattle.std.specs.Prelude.{ℕ, ◌+◌, nat_eq, nat_lt, List, [], ◌∷◌, ◌++◌, Option, Some, None, if◌then◌else◌}
use Rattle.std.specs.List.{cons_option, filter_map}
use Rattle.std.specs.Option.{unwrap_or}
use Rattle.m11_base.specs.Names.{blank_name}
use Rattle.m11_base.specs.Rad50.{Name}
use Rattle.m11_obj.specs.declared.gsd.GsdEntry.{GsdEntry}
use Rattle.m11_obj.specs.declared.gsd.GsdKind.{GsdKind}
use Rattle.m11_obj.specs.declared.gsd.GsdKind.TheVariants.{ModuleName}
use Rattle.m11_link_modules.specs.Parts.{Part, Entry, EndOfModule}
use Rattle.m11_link_modules.specs.Positions.{modules_in}

-- each part with the index of its module, counted from `index`; the end of a module counts as a part of that module
abbrev pub indexed : ℕ → List Part → List (ℕ × Part)
indexed index [] = []
indexed index (EndOfModule ∷ parts) = (index, EndOfModule) ∷ indexed (index + 1) parts
indexed index (part ∷ parts) = (index, part) ∷ indexed index parts

abbrev pub part_at : ℕ → ℕ × Part → Option Part
part_at index indexed = if nat_eq indexed.0 index then Some indexed.1 else None

abbrev pub part_before : ℕ → ℕ × Part → Option Part
part_before index indexed = if nat_lt indexed.0 index then Some indexed.1 else None

-- the parts of the module with this index; the first module has the index 0
unfoldable pub module_at : List Part → ℕ → List Part
module_at parts index = filter_map (part_at index) (indexed 0 parts)

-- the parts of all modules before the one with this index
unfoldable pub modules_before : List Part → ℕ → List Part
modules_before parts index = filter_map (part_before index) (indexed 0 parts)

-- the values that `report` yields for these parts, in order; `report` gets each part together with all parts before it
abbrev pub reported_after : {X : Type 0} → (List Part → Part → Option X) → List Part → List Part → List X
reported_after report before [] = []
reported_after report before (part ∷ parts) =
    cons_option (report before part) (reported_after report (before ++ part ∷ []) parts)

abbrev pub name_by : GsdKind → GsdEntry → Option Name
name_by ModuleName entry = Some entry.name
name_by kind entry = None

abbrev pub name_in : Part → Option Name
name_in (Entry entry) = name_by entry.kind entry
name_in part = None

abbrev pub first_of : {X : Type 0} → List X → Option X
first_of [] = None
first_of (x ∷ xs) = Some x

-- the name of a module: the first one in its entries, if there is any
unfoldable pub name_reported : List Part → Option Name
name_reported parts = first_of (filter_map name_in parts)

abbrev pub module_name : List Part → Name
module_name parts = unwrap_or (name_reported parts) blank_name

-- the name of the module with this index; blank past the last module that ended
abbrev pub name_at : List Part → ℕ → Name
name_at parts index = if nat_lt index (modules_in parts) then module_name (module_at parts index) else blank_name
