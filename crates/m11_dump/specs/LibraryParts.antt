-- The types of a library's records, and the order in which they may come. (The types: RT-11 Volume and File Formats Manual, "Object file
-- format"; octal 10 ends a library. Which order is refused is this project's own choice.)
use Rattle.std.specs.Prelude.{ℕ, ◌+◌, ◌*◌, ◌==◌, Bool, true, false, List, [], ◌∷◌, Option, Some, None, ⊤, if◌then◌else◌}
use Rattle.m11_base.specs.Devices.{Bytes}
use Rattle.m11_obj.specs.Reading.{IsRecord, record_entries}
use Rattle.m11_obj.specs.declared.gsd.GsdEntry.{GsdEntry}
use Rattle.m11_obj.specs.declared.gsd.GsdKind.{GsdKind}
use Rattle.m11_obj.specs.declared.gsd.GsdKind.TheVariants.{ModuleName}
use Rattle.m11_dump.specs.declared.library_parts.Part.{Part}
use Rattle.m11_dump.specs.declared.library_parts.Part.TheVariants.{Directory, Inner, ModuleEnd, LibraryEnd, Other}
use Rattle.m11_dump.specs.declared.library_parts.Stage.{Stage}
use Rattle.m11_dump.specs.declared.library_parts.Stage.TheVariants.{Between, Inside, Over}

-- the part that a record of this type forms
abbrev pub part_by : ℕ → Part
part_by code =
    if code == 1 then Directory else if code == 2 then Inner else if code == 3 then Inner else if code == 4 then Inner
    else if code == 5 then Inner else if code == 6 then ModuleEnd else if code == 8 then LibraryEnd else Other

-- the part that a block with this content is, according to the content's first word; Other if the content has fewer than two bytes
abbrev pub part_of : Bytes → Part
part_of [] = Other
part_of (byte ∷ []) = Other
part_of (low ∷ high ∷ rest) = part_by (low + 256 * high)

-- ---- the first entry of a module

abbrev pub is_module_name : GsdKind → Bool
is_module_name ModuleName = true
is_module_name kind = false

-- whether these entries begin a module: whether the first one is the module's name
abbrev pub begins : List GsdEntry → Bool
begins [] = false
begins (entry ∷ entries) = is_module_name entry.kind

-- ---- what is read: directories and blocks of unknown type as records; of any other block only the type

abbrev pub is_read : Part → Bool
is_read Directory = true
is_read Other = true
is_read part = false

abbrev pub begins_as : Part → Bytes → Bool
begins_as Directory content = begins (record_entries content)
begins_as part content = false

abbrev pub IsSoundAs : Part → Bytes → Type 0
IsSoundAs Directory content = IsRecord content
IsSoundAs part content = ⊤

-- a block with this content is sound: if it is a directory, it is a valid record
abbrev pub IsSound : Bytes → Type 0
IsSound content = IsSoundAs (part_of content) content

-- ---- the order: a module begins with a directory that names it, and ends with a record of type 6; the library's end follows the last
-- module

-- the stage after a directory, which names a module exactly if it is the first one of that module; None where it may not come: between
-- modules if it names none, inside a module if it names one, since the end of the module before is missing, and after the library's end
abbrev pub after_directory : Stage → Bool → Option Stage
after_directory Between true = Some Inside
after_directory Inside false = Some Inside
after_directory stage named = None

-- the stage after another record of a module: `next` if the record is inside a module, otherwise None
abbrev pub after_inner : Stage → Stage → Option Stage
after_inner Between next = None
after_inner Inside next = Some next
after_inner Over next = None

-- the stage after the library's end; None unless the end comes between modules
abbrev pub after_end : Stage → Option Stage
after_end Between = Some Over
after_end Inside = None
after_end Over = None

-- the stage after a record of this part; None if it may not come at this stage. `named` says whether a directory names a module
abbrev pub stage_of : Stage → Part → Bool → Option Stage
stage_of stage Directory named = after_directory stage named
stage_of stage Inner named = after_inner stage Inside
stage_of stage ModuleEnd named = after_inner stage Between
stage_of stage LibraryEnd named = after_end stage
stage_of stage Other named = None

abbrev pub stage_then : Stage → Bytes → Option Stage
stage_then stage content = stage_of stage (part_of content) (begins_as (part_of content) content)
