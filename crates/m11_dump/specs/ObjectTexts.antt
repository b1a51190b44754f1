-- What a dump shows of an object: the lines of each of its records, one after another. A TXT record has its relocations beside it;
-- shown as instructions, it continues into the next TXT record of its section if that record begins where this one ends. (The records:
-- RT-11 Volume and File Formats Manual, "Object file format". The lines are this project's own.)
use Rattle.std.specs.Prelude.{ℕ, ◌==◌, Bool, true, false, if◌then◌else◌, List, [], ◌∷◌, ◌++◌, length, take, codes}
use Rattle.std.specs.List.{concat, flat_map}
use Rattle.m11_base.specs.Devices.{Bytes}
use Rattle.m11_obj.specs.Records.{Content, Text, Relocations}
use Rattle.m11_obj.specs.declared.relocations.Relocation.{Relocation}
use Rattle.m11_obj.specs.declared.relocations.Target.{Target}
use Rattle.m11_obj.specs.declared.relocations.Target.TheVariants.{LocationCounterDefinition}
use Rattle.m11_dump.specs.Beside.{lines_beside, other_places, places_at}
use Rattle.m11_dump.specs.Instructions.{head_line, over_from}
use Rattle.m11_dump.specs.Octets.{location_after}
use Rattle.m11_dump.specs.Records.{octal_lines, record_lines, records_of}
use Rattle.m11_dump.specs.References.{references_at}
use Rattle.m11_dump.specs.Relocations.{relocation_line}
use Rattle.m11_dump.specs.declared.view.View.{View}
use Rattle.m11_dump.specs.declared.view.View.TheVariants.{Octal, Instructions}

-- ---- what follows a text

-- the relocations of a text: those of the record after it, if that is a relocation record; otherwise none
abbrev pub places : List Content → List Relocation
places (Relocations relocations ∷ records) = relocations
places records = []

-- whether a relocation with this target selects the section of the texts that follow
abbrev pub selects : Target → Bool
selects (LocationCounterDefinition name constant) = true
selects target = false

-- whether the section stays the same after these relocations
abbrev pub stays : List Relocation → Bool
stays [] = true
stays (relocation ∷ relocations) = if selects relocation.target then false else stays relocations

-- the first five bytes of the next text, or all if it has fewer, if the next text begins where this one ends; otherwise none. Five are
-- enough, since no instruction is longer than six bytes
abbrev pub next_bytes : ℕ → Bytes → List Content → Bytes
next_bytes address bytes (Text own next ∷ records) = if own == location_after address (length bytes) then take 5 next else []
next_bytes address bytes records = []

-- the bytes that continue a text; none unless the next text follows at once, or after relocations of this text that select no section
abbrev pub beyond : ℕ → Bytes → List Content → Bytes
beyond address bytes (Relocations relocations ∷ records) = if stays relocations then next_bytes address bytes records else []
beyond address bytes records = next_bytes address bytes records

-- ---- a text and its relocations

-- the lines of a text whose first `shown` bytes are in the lines of the previous text: in octal, followed by its relocations; or as
-- instructions, with each relocation after the line of the byte that it applies to, and at the end those that apply to none
abbrev pub text_lines : View → ℕ → ℕ → Bytes → List Relocation → Bytes → Bytes
text_lines Octal address shown bytes relocations after = octal_lines address bytes ++ flat_map (relocation_line address) relocations
text_lines Instructions address shown bytes relocations after =
    (head_line (codes "TEXT ") address ++ lines_beside (references_at relocations) (places_at address relocations) address 0 shown
    bytes after)
    ++ other_places address (length bytes) relocations

-- how many bytes of the next text are shown in the lines of a text
abbrev pub text_over : View → ℕ → ℕ → Bytes → List Relocation → Bytes → ℕ
text_over Octal address shown bytes relocations after = 0
text_over Instructions address shown bytes relocations after = over_from (references_at relocations) address 0 shown bytes after

-- ---- one record after another

-- the state before a record: the address of the last text, how many bytes of the next text are already shown, and whether
-- relocations are already shown if they come next
pub record Point : Type 0 where
  pub address : ℕ
  pub shown : ℕ
  pub beside : Bool

abbrev pub point : ℕ → ℕ → Bool → Point
point address shown beside = record { address = address; shown = shown; beside = beside }

-- the lines of a record that is followed by these records; none for relocations that are already shown
abbrev pub text_of : View → Point → Content → List Content → Bytes
text_of view p (Text own bytes) records = text_lines view own p.shown bytes (places records) (beyond own bytes records)
text_of view p (Relocations relocations) records = if p.beside then [] else record_lines p.address (Relocations relocations)
text_of view p content records = record_lines p.address content

-- the state after a record
abbrev pub point_after : View → Point → Content → List Content → Point
point_after view p (Text own bytes) records = point own (text_over view own p.shown bytes (places records) (beyond own bytes records)) true
point_after view p (Relocations relocations) records = point p.address (if p.beside then p.shown else 0) false
point_after view p content records = point p.address 0 false

-- a list with the lines of each of these records; `p` is the state before the first one
abbrev pub texts_from : View → Point → List Content → List Bytes
texts_from view p [] = []
texts_from view p (content ∷ records) = text_of view p content records ∷ texts_from view (point_after view p content records) records

abbrev pub object_texts : View → List Bytes → List Bytes
object_texts view contents = texts_from view (point 0 0 false) (records_of contents)

abbrev pub object_text : View → List Bytes → Bytes
object_text view contents = concat (object_texts view contents)
