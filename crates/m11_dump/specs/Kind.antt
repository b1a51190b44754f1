-- The kind of a file, by its first block. (This project's own.) Blocks of objects and of tapes have the same form, but a block of
-- an object begins with the type of its record, and one of a tape with an address. The linker accepts three types of a first
-- record: 1 (a directory), 2 (the end of a directory) and 5 (internal symbols). A library begins with a record of type 7. Records of types 5
-- and 7 have even numbers of bytes, and a tape that begins at 5 or 7 mostly has an odd number there, since no word lies at an odd address. No
-- tape loads a word at 1, and a tape that starts at 2 has data before its transfer block. A tape with an odd start address, such as 1, may
-- have no data; but in an object further blocks follow a directory without entries.
use Rattle.std.specs.Prelude.{◌≡◌, ℕ, ◌%◌, Bool, true, false, ◌==◌, if◌then◌else◌, Result, Ok, Err}
use Rattle.m11_obj_blocks.specs.Limited.{Position, most_bytes}
use Rattle.m11_obj_blocks.specs.Tapes.{ReadsPart, first_part}
use Rattle.m11_obj_blocks.specs.declared.tape_fault.TapeFault.{TapeFault}
use Rattle.m11_obj_blocks.specs.declared.tape_fault.TapeFault.TheVariants.{NoTransfer}
use Rattle.m11_obj_blocks.specs.declared.tape_part.TapePart.{TapePart}
use Rattle.m11_obj_blocks.specs.declared.tape_part.TapePart.TheVariants.{Data, Start}
use Rattle.m11_dump.specs.declared.kind.Kind.{Kind}
use Rattle.m11_dump.specs.declared.kind.Kind.TheVariants.{Object, Library, Tape}

-- the kind of a file whose first block has this address, or this record type, and so many bytes of data
abbrev pub kind_by_data : ℕ → ℕ → Kind
kind_by_data address count =
    if address == 1 then Object else if count % 2 == 1 then Tape else if address == 5 then Object else if address == 7 then Library else Tape

-- the kind of a file whose first block has this address, or this record type, and no data
abbrev pub kind_by_start : ℕ → Kind
kind_by_start address = if address == 2 then Object else if address == 5 then Object else if address == 7 then Library else Tape

-- the kind of a file, from the result of reading its first block as a tape's; if that fails, the file is an object
abbrev pub kind_by : Result TapePart TapeFault → Kind
kind_by (Ok (Data address count)) = kind_by_data address count
kind_by (Ok (Start address)) = kind_by_start address
kind_by (Err fault) = Object

-- ---- a bare first block, with address 1 and no data: a directory without entries, or the transfer block of a tape that has no data

abbrev pub is_bare : Result TapePart TapeFault → Bool
is_bare (Ok (Data address count)) = false
is_bare (Ok (Start address)) = address == 1
is_bare (Err fault) = false

-- the kind of a file whose first block is bare: a tape if the file ends without a further block, otherwise an object, even if reading
-- failed
abbrev pub kind_by_next : Result TapePart TapeFault → Kind
kind_by_next (Err NoTransfer) = Tape
kind_by_next next = Object

-- ---- a file

-- the kind of a file, from its first block, and from the next one if the first is bare
abbrev pub IsKindAfter : Bool → Result TapePart TapeFault → Position → Position → Kind → Type 0
IsKindAfter true first middle new kind = (next : Result TapePart TapeFault)
    × ReadsPart (λ part. part) first_part (record middle { room = most_bytes }) new next × (kind ≡ kind_by_next next)
IsKindAfter false first middle new kind = (new ≡ middle) × (kind ≡ kind_by first)

-- the kind of a file: its first block is read up to its data, or up to its end if it has none; and the next block likewise, if the
-- first is bare
abbrev pub IsKind : Position → Position → Kind → Type 0
IsKind old new kind = (first : Result TapePart TapeFault) × (middle : Position) × ReadsPart (λ part. part) first_part old middle first
    × IsKindAfter (is_bare first) first middle new kind
