-- Where the modules of a library begin: at the first block whose type is that of a module's record, or of the library's end. Everything
-- before this block is skipped: the record with which the library begins, its table of globals, and padding. (This project's own.)
use Rattle.std.specs.Prelude.{◌≡◌, ℕ, ◌≤◌, [], ◌∷◌, ◌++◌, length, Result, Ok, Err}
use Rattle.m11_base.specs.Devices.{Bytes, Rises}
use Rattle.m11_base.specs.Feed.{GivesByte, GivesEnd, GivesFailure}
use Rattle.m11_obj_blocks.specs.Blocks.{why_of}
use Rattle.m11_obj_blocks.specs.Frames.{block, content_limit}
use Rattle.m11_obj_blocks.specs.Limited.{Between, EndsBetween, Position, Read, Took, Why}
use Rattle.m11_obj_blocks.specs.declared.block_fault.BlockFault.{BlockFault}
use Rattle.m11_obj_blocks.specs.declared.block_fault.BlockFault.TheVariants as block_fault
use Rattle.m11_link_modules.specs.declared.fault.ModuleFault.TheVariants as rule
use Rattle.m11_dump.specs.LibraryParts.{part_of}
use Rattle.m11_dump.specs.Positions.{StopsAt, bytes_before_stop}
use Rattle.m11_dump.specs.declared.fault.DumpFault.{DumpFault}
use Rattle.m11_dump.specs.declared.fault.DumpFault.TheVariants as fault
use Rattle.m11_dump.specs.declared.fault.LocatedFault.{LocatedFault}
use Rattle.m11_dump.specs.declared.library_parts.Part.TheVariants.{Other}

-- a block with this content is listed: the content fits, and its type is that of a module's record or of the library's end
pub record IsListed (content : Bytes) : Type 0 where
  pub fits : length content ≤ content_limit
  pub type : part_of content ≡ Other → ⊥

-- these bytes don't end with a listed block
abbrev pub NoneEnds : Bytes → Type 0
NoneEnds bytes = (before content : Bytes) → bytes ≡ before ++ block content → IsListed content → ⊥

-- no listed block lies anywhere in these bytes
abbrev pub NoneIn : Bytes → Type 0
NoneIn bytes = (before content after : Bytes) → bytes ≡ (before ++ block content) ++ after → IsListed content → ⊥

-- these bytes end with a listed block that has this content
pub record EndsWith (content bytes : Bytes) : Type 0 where
  pub before : Bytes
  pub is : bytes ≡ before ++ block content
  pub listed : IsListed content

-- these bytes end with a listed block that has this content, and no listed block lies wholly before their last byte
pub record FirstIn (content bytes : Bytes) : Type 0 where
  pub ends : EndsWith content bytes
  pub front : Bytes
  pub last : ℕ
  pub all : bytes ≡ front ++ last ∷ []
  pub none : NoneIn front

-- ---- reading up to the first block

-- no byte was read: the feed failed, and its count of failures rose; or its next byte is past the limit; or the feed ended
abbrev pub LacksByte : Position → Position → DumpFault → Type 0
LacksByte old new (fault.Block block_fault.Device) =
    GivesFailure old.text new.text old.faults × Rises old.faults new.faults × (new.room ≡ old.room)
LacksByte old new (fault.Block block_fault.TooMuch) =
    (byte : ℕ) × GivesByte old.text new.text byte × (new.faults ≡ old.faults) × (old.room ≡ 0) × (new.room ≡ 0)
LacksByte old new (fault.Rule rule.BadOrder) = GivesEnd old.text new.text × (new.faults ≡ old.faults) × (new.room ≡ old.room)
LacksByte old new other = ⊥

-- a reading function that never finds a value
abbrev pub nothing : Bytes → Read BlockFault Bytes
nothing bytes = Err Between

-- the bytes ended or couldn't be read further, the byte at this offset shows why, and no listed block lies in the bytes read
abbrev pub Unfound : Why BlockFault → Position → Position → ℕ → Type 0
Unfound why old new byte = (stops : StopsAt nothing why old new [] byte) × NoneIn (bytes_before_stop nothing old new why stops.0)

abbrev pub UnfoundBy : DumpFault → Position → Position → ℕ → Type 0
UnfoundBy (fault.Block inner) old new byte = Unfound (why_of inner) old new byte
UnfoundBy (fault.Rule rule.BadOrder) old new byte = Unfound EndsBetween old new byte
UnfoundBy fault.NoMemory old new byte = (given : Bytes) × Took old new given × (byte ≡ length given)
UnfoundBy other old new byte = ⊥

-- the first block was found, and `count` bytes were read up to its end; or it wasn't found, for the reason that the fault gives
abbrev pub Seeks : Bytes → Position → Position → Result ℕ LocatedFault → Type 0
Seeks content old new (Ok count) = (lead : Bytes) × Took old new lead × FirstIn content lead × (count ≡ length lead)
Seeks content old new (Err said) = UnfoundBy said.fault old new said.byte × (said.block ≡ 1)
