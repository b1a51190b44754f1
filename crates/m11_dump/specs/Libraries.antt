-- A dump of a library of objects: the directories of its modules, one after another, up to the library's end or to the first fault. (This
-- project's own.)
use Rattle.std.specs.Prelude.{◌≡◌, ◌⊎◌, ℕ, ◌+◌, true, List, [], ◌∷◌, ◌++◌, length, Some, None, Result, Ok, Err}
use Rattle.std.specs.List.{flat_map}
use Rattle.m11_base.specs.Devices.{Bytes}
use Rattle.m11_base_writes.specs.States.{OutputState}
use Rattle.m11_obj.specs.Reading.{content_of, record_entries}
use Rattle.m11_obj_blocks.specs.Blocks.{first_block, why_of}
use Rattle.m11_obj_blocks.specs.Limited.{EndsBetween, Position, Reads, Took, most_bytes}
use Rattle.m11_link_modules.specs.declared.fault.ModuleFault.TheVariants as rule
use Rattle.m11_dump.specs.Entries.{entry_line}
use Rattle.m11_dump.specs.LibraryParts.{IsSound, is_read, part_of, stage_then}
use Rattle.m11_dump.specs.LibraryStart.{FirstIn, UnfoundBy}
use Rattle.m11_dump.specs.Objects.{AreInFront, FailsAt, Gained}
use Rattle.m11_dump.specs.Positions.{RecordShowsAt, StopsAt, content_start, placed_at}
use Rattle.m11_dump.specs.declared.fault.DumpFault.{DumpFault}
use Rattle.m11_dump.specs.declared.fault.DumpFault.TheVariants as fault
use Rattle.m11_dump.specs.declared.fault.LocatedFault.{LocatedFault}
use Rattle.m11_dump.specs.declared.library_parts.Part.{Part}
use Rattle.m11_dump.specs.declared.library_parts.Part.TheVariants.{Directory}
use Rattle.m11_dump.specs.declared.library_parts.Stage.{Stage}
use Rattle.m11_dump.specs.declared.library_parts.Stage.TheVariants.{Between, Over}

-- ---- what is shown

-- a line for each entry of a directory, and nothing for any other block
abbrev pub lines_as : Part → Bytes → Bytes
lines_as Directory content = flat_map entry_line (record_entries content)
lines_as part content = []

abbrev pub block_lines : Bytes → Bytes
block_lines content = lines_as (part_of content) content

-- the lines of all blocks with these contents, in order
abbrev pub library_text : List Bytes → Bytes
library_text contents = flat_map block_lines contents

-- ---- one block

-- the fault of a block out of order; `blocks` blocks come before it, and it ends after `count` bytes of the file
abbrev pub out_of_order : Bytes → ℕ → ℕ → LocatedFault
out_of_order content blocks count = placed_at (fault.Rule rule.BadOrder) blocks (content_start content count)

-- why a block that ends after `count` bytes of the file was refused, and the byte that shows the reason: it isn't a valid record; or it
-- may not come at this stage; or its lines couldn't be written; or memory was refused
abbrev pub RefusesPart : Stage → Bytes → ℕ → OutputState → OutputState → DumpFault → ℕ → Type 0
RefusesPart stage content count output output' (fault.Record inner) byte = (is_read (part_of content) ≡ true)
    × (content_of content ≡ Err inner) × (output' ≡ output) × RecordShowsAt inner content count byte
RefusesPart stage content count output output' (fault.Rule rule.BadOrder) byte = IsSound content
    × (stage_then stage content ≡ None) × (output' ≡ output) × (byte ≡ content_start content count)
RefusesPart stage content count output output' fault.Write byte = FailsAt (block_lines content) output output' × (byte ≡ count)
RefusesPart stage content count output output' fault.NoMemory byte = (output' ≡ output) × (byte ≡ count)
RefusesPart stage content count output output' other byte = ⊥

-- a block after `blocks` blocks was accepted: its lines were written, and this is the stage after it; or it was refused
abbrev pub AcceptsPart : Stage → ℕ → Bytes → ℕ → OutputState → OutputState → Result Stage LocatedFault → Type 0
AcceptsPart stage blocks content count output output' (Ok next) = IsSound content
    × (stage_then stage content ≡ Some next) × Gained (block_lines content) output output'
AcceptsPart stage blocks content count output output' (Err said) =
    RefusesPart stage content count output output' said.fault said.byte × (said.block ≡ blocks + 1)

-- ---- one block after another

-- blocks with these contents are sound, may follow one another, and lead from the first stage to the second
abbrev pub InOrder : Stage → List Bytes → Stage → Type 0
InOrder stage [] after = stage ≡ after
InOrder stage (content ∷ contents) after =
    (next : Stage) × IsSound content × (stage_then stage content ≡ Some next) × InOrder next contents after

-- a feed yielded blocks with these contents
pub record GivesBlocks (old here : Position) (contents : List Bytes) : Type 0 where
  pub given : Bytes
  pub took : Took old here given
  pub blocks : (rest : Bytes) → AreInFront contents (given ++ rest) rest

-- no further block could be read after these bytes of the file, or the file ended before the library did; this byte shows why
abbrev pub LacksBlock : DumpFault → Position → Position → Bytes → ℕ → Type 0
LacksBlock (fault.Block inner) here new before byte = StopsAt first_block (why_of inner) here new before byte
LacksBlock (fault.Rule rule.BadOrder) here new before byte = StopsAt first_block EndsBetween here new before byte
LacksBlock other here new before byte = ⊥

-- why a dump stopped after blocks with these contents and all these bytes of the file, and the byte that shows the reason: no further
-- block could be read, or the next block was refused
abbrev pub StopsListing : Stage → DumpFault → Position → Position → OutputState → OutputState → List Bytes → Bytes → ℕ → Type 0
StopsListing stage inner here new output output' contents before byte =
    (LacksBlock inner here new before byte × Gained (library_text contents) output output')
    ⊎ ((bad : Bytes) × (block : Reads first_block here new bad) × (middle : OutputState) × Gained (library_text contents) output middle
    × RefusesPart stage bad (length (before ++ block.given)) middle output' inner byte)

-- the blocks after the first one were shown, up to the library's end or up to the first fault. `front` holds the bytes of the file up
-- to the end of the first block
abbrev pub ListsBlocks : Bytes → Stage → Position → Position → OutputState → OutputState → Result (Unit {0}) LocatedFault → Type 0
ListsBlocks front stage start new output output' (Ok done) = (contents : List Bytes)
    × GivesBlocks start new contents × InOrder stage contents Over × Gained (library_text contents) output output'
ListsBlocks front stage start new output output' (Err said) = (contents : List Bytes) × (here : Position) × (after : Stage)
    × (gives : GivesBlocks start here contents) × InOrder stage contents after
    × StopsListing after said.fault here new output output' contents (front ++ gives.given) said.byte
    × (said.block ≡ length contents + 2)

-- ---- a library

-- the position after the first block, from which as many bytes may be read as from the beginning of a file
abbrev pub again : Position → Position
again here = record here { room = most_bytes }

-- the first block was found; it has this content, and these bytes were read up to its end
pub record Finds (old start : Position) (first lead : Bytes) : Type 0 where
  pub took : Took old start lead
  pub is : FirstIn first lead

-- what a dump of a library does: the output gains the text of all blocks, from the first one to the library's end; or no first block is
-- found, and nothing is written; or the dump stops at the first block or after it, for the reason that its fault gives
abbrev pub DumpsLibrary : Position → Position → OutputState → OutputState → Result (Unit {0}) LocatedFault → Type 0
DumpsLibrary old new output output' (Ok done) = (first lead : Bytes) × (start : Position) × (contents : List Bytes)
    × Finds old start first lead × GivesBlocks (again start) new contents × InOrder Between (first ∷ contents) Over
    × Gained (library_text (first ∷ contents)) output output'
DumpsLibrary old new output output' (Err said) =
    (UnfoundBy said.fault old new said.byte × (said.block ≡ 1) × (output' ≡ output))
    ⊎ ((first lead : Bytes) × Finds old new first lead × AcceptsPart Between 0 first (length lead) output output' (Err said))
    ⊎ ((first lead : Bytes) × (start : Position) × Finds old start first lead × (stage : Stage) × (middle : OutputState)
    × AcceptsPart Between 0 first (length lead) output middle (Ok stage)
    × ListsBlocks lead stage (again start) new middle output' (Err said))
