-- A dump of an object: its blocks one after another, up to the end of the file or its first fault. (RT-11 Volume and File Formats
-- Manual, "Object file format". The faults and their positions are this project's own.)
use Rattle.std.specs.Prelude.{◌≡◌, ◌⊎◌, ℕ, ◌+◌, ◌≤◌, ◌<◌, Bool, true, false, if◌then◌else◌, List, [], ◌∷◌, ◌++◌, length, ⊤, Option, Some, None, option_map, Result, Ok, Err}
use Rattle.std.specs.List.{AllByRecursion, concat}
use Rattle.std.specs.Io.KnownBytes.{Appends}
use Rattle.m11_base.specs.Devices.{Bytes, Rises}
use Rattle.m11_base.specs.Sink.{AppendsPrefix}
use Rattle.m11_obj_blocks.specs.Blocks.{first_block, why_of}
use Rattle.m11_obj_blocks.specs.Frames.{content_limit}
use Rattle.m11_obj_blocks.specs.Limited.{EndsBetween, Position, Reads, Stops, Took}
use Rattle.m11_link_modules.specs.Laws.{AcceptsAfter}
use Rattle.m11_link_modules.specs.Parts.{EndOfFile, Part, record_parts}
use Rattle.m11_link_modules.specs.Positions.{RulesState, known_of}
use Rattle.m11_link_modules.specs.Rules.{StopsAtName, first_fault}
use Rattle.m11_link_modules.specs.declared.fault.ModuleFault.{ModuleFault}
use Rattle.m11_obj.specs.Reading.{IsRecord, content_of}
use Rattle.m11_obj.specs.Records.{Content, Text, Relocations, EndOfModule}
use Rattle.m11_obj.specs.declared.relocations.Relocation.{Relocation}
use Rattle.m11_base_writes.specs.States.{OutputState}
use Rattle.m11_dump.specs.ObjectTexts.{Point, beyond, object_text, object_texts, point, text_lines, text_over, texts_from}
use Rattle.m11_dump.specs.Positions.{RecordShowsAt, StopsAt, content_start, count_read, of_rule, placed_at, rule_byte}
use Rattle.m11_dump.specs.Records.{address_then, kept}
use Rattle.m11_dump.specs.declared.fault.DumpFault.{DumpFault}
use Rattle.m11_dump.specs.declared.fault.DumpFault.TheVariants as fault
use Rattle.m11_dump.specs.declared.fault.LocatedFault.{LocatedFault}
use Rattle.m11_dump.specs.declared.held.HeldText.{HeldText}
use Rattle.m11_dump.specs.declared.stand.Stand.{Stand}
use Rattle.m11_dump.specs.declared.view.View.{View}

-- ---- reading

-- the bytes begin with blocks with these contents, which `rest` follows
abbrev pub AreInFront : List Bytes → Bytes → Bytes → Type 0
AreInFront [] bytes rest = bytes ≡ rest
AreInFront (content ∷ contents) bytes rest =
    (following : Bytes) × (first_block bytes ≡ Ok (content, following)) × AreInFront contents following rest

-- whether a block is the end of a module
abbrev pub ends_module : Bytes → Bool
ends_module content = elim (content_of content) [ Ok EndOfModule ↦ true | _ ↦ false ]

-- the parts of the module that is open after a block, given those of the module that is open before it; after the end of a module no
-- module is open, so each module is checked as if it were alone
abbrev pub open_after : List Part → Bytes → List Part
open_after parts content = if ends_module content then [] else parts ++ record_parts content

-- the parts of the module that is open after these blocks, given those of the module that is open before them
abbrev pub open_parts : List Part → List Bytes → List Part
open_parts parts [] = parts
open_parts parts (content ∷ contents) = open_parts (open_after parts content) contents

-- none of these blocks breaks a rule, if each is checked after the parts of its module that come before it
abbrev pub FollowRules : List Part → List Bytes → Type 0
FollowRules parts [] = ⊤
FollowRules parts (content ∷ contents) =
    (first_fault parts (record_parts content) ≡ None) × FollowRules (open_after parts content) contents

-- a feed yielded blocks with these contents, all of them valid records, none of which breaks a rule of modules
pub record GivesRecords (old here : Position) (contents : List Bytes) : Type 0 where
  pub given : Bytes
  pub took : Took old here given
  pub blocks : (rest : Bytes) → AreInFront contents (given ++ rest) rest
  pub records : AllByRecursion IsRecord contents
  pub modules : FollowRules [] contents

-- ---- writing

-- the output failed after a prefix of the text was written, perhaps none or all of it
abbrev pub FailsAt : Bytes → OutputState → OutputState → Type 0
FailsAt text output output' = AppendsPrefix output.text output'.text text × Rises output.faults output'.faults

-- the whole text was written, and the output didn't fail
abbrev pub Gained : Bytes → OutputState → OutputState → Type 0
Gained text output output' = Appends output.text output'.text text × (output'.faults ≡ output.faults)

-- the output failed after a prefix of the text was written; or memory was refused for the text, and nothing was written
abbrev pub FailsToPut : Bytes → OutputState → OutputState → DumpFault → Type 0
FailsToPut text output output' fault.Write = FailsAt text output output'
FailsToPut text output output' fault.NoMemory = output' ≡ output
FailsToPut text output output' (fault.Block inner) = ⊥
FailsToPut text output output' (fault.Record inner) = ⊥
FailsToPut text output output' (fault.Rule inner) = ⊥
FailsToPut text output output' (fault.Tape inner) = ⊥

-- a text was written; or it wasn't, for the reason that the fault gives
abbrev pub Puts : {A : Type 0} → Bytes → OutputState → OutputState → Result A DumpFault → Type 0
Puts text output output' (Ok done) = Gained text output output'
Puts text output output' (Err inner) = FailsToPut text output output' inner

-- the output failed at one of the last three texts, after all texts before it were written
pub record RefusesOne (texts : List Bytes) (output output' : OutputState) : Type 0 where
  pub put : List Bytes
  pub text : Bytes
  pub others : List Bytes
  pub all : texts ≡ put ++ text ∷ others
  pub last : length others ≤ 2
  pub middle : OutputState
  pub gained : Gained (concat put) output middle
  pub fails : FailsAt text middle output'

-- memory was refused for one of the last three texts, after all texts before it were written
pub record LacksOne (texts : List Bytes) (output output' : OutputState) : Type 0 where
  pub put : List Bytes
  pub others : List Bytes
  pub all : texts ≡ put ++ others
  pub some : 0 < length others
  pub last : length others ≤ 3
  pub gained : Gained (concat put) output output'

-- ---- where a dump stops

-- the texts of all blocks read: those of `contents`, and possibly that of one more record
abbrev pub RecordTexts : View → List Bytes → Position → Position → List Bytes → Type 0
RecordTexts view contents here new texts = (texts ≡ object_texts view contents)
    ⊎ ((last : Bytes) × Reads first_block here new last × IsRecord last × (texts ≡ object_texts view (contents ++ last ∷ [])))

-- the record after these contents was read, and all texts up to and including its own were written; then memory was refused for a name
-- that the record adds
abbrev pub LacksName : View → List Bytes → Position → Position → OutputState → OutputState → Type 0
LacksName view contents here new output output' = (last : Bytes) × Reads first_block here new last × IsRecord last
    × Gained (object_text view (contents ++ last ∷ [])) output output'
    × StopsAtName (first_fault (open_parts [] contents)) (record_parts last)

-- the block after these contents is a record that breaks a rule of modules, and all texts up to and including its own were written;
-- the first byte of its content shows the fault
abbrev pub RecordBreaks : View → ModuleFault → Position → Position → OutputState → OutputState → List Bytes → Bytes → ℕ → Type 0
RecordBreaks view inner here new output output' contents before byte =
    (bad : Bytes) × (block : Reads first_block here new bad) × IsRecord bad
    × (first_fault (open_parts [] contents) (record_parts bad) ≡ Some inner)
    × Gained (object_text view (contents ++ bad ∷ [])) output output'
    × (byte ≡ content_start bad (length (before ++ block.given)))

-- the file ends after these contents, inside a module, and their text was written
abbrev pub EndBreaks : View → ModuleFault → Position → Position → OutputState → OutputState → List Bytes → Bytes → ℕ → Type 0
EndBreaks view inner here new output output' contents before byte = StopsAt first_block EndsBetween here new before byte
    × (first_fault (open_parts [] contents) (EndOfFile ∷ []) ≡ Some inner) × Gained (object_text view contents) output output'

-- why a dump stopped after blocks with these contents and all these bytes, and the byte that shows the reason: no further block
-- could be read; the next block isn't a valid record; that block, or the end of the file, breaks a rule of modules; a text couldn't
-- be written; or memory was refused
abbrev pub StopsAfter : View → DumpFault → Position → Position → OutputState → OutputState → List Bytes → Bytes → ℕ → Type 0
StopsAfter view (fault.Block inner) here new output output' contents before byte =
    StopsAt first_block (why_of inner) here new before byte × Gained (object_text view contents) output output'
StopsAfter view (fault.Record inner) here new output output' contents before byte =
    (bad : Bytes) × (block : Reads first_block here new bad) × (content_of bad ≡ Err inner)
    × Gained (object_text view contents) output output' × RecordShowsAt inner bad (length (before ++ block.given)) byte
StopsAfter view (fault.Rule inner) here new output output' contents before byte =
    RecordBreaks view inner here new output output' contents before byte ⊎ EndBreaks view inner here new output output' contents before byte
StopsAfter view (fault.Tape inner) here new output output' contents before byte = ⊥
StopsAfter view fault.Write here new output output' contents before byte =
    (texts : List Bytes) × RecordTexts view contents here new texts × RefusesOne texts output output' × (byte ≡ count_read new)
StopsAfter view fault.NoMemory here new output output' contents before byte = (byte ≡ count_read new)
    × (((texts : List Bytes) × RecordTexts view contents here new texts × LacksOne texts output output')
    ⊎ LacksName view contents here new output output')

-- what a dump of an object does: the output gains the text of all blocks, and the file ends after them, between modules; or the
-- dump stops after some valid blocks, for the reason that its fault gives
abbrev pub DumpsObject : View → Position → Position → OutputState → OutputState → Result (Unit {0}) LocatedFault → Type 0
DumpsObject view old new output output' (Ok done) = (contents : List Bytes) × (here : Position)
    × GivesRecords old here contents × Gained (object_text view contents) output output' × Stops first_block here new EndsBetween
    × (first_fault (open_parts [] contents) (EndOfFile ∷ []) ≡ None)
DumpsObject view old new output output' (Err said) = (contents : List Bytes) × (here : Position)
    × (gives : GivesRecords old here contents) × StopsAfter view said.fault here new output output' contents gives.given said.byte
    × (said.block ≡ length contents + 1)

-- ---- the pending text: the last text that was read, which is shown once the record that follows the text and its relocations is known

abbrev pub places_in : HeldText → Option (List Relocation)
places_in held = option_map (λ relocations. relocations.items) held.places

abbrev pub held_places : Option (List Relocation) → List Relocation
held_places None = []
held_places (Some relocations) = relocations

-- the record of a text's relocations, if they have been read; otherwise none
abbrev pub places_records : Option (List Relocation) → List Content
places_records None = []
places_records (Some relocations) = Relocations relocations ∷ []

-- the records of the pending text and of its relocations; none if no text is pending
abbrev pub held_records : Option HeldText → List Content
held_records None = []
held_records (Some held) = Text held.address held.bytes.items ∷ places_records (places_in held)

abbrev pub held_shown : Option HeldText → ℕ
held_shown None = 0
held_shown (Some held) = held.shown

-- the pending text, if there is one, is no longer than the content of a block may be
abbrev pub HeldFits : Option HeldText → Type 0
HeldFits None = ⊤
HeldFits (Some held) = length held.bytes.items ≤ content_limit

-- the pending text, if there is one, lies at this address
abbrev pub HeldAt : ℕ → Option HeldText → Type 0
HeldAt address None = ⊤
HeldAt address (Some held) = held.address ≡ address

-- the bytes that continue the pending text, if these records come next; none if no text is pending
abbrev pub held_beyond : Option HeldText → List Content → Bytes
held_beyond None next = []
held_beyond (Some held) next = beyond held.address held.bytes.items (places_records (places_in held) ++ next)

-- the lines of the pending text, which these bytes continue
abbrev pub held_lines : View → HeldText → Bytes → Bytes
held_lines view held after = text_lines view held.address held.shown held.bytes.items (held_places (places_in held)) after

-- how many of the bytes that continue the pending text are shown by its lines
abbrev pub held_over : View → HeldText → Bytes → ℕ
held_over view held after = text_over view held.address held.shown held.bytes.items (held_places (places_in held)) after

-- the pending text was shown; or none is pending, and nothing was written; or showing it failed, for the reason that the fault gives
abbrev pub ShowsHeld : View → Option HeldText → Bytes → OutputState → OutputState → Result ℕ DumpFault → Type 0
ShowsHeld view None after output output' result = (result ≡ Ok 0) × (output' ≡ output)
ShowsHeld view (Some held) after output output' (Ok over) =
    Gained (held_lines view held after) output output' × (over ≡ held_over view held after)
ShowsHeld view (Some held) after output output' (Err inner) = FailsToPut (held_lines view held after) output output' inner

-- ---- one block

-- the state before the pending text, or before the next record if no text is pending
abbrev pub point_of : ℕ → Option HeldText → Point
point_of address held = point address (held_shown held) false

-- the texts to be shown if nothing follows the pending text
abbrev pub texts_held : View → ℕ → Option HeldText → List Bytes
texts_held view address held = texts_from view (point_of address held) (held_records held ++ [])

-- the texts to be shown if a record with this content follows, and nothing after it
abbrev pub texts_next : View → ℕ → Option HeldText → Bytes → List Bytes
texts_next view address held content =
    texts_from view (point_of address held) (held_records held ++ (kept (content_of content) ++ []))

-- a text is pending whose relocations haven't been read
abbrev pub Waits : Option HeldText → Type 0
Waits None = ⊥
Waits (Some held) = places_in held ≡ None

-- a record is neither a text nor relocations that a pending text waits for
abbrev pub IsOtherThan : Type 0 → Content → Type 0
IsOtherThan waits (Text own bytes) = ⊥
IsOtherThan waits (Relocations relocations) = waits → ⊥
IsOtherThan waits other = ⊤

abbrev pub IsOther : Option HeldText → Bytes → Type 0
IsOther held content = (other : Content) × (content_of content ≡ Ok other) × IsOtherThan (Waits held) other

-- texts were written; or some of them weren't, for the reason that the fault gives
abbrev pub PutsTexts : {A : Type 0} → List Bytes → OutputState → OutputState → Result A DumpFault → Type 0
PutsTexts texts output output' (Ok done) = Gained (concat texts) output output'
PutsTexts texts output output' (Err fault.Write) = RefusesOne texts output output'
PutsTexts texts output output' (Err fault.NoMemory) = LacksOne texts output output'
PutsTexts texts output output' (Err (fault.Block inner)) = ⊥
PutsTexts texts output output' (Err (fault.Record inner)) = ⊥
PutsTexts texts output output' (Err (fault.Rule inner)) = ⊥
PutsTexts texts output output' (Err (fault.Tape inner)) = ⊥

-- these texts are exactly what is shown between two states of the pending text, the second of which follows a record with this
-- content; this holds whatever records come after that record
abbrev pub LeadsOn : View → ℕ → Option HeldText → Bytes → Option HeldText → List Bytes → Type 0
LeadsOn view address held content held' put = (more : List Content)
    → texts_from view (point_of address held) (held_records held ++ (kept (content_of content) ++ more))
    ≡ put ++ texts_from view (point_of (address_then address (content_of content)) held') (held_records held' ++ more)

-- a record was accepted: everything was shown that comes before the text that is pending afterwards, or everything if no text is
-- pending then; a pending text fits a block and lies at the address of the last text read. Or not everything could be shown, for the
-- reason that the fault gives
abbrev pub Takes : View → ℕ → Option HeldText → Bytes → OutputState → OutputState → Result (Option HeldText) DumpFault → Type 0
Takes view address held content output output' (Ok held') = (put : List Bytes) × Gained (concat put) output output'
    × LeadsOn view address held content held' put × HeldFits held' × HeldAt (address_then address (content_of content)) held'
Takes view address held content output output' (Err inner) =
    PutsTexts {A = Unit {0}} (texts_next view address held content) output output' (Err inner)

-- a record breaks no rule after these parts, and the rules then know the module that is open after it
abbrev pub IsJudged : List Part → RulesState → Bytes → Type 0
IsJudged parts known content =
    (first_fault parts (record_parts content) ≡ None) × (known ≡ known_of (open_after parts content))

-- a record whose block ends after `count` bytes was checked after these parts: the rules then know the module that is open after it;
-- or the record breaks a rule, or memory was refused, and the error is in the block after `blocks` blocks
abbrev pub Judges : List Part → RulesState → Bytes → ℕ → ℕ → Result (Unit {0}) LocatedFault → Type 0
Judges parts known content blocks count (Ok done) = IsJudged parts known content
Judges parts known content blocks count (Err said) = (inner : ModuleFault) × AcceptsAfter parts known (record_parts content) (Err inner)
    × (said ≡ placed_at (of_rule inner) blocks (rule_byte inner content count))

-- the end of the file was checked after these parts: the file may end there; or its end breaks a rule, and the error is in the
-- block after `blocks` blocks
abbrev pub JudgesEnd : List Part → ℕ → ℕ → Result (Unit {0}) LocatedFault → Type 0
JudgesEnd parts blocks count (Ok done) = first_fault parts (EndOfFile ∷ []) ≡ None
JudgesEnd parts blocks count (Err said) = (inner : ModuleFault) × (first_fault parts (EndOfFile ∷ []) ≡ Some inner)
    × (said ≡ placed_at (fault.Rule inner) blocks count)

-- the pending text, if there is one, was shown with nothing after it; or showing it failed, and the error is in the block after `blocks`
-- blocks, at offset `count`
abbrev pub ShowsLast : View → ℕ → Option HeldText → ℕ → ℕ → OutputState → OutputState → Result (Unit {0}) LocatedFault → Type 0
ShowsLast view address held blocks count output output' (Ok done) = Gained (concat (texts_held view address held)) output output'
ShowsLast view address held blocks count output output' (Err said) = (inner : DumpFault)
    × PutsTexts {A = Unit {0}} (texts_held view address held) output output' (Err inner) × (said ≡ placed_at inner blocks count)

-- the pending text, if there is one, was shown and the intended fault is reported; or the reason why the text wasn't shown is reported
abbrev pub StopsHeld : View → Stand → LocatedFault → ℕ → OutputState → OutputState → LocatedFault → Type 0
StopsHeld view s intended count output output' said =
    ((said ≡ intended) × ShowsLast view s.address s.held s.blocks count output output' (Ok tt))
    ⊎ ShowsLast view s.address s.held s.blocks count output output' (Err said)

-- the pending text, if there is one, was shown at the end of the file, and this end was checked after these parts; or one of the two
-- failed, for the reason that the fault gives
abbrev pub EndsObject : View → Stand → List Part → ℕ → OutputState → OutputState → Result (Unit {0}) LocatedFault → Type 0
EndsObject view s parts count output output' (Ok done) =
    ShowsLast view s.address s.held s.blocks count output output' (Ok tt) × JudgesEnd parts s.blocks count (Ok tt)
EndsObject view s parts count output output' (Err said) =
    (ShowsLast view s.address s.held s.blocks count output output' (Ok tt) × JudgesEnd parts s.blocks count (Err said))
    ⊎ ShowsLast view s.address s.held s.blocks count output output' (Err said)

-- why a block that ends after `count` bytes wasn't accepted after these parts, and the byte that shows the reason: it isn't a valid
-- record; it breaks a rule of modules, and its text was written; the output failed; or memory was refused
abbrev pub RefusesBlock : View → Stand → List Part → Bytes → ℕ → OutputState → OutputState → DumpFault → ℕ → Type 0
RefusesBlock view s parts content count output output' (fault.Block inner) byte = ⊥
RefusesBlock view s parts content count output output' (fault.Record inner) byte = (content_of content ≡ Err inner)
    × Gained (concat (texts_held view s.address s.held)) output output' × RecordShowsAt inner content count byte
RefusesBlock view s parts content count output output' (fault.Rule inner) byte = IsRecord content
    × (first_fault parts (record_parts content) ≡ Some inner) × Gained (concat (texts_next view s.address s.held content)) output output'
    × (byte ≡ content_start content count)
RefusesBlock view s parts content count output output' (fault.Tape inner) byte = ⊥
RefusesBlock view s parts content count output output' fault.Write byte = (byte ≡ count)
    × (RefusesOne (texts_held view s.address s.held) output output'
    ⊎ (IsRecord content × RefusesOne (texts_next view s.address s.held content) output output'))
RefusesBlock view s parts content count output output' fault.NoMemory byte = (byte ≡ count)
    × (LacksOne (texts_held view s.address s.held) output output' ⊎ (IsRecord content
    × (LacksOne (texts_next view s.address s.held content) output output'
    ⊎ (Gained (concat (texts_next view s.address s.held content)) output output' × StopsAtName (first_fault parts) (record_parts content)))))

-- a block was shown and checked, and the states of the dump and of the rules now include it; or it wasn't accepted, for the reason that the
-- fault gives
abbrev pub ShowsBlock : View → Stand → List Part → RulesState → Bytes → ℕ → OutputState → OutputState → Result Stand LocatedFault → Type 0
ShowsBlock view s parts known content count output output' (Ok s') = IsRecord content
    × Takes view s.address s.held content output output' (Ok s'.held) × (s'.address ≡ address_then s.address (content_of content))
    × (s'.blocks ≡ s.blocks + 1) × IsJudged parts known content
ShowsBlock view s parts known content count output output' (Err said) =
    RefusesBlock view s parts content count output output' said.fault said.byte × (said.block ≡ s.blocks + 1)
