-- The second pass of a link, call by call: its state after the parts so far, and its writes. (This project's own. It is proved that
-- these are the writes of Written.antt.)
use Rattle.std.specs.Prelude.{◌≡◌, ◌⊎◌, ℕ, Bool, true, false, List, [], ◌∷◌, ◌++◌, length, map, ⊤, Option, Some, None, Result, Ok, Err, if◌then◌else◌}
use Rattle.indexmap.specs.IndexSet.{insert_key}
use Rattle.m11_base.specs.Devices.{Bytes}
use Rattle.m11_base.specs.Rad50.{Name, is_same_name}
use Rattle.m11_obj.specs.Reading.{IsRecord, content_of}
use Rattle.m11_obj.specs.declared.gsd.GsdEntry.{GsdEntry}
use Rattle.m11_obj.specs.declared.gsd.GsdKind.{GsdKind}
use Rattle.m11_obj.specs.declared.gsd.GsdKind.TheVariants.{GlobalSymbol}
use Rattle.m11_obj.specs.declared.relocations.Relocation.{Relocation}
use Rattle.m11_link_modules.specs.Parts.{Part, EndOfFile, Text, Relocations, Relocated, record_parts}
use Rattle.m11_link_modules.specs.Positions.{RulesState, known_of, current_section, modules_in, this_module}
use Rattle.m11_link_modules.specs.Rules.{StopsAtName, defines, fault_of, first_fault}
use Rattle.m11_link_modules.specs.declared.fault.ModuleFault.TheVariants as rule
use Rattle.m11_link_layout.specs.Plan.{PlanTables}
use Rattle.m11_link_layout.specs.Layout.{FirstFault}
use Rattle.m11_link_layout.specs.declared.fault.LinkFault.{LinkFault}
use Rattle.m11_link_layout.specs.declared.fault.LinkFault.TheVariants as fault
use Rattle.m11_link.specs.declared.emit.LinkDone.{LinkDone}
use Rattle.m11_link_text.specs.Findings.{Findings, planned}
use Rattle.m11_link.specs.Front.{front_writes}
use Rattle.m11_link.specs.Outputs.{Gains, Stops, StopsBetween, StopsIn}
use Rattle.m11_base_writes.specs.Outputs.{AreFlushed, Outputs, Write, flushes}
use Rattle.m11_link.specs.Written.{PlacedText, placed_text, text_writes, with_relocation, symbol_writes, entry_writes, defined_names, link_writes, counted, writes_so_far}

-- ---- the state between two records

-- the plan, the names defined so far, the pending text and the number of messages
pub record ReporterState : Type 0 where
  pub plan : PlanTables
  pub defined : List Name
  pub held : Option PlacedText
  pub messages : ℕ

abbrev pub with_count : List Write → ReporterState → ReporterState
with_count writes t = record t { messages = counted t.messages writes }

-- ---- texts

abbrev pub with_held : Option PlacedText → ReporterState → ReporterState
with_held held t = record t { held = held }

abbrev pub held_writes : Option PlacedText → List Write
held_writes None = []
held_writes (Some text) = text_writes text

abbrev pub held_with : Findings → Option PlacedText → Relocation → Option PlacedText
held_with found None relocation = None
held_with found (Some text) relocation = Some (with_relocation found text relocation)

abbrev pub held_with_all : Findings → Option PlacedText → List Relocation → Option PlacedText
held_with_all found held [] = held
held_with_all found held (relocation ∷ relocations) =
    held_with_all found (held_with found held relocation) relocations

-- the pending text after a part: a text becomes the pending one; the parts of a relocation record keep it pending, and each relocation
-- is applied to it; after any other part, no text is pending
abbrev pub held_at : Findings → List Part → Option PlacedText → Part → Option PlacedText
held_at found before held (Text address bytes) =
    Some (placed_text found (modules_in before) (current_section (this_module before)) address bytes)
held_at found before held Relocations = held
held_at found before held (Relocated relocation) = held_with found held relocation
held_at found before held part = None

abbrev pub held_after : Findings → List Part → Option PlacedText → List Part → Option PlacedText
held_after found before held [] = held
held_after found before held (part ∷ parts) =
    held_after found (before ++ part ∷ []) (held_at found before held part) parts

unfoldable pub held_text : Findings → List Part → Option PlacedText
held_text found parts = held_after found [] None parts

-- a pending text, if there is one, has this length: that of the last text, against which relocations are checked
abbrev pub IsAsLong : Option ℕ → Option PlacedText → Type 0
IsAsLong text_length None = ⊤
IsAsLong text_length (Some held) = text_length ≡ Some (length held.bytes)

-- ---- entries

abbrev pub defined_if : Bool → List Name → Name → List Name
defined_if defines defined name = if defines then insert_key is_same_name defined name else defined

abbrev pub defined_by : GsdKind → List Name → GsdEntry → List Name
defined_by GlobalSymbol defined entry = defined_if (defines entry) defined entry.name
defined_by kind defined entry = defined

abbrev pub defined_with : List Name → GsdEntry → List Name
defined_with defined entry = defined_by entry.kind defined entry

abbrev pub defined_with_all : List Name → List GsdEntry → List Name
defined_with_all defined [] = defined
defined_with_all defined (entry ∷ entries) = defined_with_all (defined_with defined entry) entries

abbrev pub entries_writes : Findings → ℕ → List Name → List GsdEntry → List Write
entries_writes found module_index defined [] = []
entries_writes found module_index defined (entry ∷ entries) = entry_writes found module_index defined entry
    ++ entries_writes found module_index (defined_with defined entry) entries

abbrev pub with_symbol : ℕ → GsdEntry → ReporterState → ReporterState
with_symbol module_index entry t = record t {
  defined = defined_if (defines entry) t.defined entry.name;
  messages = counted t.messages (symbol_writes (planned t.plan) module_index t.defined entry);
}

abbrev pub with_name : Name → ReporterState → ReporterState
with_name name t = record t { defined = insert_key is_same_name t.defined name }

abbrev pub with_entry : ℕ → GsdEntry → ReporterState → ReporterState
with_entry module_index entry t = record t {
  defined = defined_with t.defined entry;
  messages = counted t.messages (entry_writes (planned t.plan) module_index t.defined entry);
}

abbrev pub with_entries : ℕ → List GsdEntry → ReporterState → ReporterState
with_entries module_index entries t = record t {
  defined = defined_with_all t.defined entries;
  messages = counted t.messages (entries_writes (planned t.plan) module_index t.defined entries);
}

-- ---- records

-- the parts for these relocations, without the beginning of their record
abbrev pub relocated_parts : List Relocation → List Part
relocated_parts relocations = map (λ relocation. Relocated relocation) relocations

-- the state with this text pending; the text's address is relative to the base of this module's contribution to this section
abbrev pub with_text : ℕ → Name → ℕ → Bytes → ReporterState → ReporterState
with_text module_index section address bytes t =
    with_held (Some (placed_text (planned t.plan) module_index section address bytes)) t

-- the writes of a directory record in the module with this index: the pending text, and the messages about entries
abbrev pub directory_writes : ℕ → List GsdEntry → ReporterState → List Write
directory_writes module_index entries t =
    held_writes t.held ++ entries_writes (planned t.plan) module_index t.defined entries

-- the state after a directory record with these entries in the module with this index
abbrev pub with_directory : ℕ → List GsdEntry → ReporterState → ReporterState
with_directory module_index entries t = with_entries module_index entries (with_held None t)

-- these writes were made, and the state is the expected one; or an output failed at one of the writes; or memory was refused, and a
-- prefix of the writes was made
abbrev pub Goes : {A S : Type 0} → Outputs → Outputs → List Write → S → S → Result A LinkFault → Type 0
Goes old new writes state expected (Ok done) = Gains old new writes × (state ≡ expected)
Goes old new writes state expected (Err stopped) = Stops old new writes stopped

-- the state is the expected one; or memory was refused, and nothing is known of the state; no other fault is possible
abbrev pub EmitBecomes : ReporterState → ReporterState → Result (Unit {0}) LinkFault → Type 0
EmitBecomes state expected (Ok done) = state ≡ expected
EmitBecomes state expected (Err fault.NoMemory) = ⊤
EmitBecomes state expected (Err stopped) = ⊥

-- ---- calls

-- the state of a second pass between two calls: what the rules know, the reporter, whether the front is written, and the fault that
-- was returned, if any
pub record EmitState : Type 0 where
  pub known : RulesState
  pub reporting : ReporterState
  pub has_begun : Bool
  pub fault : Option LinkFault

-- the pending text, if there is one, is as long as the last text that the rules know
abbrev pub HoldsLastText : EmitState → Type 0
HoldsLastText state = IsAsLong state.known.text state.reporting.held

-- the writes of the front; none if it is already written
abbrev pub begin_writes : EmitState → List Write
begin_writes state = if state.has_begun then [] else front_writes (planned state.reporting.plan)

abbrev pub begun_reporting : EmitState → ReporterState
begun_reporting state =
    if state.has_begun then state.reporting else with_count (front_writes (planned state.reporting.plan)) state.reporting

abbrev pub with_reporting : ReporterState → EmitState → EmitState
with_reporting reporting state = record state { reporting = reporting; has_begun = true }

-- the writes for these parts: none before the first call that isn't refused
abbrev pub written : Findings → Bool → List Part → List Write
written found has_begun parts = if has_begun then writes_so_far found parts else []

-- the parts have no fault, and `state` is the state of a second pass after them
pub record EmitAfter (plan : PlanTables) (parts : List Part) (state : EmitState) : Type 0 where
  pub sound : first_fault [] parts ≡ None
  pub known : state.known ≡ known_of parts
  pub planned_so : state.reporting.plan ≡ plan
  pub defined : state.reporting.defined ≡ defined_names parts
  pub held : state.reporting.held ≡ held_text (planned plan) parts
  pub messages : state.reporting.messages ≡ counted 0 (written (planned plan) state.has_begun parts)
  pub begun : state.has_begun ≡ false → parts ≡ []
  pub fault : state.fault ≡ None

-- all writes begin with those so far, and `Went` holds of the writes after them
pub record GoesOn (Went : List Write → Type 0) (so_far all : List Write) : Type 0 where
  pub more : List Write
  pub split : all ≡ so_far ++ more
  pub went : Went more

-- a call of a second pass: the outputs and the state of the pass, before and after the call
pub record Call : Type 0 where
  pub old : Outputs
  pub new : Outputs
  pub stood : EmitState
  pub stands : EmitState

abbrev pub call_of : Outputs → Outputs → EmitState → EmitState → Call
call_of old new stood stands = record { old = old; new = new; stood = stood; stands = stands }

-- parts weren't accepted: their first fault was returned, and nothing was written; or they have no fault, but an output failed or
-- memory was refused; or memory was refused before anything was written, for a part that adds a name, and neither that part nor one
-- before it has a fault
abbrev pub StopsInParts : PlanTables → List Part → Outputs → Outputs → EmitState → List Part → LinkFault → Type 0
StopsInParts plan before old new state parts (fault.Write output) = (first_fault before parts ≡ None)
    × GoesOn (StopsIn output old new) (written (planned plan) state.has_begun before) (written (planned plan) true (before ++ parts))
StopsInParts plan before old new state parts fault.NoMemory =
    (StopsAtName (first_fault before) parts × (new ≡ old))
    ⊎ ((first_fault before parts ≡ None)
    × GoesOn (StopsBetween old new) (written (planned plan) state.has_begun before) (written (planned plan) true (before ++ parts)))
StopsInParts plan before old new state parts stopped = FirstFault before parts stopped × (new ≡ old)

-- parts were accepted, and all output for them is written, except a text that hasn't ended; or they weren't accepted
abbrev pub AcceptsParts : PlanTables → List Part → Call → List Part → Result (Unit {0}) LinkFault → Type 0
AcceptsParts plan before call parts (Ok done) = EmitAfter plan (before ++ parts) call.stands
    × (call.stands.has_begun ≡ true)
    × GoesOn (Gains call.old call.new) (written (planned plan) call.stood.has_begun before) (written (planned plan) true (before ++ parts))
AcceptsParts plan before call parts (Err stopped) = StopsInParts plan before call.old call.new call.stood parts stopped

-- the block isn't a valid record, and nothing was written; or this is the result for the record's parts
abbrev pub AcceptsBlock : PlanTables → List Part → Call → Bytes → Result (Unit {0}) LinkFault → Type 0
AcceptsBlock plan before call bytes (Err (fault.Record inner)) = (content_of bytes ≡ Err inner) × (call.new ≡ call.old)
AcceptsBlock plan before call bytes (Err (fault.Write output)) = IsRecord bytes
    × AcceptsParts plan before call (record_parts bytes) (Err (fault.Write output))
AcceptsBlock plan before call bytes (Err fault.NoMemory) = IsRecord bytes
    × AcceptsParts plan before call (record_parts bytes) (Err fault.NoMemory)
AcceptsBlock plan before call bytes result = AcceptsParts plan before call (record_parts bytes) result

-- after an error, the same error is returned again, nothing changes and nothing is written
abbrev pub FailsAgain : EmitState → EmitState → Outputs → Outputs → Result (Unit {0}) LinkFault → Type 0
FailsAgain state state' old new result = (stopped : LinkFault) → state.fault ≡ Some stopped
    → (result ≡ Err stopped) × (state' ≡ state) × (new ≡ old)

-- the end of the second pass: the whole link is written, its messages are counted, and tape and map hold nothing back; or the parts
-- end inside a module, and nothing more was written; or the parts end between modules, but an output failed, perhaps when it was
-- flushed, or memory was refused
abbrev pub EmitEnds : PlanTables → List Part → Outputs → Outputs → EmitState → Result LinkDone LinkFault → Type 0
EmitEnds plan parts old new state (Ok done) = (fault_of parts EndOfFile ≡ None)
    × (done.messages ≡ counted 0 (link_writes (planned plan) parts))
    × GoesOn (Gains old new) (written (planned plan) state.has_begun parts) (link_writes (planned plan) parts) × AreFlushed new
EmitEnds plan parts old new state (Err (fault.Write output)) = (fault_of parts EndOfFile ≡ None)
    × GoesOn (StopsIn output old new) (written (planned plan) state.has_begun parts) (link_writes (planned plan) parts ++ flushes)
EmitEnds plan parts old new state (Err fault.NoMemory) = (fault_of parts EndOfFile ≡ None)
    × GoesOn (StopsBetween old new) (written (planned plan) state.has_begun parts) (link_writes (planned plan) parts ++ flushes)
EmitEnds plan parts old new state (Err fault.BadOrder) = (fault_of parts EndOfFile ≡ Some rule.BadOrder) × (new ≡ old)
EmitEnds plan parts old new state (Err stopped) = ⊥
