-- The second pass of a link over its feeds, and the whole run. (This project's own.)
use Rattle.std.specs.Prelude.{◌≡◌, ◌⊎◌, ℕ, Bool, true, false, List, [], ◌∷◌, ◌++◌, Option, None, Result, Ok, Err}
use Rattle.m11_base.specs.Devices.{Rises}
use Rattle.m11_base.specs.Feed.{Text, NoneFailed}
use Rattle.m11_link_modules.specs.Parts.{Part, EndOfFile}
use Rattle.m11_link_modules.specs.Rules.{fault_of}
use Rattle.m11_link_layout.specs.Plan.{PlanTables}
use Rattle.m11_link_layout.specs.declared.fault.LinkFault.{LinkFault}
use Rattle.m11_link_layout.specs.declared.fault.LinkFault.TheVariants as fault
use Rattle.m11_link.specs.declared.emit.LinkDone.{LinkDone}
use Rattle.m11_link.specs.Emit.{EmitState, EmitAfter, written}
use Rattle.m11_link_text.specs.Findings.{Findings, findings_of, planned}
use Rattle.m11_base_writes.specs.Passes.{Pass}
use Rattle.m11_link.specs.FirstPass.{AtBlock, AtFeed, LacksMemory, ReadsFirst}
use Rattle.m11_link.specs.Objects.{Item, taken, accepted_item, GivesItems, BeginsItems, GiveItems, FailAfter}
use Rattle.m11_link.specs.Outputs.{Gains, StopsIn, StopsBetween}
use Rattle.m11_base_writes.specs.Outputs.{AreFlushed, Outputs, Write, flushes}
use Rattle.m11_link.specs.Written.{counted, link_writes, writes_so_far}

-- ---- the writes of a pass that stops

-- whether the front is written after these items: it was written before, or there is an item, since the call for the first item
-- writes it
abbrev pub begun_by : Bool → List Item → Bool
begun_by has_begun [] = has_begun
begun_by has_begun (item ∷ items) = true

-- the items have no fault after the earlier parts, and exactly this was written since the pass began: the front, and the output for
-- all parts, except a text that hasn't ended; nothing if the front wasn't written before and there was no item
pub record WrittenAfter (found : Findings) (has_begun : Bool) (before : List Part) (items : List Item)
    (old new : Outputs) : Type 0 where
  pub parts : List Part
  pub taken-is : taken before items ≡ Ok parts
  pub gains : Gains old new (written found (begun_by has_begun items) parts)

-- one item is refused but none before it, and exactly the writes for the items before it were made
pub record StopsBefore (found : Findings) (has_begun : Bool) (before : List Part) (items : List Item)
    (stopped : LinkFault) (old new : Outputs) : Type 0 where
  pub done : List Item
  pub item : Item
  pub more : List Item
  pub split : items ≡ done ++ item ∷ more
  pub exactly : WrittenAfter found has_begun before done old new
  pub refused : accepted_item exactly.parts item ≡ Err stopped

-- some prefix of the items has no fault, and the pass stops among the writes of the front and of this prefix
pub record StopsWithin (Stop : List Write → Type 0) (found : Findings) (before : List Part) (items : List Item) : Type 0
  where
    pub done : List Item
    pub more : List Item
    pub split : items ≡ done ++ more
    pub parts : List Part
    pub taken-is : taken before done ≡ Ok parts
    pub stops : Stop (written found true parts)

-- an output failed or memory was refused among the writes for a prefix of the items, which has no fault; or exactly the writes for such
-- a prefix were made, and the next item was refused
abbrev pub StopsAt : LinkFault → Findings → Bool → List Part → List Item → Outputs → Outputs → Type 0
StopsAt (fault.Write output) found has_begun before items old new =
    StopsWithin (StopsIn output old new) found before items
StopsAt fault.NoMemory found has_begun before items old new = StopsWithin (StopsBetween old new) found before items
StopsAt stopped found has_begun before items old new = StopsBefore found has_begun before items stopped old new

-- ---- one object and several objects

-- the items have no fault after the earlier parts, an object may end after the last item, `emit` is the state of the pass after
-- these items, and exactly the output for all parts so far was written
pub record Emitted (plan : PlanTables) (has_begun : Bool) (before : List Part) (items : List Item) (first now : Outputs)
    (emit : EmitState) : Type 0 where
  pub parts : List Part
  pub taken-is : taken before items ≡ Ok parts
  pub stands : EmitAfter plan parts emit
  pub between : fault_of parts EndOfFile ≡ None
  pub begun : emit.has_begun ≡ begun_by has_begun items
  pub gains : Gains first now (written (planned plan) emit.has_begun parts)

-- the state before some objects in a second pass: the plan, whether the front is written, the parts before these objects, and the
-- outputs before the whole pass
pub record Start : Type 0 where
  pub plan : PlanTables
  pub has_begun : Bool
  pub before : List Part
  pub first : Outputs

abbrev pub start_at : PlanTables → Bool → List Part → Outputs → Start
start_at plan has_begun before first =
    record { plan = plan; has_begun = has_begun; before = before; first = first }

abbrev pub EmittedFrom : Start → List Item → Outputs → EmitState → Type 0
EmittedFrom start items now emit = Emitted start.plan start.has_begun start.before items start.first now emit

abbrev pub WrittenFrom : Start → List Item → Outputs → Type 0
WrittenFrom start items now = WrittenAfter (planned start.plan) start.has_begun start.before items start.first now

abbrev pub StopsFrom : LinkFault → Start → List Item → Outputs → Type 0
StopsFrom stopped start items now = StopsAt stopped (planned start.plan) start.has_begun start.before items start.first now

abbrev pub EmitsObject : Option Text → Option Text → ℕ → ℕ → Start → Outputs → EmitState → Result (Unit {0}) LinkFault → Type 0
EmitsObject text text' faults faults' start now emit (Ok done) = (faults' ≡ faults)
    × (items : List Item) × GivesItems text items × EmittedFrom start items now emit
EmitsObject text text' faults faults' start now emit (Err fault.Read) = Rises faults faults'
    × (items : List Item) × BeginsItems text items × WrittenFrom start items now
EmitsObject text text' faults faults' start now emit (Err fault.NoMemory) = (faults' ≡ faults)
    × (items : List Item) × GivesItems text items × StopsFrom fault.NoMemory start items now × AtBlock text text' start.before
EmitsObject text text' faults faults' start now emit (Err stopped) = (faults' ≡ faults)
    × (items : List Item) × GivesItems text items × StopsFrom stopped start items now

abbrev pub Emits : {F : Type 0} → Pass F → Start → Outputs → EmitState → Result (Unit {0}) LinkFault → Type 0
Emits pass start now emit (Ok done) = NoneFailed pass.faults pass.old pass.new
    × (items : List Item) × GiveItems pass.text pass.old items × EmittedFrom start items now emit
Emits pass start now emit (Err fault.Read) =
    (items : List Item) × FailAfter pass.text pass.faults pass.old pass.new items × WrittenFrom start items now
Emits pass start now emit (Err fault.NoMemory) = NoneFailed pass.faults pass.old pass.new
    × (items : List Item) × GiveItems pass.text pass.old items × StopsFrom fault.NoMemory start items now × AtFeed pass start.before
Emits pass start now emit (Err stopped) = NoneFailed pass.faults pass.old pass.new
    × (items : List Item) × GiveItems pass.text pass.old items × StopsFrom stopped start items now

-- ---- the whole second pass, and the run

-- these are the writes for a prefix of the items, which has no fault; or those for all items, with the transfer block and the flushes
pub data AreWrites (found : Findings) (items : List Item) : List Write → Type 0 where
  SoFar : (done more : List Item) (parts : List Part) → items ≡ done ++ more → taken [] done ≡ Ok parts
      → AreWrites found items (writes_so_far found parts)
  All : (parts : List Part) → taken [] items ≡ Ok parts → AreWrites found items (link_writes found parts ++ flushes)

-- the second pass with these findings of the first: the items have no fault, everything is written, the messages are counted, and tape
-- and map hold nothing back; or a feed failed or an item was refused, and exactly the writes for the earlier items were made; or an
-- output failed in a write, or memory was refused between two writes, where no limit is passed, and nothing was written afterwards
abbrev pub ReadsSecond : {F : Type 0} → Pass F → Findings → Outputs → Outputs → Result LinkDone LinkFault → Type 0
ReadsSecond pass found old new (Ok done) = NoneFailed pass.faults pass.old pass.new
    × (items : List Item) × GiveItems pass.text pass.old items
    × (parts : List Part) × (taken [] items ≡ Ok parts) × Gains old new (link_writes found parts)
    × (done.messages ≡ counted 0 (link_writes found parts)) × AreFlushed new
ReadsSecond pass found old new (Err fault.Read) = (items : List Item)
    × FailAfter pass.text pass.faults pass.old pass.new items × WrittenAfter found false [] items old new
ReadsSecond pass found old new (Err (fault.Write output)) = NoneFailed pass.faults pass.old pass.new
    × (items : List Item) × GiveItems pass.text pass.old items
    × (writes : List Write) × AreWrites found items writes × StopsIn output old new writes
ReadsSecond pass found old new (Err fault.NoMemory) = NoneFailed pass.faults pass.old pass.new
    × (items : List Item) × GiveItems pass.text pass.old items
    × (writes : List Write) × AreWrites found items writes × StopsBetween old new writes × LacksMemory pass
ReadsSecond pass found old new (Err stopped) = NoneFailed pass.faults pass.old pass.new
    × (items : List Item) × GiveItems pass.text pass.old items × StopsBefore found false [] items stopped old new

-- the run: the first pass returned the parts of the objects, and this is the result of the second pass with their findings; or this is
-- the fault of the first pass, the feeds of the second are unchanged, and `Untouched` holds
abbrev pub LinkRunsOr : {F : Type 0} → Type 0 → Pass F → Pass F → ℕ → Outputs → Outputs → Result LinkDone LinkFault
    → Type 0
LinkRunsOr Untouched first second bottom old new (Ok done) = (parts : List Part)
    × ReadsFirst first bottom (Ok parts) × ReadsSecond second (findings_of bottom parts) old new (Ok done)
LinkRunsOr Untouched first second bottom old new (Err stopped) =
    (ReadsFirst first bottom (Err stopped) × (second.new ≡ second.old) × Untouched)
    ⊎ ((parts : List Part)
    × ReadsFirst first bottom (Ok parts) × ReadsSecond second (findings_of bottom parts) old new (Err stopped))

-- the run; if the first pass returns a fault, the outputs are unchanged
abbrev pub LinkRuns : {F : Type 0} → Pass F → Pass F → ℕ → Outputs → Outputs → Result LinkDone LinkFault → Type 0
LinkRuns first second bottom old new result = LinkRunsOr (new ≡ old) first second bottom old new result
