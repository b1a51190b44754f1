-- Writes to several outputs in one order, and which of them were made. (This project's own.)
use Rattle.std.specs.Prelude.{◌≡◌, ◌≢◌, Bool, true, List, [], ◌∷◌, ◌++◌, map, ⊤, Option, Some, None, Result, Ok, Err, if◌then◌else◌}
use Rattle.std.specs.List.{flat_map}
use Rattle.std.specs.Io.KnownBytes.{Appends}
use Rattle.m11_base.specs.Devices.{Bytes, Rises}
use Rattle.m11_base_writes.specs.States.{OutputState}

-- ---- the outputs of a program

-- where writes ended early: in a write to this output, which failed; or between two writes, where memory was refused
pub data Stop (O : Type 0) : Type 0 where
  In : O → Stop O
  Between : Stop O

-- the outputs of a program, with a test of whether two of them are the same, and its faults, some of which say that writes ended early
pub record Kinds (O E : Type 0) : Type 0 where
  pub is : O → O → Bool
  pub same : (a b : O) → is a b ≡ true → a ≡ b
  pub itself : (a : O) → is a a ≡ true
  pub stop : E → Option (Stop O)

-- ---- writes

-- bytes written to one output
pub record Write (O : Type 0) : Type 0 where
  pub output : O
  pub bytes : Bytes

abbrev pub to_output : {O : Type 0} → O → Bytes → Write O
to_output output bytes = record { output = output; bytes = bytes }

-- the bytes that an output gains by a write: all bytes of a write to this output, and none of a write to another one
abbrev pub gained_by : {O E : Type 0} → Kinds O E → O → Write O → Bytes
gained_by kinds output write = if kinds.is output write.output then write.bytes else []

-- all bytes that writes add to an output
unfoldable pub gained : {O E : Type 0} → Kinds O E → O → List (Write O) → Bytes
gained kinds output writes = flat_map (gained_by kinds output) writes

-- ---- the effect of writes

-- each output gained the bytes of its writes
abbrev pub GainTexts : {O E : Type 0} → Kinds O E → (O → OutputState) → (O → OutputState) → List (Write O) → Type 0
GainTexts {O} kinds old new writes =
    (output : O) → Appends (old output).text (new output).text (gained kinds output writes)

-- each output gained the bytes of its writes, and none failed
pub record Gains {O E : Type 0} (kinds : Kinds O E) (old new : O → OutputState) (writes : List (Write O)) : Type 0 where
  pub texts : GainTexts kinds old new writes
  pub faults : (output : O) → (new output).faults ≡ (old output).faults

-- this output failed in one of the writes, and no other output failed: the writes before that one are whole, a prefix of its bytes was
-- written, and no write after it was made
pub record StopsIn {O E : Type 0} (kinds : Kinds O E) (failed : O) (old new : O → OutputState) (writes : List (Write O))
    : Type 0 where
  pub done : List (Write O)
  pub part : Bytes
  pub rest : Bytes
  pub more : List (Write O)
  pub split : writes ≡ done ++ to_output failed (part ++ rest) ∷ more
  pub texts : GainTexts kinds old new (done ++ to_output failed part ∷ [])
  pub failure : Rises (old failed).faults (new failed).faults
  pub others : (output : O) → output ≢ failed → (new output).faults ≡ (old output).faults

-- a prefix of the writes, perhaps none or all of them, was made, each write whole, and no output failed
pub record StopsBetween {O E : Type 0} (kinds : Kinds O E) (old new : O → OutputState) (writes : List (Write O)) : Type 0 where
  pub done : List (Write O)
  pub more : List (Write O)
  pub split : writes ≡ done ++ more
  pub gains : Gains kinds old new done

abbrev pub StopsAt : {O E : Type 0} → Kinds O E → (O → OutputState) → (O → OutputState) → List (Write O) → Option (Stop O) → Type 0
StopsAt kinds old new writes (Some (In output)) = StopsIn kinds output old new writes
StopsAt kinds old new writes (Some Between) = StopsBetween kinds old new writes
StopsAt kinds old new writes None = ⊥

-- the writes of a call ended early, as its fault says: an output failed, or memory was refused between two writes
abbrev pub Stops : {O E : Type 0} → Kinds O E → (O → OutputState) → (O → OutputState) → List (Write O) → E → Type 0
Stops kinds old new writes fault = StopsAt kinds old new writes (kinds.stop fault)

-- the writes of a call, depending on its result: all of them were made; or they ended early
abbrev pub Writes : {A O E : Type 0} → Kinds O E → (O → OutputState) → (O → OutputState) → List (Write O) → Result A E → Type 0
Writes kinds old new writes (Ok done) = Gains kinds old new writes
Writes kinds old new writes (Err stopped) = Stops kinds old new writes stopped

-- ---- the end of a run

-- a flush of these outputs, in order, as a list of writes of no bytes: each of these writes may fail, and none adds a byte
abbrev pub flushes : {O : Type 0} → List O → List (Write O)
flushes outputs = map (λ output. to_output output []) outputs

-- these outputs hold nothing back
abbrev pub AreFlushed : {O : Type 0} → (O → OutputState) → List O → Type 0
AreFlushed now [] = ⊤
AreFlushed now (output ∷ outputs) = ((now output).held ≡ 0) × AreFlushed now outputs

-- writes, and then a flush of outputs: everything was written, and the outputs hold nothing back; or the writes or the flush ended
-- early
abbrev pub Finishes : {A O E : Type 0} → Kinds O E → (O → OutputState) → (O → OutputState) → List (Write O) → List O → Result A E → Type 0
Finishes kinds old new writes outputs (Ok done) = Gains kinds old new writes × AreFlushed new outputs
Finishes kinds old new writes outputs (Err stopped) = Stops kinds old new (writes ++ flushes outputs) stopped

-- ---- laws

-- each output has gained a prefix of all bytes of its writes
abbrev pub LeavesBeginnings : {O E : Type 0} → Kinds O E → (O → OutputState) → (O → OutputState) → List (Write O) → Type 0
LeavesBeginnings {O} kinds old new writes = (output : O) → (part : Bytes) × (rest : Bytes)
    × (gained kinds output writes ≡ part ++ rest) × Appends (old output).text (new output).text part
