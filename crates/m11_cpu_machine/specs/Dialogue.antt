-- A program's exchanges with the console: the program asks for bytes and sends bytes, and the input and the output reply. (This project's
-- own: no manual describes a failing device.)
use Rattle.std.specs.Prelude.{◌≡◌, ℕ, ◌<◌, Bool, true, false, List, [], ◌∷◌, Option, Some, None}
use Rattle.std.specs.Io.KnownBytes.{Appends}
use Rattle.m11_base.specs.Devices.{Bytes, Rises}
use Rattle.m11_base.specs.Feed.{Text, GivesByte, GivesEnd, GivesFailure}

-- the reply of the input to a request: a byte, the end, or a failure
pub data Reply : Type 0 where
  Gives : ℕ → Reply
  Ends : Reply
  Fails : Reply

-- a dialogue yields a value at once; or it asks for a byte, and the reply determines how it goes on; or it sends a byte, and goes
-- on depending on whether the byte was accepted
pub data Dialogue (A : Type 0) : Type 0 where
  Comes : A → Dialogue A
  Asks : (Reply → Dialogue A) → Dialogue A
  Sends : ℕ → (Bool → Dialogue A) → Dialogue A

-- a dialogue, followed by the dialogue that its value determines
abbrev pub after : {A B : Type 0} → Dialogue A → (A → Dialogue B) → Dialogue B
after (Comes x) next = next x
after (Asks by) next = Asks (λ reply. after (by reply) next)
after (Sends byte by) next = Sends byte (λ taken. after (by taken) next)

-- ---- exchanges

pub data Exchange : Type 0 where
  Asked : Reply → Exchange
  Sent : ℕ → Bool → Exchange

-- a dialogue yields this value after exactly these exchanges, in order
unfoldable pub Leads : {A : Type 0} → Dialogue A → List Exchange → A → Type 0
Leads (Comes x) [] y = y ≡ x
Leads (Comes x) (e ∷ es) y = ⊥
Leads (Asks by) [] y = ⊥
Leads (Asks by) (Asked reply ∷ es) y = Leads (by reply) es y
Leads (Asks by) (Sent byte taken ∷ es) y = ⊥
Leads (Sends byte by) [] y = ⊥
Leads (Sends byte by) (Asked reply ∷ es) y = ⊥
Leads (Sends byte by) (Sent sent taken ∷ es) y = (sent ≡ byte) × Leads (by taken) es y

-- ---- the devices

-- the state of the input's feed: its text, and the number of its failures
pub record Input : Type 0 where
  pub text : Option Text
  pub faults : ℕ

-- the state of the output's sink: its text, and the number of its failures
pub record Output : Type 0 where
  pub text : Option Bytes
  pub faults : ℕ

-- the devices of a call: the input, the output, or both
pub record Devices : Type 0 where
  pub input : Option Input
  pub output : Option Output

abbrev pub input_of : Option Text → ℕ → Input
input_of text faults = record { text = text; faults = faults }

abbrev pub output_of : Option Bytes → ℕ → Output
output_of text faults = record { text = text; faults = faults }

abbrev pub input_alone : Option Text → ℕ → Devices
input_alone text faults = record { input = Some (record { text = text; faults = faults }); output = None }

abbrev pub output_alone : Option Bytes → ℕ → Devices
output_alone text faults = record { input = None; output = Some (output_of text faults) }

abbrev pub both : Option Text → ℕ → Option Bytes → ℕ → Devices
both given input_faults taken output_faults = record {
  input = Some (record { text = given; faults = input_faults });
  output = Some (output_of taken output_faults);
}

-- the input gave this reply
abbrev pub Replies : Input → Input → Reply → Type 0
Replies old new (Gives byte) = GivesByte old.text new.text byte × (new.faults ≡ old.faults) × (byte < 256)
Replies old new Ends = GivesEnd old.text new.text × (new.faults ≡ old.faults)
Replies old new Fails = GivesFailure old.text new.text old.faults × Rises old.faults new.faults

-- the output accepted the byte, or failed and accepted nothing
abbrev pub DialogueAccepts : Output → Output → ℕ → Bool → Type 0
DialogueAccepts old new byte true = Appends old.text new.text (byte ∷ []) × (new.faults ≡ old.faults)
DialogueAccepts old new byte false = Appends old.text new.text [] × Rises old.faults new.faults

-- the device is there before and after, and this relation holds between its two states
abbrev pub Did : {D : Type 0} → (D → D → Type 0) → Option D → Option D → Type 0
Did did None new = ⊥
Did did (Some old) None = ⊥
Did did (Some old) (Some new) = did old new

abbrev pub Happens : Devices → Devices → Exchange → Type 0
Happens old new (Asked reply) = Did (λ i i'. Replies i i' reply) old.input new.input × (new.output ≡ old.output)
Happens old new (Sent byte taken) = Did (λ o o'. DialogueAccepts o o' byte taken) old.output new.output × (new.input ≡ old.input)

unfoldable pub Happened : Devices → Devices → List Exchange → Type 0
Happened old new [] = new ≡ old
Happened old new (e ∷ es) = (middle : Devices) × Happens old middle e × Happened middle new es

-- a dialogue with the devices yielded this value, and its exchanges led the devices from the old state to the new one
pub record Does {A : Type 0} (dialogue : Dialogue A) (old new : Devices) (value : A) : Type 0 where
  pub exchanges : List Exchange
  pub leads : Leads dialogue exchanges value
  pub happened : Happened old new exchanges
