-- A state is of one machine.
use Rattle.std.proofs.Common.{◌≡◌, ℕ, ◌/◌, ◌%◌, Bool, true, false, List, [], ◌∷◌, ◌++◌, length, Option, Some, None, refl, sym, ◌∙◌, arith}
use Rattle.m11_cpu_machine.specs.Memory.{bytes_of}
use Rattle.m11_cpu_machine.specs.Status.{bit}
use Rattle.m11_base.specs.declared.instruction.ConditionCodes.{ConditionCodes}
use Rattle.m11_cpu_machine.specs.declared.console.Receiver.{Receiver}
use Rattle.m11_cpu_machine.specs.declared.console.Transmitter.{Transmitter}
use Rattle.m11_cpu_machine.specs.declared.machine.Machine.{Machine}
use Rattle.m11_cpu_machine.specs.declared.status.ProcessorStatus.{ProcessorStatus}
use Rattle.m11_cpu_machine.specs.declared.stop.LastingStop.{LastingStop}
use Rattle.m11_cpu_machine.specs.declared.stop.LastingStop.TheVariants.{StackFault, InputFault, OutputFault}
use Rattle.m11_cpu_states.specs.States.{lasting_number, receiver_bytes, state_of, status_bytes}

pub words_one : (words words' rest rest' : List ℕ) → length words ≡ length words' → bytes_of words ++ rest ≡ bytes_of words' ++ rest'
    → (words ≡ words') × (rest ≡ rest')
words_one [] [] rest rest' l e = (refl, e)
words_one [] (w ∷ ws) rest rest' l e = absurd (omega arith)
words_one (w ∷ ws) [] rest rest' l e = absurd (omega arith)
words_one (w ∷ ws) (w' ∷ ws') rest rest' l e =
    let low : w % 256 ≡ w' % 256 = cc in
    let high : w / 256 ≡ w' / 256 = cc in
    let following : bytes_of ws ++ rest ≡ bytes_of ws' ++ rest' = cc in
    let more = words_one ws ws' rest rest' (omega arith) following in
    let whole : w ≡ w' = omega arith in
    (cc, more.1)

bit_one : (b b' : Bool) → bit b ≡ bit b' → b ≡ b'
bit_one true true e = refl
bit_one false false e = refl
bit_one true false e = absurd (omega arith)
bit_one false true e = absurd (omega arith)

lasting_one : (s s' : Option LastingStop) → lasting_number s ≡ lasting_number s' → s ≡ s'
lasting_one None None e = refl
lasting_one (Some StackFault) (Some StackFault) e = refl
lasting_one (Some InputFault) (Some InputFault) e = refl
lasting_one (Some OutputFault) (Some OutputFault) e = refl
lasting_one None (Some StackFault) e = absurd (omega arith)
lasting_one None (Some InputFault) e = absurd (omega arith)
lasting_one None (Some OutputFault) e = absurd (omega arith)
lasting_one (Some StackFault) None e = absurd (omega arith)
lasting_one (Some InputFault) None e = absurd (omega arith)
lasting_one (Some OutputFault) None e = absurd (omega arith)
lasting_one (Some StackFault) (Some InputFault) e = absurd (omega arith)
lasting_one (Some StackFault) (Some OutputFault) e = absurd (omega arith)
lasting_one (Some InputFault) (Some StackFault) e = absurd (omega arith)
lasting_one (Some InputFault) (Some OutputFault) e = absurd (omega arith)
lasting_one (Some OutputFault) (Some StackFault) e = absurd (omega arith)
lasting_one (Some OutputFault) (Some InputFault) e = absurd (omega arith)

abbrev codes_with : Bool → Bool → Bool → Bool → ConditionCodes
codes_with n z v k = record { negative = n; zero = z; overflow = v; carry = k }

abbrev status_with : ℕ → Bool → ConditionCodes → ProcessorStatus
status_with p t c = record { priority = p; trace = t; codes = c }

abbrev receiver_with : ℕ → Bool → Bool → Bool → Receiver
receiver_with b d i h = record { byte = b; is_done = d; is_enabled = i; has_ended = h }

abbrev machine_with : List ℕ → List ℕ → ProcessorStatus → Receiver → Transmitter → Option LastingStop → Machine
machine_with memory registers status receiver transmitter stopped = record {
  memory = memory;
  registers = registers;
  status = status;
  receiver = receiver;
  transmitter = transmitter;
  stopped = stopped;
}

made_codes : {n n' z z' v v' k k' : Bool} → n ≡ n' → z ≡ z' → v ≡ v' → k ≡ k'
    → codes_with n z v k ≡ codes_with n' z' v' k'
made_codes n z v k = cc

made_status : {p p' : ℕ} {t t' : Bool} {c c' : ConditionCodes} → p ≡ p' → t ≡ t' → c ≡ c' → status_with p t c ≡ status_with p' t' c'
made_status p t c = cc

status_one : (s s' : ProcessorStatus) → status_bytes s ≡ status_bytes s' → s ≡ s'
status_one s s' e =
    let p : s.priority ≡ s'.priority = cc in
    let t = bit_one s.trace s'.trace (cc) in
    let n = bit_one s.codes.negative s'.codes.negative (cc) in
    let z = bit_one s.codes.zero s'.codes.zero (cc) in
    let v = bit_one s.codes.overflow s'.codes.overflow (cc) in
    let k = bit_one s.codes.carry s'.codes.carry (cc) in
    made_status p t (made_codes n z v k)

made_receiver : {b b' : ℕ} {d d' i i' h h' : Bool} → b ≡ b' → d ≡ d' → i ≡ i' → h ≡ h' → receiver_with b d i h ≡ receiver_with b' d' i' h'
made_receiver b d i h = cc

receiver_one : (r r' : Receiver) → receiver_bytes r ≡ receiver_bytes r' → r ≡ r'
receiver_one r r' e =
    let b : r.byte ≡ r'.byte = cc in
    let d = bit_one r.is_done r'.is_done (cc) in
    let i = bit_one r.is_enabled r'.is_enabled (cc) in
    let h = bit_one r.has_ended r'.has_ended (cc) in
    made_receiver b d i h

transmitter_with : {b b' : Bool} → b ≡ b' → ◌≡◌ {A = Transmitter} (record { is_enabled = b }) (record { is_enabled = b' })
transmitter_with b = cc

made_machine : {m m' w w' : List ℕ} {s s' : ProcessorStatus} {r r' : Receiver} {t t' : Transmitter} {p p' : Option LastingStop}
    → m ≡ m' → w ≡ w' → s ≡ s' → r ≡ r' → t ≡ t' → p ≡ p' → machine_with m w s r t p ≡ machine_with m' w' s' r' t' p'
made_machine m w s r t p = cc

pub state_one : (m m' : Machine) → length m.registers ≡ 8 → length m'.registers ≡ 8 → state_of m ≡ state_of m' → m ≡ m'
state_one m m' l l' e =
    let split = words_one m.registers m'.registers _ _ (l ∙ sym l') e in
    let rest = split.1 in
    let status = status_one m.status m'.status (cc) in
    let receiver = receiver_one m.receiver m'.receiver (cc) in
    let enabled = bit_one m.transmitter.is_enabled m'.transmitter.is_enabled (cc) in
    let stopped = lasting_one m.stopped m'.stopped (cc) in
    let memory : m.memory ≡ m'.memory = cc in
    made_machine memory split.0 status receiver (transmitter_with enabled) stopped
