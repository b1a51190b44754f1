-- Bytes that are no state.
use Rattle.std.proofs.Common.{◌≡◌, ℕ, ◌+◌, ◌*◌, ◌≤◌, Bool, List, [], ◌∷◌, ◌++◌, length, Option, Result, Ok, Err, refl, sym, ap, ◌∙◌, arith}
use Rattle.std.proofs.lemmas.List.{length-append}
use Rattle.std.specs.Prelude.{IfErr}
use Rattle.m11_base.specs.Devices.{Bytes}
use Rattle.m11_cpu_machine.specs.Memory.{bytes_of, least_words, most_words}
use Rattle.m11_cpu_machine.specs.Status.{bit}
use Rattle.m11_cpu_machine.specs.declared.console.Receiver.{Receiver}
use Rattle.m11_cpu_machine.specs.declared.machine.Machine.{Machine}
use Rattle.m11_cpu_machine.specs.declared.status.ProcessorStatus.{ProcessorStatus}
use Rattle.m11_cpu_machine.specs.declared.stop.LastingStop.{LastingStop}
use Rattle.m11_cpu_states.proofs.OneMachine.{words_one}
use Rattle.m11_cpu_states.specs.declared.refusal.StateFault.{StateFault}
use Rattle.m11_cpu_states.specs.declared.refusal.StateFault.TheVariants.{Malformed}
use Rattle.m11_cpu_states.specs.States.{HasWords, IsState, IsWhole, lasting_number, receiver_bytes, state_of, status_bytes}

pub words_bytes : (words : List ℕ) → length (bytes_of words) ≡ 2 * length words
words_bytes [] = refl
words_bytes (word ∷ words) = omega (arith, words_bytes words)

-- a state has 28 bytes and those of memory
state_length : (m : Machine) → length m.registers ≡ 8 → length (state_of m) ≡ 28 + length m.memory
state_length m e =
    let rest : Bytes = status_bytes m.status ++ (receiver_bytes m.receiver
    ++ (bit m.transmitter.is_enabled ∷ lasting_number m.stopped ∷ m.memory)) in
    omega (arith, length-append (bytes_of m.registers) rest, words_bytes m.registers, e)

-- bytes whose number no state has
pub no_length : (state : Bytes) → ((words : ℕ) → HasWords (length state) words → ⊥) → IsState state → ⊥
no_length state none (m, whole, is) =
    let long : length state ≡ 28 + 2 * whole.0 = sym (ap length is) ∙ state_length m whole.1 ∙ ap (λ n. 28 + n) whole.2 in
    none whole.0 (long, whole.3, whole.4)

module _ (registers memory : Bytes) (priority trace negative zero overflow carry byte done enabled ended printing stop : ℕ) (state : Bytes) where
  abbrev Parts : Type 0
  Parts = state ≡ bytes_of registers ++ (priority ∷ trace ∷ negative ∷ zero ∷ overflow ∷ carry ∷ byte ∷ done ∷ enabled ∷ ended
      ∷ printing ∷ stop ∷ memory)

  rest_of : length registers ≡ 8 → Parts → (m : Machine) → IsWhole m → state_of m ≡ state
      → status_bytes m.status ++ (receiver_bytes m.receiver ++ (bit m.transmitter.is_enabled ∷ lasting_number m.stopped ∷ m.memory))
      ≡ priority ∷ trace ∷ negative ∷ zero ∷ overflow ∷ carry ∷ byte ∷ done ∷ enabled ∷ ended ∷ printing ∷ stop ∷ memory
  rest_of eight parts m whole is = (words_one m.registers registers _ _ (whole.1 ∙ sym eight) (is ∙ parts)).1

  pub no_status : length registers ≡ 8 → Parts
      → ((status : ProcessorStatus) → status_bytes status ≡ priority ∷ trace ∷ negative ∷ zero ∷ overflow ∷ carry ∷ [] → ⊥)
      → IsState state → ⊥
  no_status eight parts none (m, whole, is) = let rest = rest_of eight parts m whole is in none m.status (cc)

  pub no_receiver : length registers ≡ 8 → Parts
      → ((receiver : Receiver) → receiver_bytes receiver ≡ byte ∷ done ∷ enabled ∷ ended ∷ [] → ⊥) → IsState state → ⊥
  no_receiver eight parts none (m, whole, is) = let rest = rest_of eight parts m whole is in none m.receiver (cc)

  pub no_transmitter : length registers ≡ 8 → Parts → ((flag : Bool) → printing ≡ bit flag → ⊥) → IsState state → ⊥
  no_transmitter eight parts none (m, whole, is) =
      let rest = rest_of eight parts m whole is in none m.transmitter.is_enabled (cc)

  pub no_stop : length registers ≡ 8 → Parts → ((stopped : Option LastingStop) → stop ≡ lasting_number stopped → ⊥)
      → IsState state → ⊥
  no_stop eight parts none (m, whole, is) = let rest = rest_of eight parts m whole is in none m.stopped (cc)

  -- so many bytes come before those of memory
  pub memory_length : length registers ≡ 8 → Parts → length state ≡ 28 + length memory
  memory_length eight parts =
      let rest : Bytes = priority ∷ trace ∷ negative ∷ zero ∷ overflow ∷ carry ∷ byte ∷ done ∷ enabled ∷ ended ∷ printing ∷ stop ∷ memory in
      omega (arith, ap length parts, length-append (bytes_of registers) rest, words_bytes registers, eight)

-- whatever fault a result has, the bytes are no state
pub in_any_case : {A : Type 0} (result : Result A StateFault) (state : Bytes) → (IsState state → ⊥)
    → IfErr result (λ fault. fault ≡ Malformed → IsState state → ⊥)
in_any_case (Ok value) state refuted = tt
in_any_case (Err fault) state refuted = λ is. refuted
