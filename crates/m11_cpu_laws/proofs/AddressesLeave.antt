-- Forming an address changes at most the console, the program counter and the registers of operands.
use Rattle.std.proofs.Common.{◌≡◌, ℕ, true, refl, Option, Some, None}
use Rattle.m11_base.specs.declared.operand.Mode.{Mode}
use Rattle.m11_base.specs.declared.operand.Mode.TheVariants as mode
use Rattle.m11_base.specs.declared.operand.Operand.{Operand}
use Rattle.m11_base.specs.declared.operand.Register.{Register}
use Rattle.m11_base.specs.declared.operand.Register.TheVariants.{Sp, Pc}
use Rattle.m11_base.specs.declared.operand.Size.{Size}
use Rattle.m11_base.specs.declared.operand.Size.TheVariants.{Word, Byte}
use Rattle.m11_cpu_machine.specs.Access.{is_inside, is_odd, load_byte, load_device, load_register, load_word, receive, received, receiver_status}
use Rattle.m11_cpu_machine.specs.Acts.{value, ◌>>=◌}
use Rattle.m11_cpu_machine.specs.Console.{device_at, is_waiting}
use Rattle.m11_cpu_machine.specs.Dialogue.{Reply, Gives, Ends, Fails}
use Rattle.m11_cpu_machine.specs.Jumps.{address_of, pop, target}
use Rattle.m11_cpu_machine.specs.Machine.{register_of, with_register}
use Rattle.m11_cpu_machine.specs.Addressing.{deferred, fetch, fetch_operand, forward, indexed, location_by, location_of, next_word}
use Rattle.m11_cpu_laws.specs.Returns.{is_stepping}
use Rattle.m11_cpu_machine.specs.declared.console.DeviceRegister.{DeviceRegister}
use Rattle.m11_cpu_machine.specs.declared.console.DeviceRegister.TheVariants.{ReceiverStatus, ReceiverBuffer, TransmitterStatus, TransmitterBuffer, ProcessorStatus}
use Rattle.m11_cpu_machine.specs.declared.console.Receiver.{Receiver}
use Rattle.m11_cpu_machine.specs.declared.machine.Machine.{Machine}
use Rattle.m11_cpu_machine.specs.declared.addressing.OperandLocation.{OperandLocation}
use Rattle.m11_cpu_machine.specs.declared.addressing.OperandLocation.TheVariants.{InRegister, InMemory}
use Rattle.m11_cpu_laws.proofs.Parts.{at_asks, at_comes, at_cond, Keeps, keeps_bind}

-- loads keep a property `I` that changes of the receiver keep
module _ (I : Machine → Type 0) (receives : (n : Machine) (r : Receiver) → I n → I (record n { receiver = r })) where
  received_keeps : (reply : Reply) (m : Machine) → I m → Keeps I (received reply m)
  received_keeps (Gives byte) m i = at_comes (receives m _ i)
  received_keeps Ends m i = at_comes (receives m _ i)
  received_keeps Fails m i = at_comes i

  receive_keeps : (m : Machine) → I m → Keeps I (receive m)
  unfolding receive
  receive_keeps m i = at_asks (λ reply. received_keeps reply m i)

  status_keeps : (m : Machine) → I m → Keeps I (receiver_status m)
  unfolding receiver_status value
  status_keeps m i =
      at_cond (is_waiting m.receiver) (keeps_bind I receive _ m (receive_keeps m i) (λ x n j. at_comes j)) (at_comes i)

  register_keeps : (register : Option DeviceRegister) (m : Machine) → I m → Keeps I (load_register register m)
  register_keeps (Some ReceiverStatus) m i = status_keeps m i
  register_keeps (Some ReceiverBuffer) m i = at_comes (receives m _ i)
  register_keeps (Some TransmitterStatus) m i = at_comes i
  register_keeps (Some TransmitterBuffer) m i = at_comes i
  register_keeps (Some ProcessorStatus) m i = at_comes i
  register_keeps None m i = at_comes i

  device_keeps : (address : ℕ) (m : Machine) → I m → Keeps I (load_device address m)
  unfolding load_device
  device_keeps address m i = register_keeps (device_at address) m i

  pub word_keeps : (address : ℕ) (m : Machine) → I m → Keeps I (load_word address m)
  unfolding load_word
  word_keeps address m i =
      at_cond (is_odd address) (at_comes i) (at_cond (is_inside address m) (at_comes i) (device_keeps address m i))

  pub byte_keeps : (address : ℕ) (m : Machine) → I m → Keeps I (load_byte address m)
  unfolding load_byte
  byte_keeps address m i =
      at_cond (is_inside address m) (at_comes i) (at_cond (is_odd address) (at_comes i) (device_keeps address m i))

  pub deferred_keeps : (address : ℕ) (m : Machine) → I m → Keeps I (deferred address m)
  unfolding deferred
  deferred_keeps address m i = keeps_bind I (load_word address) _ m (word_keeps address m i) (λ word n j. at_comes j)

-- reading words at the program counter and forming locations keep `I`, if changes of the program counter keep it too
module _ (I : Machine → Type 0) (receives : (n : Machine) (r : Receiver) → I n → I (record n { receiver = r }))
    (counts : (n : Machine) (v : ℕ) → I n → I (with_register Pc v n)) where
  pub next_word_keeps : (m : Machine) → I m → Keeps I (next_word m)
  unfolding next_word
  next_word_keeps m i =
      keeps_bind I (load_word (register_of Pc m)) _ m (word_keeps I receives _ m i)
      (λ word n j. at_comes (counts n _ j))

  indexed_keeps : (register : Register) (m : Machine) → I m → Keeps I (indexed register m)
  unfolding indexed
  indexed_keeps register m i = keeps_bind I next_word _ m (next_word_keeps m i) (λ index n j. at_comes j)

  -- for a mode that steps its register, changes of this register must keep `I` too
  location_by_keeps : (by : Mode) (register : Register) (size : Size) (m : Machine)
      → (is_stepping by ≡ true → (n : Machine) (v : ℕ) → I n → I (with_register register v n))
      → I m → Keeps I (location_by by register size m)
  location_by_keeps mode.Register register size m steps i = at_comes i
  location_by_keeps mode.RegisterDeferred register size m steps i = at_comes i
  location_by_keeps mode.Autoincrement register size m steps i = at_comes (steps refl m _ i)
  location_by_keeps mode.AutoincrementDeferred register size m steps i = deferred_keeps I receives _ _ (steps refl m _ i)
  location_by_keeps mode.Autodecrement register size m steps i = at_comes (steps refl m _ i)
  location_by_keeps mode.AutodecrementDeferred register size m steps i = deferred_keeps I receives _ _ (steps refl m _ i)
  location_by_keeps mode.Index register size m steps i =
      keeps_bind I (indexed register) _ m (indexed_keeps register m i) (λ address n j. at_comes j)
  location_by_keeps mode.IndexDeferred register size m steps i =
      keeps_bind I (indexed register) deferred m (indexed_keeps register m i)
      (λ address n j. deferred_keeps I receives address n j)

  pub location_keeps : (operand : Operand) (size : Size) (m : Machine)
      → (is_stepping operand.mode ≡ true → (n : Machine) (v : ℕ) → I n → I (with_register operand.register v n))
      → I m → Keeps I (location_of operand size m)
  unfolding location_of
  location_keeps operand size m steps i = location_by_keeps operand.mode operand.register size m steps i

address_keeps : (I : Machine → Type 0) (location : OperandLocation) (m : Machine) → I m → Keeps I (address_of location m)
address_keeps I (InRegister register) m i = at_comes i
address_keeps I (InMemory address) m i = at_comes i

pub target_keeps : (I : Machine → Type 0) (operand : Operand) (size : Size) (m : Machine)
    → Keeps I (location_of operand size m)
    → Keeps I ((location_of operand size >>= address_of) m)
target_keeps I operand size m k = keeps_bind I (location_of operand size) address_of m k
    (λ location n j. address_keeps I location n j)

-- forming and fetching operands keeps `I`, if changes of every register keep it too
module _ (I : Machine → Type 0) (receives : (n : Machine) (r : Receiver) → I n → I (record n { receiver = r }))
    (puts : (register : Register) (n : Machine) (v : ℕ) → I n → I (with_register register v n)) where
  pub code_keeps : (m : Machine) → I m → Keeps I (next_word m)
  code_keeps m i = next_word_keeps I receives (puts Pc) m i

  pub operand_keeps : (operand : Operand) (size : Size) (m : Machine) → I m → Keeps I (location_of operand size m)
  operand_keeps operand size m i = location_keeps I receives (puts Pc) operand size m (λ s. puts operand.register) i

  pub jump_target_keeps : (operand : Operand) (m : Machine) → I m → Keeps I (target operand m)
  unfolding target
  jump_target_keeps operand m i = target_keeps I operand Word m (operand_keeps operand Word m i)

  pub fetch_keeps : (location : OperandLocation) (size : Size) (m : Machine) → I m → Keeps I (fetch location size m)
  unfolding fetch
  fetch_keeps (InRegister register) Word m i = at_comes i
  fetch_keeps (InRegister register) Byte m i = at_comes i
  fetch_keeps (InMemory address) Word m i = word_keeps I receives address m i
  fetch_keeps (InMemory address) Byte m i = byte_keeps I receives address m i

  pub source_keeps : (operand : Operand) (size : Size) (m : Machine) → I m → Keeps I (fetch_operand operand size m)
  unfolding fetch_operand
  source_keeps operand size m i =
      keeps_bind I (location_of operand size) _ m (operand_keeps operand size m i)
      (λ location n j. fetch_keeps location size n j)

  pub pop_keeps : (m : Machine) → I m → Keeps I (pop m)
  unfolding pop
  pop_keeps m i = word_keeps I receives (forward Sp 2 m).0 (forward Sp 2 m).1 (puts Sp m _ i)
