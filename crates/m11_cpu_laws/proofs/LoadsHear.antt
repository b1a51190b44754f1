-- The addresses at which a load asks for a byte, and at which it clears done.
use Rattle.std.proofs.Common.{◌≡◌, ℕ, ◌==◌, Bool, true, false, cond, List, Option, Some, None, Result, Ok, refl}
use Rattle.std.specs.Prelude.{not, ◌&&◌}
use Rattle.std.proofs.lemmas.Bool.{eqb-true}
use Rattle.m11_cpu_machine.specs.Access.{is_inside, is_odd, load_byte, load_device, load_register, load_word, receiver_status}
use Rattle.m11_cpu_machine.specs.Console.{device_at, is_waiting, receiver_bits}
use Rattle.m11_cpu_machine.specs.Dialogue.{Comes, Dialogue, Exchange, Leads}
use Rattle.m11_cpu_machine.specs.declared.abort.Abort.{Abort}
use Rattle.m11_cpu_machine.specs.declared.console.DeviceRegister.{DeviceRegister}
use Rattle.m11_cpu_machine.specs.declared.console.DeviceRegister.TheVariants.{ReceiverStatus, ReceiverBuffer, TransmitterStatus, TransmitterBuffer, ProcessorStatus}
use Rattle.m11_cpu_machine.specs.declared.machine.Machine.{Machine}
use Rattle.m11_cpu_laws.specs.Receiving.{LoadReceives}
use Rattle.m11_cpu_laws.proofs.Exchanging.{Every, every_comes}
use Rattle.m11_cpu_laws.proofs.PartsReport.{still_open}

abbrev Hearing : ℕ → Machine → Dialogue (Result ℕ Abort × Machine) → Type 0
Hearing address m d = Every {A = Result ℕ Abort × Machine} d (λ es y. LoadReceives address m es y.1)

-- `Hearing` holds for a load that asks for nothing and leaves the receiver unchanged
silent : (address : ℕ) (m : Machine) (x : Result ℕ Abort) → Hearing address m (Comes (x, m))
silent address m x =
    every_comes (x, m) _ (record { asks = λ some. absurd (some refl); clears = λ before after. absurd (cc) })

hearing_cond : (address : ℕ) (m : Machine) (test : Bool) {a b : Dialogue (Result ℕ Abort × Machine)}
    → Hearing address m a → Hearing address m b → Hearing address m (cond test a b)
hearing_cond address m true p q = p
hearing_cond address m false p q = q

-- ---- the addresses of the receiver's registers

abbrev chosen : Bool → Bool → Bool → Bool → Bool → DeviceRegister → Type 0
chosen first second third fourth fifth register =
    cond first (Some ReceiverStatus) (cond second (Some ReceiverBuffer) (cond third (Some TransmitterStatus)
    (cond fourth (Some TransmitterBuffer) (cond fifth (Some ProcessorStatus) None)))) ≡ Some register

status_first : (a b c d e : Bool) → chosen a b c d e ReceiverStatus → a ≡ true
status_first true b c d e h = refl
status_first false true c d e h = absurd (cc)
status_first false false true d e h = absurd (cc)
status_first false false false true e h = absurd (cc)
status_first false false false false true h = absurd (cc)
status_first false false false false false h = absurd (cc)

buffer_second : (a b c d e : Bool) → chosen a b c d e ReceiverBuffer → b ≡ true
buffer_second true b c d e h = absurd (cc)
buffer_second false true c d e h = refl
buffer_second false false true d e h = absurd (cc)
buffer_second false false false true e h = absurd (cc)
buffer_second false false false false true h = absurd (cc)
buffer_second false false false false false h = absurd (cc)

status_at : (address : ℕ) → device_at address ≡ Some ReceiverStatus → address ≡ 0o177560
status_at address e =
    eqb-true address 0o177560
    (status_first (address == 0o177560) (address == 0o177562) (address == 0o177564) (address == 0o177566)
    (address == 0o177776) e)

buffer_at : (address : ℕ) → device_at address ≡ Some ReceiverBuffer → address ≡ 0o177562
buffer_at address e =
    eqb-true address 0o177562
    (buffer_second (address == 0o177560) (address == 0o177562) (address == 0o177564) (address == 0o177566)
    (address == 0o177776) e)

-- ---- loads

not_done : (done ended : Bool) → (not done && not ended) ≡ true → done ≡ false
not_done false ended h = refl
not_done true ended h = absurd (cc)

-- `Hearing` holds for a load of the receiver's status that may ask for a byte
asking_hears : (address : ℕ) (m : Machine) (d : Dialogue (Result ℕ Abort × Machine)) → address ≡ 0o177560
    → is_waiting m.receiver ≡ true → Hearing address m d
asking_hears address m d e waits = record {
  each = λ es y h. record {
    asks = λ some. record {
      at_status = e;
      not_done = not_done m.receiver.is_done m.receiver.has_ended waits;
      not_ended = still_open m.receiver.is_done m.receiver.has_ended waits;
    };
    clears = λ before after. let f = not_done m.receiver.is_done m.receiver.has_ended waits in absurd (cc);
  };
}

waiting_hears : (waiting : Bool) (address : ℕ) (m : Machine) (d : Dialogue (Result ℕ Abort × Machine))
    → address ≡ 0o177560 → is_waiting m.receiver ≡ waiting
    → Hearing address m (cond waiting d (Comes (Ok (receiver_bits m.receiver), m)))
waiting_hears true address m d e waits = asking_hears address m d e waits
waiting_hears false address m d e waits = silent address m (Ok (receiver_bits m.receiver))

register_hears : (register : Option DeviceRegister) (address : ℕ) (m : Machine) → device_at address ≡ register
    → Hearing address m (load_register register m)
unfolding receiver_status
register_hears (Some ReceiverStatus) address m e =
    waiting_hears (is_waiting m.receiver) address m _ (status_at address e) refl
register_hears (Some ReceiverBuffer) address m e =
    every_comes _ _ (record { asks = λ some. absurd (some refl); clears = λ before after. buffer_at address e })
register_hears (Some TransmitterStatus) address m e = silent address m _
register_hears (Some TransmitterBuffer) address m e = silent address m _
register_hears (Some ProcessorStatus) address m e = silent address m _
register_hears None address m e = silent address m _

device_hears : (address : ℕ) (m : Machine) → Hearing address m (load_device address m)
unfolding load_device
device_hears address m = register_hears (device_at address) address m refl

word_hears : (address : ℕ) (m : Machine) → Hearing address m (load_word address m)
unfolding load_word
word_hears address m =
    hearing_cond address m (is_odd address) (silent address m _)
    (hearing_cond address m (is_inside address m) (silent address m _) (device_hears address m))

byte_hears : (address : ℕ) (m : Machine) → Hearing address m (load_byte address m)
unfolding load_byte
byte_hears address m =
    hearing_cond address m (is_inside address m) (silent address m _)
    (hearing_cond address m (is_odd address) (silent address m _) (device_hears address m))

pub load_word_hears : (address : ℕ) (m m' : Machine) (came : Result ℕ Abort) (es : List Exchange)
    → Leads (load_word address m) es (came, m') → LoadReceives address m es m'
load_word_hears address m m' came es h = (word_hears address m).each es (came, m') h

pub load_byte_hears : (address : ℕ) (m m' : Machine) (came : Result ℕ Abort) (es : List Exchange)
    → Leads (load_byte address m) es (came, m') → LoadReceives address m es m'
load_byte_hears address m m' came es h = (byte_hears address m).each es (came, m') h
