-- How the receiver of the console changes in a step. (SIMH PDP-11 manual, console terminal; for the end of the input this project's own.)
use Rattle.std.specs.Prelude.{◌≡◌, ◌≢◌, ℕ, Bool, true, false, List, [], ◌∷◌}
use Rattle.m11_cpu_machine.specs.Dialogue.{Exchange, Asked, Sent, Gives, Ends, Fails}
use Rattle.m11_cpu_machine.specs.declared.console.Receiver.{Receiver}
use Rattle.m11_cpu_machine.specs.declared.machine.Machine.{Machine}
use Rattle.m11_cpu_laws.specs.Laws.{given}

-- nothing is requested once the input has ended; the first flag says whether it had ended before these exchanges, the second whether it has
-- ended after them
abbrev pub AsksBeforeEnd : Bool → List Exchange → Bool → Type 0
AsksBeforeEnd ended [] ended' = ended' ≡ ended
AsksBeforeEnd ended (Asked (Gives byte) ∷ es) ended' = (ended ≡ false) × AsksBeforeEnd false es ended'
AsksBeforeEnd ended (Asked Ends ∷ es) ended' = (ended ≡ false) × AsksBeforeEnd true es ended'
AsksBeforeEnd ended (Asked Fails ∷ es) ended' = (ended ≡ false) × AsksBeforeEnd false es ended'
AsksBeforeEnd ended (Sent byte taken ∷ es) ended' = AsksBeforeEnd ended es ended'

-- the last byte that arrived, or this byte if none arrived
abbrev pub last_received : ℕ → List Exchange → ℕ
last_received byte [] = byte
last_received byte (Asked (Gives new) ∷ es) = last_received new es
last_received byte (Asked Ends ∷ es) = last_received byte es
last_received byte (Asked Fails ∷ es) = last_received byte es
last_received byte (Sent sent taken ∷ es) = last_received byte es

-- a receiver changes in these exchanges as follows: nothing is requested after the end of the input; the receiver's byte is the last byte
-- that arrived, or the old byte if none arrived; and done is set only if a byte arrived or done was set before
pub record ReceiverChanges (old : Receiver) (exchanges : List Exchange) (new : Receiver) : Type 0 where
  pub asked : AsksBeforeEnd old.has_ended exchanges new.has_ended
  pub byte : new.byte ≡ last_received old.byte exchanges
  pub done : given exchanges ≡ [] → new.is_done ≡ true → old.is_done ≡ true

-- the address is that of the receiver's status register, done is clear, and the input hasn't ended
pub record AsksAt (address : ℕ) (receiver : Receiver) : Type 0 where
  pub at_status : address ≡ 0o177560
  pub not_done : receiver.is_done ≡ false
  pub not_ended : receiver.has_ended ≡ false

-- a load requests a byte only as `AsksAt` says, and clears done only at the receiver's buffer
pub record LoadReceives (address : ℕ) (m : Machine) (exchanges : List Exchange) (m' : Machine) : Type 0 where
  pub asks : exchanges ≢ [] → AsksAt address m.receiver
  pub clears : m.receiver.is_done ≡ true → m'.receiver.is_done ≡ false → address ≡ 0o177562
