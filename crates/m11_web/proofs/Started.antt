-- The state of a machine that has loaded a tape.
use Rattle.std.proofs.Common.{◌≡◌, ℕ, List, Option, Some, Result, Ok, Err, refl, sym, ap, ◌∙◌, subst}
use Rattle.m11_base.specs.Devices.{Bytes}
use Rattle.m11_base.specs.declared.operand.Register.TheVariants.{Pc}
use Rattle.m11_cpu_machine.specs.Machine.{new_machine, with_register}
use Rattle.m11_cpu_machine.specs.declared.machine.Machine.{Machine}
use Rattle.m11_base.specs.Feed.{Ends, Text}
use Rattle.m11_cpu.specs.Loading.{LoadsInto}
use Rattle.m11_cpu.specs.declared.fault.LoadFault.{LoadFault}
use Rattle.m11_web.specs.Running.{Fails, Starts}
use Rattle.m11_cpu_states.specs.States.{state_at_start, state_of}

new_state : (words start : ℕ) (m : Machine) (memory : Bytes) → m ≡ record (new_machine words) { memory = memory }
    → state_at_start (with_register Pc start m).registers m.memory ≡ state_of (with_register Pc start m)
unfolding new_machine
new_state words start m memory e =
    let P : Machine → Type 0 = λ x. state_at_start (with_register Pc start x).registers x.memory ≡ state_of (with_register Pc start x) in
    subst P (sym e) refl

pub started : (words start : ℕ) (m m' : Machine) (registers : List ℕ) (memory state : Bytes)
    → m ≡ record (new_machine words) { memory = m.memory } → m' ≡ with_register Pc start m → registers ≡ m'.registers
    → memory ≡ m'.memory → state ≡ state_at_start registers memory → state ≡ state_of (with_register Pc start m)
started words start m m' registers memory state e f g h i =
    i ∙ ap (λ (l : List ℕ). state_at_start l memory) (g ∙ ap (λ (x : Machine). x.registers) f)
    ∙ ap (λ (l : Bytes). state_at_start (with_register Pc start m).registers l) (h ∙ ap (λ (x : Machine). x.memory) f)
    ∙ new_state words start m m.memory e

-- a load of a tape in memory into a new machine
from_tape : (words : ℕ) (tape : Bytes) (before m : Machine) (text text' : Option Text) (faults faults' : ℕ) (result : Result ℕ LoadFault)
    → before ≡ new_machine words → text ≡ Some (record { bytes = tape; ending = Ends }) → faults ≡ 0
    → LoadsInto text text' faults faults' before m result
    → LoadsInto (Some (record { bytes = tape; ending = Ends })) text' 0 faults' (new_machine words) m result
from_tape words tape before m text text' faults faults' result eb et ef loads =
    subst (λ (x : Machine). LoadsInto (Some (record { bytes = tape; ending = Ends })) text' 0 faults' x m result) eb
    (subst (λ (n : ℕ). LoadsInto (Some (record { bytes = tape; ending = Ends })) text' n faults' before m result) ef
    (subst (λ (t : Option Text). LoadsInto t text' faults faults' before m result) et loads))

pub loaded : (words start : ℕ) (tape : Bytes) (before m m' : Machine) (text text' : Option Text) (faults faults' : ℕ) (registers : List ℕ)
    (memory state : Bytes) → before ≡ new_machine words → text ≡ Some (record { bytes = tape; ending = Ends }) → faults ≡ 0
    → LoadsInto text text' faults faults' before m (Ok start) → m' ≡ with_register Pc start m → registers ≡ m'.registers
    → memory ≡ m'.memory → state ≡ state_at_start registers memory → Starts words tape start state
loaded words start tape before m m' text text' faults faults' registers memory state eb et ef loads e f g h =
    let so = from_tape words tape before m text text' faults faults' (Ok start) eb et ef loads in
    (m, record { text = text'; faults = faults' }, so, started words start m m' registers memory state so.2 e f g h)

pub not_loaded : (words : ℕ) (tape : Bytes) (before m : Machine) (text text' : Option Text) (faults faults' : ℕ) (fault : LoadFault)
    → before ≡ new_machine words → text ≡ Some (record { bytes = tape; ending = Ends }) → faults ≡ 0
    → LoadsInto text text' faults faults' before m (Err fault) → Fails words tape
not_loaded words tape before m text text' faults faults' fault eb et ef loads =
    (m, record { text = text'; faults = faults' }, fault, from_tape words tape before m text text' faults faults' (Err fault) eb et ef loads)
