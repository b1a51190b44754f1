-- Machines that satisfy the premises of laws: at least one for each law about steps and runs that has premises. (This project's
-- own.)
use Rattle.std.specs.Prelude.{◌≡◌, ℕ, true, false, List, [], ◌∷◌, Ok}
use Rattle.m11_base.specs.declared.instruction.Insn.TheVariants as insn
use Rattle.m11_base.specs.declared.instruction.NumberOp.TheVariants.{Emt}
use Rattle.m11_base.specs.declared.instruction.BareOp.TheVariants.{Rti}
use Rattle.m11_base.specs.declared.operand.Operand.{Operand}
use Rattle.m11_base.specs.declared.operand.Size.TheVariants.{Word}
use Rattle.m11_cpu_machine.specs.Addressing.{fetch_operand, location_of}
use Rattle.m11_cpu_machine.specs.Dialogue.{Asked, Comes, Exchange, Fails, Leads, Sent}
use Rattle.m11_cpu.specs.Runs.{run_counted}
use Rattle.m11_cpu_machine.specs.Steps.{step}
use Rattle.m11_cpu_machine.specs.declared.addressing.OperandLocation.TheVariants.{InMemory}
use Rattle.m11_cpu_machine.specs.declared.machine.Machine.{Machine}
use Rattle.m11_cpu_machine.specs.declared.stop.Stop.TheVariants.{InputFault, Limit, OutputFault, StackFault}
use Rattle.m11_cpu_machine.specs.declared.stop.Turn.{Turn}
use Rattle.m11_cpu_machine.specs.declared.stop.Turn.TheVariants.{Next, Stopped}
use Rattle.m11_cpu_laws.specs.Returns.{HasRoom, IsAt, IsRunning}
use Rattle.m11_cpu_laws.specs.StatusWord.{EndsBeforeDevices}
use Rattle.m11_cpu_laws.specs.Writes.{MakesSteps}

-- some machine makes a step with these exchanges and this result
pub record StepIsMade (exchanges : List Exchange) (turn : Turn) : Type 0 where
  pub machine : Machine
  pub left : Machine
  pub makes_steps : MakesSteps machine
  pub leads : Leads (step machine) exchanges (turn, left)

-- three such steps: an instruction makes a request to an input that fails; another sends a byte that is refused; and a trap can't push
abbrev pub AsksInVain : Type 0
AsksInVain = StepIsMade (Asked Fails ∷ []) (Stopped InputFault)

abbrev pub SendsInVain : Type 0
SendsInVain = StepIsMade (Sent 0 false ∷ []) (Stopped OutputFault)

abbrev pub TrapsInVain : Type 0
TrapsInVain = StepIsMade [] (Stopped StackFault)

-- a machine with T set makes a step without an exchange, and doesn't stop
pub record StepIsTraced : Type 0 where
  pub machine : Machine
  pub left : Machine
  pub makes_steps : MakesSteps machine
  pub traced : machine.status.trace ≡ true
  pub leads : step machine ≡ Comes (Next, left)

-- a run reaches its limit and is continued
pub record RunIsJoined : Type 0 where
  pub machine : Machine
  pub middle : Machine
  pub last : Machine
  pub first_part : Leads (run_counted 1 machine) [] (record { stop = Limit; steps = 1 }, middle)
  pub second_part : Leads (run_counted 1 middle) [] (record { stop = Limit; steps = 1 }, last)

-- EMT traps, and RTI is at the address that the trap leads to
pub record TrapIsMade : Type 0 where
  pub machine : Machine
  pub trapped : Machine
  pub running : IsRunning machine
  pub room : HasRoom machine
  pub code : IsAt (insn.Number Emt 0) machine
  pub leads : step machine ≡ Comes (Next, trapped)
  pub handler : IsAt (insn.Bare Rti) trapped

-- a source is fetched, and then a destination is found at the address of the status word, for MOV to store there
pub record StatusIsStored : Type 0 where
  pub source : Operand
  pub destination : Operand
  pub machine : Machine
  pub fetched : Machine
  pub formed : Machine
  pub value : ℕ
  pub source_fetched : fetch_operand source Word machine ≡ Comes (Ok value, fetched)
  pub destination_formed : location_of destination Word fetched ≡ Comes (Ok (InMemory 0o177776), formed)
  pub past_memory : EndsBeforeDevices formed
