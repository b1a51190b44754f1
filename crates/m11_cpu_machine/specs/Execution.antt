-- The effect of each instruction. (PDP-11/40 Processor Handbook, "Instruction set".)
use Rattle.std.specs.Prelude.{ℕ, not, ◌&&◌, ◌||◌, false, Ok, Err}
use Rattle.m11_base.specs.declared.instruction.BareOp.{BareOp}
use Rattle.m11_base.specs.declared.instruction.BareOp.TheVariants.{Halt, Wait, Rti, Bpt, Iot, Reset, Rtt}
use Rattle.m11_base.specs.declared.instruction.ConditionCodes.{ConditionCodes}
use Rattle.m11_base.specs.declared.instruction.ConditionOp.{ConditionOp}
use Rattle.m11_base.specs.declared.instruction.ConditionOp.TheVariants.{Clear, Set}
use Rattle.m11_base.specs.declared.instruction.Insn.{Insn}
use Rattle.m11_base.specs.declared.instruction.Insn.TheVariants as insn
use Rattle.m11_base.specs.declared.instruction.NumberOp.{NumberOp}
use Rattle.m11_base.specs.declared.instruction.NumberOp.TheVariants.{Mark, Emt, Trap}
use Rattle.m11_base.specs.declared.instruction.RegisterOp.{RegisterOp}
use Rattle.m11_base.specs.declared.instruction.RegisterOp.TheVariants.{Jsr, Xor}
use Rattle.m11_base.specs.declared.operand.Operand.{Operand}
use Rattle.m11_base.specs.declared.operand.Register.{Register}
use Rattle.m11_base.specs.declared.operand.Register.TheVariants.{Pc}
use Rattle.m11_cpu_machine.specs.Acts.{Act, ◌>>=◌}
use Rattle.m11_cpu_machine.specs.Dialogue.{Comes}
use Rattle.m11_cpu_machine.specs.DoubleOperands.{double, exclusive_or}
use Rattle.m11_cpu_machine.specs.Extended.{extended}
use Rattle.m11_cpu_machine.specs.Jumps.{branched, call, counted_down, mark, pop, return_by}
use Rattle.m11_cpu_machine.specs.Machine.{with_condition_codes, with_register}
use Rattle.m11_cpu_machine.specs.SingleOperands.{single}
use Rattle.m11_cpu_machine.specs.Status.{status_of}
use Rattle.m11_cpu_machine.specs.declared.abort.Abort.TheVariants.{Traps}
use Rattle.m11_cpu_machine.specs.declared.abort.Vector.TheVariants as vector
use Rattle.m11_cpu_machine.specs.declared.execution.Ending.{Ending}
use Rattle.m11_cpu_machine.specs.declared.execution.Ending.TheVariants.{Next, Untraced, Halts, Waits}
use Rattle.m11_cpu_machine.specs.declared.machine.Machine.{Machine}

-- RTI and RTT: the program counter is loaded before the processor status is popped
unfoldable pub return_from_trap : Act (Unit {0})
return_from_trap = pop >>= λ address m.
    (pop >>= λ bits n. Comes (Ok tt, record n { status = status_of bits })) (with_register Pc address m)

-- RESET clears bit 6, interrupt enable, in both status registers of the console
abbrev pub reset : Machine → Machine
reset m = record m {
  receiver = record m.receiver { is_enabled = false };
  transmitter = record { is_enabled = false };
}

unfoldable pub bare : BareOp → Act Ending
bare Halt m = Comes (Ok Halts, m)
bare Wait m = Comes (Ok Waits, m)
bare Rti m = (return_from_trap >>= λ _ n. Comes (Ok Next, n)) m
bare Rtt m = (return_from_trap >>= λ _ n. Comes (Ok Untraced, n)) m
bare Bpt m = Comes (Err (Traps vector.Breakpoint), m)
bare Iot m = Comes (Err (Traps vector.InputOutput), m)
bare Reset m = Comes (Ok Next, reset m)

unfoldable pub numbered : NumberOp → ℕ → Act (Unit {0})
numbered Mark number m = mark number m
numbered Emt number m = Comes (Err (Traps vector.Emulator), m)
numbered Trap number m = Comes (Err (Traps vector.Trap), m)

unfoldable pub on_register : RegisterOp → Register → Operand → Act (Unit {0})
on_register Jsr register operand = call register operand
on_register Xor register operand = exclusive_or register operand

-- the condition codes after the named ones are cleared or set
abbrev pub conditions_of : ConditionOp → ConditionCodes → ConditionCodes → ConditionCodes
conditions_of Clear named codes = record {
  negative = codes.negative && not named.negative;
  zero = codes.zero && not named.zero;
  overflow = codes.overflow && not named.overflow;
  carry = codes.carry && not named.carry;
}
conditions_of Set named codes = record {
  negative = codes.negative || named.negative;
  zero = codes.zero || named.zero;
  overflow = codes.overflow || named.overflow;
  carry = codes.carry || named.carry;
}

abbrev pub conditions_applied : ConditionOp → ConditionCodes → Machine → Machine
conditions_applied operation named m = with_condition_codes (conditions_of operation named m.status.codes) m

abbrev pub then_next : Act (Unit {0}) → Act Ending
then_next act = act >>= λ _ m. Comes (Ok Next, m)

unfoldable pub execute : Insn → Act Ending
execute (insn.Double operation size source destination) m = then_next (double operation size source destination) m
execute (insn.Extended operation register source) m = then_next (extended operation register source) m
execute (insn.Register operation register operand) m = then_next (on_register operation register operand) m
execute (insn.Sob register words) m = Comes (Ok Next, counted_down register words m)
execute (insn.Single operation size operand) m = then_next (single operation size operand) m
execute (insn.Rts register) m = then_next (return_by register) m
execute (insn.Number operation number) m = then_next (numbered operation number) m
execute (insn.Bare operation) m = bare operation m
execute (insn.Condition operation named) m = Comes (Ok Next, conditions_applied operation named m)
execute (insn.Branch operation words) m = Comes (Ok Next, branched operation words m)
execute (insn.Reserved word) m = Comes (Err (Traps vector.Reserved), m)
