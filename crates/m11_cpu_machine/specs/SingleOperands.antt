-- Instructions with one operand. (PDP-11/40 Processor Handbook, "Instruction set": single operand instructions. That CLR and SXT don't read
-- their operand is this project's own choice.)
use Rattle.std.specs.Prelude.{Option, Some, None, Ok}
use Rattle.m11_cpu_arithmetic.specs.Singles.{single_result}
use Rattle.m11_base.specs.declared.instruction.SingleOp.{SingleOp}
use Rattle.m11_base.specs.declared.operand.Operand.{Operand}
use Rattle.m11_base.specs.declared.operand.Size.{Size}
use Rattle.m11_cpu_machine.specs.Acts.{Act, ◌>>=◌}
use Rattle.m11_cpu_machine.specs.DestinationUse.{use_by_single}
use Rattle.m11_cpu_machine.specs.declared.destination_use.DestinationUse.{DestinationUse}
use Rattle.m11_cpu_machine.specs.declared.destination_use.DestinationUse.TheVariants.{Writes, Reads, Changes}
use Rattle.m11_cpu_machine.specs.declared.addressing.OperandLocation.{OperandLocation}
use Rattle.m11_cpu_machine.specs.Dialogue.{Comes}
use Rattle.m11_cpu_machine.specs.Jumps.{jump}
use Rattle.m11_cpu_machine.specs.Machine.{with_condition_codes}
use Rattle.m11_cpu_machine.specs.Addressing.{fetch, fetch_operand, location_of, store_result}

unfoldable pub write : SingleOp → Size → Operand → Act (Unit {0})
write operation size operand = location_of operand size >>= λ location m.
    store_result location size (single_result operation size 0 m.status.codes) m

unfoldable pub test_operand : SingleOp → Size → Operand → Act (Unit {0})
test_operand operation size operand = fetch_operand operand size >>= λ value m.
    Comes (Ok tt, with_condition_codes (single_result operation size value m.status.codes).codes m)

unfoldable pub change_at : SingleOp → Size → OperandLocation → Act (Unit {0})
change_at operation size location = fetch location size >>= λ value m.
    store_result location size (single_result operation size value m.status.codes) m

unfoldable pub change_single : SingleOp → Size → Operand → Act (Unit {0})
change_single operation size operand = location_of operand size >>= change_at operation size

abbrev pub single_by : Option DestinationUse → SingleOp → Size → Operand → Act (Unit {0})
single_by None operation size operand = jump operand
single_by (Some Writes) operation size operand = write operation size operand
single_by (Some Reads) operation size operand = test_operand operation size operand
single_by (Some Changes) operation size operand = change_single operation size operand

unfoldable pub single : SingleOp → Size → Operand → Act (Unit {0})
single operation = single_by (use_by_single operation) operation
