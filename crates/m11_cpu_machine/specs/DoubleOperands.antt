-- Instructions with a source and a destination: the source, even a register, is fetched before the address of the destination is
-- worked out. (PDP-11/40 Processor Handbook, "Instruction set": double operand instructions. Two things are this project's own:
-- that order, and that MOV doesn't read its destination.)
use Rattle.std.specs.Prelude.{ℕ, ◌+◌, ◌%◌, nat_lt, if◌then◌else◌, Ok}
use Rattle.m11_cpu_arithmetic.specs.Doubles.{double_result, exclusive_or_result}
use Rattle.m11_base.specs.declared.instruction.DoubleOp.{DoubleOp}
use Rattle.m11_base.specs.declared.instruction.DoubleOp.TheVariants.{Mov}
use Rattle.m11_base.specs.declared.operand.Operand.{Operand}
use Rattle.m11_base.specs.declared.operand.Register.{Register}
use Rattle.m11_base.specs.declared.operand.Size.{Size}
use Rattle.m11_base.specs.declared.operand.Size.TheVariants.{Word, Byte}
use Rattle.m11_cpu_machine.specs.Acts.{Act, ◌>>=◌}
use Rattle.m11_cpu_machine.specs.DestinationUse.{use_by_double}
use Rattle.m11_cpu_machine.specs.declared.destination_use.DestinationUse.{DestinationUse}
use Rattle.m11_cpu_machine.specs.declared.destination_use.DestinationUse.TheVariants.{Writes, Reads, Changes}
use Rattle.m11_cpu_machine.specs.Dialogue.{Comes}
use Rattle.m11_cpu_machine.specs.Machine.{finished, register_of, with_condition_codes, with_register}
use Rattle.m11_cpu_machine.specs.Addressing.{fetch, fetch_operand, location_of, store_result, store}
use Rattle.m11_cpu_machine.specs.declared.addressing.OperandLocation.{OperandLocation}
use Rattle.m11_cpu_machine.specs.declared.addressing.OperandLocation.TheVariants.{InRegister, InMemory}

-- the low byte of a word, sign-extended to a word
abbrev pub sign_extended : ℕ → ℕ
sign_extended byte = if nat_lt (byte % 0o400) 0o200 then byte % 0o400 else byte % 0o400 + 0o177400

-- MOV stores a word, and MOVB a byte, in a location; a byte that MOVB stores in a register is sign-extended to a word
unfoldable pub store_moved : OperandLocation → Size → ℕ → Act (Unit {0})
store_moved (InRegister register) Word value m = store (InRegister register) Word value m
store_moved (InRegister register) Byte value m = Comes (Ok tt, with_register register (sign_extended value) m)
store_moved (InMemory address) size value m = store (InMemory address) size value m

unfoldable pub move_to : OperandLocation → Size → ℕ → Act (Unit {0})
move_to location size source m = (store_moved location size source >>= λ _ n.
    Comes (Ok tt, finished location (double_result Mov size source 0 m.status.codes).codes n)) m

unfoldable pub compare : DoubleOp → OperandLocation → Size → ℕ → Act (Unit {0})
compare operation location size source = fetch location size >>= λ value m.
    Comes (Ok tt, with_condition_codes (double_result operation size source value m.status.codes).codes m)

unfoldable pub change_double : DoubleOp → OperandLocation → Size → ℕ → Act (Unit {0})
change_double operation location size source = fetch location size >>= λ value m.
    store_result location size (double_result operation size source value m.status.codes) m

abbrev pub double_by : DestinationUse → DoubleOp → Size → ℕ → OperandLocation → Act (Unit {0})
double_by Writes operation size source location = move_to location size source
double_by Reads operation size source location = compare operation location size source
double_by Changes operation size source location = change_double operation location size source

unfoldable pub double_at : DoubleOp → Size → ℕ → OperandLocation → Act (Unit {0})
double_at operation = double_by (use_by_double operation) operation

unfoldable pub double : DoubleOp → Size → Operand → Operand → Act (Unit {0})
double operation size source destination = fetch_operand source size >>= λ value.
    location_of destination size >>= double_at operation size value

unfoldable pub change_exclusive : ℕ → OperandLocation → Act (Unit {0})
change_exclusive source location = fetch location Word >>= λ value m.
    store_result location Word (exclusive_or_result source value m.status.codes) m

-- XOR: the register is read before the location of the destination is worked out
unfoldable pub exclusive_or : Register → Operand → Act (Unit {0})
exclusive_or register destination m = (location_of destination Word >>= change_exclusive (register_of register m)) m
