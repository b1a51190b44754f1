-- Operands: their locations by mode and register, and reading and storing there. (PDP-11/40 Processor Handbook, "Addressing
-- modes", "Use of the PC as a general register", "Use of the stack pointer as a general register".)
use Rattle.std.specs.Prelude.{ℕ, ◌+◌, ◌-◌, ◌*◌, ◌/◌, ◌%◌, Ok}
use Rattle.m11_base.specs.declared.operand.Mode.{Mode}
use Rattle.m11_base.specs.declared.operand.Mode.TheVariants as mode
use Rattle.m11_base.specs.declared.operand.Operand.{Operand}
use Rattle.m11_base.specs.declared.operand.Register.{Register}
use Rattle.m11_base.specs.declared.operand.Register.TheVariants.{Sp, Pc}
use Rattle.m11_base.specs.declared.operand.Size.{Size}
use Rattle.m11_base.specs.declared.operand.Size.TheVariants.{Word, Byte}
use Rattle.m11_cpu_machine.specs.Access.{load_word, load_byte, store_word, store_byte}
use Rattle.m11_cpu_machine.specs.Acts.{Act, ◌>>=◌}
use Rattle.m11_cpu_machine.specs.Dialogue.{Comes}
use Rattle.m11_cpu_arithmetic.specs.declared.results.Computed.{Computed}
use Rattle.m11_cpu_machine.specs.Machine.{finished, register_of, with_register, advanced}
use Rattle.m11_cpu_machine.specs.declared.machine.Machine.{Machine}
use Rattle.m11_cpu_machine.specs.declared.addressing.OperandLocation.{OperandLocation}
use Rattle.m11_cpu_machine.specs.declared.addressing.OperandLocation.TheVariants.{InRegister, InMemory}

-- the number of bytes by which modes 2 and 4 step a register: 2 for a word, 1 for a byte, but always 2 for SP and the program
-- counter
abbrev pub step_of : Size → Register → ℕ
step_of Word register = 2
step_of Byte Sp = 2
step_of Byte Pc = 2
step_of Byte register = 1

-- the value of a register before it steps forward by this many bytes, and the machine after the step
abbrev pub forward : Register → ℕ → Machine → ℕ × Machine
forward register bytes m = (register_of register m, advanced register bytes m)

-- the value of a register after it steps back by this many bytes, modulo octal 200000
abbrev pub stepped_back : Register → ℕ → Machine → ℕ
stepped_back register bytes m = (register_of register m + (0o200000 - bytes)) % 0o200000

-- the value of a register after it steps back by this many bytes, and the machine after the step
abbrev pub back : Register → ℕ → Machine → ℕ × Machine
back register bytes m = (stepped_back register bytes m, with_register register (stepped_back register bytes m) m)

-- the word at the program counter; the program counter steps past the word once it is read
unfoldable pub next_word : Act ℕ
next_word m = (load_word (register_of Pc m) >>= λ word n. Comes (Ok word, advanced Pc 2 n)) m

unfoldable pub indexed : Register → Act ℕ
indexed register = next_word >>= λ index m. Comes (Ok ((index + register_of register m) % 0o200000), m)

unfoldable pub deferred : ℕ → Act OperandLocation
deferred address = load_word address >>= λ word m. Comes (Ok (InMemory word), m)

abbrev pub in_memory : ℕ × Machine → Act OperandLocation
in_memory stepped m = Comes (Ok (InMemory stepped.0), stepped.1)

abbrev pub location_by : Mode → Register → Size → Act OperandLocation
location_by mode.Register register size m = Comes (Ok (InRegister register), m)
location_by mode.RegisterDeferred register size m = Comes (Ok (InMemory (register_of register m)), m)
location_by mode.Autoincrement register size m = in_memory (forward register (step_of size register) m) m
location_by mode.AutoincrementDeferred register size m = deferred (forward register 2 m).0 (forward register 2 m).1
location_by mode.Autodecrement register size m = in_memory (back register (step_of size register) m) m
location_by mode.AutodecrementDeferred register size m = deferred (back register 2 m).0 (back register 2 m).1
location_by mode.Index register size m = (indexed register >>= λ address n. Comes (Ok (InMemory address), n)) m
location_by mode.IndexDeferred register size m = (indexed register >>= deferred) m

unfoldable pub location_of : Operand → Size → Act OperandLocation
location_of operand size = location_by operand.mode operand.register size

unfoldable pub fetch : OperandLocation → Size → Act ℕ
fetch (InRegister register) Word m = Comes (Ok (register_of register m), m)
fetch (InRegister register) Byte m = Comes (Ok (register_of register m % 256), m)
fetch (InMemory address) Word m = load_word address m
fetch (InMemory address) Byte m = load_byte address m

unfoldable pub fetch_operand : Operand → Size → Act ℕ
fetch_operand operand size = location_of operand size >>= λ location. fetch location size

abbrev pub without_low_byte : ℕ → ℕ
without_low_byte word = word / 256 * 256

-- a word or a byte is stored in a location; a byte stored in a register replaces only the register's low byte
unfoldable pub store : OperandLocation → Size → ℕ → Act (Unit {0})
store (InRegister register) Word value m = Comes (Ok tt, with_register register value m)
store (InRegister register) Byte value m =
    Comes (Ok tt, with_register register (without_low_byte (register_of register m) + value % 256) m)
store (InMemory address) Word value m = store_word address value m
store (InMemory address) Byte value m = store_byte address (value % 256) m

-- the result of an operation is stored in this location, and then the condition codes are set, unless the location is the processor
-- status word
unfoldable pub store_result : OperandLocation → Size → Computed → Act (Unit {0})
store_result location size computed = store location size computed.value >>= λ _ m.
    Comes (Ok tt, finished location computed.codes m)
