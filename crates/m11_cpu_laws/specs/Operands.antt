-- Where each mode finds its operand, as in the handbook's table. (PDP-11/40 Processor Handbook, "Addressing modes", "Use of the PC as a
-- general register".)
use Rattle.std.specs.Prelude.{◌≡◌, ◌≢◌, ℕ, ◌+◌, ◌-◌, ◌%◌, Ok}
use Rattle.m11_base.specs.Operand.{register_number}
use Rattle.m11_base.specs.declared.operand.Mode.{Mode}
use Rattle.m11_base.specs.declared.operand.Mode.TheVariants as mode
use Rattle.m11_base.specs.declared.operand.Operand.{Operand}
use Rattle.m11_base.specs.declared.operand.Register.{Register}
use Rattle.m11_base.specs.declared.operand.Register.TheVariants.{Pc}
use Rattle.m11_base.specs.declared.operand.Size.{Size}
use Rattle.m11_base.specs.declared.operand.Size.TheVariants.{Word}
use Rattle.m11_cpu_machine.specs.Addressing.{fetch_operand, location_of, step_of}
use Rattle.m11_cpu_machine.specs.Dialogue.{Comes}
use Rattle.m11_cpu_machine.specs.Machine.{advanced, register_of, with_register}
use Rattle.m11_cpu_machine.specs.Memory.{word_at}
use Rattle.m11_cpu_machine.specs.declared.addressing.OperandLocation.TheVariants.{InRegister, InMemory}
use Rattle.m11_cpu_machine.specs.declared.machine.Machine.{Machine}
use Rattle.m11_cpu_laws.specs.Returns.{IsWordInside}

abbrev pub operand_by : Mode → Register → Operand
operand_by by register = record { mode = by; register = register }

-- the operand is found at this address, and the machine is then `left`
abbrev pub IsFoundAt : Mode → Register → Size → Machine → ℕ → Machine → Type 0
IsFoundAt by register size m address left =
    location_of (operand_by by register) size m ≡ Comes (Ok (InMemory address), left)

-- the word at an address in memory
abbrev pub memory_at : ℕ → Machine → ℕ
memory_at address m = word_at m.memory address

-- an address minus a number of bytes, modulo octal 200000
abbrev pub less : ℕ → ℕ → ℕ
less bytes address = (address + (0o200000 - bytes)) % 0o200000

-- the sum of the index word and the register, modulo octal 200000; the register is read after the index word
abbrev pub indexed_at : Register → Machine → ℕ
indexed_at register m =
    (memory_at (register_of Pc m) m + register_of register (advanced Pc 2 m)) % 0o200000

-- each of the eight modes of a register finds its operand as in the handbook's table, if pointers and index words are in memory; the
-- register of an indexed operand is read after the index word, and reading that word changes the register only if it is the program counter
pub record EightModes (register : Register) (size : Size) (m : Machine) : Type 0 where
  pub direct : location_of (operand_by mode.Register register) size m ≡ Comes (Ok (InRegister register), m)
  pub deferred : IsFoundAt mode.RegisterDeferred register size m (register_of register m) m
  pub autoincrement : IsFoundAt mode.Autoincrement register size m (register_of register m)
      (advanced register (step_of size register) m)
  pub autoincrement_deferred : IsWordInside (register_of register m) m
      → IsFoundAt mode.AutoincrementDeferred register size m (memory_at (register_of register m) m)
      (advanced register 2 m)
  pub autodecrement : let address = less (step_of size register) (register_of register m) in
      IsFoundAt mode.Autodecrement register size m address (with_register register address m)
  pub autodecrement_deferred : let address = less 2 (register_of register m) in
      IsWordInside address m
      → IsFoundAt mode.AutodecrementDeferred register size m (memory_at address m) (with_register register address m)
  pub index : IsWordInside (register_of Pc m) m
      → IsFoundAt mode.Index register size m (indexed_at register m) (advanced Pc 2 m)
  pub index_deferred : IsWordInside (register_of Pc m) m → IsWordInside (indexed_at register m) m
      → IsFoundAt mode.IndexDeferred register size m (memory_at (indexed_at register m) m) (advanced Pc 2 m)
  pub index_register : register_number register ≢ register_number Pc
      → register_of register (advanced Pc 2 m) ≡ register_of register m

-- each of the four forms with the program counter, `#n`, `@#a`, `a` and `@a`, finds its operand as in the handbook's table, if pointers and
-- index words are in memory; before each the program counter is at the word after the instruction's code, or after the word of the source
-- operand; each form advances the program counter by 2 bytes
pub record FormsOfCounter (size : Size) (m : Machine) : Type 0 where
  pub immediate : IsFoundAt mode.Autoincrement Pc size m (register_of Pc m) (advanced Pc 2 m)
  pub immediate_word : IsWordInside (register_of Pc m) m
      → fetch_operand (operand_by mode.Autoincrement Pc) Word m
      ≡ Comes (Ok (memory_at (register_of Pc m) m), advanced Pc 2 m)
  pub absolute : IsWordInside (register_of Pc m) m
      → IsFoundAt mode.AutoincrementDeferred Pc size m (memory_at (register_of Pc m) m) (advanced Pc 2 m)
  pub relative : IsWordInside (register_of Pc m) m
      → IsFoundAt mode.Index Pc size m ((memory_at (register_of Pc m) m + (register_of Pc m + 2)) % 0o200000)
      (advanced Pc 2 m)
  pub relative_deferred : let address = (memory_at (register_of Pc m) m + (register_of Pc m + 2)) % 0o200000 in
      IsWordInside (register_of Pc m) m → IsWordInside address m
      → IsFoundAt mode.IndexDeferred Pc size m (memory_at address m) (advanced Pc 2 m)
  pub counter : register_of Pc (advanced Pc 2 m) ≡ (register_of Pc m + 2) % 0o200000
