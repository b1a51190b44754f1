-- Branches, jumps and subroutines. (PDP-11/40 Processor Handbook, "Instruction set": program control. Where the handbook is
-- silent, two things are this project's own: that a pop steps the stack pointer before it reads, and the order in which registers
-- are loaded.)
use Rattle.std.specs.Prelude.{ℕ, ◌+◌, ◌*◌, ◌%◌, ◌==◌, if◌then◌else◌, ℤ, pos, ◌+ℤ◌, Ok, Err}
use Rattle.m11_cpu_arithmetic.specs.Branches.{is_taken}
use Rattle.m11_base.specs.Words.{modulo}
use Rattle.m11_base.specs.declared.instruction.BranchOp.{BranchOp}
use Rattle.m11_base.specs.declared.operand.Operand.{Operand}
use Rattle.m11_base.specs.declared.operand.Register.{Register}
use Rattle.m11_base.specs.declared.operand.Register.TheVariants.{R5, Sp, Pc}
use Rattle.m11_base.specs.declared.operand.Size.TheVariants.{Word}
use Rattle.m11_cpu_machine.specs.Access.{load_word, store_word}
use Rattle.m11_cpu_machine.specs.Acts.{Act, ◌>>=◌}
use Rattle.m11_cpu_machine.specs.Dialogue.{Comes}
use Rattle.m11_cpu_machine.specs.Machine.{register_of, with_register}
use Rattle.m11_cpu_machine.specs.Addressing.{back, forward, location_of}
use Rattle.m11_cpu_machine.specs.declared.abort.Abort.TheVariants.{Traps}
use Rattle.m11_cpu_machine.specs.declared.abort.Vector.TheVariants.{Reserved}
use Rattle.m11_cpu_machine.specs.declared.machine.Machine.{Machine}
use Rattle.m11_cpu_machine.specs.declared.addressing.OperandLocation.{OperandLocation}
use Rattle.m11_cpu_machine.specs.declared.addressing.OperandLocation.TheVariants.{InRegister, InMemory}

-- the address that is this many words after another one, or before it if the number is negative, modulo octal 200000
abbrev pub words_on : ℕ → ℤ → ℕ
words_on address words = modulo 0o200000 (pos address +ℤ (words +ℤ words))

abbrev pub branched : BranchOp → ℤ → Machine → Machine
branched operation words m =
    if is_taken operation m.status.codes then with_register Pc (words_on (register_of Pc m) words) m else m

-- SOB: 1 is subtracted from the register; if the result isn't 0, the program counter goes back by this many words
abbrev pub counted_down : Register → ℕ → Machine → Machine
counted_down register words m =
    let count = back register 1 m in
    if count.0 == 0 then count.1 else (back Pc (words * 2) count.1).1

-- ---- the stack

unfoldable pub push : ℕ → Act (Unit {0})
push value m = store_word (back Sp 2 m).0 value (back Sp 2 m).1

unfoldable pub pop : Act ℕ
pop m = load_word (forward Sp 2 m).0 (forward Sp 2 m).1

-- ---- jumps

-- the address of a location in memory; a register has no address, so JMP and JSR to one trap as reserved instructions do
abbrev pub address_of : OperandLocation → Act ℕ
address_of (InRegister register) m = Comes (Err (Traps Reserved), m)
address_of (InMemory address) m = Comes (Ok address, m)

unfoldable pub target : Operand → Act ℕ
target operand = location_of operand Word >>= address_of

unfoldable pub jump : Operand → Act (Unit {0})
jump operand = target operand >>= λ address m. Comes (Ok tt, with_register Pc address m)

-- JSR: the register is pushed as it was before the push, and then gets the return address
unfoldable pub enter : Register → ℕ → Act (Unit {0})
enter register address m = (push (register_of register m) >>= λ _ n.
    Comes (Ok tt, with_register Pc address (with_register register (register_of Pc n) n))) m

unfoldable pub call : Register → Operand → Act (Unit {0})
call register operand = target operand >>= enter register

-- RTS: the program counter gets the register's value before the word for the register is popped
unfoldable pub return_by : Register → Act (Unit {0})
return_by register m =
    (pop >>= λ word n. Comes (Ok tt, with_register register word n)) (with_register Pc (register_of register m) m)

-- MARK: the stack pointer and the program counter are loaded before register 5 is popped
unfoldable pub mark : ℕ → Act (Unit {0})
mark words m =
    let cut = with_register Sp ((register_of Pc m + words * 2) % 0o200000) m in
    (pop >>= λ word n. Comes (Ok tt, with_register R5 word n)) (with_register Pc (register_of R5 cut) cut)
