-- The effects of branches, SOB and MARK. (PDP-11/40 Processor Handbook, "Instruction set": branches, SOB, MARK.)
use Rattle.std.specs.Prelude.{◌≡◌, ◌≢◌, ℕ, ◌+◌, ◌*◌, ◌%◌, ◌<◌, true, false, length, ℤ, pos, negsuc, Ok}
use Rattle.m11_cpu_arithmetic.specs.Branches.{is_taken}
use Rattle.m11_base.specs.Operand.{register_number}
use Rattle.m11_base.specs.declared.instruction.BranchOp.{BranchOp}
use Rattle.m11_base.specs.declared.instruction.Insn.{Insn}
use Rattle.m11_base.specs.declared.instruction.Insn.TheVariants as insn
use Rattle.m11_base.specs.declared.instruction.NumberOp.TheVariants.{Mark}
use Rattle.m11_base.specs.declared.operand.Register.{Register}
use Rattle.m11_base.specs.declared.operand.Register.TheVariants.{R5, Sp, Pc}
use Rattle.m11_cpu_machine.specs.Dialogue.{Comes}
use Rattle.m11_cpu_machine.specs.Execution.{execute}
use Rattle.m11_cpu_machine.specs.Machine.{register_of, with_register}
use Rattle.m11_cpu_machine.specs.declared.execution.Ending.TheVariants as ending
use Rattle.m11_cpu_machine.specs.declared.machine.Machine.{Machine}
use Rattle.m11_cpu_laws.specs.Operands.{less, memory_at}
use Rattle.m11_cpu_laws.specs.Returns.{IsWordInside}

-- an instruction completes without exchanging anything with the console, and the machine is then `left`
abbrev pub Leaves : Insn → Machine → Machine → Type 0
Leaves code m left = execute code m ≡ Comes (Ok ending.Next, left)

-- a branch whose condition holds goes forward or back by this number of words, counted from the word after the branch; a branch
-- whose condition doesn't hold changes nothing
pub record BranchGoes (operation : BranchOp) (m : Machine) : Type 0 where
  pub on : (words : ℕ) → is_taken operation m.status.codes ≡ true
      → Leaves (insn.Branch operation (pos words)) m (with_register Pc ((register_of Pc m + 2 * words) % 0o200000) m)
  pub back : (words : ℕ) → words < 128 → is_taken operation m.status.codes ≡ true
      → Leaves (insn.Branch operation (negsuc words)) m
      (with_register Pc (less (2 * (words + 1)) (register_of Pc m)) m)
  pub not_taken : (words : ℤ) → is_taken operation m.status.codes ≡ false → Leaves (insn.Branch operation words) m m

-- SOB subtracts 1 from its register, and goes back by its number of words if the result isn't 0; for SOB with the program counter this
-- covers only the result 0
pub record SobGoes (register : Register) (words : ℕ) (m : Machine) : Type 0 where
  pub ends : less 1 (register_of register m) ≡ 0
      → Leaves (insn.Sob register words) m (with_register register 0 m)
  pub repeats : less 1 (register_of register m) ≢ 0 → register_number register ≢ register_number Pc
      → Leaves (insn.Sob register words) m
      (with_register Pc (less (2 * words) (register_of Pc m)) (with_register register (less 1 (register_of register m)) m))

-- if the word that MARK pops is in memory, MARK sets the stack pointer to the program counter, which is past the code of MARK, plus this
-- number of words; then it goes to the address in R5, and pops R5
pub record MarkGoes (number : ℕ) (m : Machine) : Type 0 where
  pub goes : let top = (register_of Pc m + 2 * number) % 0o200000 in
      length m.registers ≡ 8 → IsWordInside top m
      → Leaves (insn.Number Mark number) m
      (with_register R5 (memory_at top m) (with_register Sp ((top + 2) % 0o200000)
      (with_register Pc (register_of R5 m) (with_register Sp top m))))
