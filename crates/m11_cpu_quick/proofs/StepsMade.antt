-- Instructions and steps: each does what its operation does.
use Rattle.std.proofs.Common.{◌≡◌, ℕ, ◌+◌, ◌/◌, ◌%◌, ◌<◌, true, refl, sym, ◌∙◌, ap, List, length, Option, Some}
use Rattle.std.specs.Prelude.{slice_set, Ok}
use Rattle.std.proofs.lemmas.List.{set-get_or}
use Rattle.std.specs.Int.{cast_signed, w8}
use Rattle.m11_base.proofs.Words.{tables_meaning}
use Rattle.m11_base.specs.Instructions.{instruction_of, meaning}
use Rattle.m11_base.specs.declared.instruction.BareOp.TheVariants.{Rti}
use Rattle.m11_base.specs.declared.instruction.ConditionCodes.{ConditionCodes}
use Rattle.m11_base.specs.declared.instruction.ConditionOp.{ConditionOp}
use Rattle.m11_base.specs.declared.instruction.Insn.{Insn}
use Rattle.m11_base.specs.declared.instruction.Insn.TheVariants as insn
use Rattle.m11_base.specs.declared.instruction.RegisterOp.TheVariants.{Jsr, Xor}
use Rattle.m11_base.specs.declared.operand.Operand.{Operand}
use Rattle.m11_base.specs.Operand.{operand_of, register_of as the_register}
use Rattle.m11_base.specs.OperationTables.{operation_by_tables}
use Rattle.m11_base.specs.declared.instruction.BranchOp.{BranchOp}
use Rattle.m11_base.specs.declared.instruction.DoubleOp.{DoubleOp}
use Rattle.m11_base.specs.declared.instruction.Op.{Op}
use Rattle.m11_base.specs.declared.instruction.Op.TheVariants as op
use Rattle.m11_base.specs.declared.instruction.SingleOp.{SingleOp}
use Rattle.m11_base.specs.declared.instruction.SingleOp.TheVariants.{Jmp}
use Rattle.m11_base.specs.declared.operand.Register.{Register}
use Rattle.m11_base.specs.declared.operand.Register.TheVariants.{Pc}
use Rattle.m11_base.specs.declared.operand.Size.{Size}
use Rattle.m11_base.specs.declared.operand.Size.TheVariants.{Word}
use Rattle.m11_base.specs.declared.instruction.ExtendedOp.{ExtendedOp}
use Rattle.m11_base.specs.declared.instruction.ExtendedOp.TheVariants.{Mul}
use Rattle.m11_cpu_machine.specs.Dialogue.{Comes}
use Rattle.m11_cpu_machine.specs.Extended.{extended}
use Rattle.m11_cpu_machine.specs.DoubleOperands.{double, exclusive_or}
use Rattle.m11_cpu_machine.specs.Execution.{bare, conditions_applied, execute, on_register, return_from_trap}
use Rattle.m11_cpu_machine.specs.Jumps.{branched, call, counted_down, jump, return_by}
use Rattle.m11_cpu_machine.specs.Machine.{register_of}
use Rattle.m11_cpu_quick.specs.Near.{NearEnds, SameStopAndTrace, Yields, is_plain, plain_at}
use Rattle.m11_cpu_quick.specs.Beside.{shown}
use Rattle.m11_cpu_quick.specs.Quick.{QuickRuns, StepsAtOnce}
use Rattle.m11_cpu_machine.specs.SingleOperands.{single}
use Rattle.m11_cpu_machine.specs.Steps.{step}
use Rattle.m11_cpu_machine.specs.declared.execution.Ending.TheVariants as ending
use Rattle.m11_cpu_machine.specs.declared.machine.Machine.{Machine}
use Rattle.m11_cpu_machine.specs.declared.stop.Turn.TheVariants.{Next}
use Rattle.m11_cpu_quick.proofs.OperandsFound.{counter_put, counter_read}
use Rattle.m11_cpu_quick.proofs.QuickDone.{bind_comes, one_more_step, step_made}

pub double_acts : (word : ℕ) (operation : DoubleOp) (size : Size) (m n : Machine)
    → operation_by_tables word ≡ Some (op.Double operation size)
    → NearEnds (double operation size (operand_of (word / 0o100 % 0o100)) (operand_of (word % 0o100))) m n
    → Yields (execute (meaning (operation_by_tables word) word)) m ending.Next n
unfolding execute
double_acts word operation size m n e f =
    ap (λ (o : Option Op). execute (meaning o word) m) e ∙ bind_comes _ _ _ _ _ _ _ f refl

pub single_acts : (word : ℕ) (operation : SingleOp) (size : Size) (m n : Machine)
    → operation_by_tables word ≡ Some (op.Single operation size)
    → NearEnds (single operation size (operand_of (word % 0o100))) m n
    → Yields (execute (meaning (operation_by_tables word) word)) m ending.Next n
unfolding execute
single_acts word operation size m n e f =
    ap (λ (o : Option Op). execute (meaning o word) m) e ∙ bind_comes _ _ _ _ _ _ _ f refl

pub product_acts : (word : ℕ) (m n : Machine) → operation_by_tables word ≡ Some (op.Extended Mul)
    → NearEnds (extended Mul (the_register (word / 0o100 % 0o10)) (operand_of (word % 0o100))) m n
    → Yields (execute (meaning (operation_by_tables word) word)) m ending.Next n
unfolding execute
product_acts word m n e f =
    ap (λ (o : Option Op). execute (meaning o word) m) e ∙ bind_comes _ _ _ _ _ _ _ f refl

pub jump_acts : (word : ℕ) (m n : Machine)
    → operation_by_tables word ≡ Some (op.Single Jmp Word)
    → NearEnds (jump (operand_of (word % 0o100))) m n
    → Yields (execute (meaning (operation_by_tables word) word)) m ending.Next n
unfolding execute single
jump_acts word m n e f =
    ap (λ (o : Option Op). execute (meaning o word) m) e ∙ bind_comes _ _ _ _ _ _ _ f refl

pub branch_acts : (word : ℕ) (operation : BranchOp) (m n : Machine)
    → operation_by_tables word ≡ Some (op.Branch operation)
    → n ≡ branched operation (cast_signed w8 (word % 0o400)) m
    → Yields (execute (meaning (operation_by_tables word) word)) m ending.Next n
unfolding execute
branch_acts word operation m n e f =
    ap (λ (o : Option Op). execute (meaning o word) m) e ∙ ap (λ (x : Machine). Comes (Ok ending.Next, x)) (sym f)

pub count_acts : (word : ℕ) (m n : Machine)
    → operation_by_tables word ≡ Some op.Sob
    → n ≡ counted_down (the_register (word / 0o100 % 0o10)) (word % 0o100) m
    → Yields (execute (meaning (operation_by_tables word) word)) m ending.Next n
unfolding execute
count_acts word m n e f =
    ap (λ (o : Option Op). execute (meaning o word) m) e ∙ ap (λ (x : Machine). Comes (Ok ending.Next, x)) (sym f)

pub made : (next after word : ℕ) (rs rs' : List ℕ) (m n : Machine) → word < 65536 → QuickRuns m → length rs ≡ 8
    → is_plain Word next m.memory ≡ true → word ≡ plain_at Word next m.memory
    → Yields (execute (meaning (operation_by_tables word) word)) (shown ((next + 2) % 0o200000) rs m) ending.Next
    (shown after rs' n)
    → SameStopAndTrace m n → step (shown next rs m) ≡ Comes (Next, shown after rs' n)
made next after word rs rs' m n h r l p w x t =
    step_made (shown next rs m) (shown ((next + 2) % 0o200000) rs m) (shown after rs' n) next word h r
    (sym (counter_read next rs m l)) p w (sym (counter_put next ((next + 2) % 0o200000) rs m)) x t

-- no steps lead from a machine to itself, with its own registers and program counter passed separately
pub begun : (next : ℕ) (m : Machine) → next ≡ register_of Pc m → StepsAtOnce 0 m (shown next m.registers m)
unfolding StepsAtOnce
begun next m n =
    let to : List ℕ → Machine = λ x. record m { registers = x } in
    ap (λ (v : ℕ). to (slice_set m.registers 7 v)) n ∙ ap to (set-get_or m.registers 7 0)

pub one_more : (done : ℕ) (m : Machine) (next after : ℕ) (rs rs' : List ℕ) (n n' : Machine)
    → StepsAtOnce done m (shown next rs n) → step (shown next rs n) ≡ Comes (Next, shown after rs' n')
    → StepsAtOnce (done + 1) m (shown after rs' n')
one_more done m next after rs rs' n n' s e = one_more_step done m (shown next rs n) (shown after rs' n') s e

pub call_acts : (word : ℕ) (m n : Machine) → operation_by_tables word ≡ Some (op.Register Jsr) → word / 0o100 % 0o10 ≡ 7
    → NearEnds (call Pc (operand_of (word % 0o100))) m n
    → Yields (execute (meaning (operation_by_tables word) word)) m ending.Next n
unfolding execute on_register
call_acts word m n e r f =
    ap (λ (o : Option Op). execute (meaning o word) m) e
    ∙ ap (λ (x : ℕ). execute (insn.Register Jsr (the_register x) (operand_of (word % 0o100))) m) r
    ∙ bind_comes _ _ _ _ _ _ _ f refl

pub return_acts : (word : ℕ) (m n : Machine) → operation_by_tables word ≡ Some op.Rts → word % 0o10 ≡ 7
    → NearEnds (return_by Pc) m n
    → Yields (execute (meaning (operation_by_tables word) word)) m ending.Next n
unfolding execute
return_acts word m n e r f =
    ap (λ (o : Option Op). execute (meaning o word) m) e
    ∙ ap (λ (x : ℕ). execute (insn.Rts (the_register x)) m) r
    ∙ bind_comes _ _ _ _ _ _ _ f refl

pub condition_acts : (word next : ℕ) (operation : ConditionOp) (named : ConditionCodes) (rs : List ℕ) (m n : Machine)
    → meaning (operation_by_tables word) word ≡ insn.Condition operation named
    → n ≡ conditions_applied operation named m
    → Yields (execute (meaning (operation_by_tables word) word)) (shown next rs m) ending.Next (shown next rs n)
unfolding execute
condition_acts word next operation named rs m n e f =
    ap (λ (i : Insn). execute i (shown next rs m)) e
    ∙ ap (λ (x : Machine). Comes (Ok ending.Next, shown next rs x)) (sym f)

-- a word means the instruction that it was decoded to
pub decoded : (word : ℕ) (i : Insn) → word < 65536 → i ≡ instruction_of word → meaning (operation_by_tables word) word ≡ i
decoded word i h e = tables_meaning word h ∙ sym e

pub decoded_double : (word : ℕ) (operation : DoubleOp) (size : Size) (source destination : Operand) (m n : Machine)
    → meaning (operation_by_tables word) word ≡ insn.Double operation size source destination
    → NearEnds (double operation size source destination) m n
    → Yields (execute (meaning (operation_by_tables word) word)) m ending.Next n
unfolding execute
decoded_double word operation size source destination m n e f =
    ap (λ (i : Insn). execute i m) e ∙ bind_comes _ _ _ _ _ _ _ f refl

pub decoded_single : (word : ℕ) (operation : SingleOp) (size : Size) (operand : Operand) (m n : Machine)
    → meaning (operation_by_tables word) word ≡ insn.Single operation size operand
    → NearEnds (single operation size operand) m n
    → Yields (execute (meaning (operation_by_tables word) word)) m ending.Next n
unfolding execute
decoded_single word operation size operand m n e f =
    ap (λ (i : Insn). execute i m) e ∙ bind_comes _ _ _ _ _ _ _ f refl

pub decoded_extended : (word : ℕ) (operation : ExtendedOp) (register : Register) (source : Operand) (m n : Machine)
    → meaning (operation_by_tables word) word ≡ insn.Extended operation register source
    → NearEnds (extended operation register source) m n
    → Yields (execute (meaning (operation_by_tables word) word)) m ending.Next n
unfolding execute
decoded_extended word operation register source m n e f =
    ap (λ (i : Insn). execute i m) e ∙ bind_comes _ _ _ _ _ _ _ f refl

pub decoded_call : (word : ℕ) (register : Register) (operand : Operand) (m n : Machine)
    → meaning (operation_by_tables word) word ≡ insn.Register Jsr register operand → NearEnds (call register operand) m n
    → Yields (execute (meaning (operation_by_tables word) word)) m ending.Next n
unfolding execute on_register
decoded_call word register operand m n e f =
    ap (λ (i : Insn). execute i m) e ∙ bind_comes _ _ _ _ _ _ _ f refl

pub decoded_exclusive : (word : ℕ) (register : Register) (operand : Operand) (m n : Machine)
    → meaning (operation_by_tables word) word ≡ insn.Register Xor register operand
    → NearEnds (exclusive_or register operand) m n
    → Yields (execute (meaning (operation_by_tables word) word)) m ending.Next n
unfolding execute on_register
decoded_exclusive word register operand m n e f =
    ap (λ (i : Insn). execute i m) e ∙ bind_comes _ _ _ _ _ _ _ f refl

pub decoded_return : (word : ℕ) (register : Register) (m n : Machine)
    → meaning (operation_by_tables word) word ≡ insn.Rts register → NearEnds (return_by register) m n
    → Yields (execute (meaning (operation_by_tables word) word)) m ending.Next n
unfolding execute
decoded_return word register m n e f =
    ap (λ (i : Insn). execute i m) e ∙ bind_comes _ _ _ _ _ _ _ f refl

pub decoded_return_from_trap : (word : ℕ) (m n : Machine)
    → meaning (operation_by_tables word) word ≡ insn.Bare Rti → NearEnds return_from_trap m n
    → Yields (execute (meaning (operation_by_tables word) word)) m ending.Next n
unfolding execute bare
decoded_return_from_trap word m n e f =
    ap (λ (i : Insn). execute i m) e ∙ bind_comes _ _ _ _ _ _ _ f refl
