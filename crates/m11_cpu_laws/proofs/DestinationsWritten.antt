-- An instruction writes at most its destination.
use Rattle.std.proofs.Common.{ℕ, List, [], Result, Ok, Err, refl}
use Rattle.m11_base.specs.Instructions.{instruction_of}
use Rattle.m11_base.specs.declared.instruction.DoubleOp.{DoubleOp}
use Rattle.m11_base.specs.declared.instruction.DoubleOp.TheVariants.{Mov, Cmp, Bit, Bic, Bis, Add, Sub}
use Rattle.m11_base.specs.declared.instruction.Insn.{Insn}
use Rattle.m11_base.specs.declared.instruction.Insn.TheVariants as insn
use Rattle.m11_base.specs.declared.instruction.NumberOp.{NumberOp}
use Rattle.m11_base.specs.declared.instruction.NumberOp.TheVariants.{Mark, Emt, Trap}
use Rattle.m11_base.specs.declared.instruction.RegisterOp.TheVariants.{Jsr, Xor}
use Rattle.m11_base.specs.declared.instruction.SingleOp.{SingleOp}
use Rattle.m11_base.specs.declared.instruction.SingleOp.TheVariants.{Jmp, Clr, Tst, Sxt}
use Rattle.m11_base.specs.declared.operand.Operand.{Operand}
use Rattle.m11_base.specs.declared.operand.Register.{Register}
use Rattle.m11_base.specs.declared.operand.Size.{Size}
use Rattle.m11_base.specs.declared.operand.Size.TheVariants.{Word}
use Rattle.m11_cpu_machine.specs.Acts.{Act, unless_aborted, ◌>>=◌}
use Rattle.m11_cpu_machine.specs.Dialogue.{Comes, Dialogue}
use Rattle.m11_cpu_machine.specs.DoubleOperands.{change_exclusive, double, double_at, exclusive_or}
use Rattle.m11_cpu_machine.specs.Execution.{execute, numbered, on_register, then_next}
use Rattle.m11_cpu_machine.specs.Extended.{extended}
use Rattle.m11_cpu_machine.specs.Jumps.{call, enter, push, return_by, target}
use Rattle.m11_cpu_machine.specs.Machine.{register_of}
use Rattle.m11_cpu_machine.specs.Addressing.{fetch_operand, location_of, next_word}
use Rattle.m11_cpu_machine.specs.SingleOperands.{change_at, change_single, single, write}
use Rattle.m11_cpu_machine.specs.Steps.{instruction}
use Rattle.m11_cpu_laws.specs.Writes.{destination_bytes, location_bytes, one_pushed, operand_bytes, push_address, stack_deepened, written_by, written_bytes}
use Rattle.m11_cpu_machine.specs.declared.abort.Abort.{Abort}
use Rattle.m11_cpu_machine.specs.declared.execution.Ending.TheVariants as ending
use Rattle.m11_cpu_machine.specs.declared.machine.Machine.{Machine}
use Rattle.m11_cpu_machine.specs.declared.addressing.OperandLocation.{OperandLocation}
use Rattle.m11_cpu_laws.proofs.Following.{Follows, follows_bind, follows_now, follows_then}
use Rattle.m11_cpu_laws.proofs.MemoryPreserved.{bare_quiet, branched_same, compare_quiet, counted_same, extended_quiet, jump_quiet, Kept, kept_same, mark_quiet, location_quiet, return_quiet, Same, source_quiet, target_quiet, test_quiet, code_quiet}
use Rattle.m11_cpu_laws.proofs.Parts.{Always, at_bind, at_comes, at_map, Keeps, keeps_bind}
use Rattle.m11_cpu_laws.proofs.LocationsStored.{double_stores, exclusive_stores, move_stores, result_stores, single_stores, Stores, word_stores, Writes}

-- ---- instructions, each with its destination

quiet_follows : {A : Type 0} {d : Dialogue (Result A Abort × Machine)} (memory : List ℕ) (m : Machine)
    → Keeps (Same memory) d
    → Follows d (Comes (Ok [], m)) (Writes memory)
quiet_follows memory m k = follows_now (at_map k (λ y e. kept_same _ memory y.1.memory e))

-- if an act writes at most its operand's bytes after their address is formed, the whole writes at most its destination
operand_follows : (operand : Operand) (size : Size) (next : OperandLocation → Act (Unit {0})) (memory : List ℕ) (m : Machine)
    → Same memory m
    → ((location : OperandLocation) (n : Machine) → Same memory n → Always (next location n)
    (λ y. Stores (location_bytes location size) memory y))
    → Follows ((location_of operand size >>= next) m) (operand_bytes operand size m) (Writes memory)
operand_follows operand size next memory m e k =
    follows_bind (location_of operand size) next _ m (Same memory) (Writes memory) (location_quiet memory operand size m e)
    (λ abort n f. kept_same _ memory n.memory f) (λ location n f. follows_now (k location n f))

-- the same if a source is fetched before the address is formed
double_follows_at : (operation : DoubleOp) (size : Size) (source destination : Operand) (memory : List ℕ) (m : Machine)
    → Same memory m
    → ((value : ℕ) (location : OperandLocation) (n : Machine) → Same memory n
    → Always (double_at operation size value location n) (λ y. Stores (location_bytes location size) memory y))
    → Follows (double operation size source destination m)
    ((fetch_operand source size >>= λ value. operand_bytes destination size) m) (Writes memory)
unfolding double
double_follows_at operation size source destination memory m e k =
    follows_bind (fetch_operand source size) _ _ m (Same memory) (Writes memory) (source_quiet memory source size m e)
    (λ abort n f. kept_same _ memory n.memory f)
    (λ value n f. operand_follows destination size (double_at operation size value) memory n f (k value))

double_quiet : (operation : DoubleOp) (size : Size) (source destination : Operand) (memory : List ℕ) (m : Machine)
    → Same memory m
    → ((value : ℕ) (location : OperandLocation) (n : Machine) → Same memory n → Keeps (Same memory)
    (double_at operation size value location n))
    → Follows (double operation size source destination m) (Comes (Ok [], m)) (Writes memory)
unfolding double
double_quiet operation size source destination memory m e k =
    quiet_follows memory m
    (keeps_bind (Same memory) (fetch_operand source size) _ m (source_quiet memory source size m e)
    (λ value n f. keeps_bind (Same memory) (location_of destination size) (double_at operation size value) n
    (location_quiet memory destination size n f) (k value)))

double_follows : (operation : DoubleOp) (size : Size) (source destination : Operand) (memory : List ℕ) (m : Machine)
    → Same memory m
    → Follows (double operation size source destination m)
    (destination_bytes (insn.Double operation size source destination) m)
    (Writes memory)
unfolding double_at
double_follows Mov size source destination memory m e =
    double_follows_at Mov size source destination memory m e
    (λ value location n f. move_stores location size value memory n f)
double_follows Cmp size source destination memory m e =
    double_quiet Cmp size source destination memory m e
    (λ value location n f. compare_quiet memory Cmp location size value n f)
double_follows Bit size source destination memory m e =
    double_quiet Bit size source destination memory m e
    (λ value location n f. compare_quiet memory Bit location size value n f)
double_follows Bic size source destination memory m e =
    double_follows_at Bic size source destination memory m e
    (λ value location n f. double_stores Bic location size value memory n f)
double_follows Bis size source destination memory m e =
    double_follows_at Bis size source destination memory m e
    (λ value location n f. double_stores Bis location size value memory n f)
double_follows Add size source destination memory m e =
    double_follows_at Add size source destination memory m e
    (λ value location n f. double_stores Add location size value memory n f)
double_follows Sub size source destination memory m e =
    double_follows_at Sub size source destination memory m e
    (λ value location n f. double_stores Sub location size value memory n f)

write_follows : (operation : SingleOp) (size : Size) (operand : Operand) (memory : List ℕ) (m : Machine)
    → Same memory m
    → Follows (write operation size operand m) (operand_bytes operand size m) (Writes memory)
unfolding write
write_follows operation size operand memory m e =
    operand_follows operand size _ memory m e (λ location n f. result_stores location size _ memory n f)

change_follows : (operation : SingleOp) (size : Size) (operand : Operand) (memory : List ℕ) (m : Machine)
    → Same memory m
    → Follows (change_single operation size operand m) (operand_bytes operand size m) (Writes memory)
unfolding change_single
change_follows operation size operand memory m e =
    operand_follows operand size (change_at operation size) memory m e
    (λ location n f. single_stores operation size location memory n f)

single_follows : (operation : SingleOp) (size : Size) (operand : Operand) (memory : List ℕ) (m : Machine)
    → Same memory m
    → Follows (single operation size operand m) (destination_bytes (insn.Single operation size operand) m)
    (Writes memory)
unfolding single
single_follows Jmp size operand memory m e = quiet_follows memory m (jump_quiet memory operand m e)
single_follows Tst size operand memory m e = quiet_follows memory m (test_quiet memory Tst size operand m e)
single_follows Clr size operand memory m e = write_follows Clr size operand memory m e
single_follows Sxt size operand memory m e = write_follows Sxt size operand memory m e
single_follows other size operand memory m e = change_follows other size operand memory m e

-- JSR writes at most the word that it pushes
enter_stores : (register : Register) (address : ℕ) (memory : List ℕ) (m : Machine) → Same memory m
    → Always (enter register address m) (λ y. Stores (one_pushed m) memory y)
unfolding enter push
enter_stores register address memory m e =
    at_bind (push (register_of register m)) _ m (λ y. Stores (one_pushed m) memory y)
    (λ y. Stores (one_pushed m) memory y)
    (word_stores (push_address m) (register_of register m) memory (stack_deepened m) e) (λ abort n k. k)
    (λ u n k. at_comes k)

call_follows : (register : Register) (operand : Operand) (memory : List ℕ) (m : Machine) → Same memory m
    → Follows (call register operand m) (destination_bytes (insn.Register Jsr register operand) m) (Writes memory)
unfolding call
call_follows register operand memory m e =
    follows_bind (target operand) (enter register) _ m (Same memory) (Writes memory) (target_quiet memory operand m e)
    (λ abort n f. kept_same _ memory n.memory f) (λ address n f. follows_now (enter_stores register address memory n f))

exclusive_follows : (register : Register) (operand : Operand) (memory : List ℕ) (m : Machine) → Same memory m
    → Follows (exclusive_or register operand m) (operand_bytes operand Word m) (Writes memory)
unfolding exclusive_or
exclusive_follows register operand memory m e =
    operand_follows operand Word (change_exclusive (register_of register m)) memory m e
    (λ location n f. exclusive_stores (register_of register m) location memory n f)

number_quiet : (operation : NumberOp) (number : ℕ) (memory : List ℕ) (m : Machine) → Same memory m
    → Keeps (Same memory) (numbered operation number m)
unfolding numbered
number_quiet Mark number memory m e = mark_quiet memory number m e
number_quiet Emt number memory m e = at_comes e
number_quiet Trap number memory m e = at_comes e

-- ---- any instruction

next_writes : (destination : Result (List ℕ) Abort) (done : Result (Unit {0}) Abort) (memory : List ℕ) (n : Machine)
    → Kept (written_by done destination) memory n.memory
    → Always (unless_aborted (λ u o. Comes (Ok ending.Next, o)) done n)
    (λ y. Kept (written_by y.0 destination) memory y.1.memory)
next_writes (Ok bytes) (Ok done) memory n k = at_comes k
next_writes (Err abort) (Ok done) memory n k = at_comes k
next_writes (Ok bytes) (Err other) memory n k = at_comes k
next_writes (Err abort) (Err other) memory n k = at_comes k

next_follows : (act : Act (Unit {0})) (p : Dialogue (Result (List ℕ) Abort × Machine)) (memory : List ℕ) (m : Machine)
    → Follows (act m) p (Writes memory) → Follows (then_next act m) p (Writes memory)
unfolding ◌>>=◌
next_follows act p memory m f =
    follows_then (act m) _ p (Writes memory) (Writes memory) f (λ z x k. next_writes z.0 x.0 memory x.1 k)

execute_follows : (code : Insn) (memory : List ℕ) (m : Machine) → Same memory m
    → Follows (execute code m) (destination_bytes code m) (Writes memory)
unfolding execute on_register
execute_follows (insn.Double operation size source destination) memory m e =
    next_follows (double operation size source destination) _ memory m
    (double_follows operation size source destination memory m e)
execute_follows (insn.Extended operation register source) memory m e =
    next_follows (extended operation register source) _ memory m
    (quiet_follows memory m (extended_quiet memory operation register source m e))
execute_follows (insn.Register Jsr register operand) memory m e =
    next_follows (call register operand) _ memory m (call_follows register operand memory m e)
execute_follows (insn.Register Xor register operand) memory m e =
    next_follows (exclusive_or register operand) _ memory m (exclusive_follows register operand memory m e)
execute_follows (insn.Sob register words) memory m e =
    quiet_follows memory m (at_comes (counted_same memory register words m e))
execute_follows (insn.Single operation size operand) memory m e =
    next_follows (single operation size operand) _ memory m (single_follows operation size operand memory m e)
execute_follows (insn.Rts register) memory m e =
    next_follows (return_by register) _ memory m (quiet_follows memory m (return_quiet memory register m e))
execute_follows (insn.Number operation number) memory m e =
    next_follows (numbered operation number) _ memory m
    (quiet_follows memory m (number_quiet operation number memory m e))
execute_follows (insn.Bare operation) memory m e = quiet_follows memory m (bare_quiet memory operation m e)
execute_follows (insn.Condition operation named) memory m e = quiet_follows memory m (at_comes e)
execute_follows (insn.Branch operation words) memory m e =
    quiet_follows memory m (at_comes (branched_same memory operation words m e))
execute_follows (insn.Reserved word) memory m e = quiet_follows memory m (at_comes e)

pub instruction_follows : (m : Machine) → Follows (instruction m) (written_bytes m) (Writes m.memory)
unfolding instruction written_bytes
instruction_follows m =
    follows_bind next_word _ _ m (Same m.memory) (Writes m.memory) (code_quiet m.memory m refl)
    (λ abort n f. kept_same _ m.memory n.memory f) (λ word n f. execute_follows (instruction_of word) m.memory n f)
