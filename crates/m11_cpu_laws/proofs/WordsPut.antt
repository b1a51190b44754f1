-- Registers and words of memory after a store: the word stored, and the others, which stay.
use Rattle.std.proofs.Common.{◌≡◌, ◌≢◌, ℕ, ◌+◌, ◌/◌, ◌%◌, ◌<◌, List, length, ◌∙◌, arith}
use Rattle.std.proofs.lemmas.List.{get_or-set_other, get_or-set_same, length-set}
use Rattle.std.specs.Prelude.{slice_set}
use Rattle.m11_base.specs.Operand.{register_number}
use Rattle.m11_base.specs.declared.operand.Register.{Register}
use Rattle.m11_cpu_machine.specs.Machine.{register_of, with_register}
use Rattle.m11_cpu_machine.specs.Memory.{byte_at, with_word, word_at}
use Rattle.m11_cpu_machine.specs.declared.machine.Machine.{Machine}

pub put_length : (register : Register) (v : ℕ) (m : Machine) → length m.registers ≡ 8
    → length (with_register register v m).registers ≡ 8
put_length register v m e = length-set m.registers (register_number register) v ∙ e

pub put_other : (read put : Register) (v : ℕ) (m : Machine) → register_number read ≢ register_number put
    → register_of read (with_register put v m) ≡ register_of read m
put_other read put v m ne = get_or-set_other m.registers (register_number put) (register_number read) v 0 ne

pub word_put : (memory : List ℕ) (a v : ℕ) → a + 1 < length memory → word_at (with_word a v memory) a ≡ v
word_put memory a v inside =
    let apart : a ≢ a + 1 = λ e. omega arith in
    let below : a < length memory = omega arith in
    let following : a + 1 < length (slice_set memory a (v % 256)) = omega (arith, length-set memory a (v % 256)) in
    let low : byte_at (with_word a v memory) a ≡ v % 256 =
    get_or-set_other (slice_set memory a (v % 256)) (a + 1) a (v / 256) 0 apart ∙ get_or-set_same memory a
    (v % 256) 0 below in
    let high : byte_at (with_word a v memory) (a + 1) ≡ v / 256 =
    get_or-set_same (slice_set memory a (v % 256)) (a + 1) (v / 256) 0 following in
    omega (arith, low, high)

pub byte_put_other : (memory : List ℕ) (a v other : ℕ) → other ≢ a → other ≢ a + 1
    → byte_at (with_word a v memory) other ≡ byte_at memory other
byte_put_other memory a v other low high =
    get_or-set_other (slice_set memory a (v % 256)) (a + 1) other (v / 256) 0 high ∙ get_or-set_other memory a other
    (v % 256) 0 low

pub word_put_other : (memory : List ℕ) (a v other : ℕ) → a % 2 ≡ 0 → other % 2 ≡ 0 → other ≢ a
    → word_at (with_word a v memory) other ≡ word_at memory other
word_put_other memory a v other even even' ne =
    let low = byte_put_other memory a v other ne (λ e. omega arith) in
    let high = byte_put_other memory a v (other + 1) (λ e. omega arith) (λ e. ne (omega arith)) in
    omega (arith, low, high)

pub length_put : (memory : List ℕ) (a v : ℕ) → length (with_word a v memory) ≡ length memory
length_put memory a v = length-set (slice_set memory a (v % 256)) (a + 1) (v / 256) ∙ length-set memory a (v % 256)
