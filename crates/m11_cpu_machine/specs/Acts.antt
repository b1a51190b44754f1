-- An instruction, part by part: each part yields a value or aborts the instruction, and in both cases yields the machine afterwards. (This
-- project's own words.)
use Rattle.std.specs.Prelude.{Result, Ok, Err}
use Rattle.m11_cpu_machine.specs.declared.abort.Abort.{Abort}
use Rattle.m11_cpu_machine.specs.declared.machine.Machine.{Machine}
use Rattle.m11_cpu_machine.specs.Dialogue.{Dialogue, Comes, after}

abbrev pub Act : Type 0 → Type 0
Act A = Machine → Dialogue (Result A Abort × Machine)

-- a value read from the machine, which stays as it is
unfoldable pub value : {A : Type 0} → (Machine → A) → Act A
value of m = Comes (Ok (of m), m)

-- the next part of an act, given the value of the part before it; if that part was aborted, its abort is the result
abbrev pub unless_aborted : {A B : Type 0} → (A → Act B) → Result A Abort → Act B
unless_aborted next (Ok x) m = next x m
unless_aborted next (Err abort) m = Comes (Err abort, m)

infixl 10 ◌>>=◌
unfoldable pub ◌>>=◌ : {A B : Type 0} → Act A → (A → Act B) → Act B
(act >>= next) m = after (act m) (λ came. unless_aborted next came.0 came.1)
