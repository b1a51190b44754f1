-- Plain memory, and acts that complete at once, without the console and without a trap. (This project's own.)
use Rattle.std.specs.Prelude.{◌≡◌, ℕ, Bool, not, ◌&&◌, length, nat_lt, Ok}
use Rattle.m11_base.specs.Devices.{Bytes}
use Rattle.m11_base.specs.declared.operand.Size.{Size}
use Rattle.m11_base.specs.declared.operand.Size.TheVariants.{Word, Byte}
use Rattle.m11_cpu_machine.specs.Access.{is_odd}
use Rattle.m11_base.specs.declared.instruction.DoubleOp.{DoubleOp}
use Rattle.m11_base.specs.declared.operand.Operand.{Operand}
use Rattle.m11_cpu_machine.specs.Acts.{Act, ◌>>=◌}
use Rattle.m11_cpu_machine.specs.Addressing.{location_of}
use Rattle.m11_cpu_machine.specs.Dialogue.{Comes}
use Rattle.m11_cpu_machine.specs.DoubleOperands.{double_at}
use Rattle.m11_cpu_machine.specs.Memory.{byte_at, word_at}
use Rattle.m11_cpu_machine.specs.declared.machine.Machine.{Machine}

-- whether a word or byte at this address is plain: it lies in memory, and a word has an even address
abbrev pub is_plain : Size → ℕ → Bytes → Bool
is_plain Word address memory = not (is_odd address) && nat_lt address (length memory)
is_plain Byte address memory = nat_lt address (length memory)

-- the word or byte at an address for which `is_plain` holds
abbrev pub plain_at : Size → ℕ → Bytes → ℕ
plain_at Word address memory = word_at memory address
plain_at Byte address memory = byte_at memory address

-- an act yields this value at once, and leads from the first machine to the second
abbrev pub Yields : {A : Type 0} → Act A → Machine → A → Machine → Type 0
Yields act m x n = act m ≡ Comes (Ok x, n)

-- an act without a value completes at once, and leads from the first machine to the second
abbrev pub NearEnds : Act (Unit {0}) → Machine → Machine → Type 0
NearEnds act m n = act m ≡ Comes (Ok tt, n)

-- a machine keeps its lasting stop and its T bit
abbrev pub SameStopAndTrace : Machine → Machine → Type 0
SameStopAndTrace m n = (n.stopped ≡ m.stopped) × (n.status.trace ≡ m.status.trace)

-- an operation on a fetched source: the location of its destination is found, and the operation is done there
abbrev pub double_onto : DoubleOp → Size → ℕ → Operand → Act (Unit {0})
double_onto operation size source destination = location_of destination size >>= double_at operation size source
