-- The addressing forms that quick steps distinguish. (PDP-11/40 Processor Handbook, "Addressing modes", "Use of the PC as a general
-- register".)
use Rattle.std.specs.Prelude.{◌≡◌, ℕ, ◌<◌}
use Rattle.m11_base.specs.Operand.{register_number}
use Rattle.m11_base.specs.declared.operand.Mode.TheVariants as mode
use Rattle.m11_base.specs.declared.operand.Operand.{Operand}
use Rattle.m11_base.specs.declared.operand.Size.{Size}
use Rattle.m11_base.specs.declared.operand.Size.TheVariants.{Word, Byte}
use Rattle.m11_cpu_machine.specs.Addressing.{step_of}
use Rattle.m11_cpu_quick.specs.declared.forms.Form.{Form}
use Rattle.m11_cpu_quick.specs.declared.forms.Form.TheVariants.{Register, Deferred, Increment, IncrementPointer, Decrement, DecrementPointer, Index, IndexPointer, Absolute, Relative, RelativePointer, Immediate, Other}

-- the number of bytes of an operand of this size
abbrev pub bytes_of : Size → ℕ
bytes_of Word = 2
bytes_of Byte = 1

-- an operand has this addressing form; `Other` holds for every operand
abbrev pub IsForm : Form → Size → Operand → Type 0
IsForm Register size operand = (operand.mode ≡ mode.Register) × (register_number operand.register < 7)
IsForm Deferred size operand = (operand.mode ≡ mode.RegisterDeferred) × (register_number operand.register < 7)
IsForm Increment size operand = (operand.mode ≡ mode.Autoincrement) × (register_number operand.register < 7)
    × (step_of size operand.register ≡ bytes_of size)
IsForm IncrementPointer size operand = (operand.mode ≡ mode.AutoincrementDeferred) × (register_number operand.register < 7)
IsForm Decrement size operand = (operand.mode ≡ mode.Autodecrement) × (register_number operand.register < 7)
    × (step_of size operand.register ≡ bytes_of size)
IsForm DecrementPointer size operand = (operand.mode ≡ mode.AutodecrementDeferred) × (register_number operand.register < 7)
IsForm Index size operand = (operand.mode ≡ mode.Index) × (register_number operand.register < 7)
IsForm IndexPointer size operand = (operand.mode ≡ mode.IndexDeferred) × (register_number operand.register < 7)
IsForm Absolute size operand = (operand.mode ≡ mode.AutoincrementDeferred) × (register_number operand.register ≡ 7)
IsForm Relative size operand = (operand.mode ≡ mode.Index) × (register_number operand.register ≡ 7)
IsForm RelativePointer size operand = (operand.mode ≡ mode.IndexDeferred) × (register_number operand.register ≡ 7)
IsForm Immediate size operand = (operand.mode ≡ mode.Autoincrement) × (register_number operand.register ≡ 7)
IsForm Other size operand = Unit {0}
