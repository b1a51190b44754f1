-- What operations do with their destination: read it, write it, or both. (PDP-11/40 Processor Handbook, "Instruction set". That MOV, CLR
-- and SXT don't read it is this project's own choice.)
use Rattle.std.specs.Prelude.{Option, Some, None}
use Rattle.m11_base.specs.declared.instruction.DoubleOp.{DoubleOp}
use Rattle.m11_base.specs.declared.instruction.DoubleOp.TheVariants.{Mov, Cmp, Bit, Bic, Bis, Add, Sub}
use Rattle.m11_base.specs.declared.instruction.SingleOp.{SingleOp}
use Rattle.m11_base.specs.declared.instruction.SingleOp.TheVariants.{Jmp, Swab, Clr, Com, Inc, Dec, Neg, Adc, Sbc, Tst, Ror, Rol, Asr, Asl, Sxt}
use Rattle.m11_cpu_machine.specs.declared.destination_use.DestinationUse.{DestinationUse}
use Rattle.m11_cpu_machine.specs.declared.destination_use.DestinationUse.TheVariants.{Writes, Reads, Changes}

abbrev pub use_by_double : DoubleOp → DestinationUse
use_by_double Mov = Writes
use_by_double Cmp = Reads
use_by_double Bit = Reads
use_by_double Bic = Changes
use_by_double Bis = Changes
use_by_double Add = Changes
use_by_double Sub = Changes

-- what a single operand operation does with its operand; None for JMP, which only jumps there
abbrev pub use_by_single : SingleOp → Option DestinationUse
use_by_single Jmp = None
use_by_single Clr = Some Writes
use_by_single Sxt = Some Writes
use_by_single Tst = Some Reads
use_by_single Swab = Some Changes
use_by_single Com = Some Changes
use_by_single Inc = Some Changes
use_by_single Dec = Some Changes
use_by_single Neg = Some Changes
use_by_single Adc = Some Changes
use_by_single Sbc = Some Changes
use_by_single Ror = Some Changes
use_by_single Rol = Some Changes
use_by_single Asr = Some Changes
use_by_single Asl = Some Changes
