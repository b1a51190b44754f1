-- One machine that makes each call: JSR R5,(R1) or JSR PC,(R1) is at address 0, R1 is 6, and the stack pointer is 4.
use Rattle.std.proofs.Common.{ℕ, ◌<◌, false, [], ◌∷◌, None, refl, arith}
use Rattle.m11_base.specs.Instructions.{row_of, rows}
use Rattle.m11_base.specs.declared.operand.Mode.TheVariants as mode
use Rattle.m11_base.specs.declared.operand.Register.{Register}
use Rattle.m11_base.specs.declared.operand.Register.TheVariants.{R0, R1, R2, R3, R4, R5, Sp, Pc}
use Rattle.m11_cpu_machine.specs.Acts.{◌>>=◌}
use Rattle.m11_cpu_machine.specs.Jumps.{target}
use Rattle.m11_cpu_machine.specs.Machine.{advanced, register_of}
use Rattle.m11_cpu_machine.specs.Addressing.{location_of}
use Rattle.m11_cpu_machine.specs.Status.{status_of}
use Rattle.m11_cpu_machine.specs.declared.machine.Machine.{Machine}
use Rattle.m11_cpu_laws.specs.Returns.{CallIsMade, PlainCallIsMade}

-- a machine whose first code has this low byte
abbrev calling : ℕ → Machine
calling low = record {
  memory = low ∷ 0o11 ∷ 0 ∷ 0 ∷ [];
  registers = 0 ∷ 6 ∷ 0 ∷ 0 ∷ 0 ∷ 0 ∷ 4 ∷ 0 ∷ [];
  status = status_of 0;
  receiver = record { byte = 0; is_done = false; is_enabled = false; has_ended = false };
  transmitter = record { is_enabled = false };
  stopped = None;
}

words : (low : ℕ) (register : Register) → register_of register (calling low) < 0o200000
words low R0 = omega arith
words low R1 = omega arith
words low R2 = omega arith
words low R3 = omega arith
words low R4 = omega arith
words low R5 = omega arith
words low Sp = omega arith
words low Pc = omega arith

pub call_made : CallIsMade
unfolding target location_of ◌>>=◌ row_of rows
call_made = record {
  register = R5;
  operand = record { mode = mode.RegisterDeferred; register = R1 };
  machine = calling 0o111;
  address = 6;
  formed = advanced Pc 2 (calling 0o111);
  is_call = record {
    running = record { not_stopped = refl; not_traced = refl; registers = refl; words = words 0o111 };
    code = ((refl, omega arith), refl);
    linked = omega arith;
    link_not_stepped = refl;
    stack_not_stepped = refl;
    pushed = (refl, omega arith);
  };
  target_formed = refl;
}

pub plain_call_made : PlainCallIsMade
unfolding target location_of ◌>>=◌ row_of rows
plain_call_made = record {
  operand = record { mode = mode.RegisterDeferred; register = R1 };
  machine = calling 0o311;
  address = 6;
  formed = advanced Pc 2 (calling 0o311);
  is_call = record {
    running = record { not_stopped = refl; not_traced = refl; registers = refl; words = words 0o311 };
    code = ((refl, omega arith), refl);
    stack_not_stepped = refl;
    pushed = (refl, omega arith);
  };
  target_formed = refl;
}
