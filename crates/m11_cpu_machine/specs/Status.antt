-- The processor status word: the priority in bits 7 to 5, T in bit 4, and N, Z, V and C in bits 3 to 0.
-- (PDP-11/40 Processor Handbook, "Processor status word".)
use Rattle.std.specs.Prelude.{ℕ, ◌+◌, ◌*◌, ◌/◌, ◌%◌, ◌==◌, Bool, cond}
use Rattle.m11_base.specs.Instructions.{condition_codes_of}
use Rattle.m11_cpu_machine.specs.declared.status.ProcessorStatus.{ProcessorStatus}

-- the status that a word holds in its lower eight bits
abbrev pub status_of : ℕ → ProcessorStatus
status_of bits = record {
  priority = bits / 0o40 % 0o10;
  trace = bits / 0o20 % 2 == 1;
  codes = condition_codes_of bits;
}

-- the status after a word was written to it at octal 177776: T stays as it was
abbrev pub status_written : ℕ → ProcessorStatus → ProcessorStatus
status_written bits old = record (status_of bits) { trace = old.trace }

abbrev pub bit : Bool → ℕ
bit b = cond b 1 0

-- the status as a word
abbrev pub psw_of : ProcessorStatus → ℕ
psw_of status = status.priority % 0o10 * 0o40 + bit status.trace * 0o20 + bit status.codes.negative * 0o10
    + bit status.codes.zero * 4 + bit status.codes.overflow * 2 + bit status.codes.carry
