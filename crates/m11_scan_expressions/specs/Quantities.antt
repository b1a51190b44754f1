-- Values in the definitions: a number, what it is relative to, and a set of flags.
use Rattle.std.specs.Prelude.{ℕ}
use Rattle.std.specs.Int.RustNames.{bit_or}
use Rattle.m11_scan.specs.ErrorFlags.{flag_Q}
use Rattle.m11_scan.specs.Views.{bits_of}
use Rattle.m11_scan_expressions.specs.declared.kinds.Kind.{Kind}
use Rattle.m11_scan_expressions.specs.declared.kinds.Kind.TheVariants.{Absolute}
use Rattle.m11_scan_expressions.specs.declared.values.Value.{Value}

pub record Quantity : Type 0 where
  pub number : ℕ
  pub kind : Kind
  pub flags : ℕ

abbrev pub quantity : Value → Quantity
quantity value = record { number = value.number; kind = value.kind; flags = bits_of value.flags }

abbrev pub absolute : ℕ → ℕ → Quantity
absolute number flags = record { number = number; kind = Absolute; flags = flags }

-- the value of a missing term: 0, flagged Q
abbrev pub missing : Quantity
missing = absolute 0 flag_Q

abbrev pub with_flags : ℕ → Quantity → Quantity
with_flags flags value = record { number = value.number; kind = value.kind; flags = bit_or value.flags flags }
