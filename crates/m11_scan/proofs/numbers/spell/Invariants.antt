use Rattle.std.proofs.Common.{◌≡◌, ◌<◌, ◌%◌, take}
use Rattle.std.specs.Prelude.{nat_lt}
use Rattle.m11_scan.specs.Numbers.{spelled}
use Rattle.m11_scan.proofs.numbers.spell.Given as goal

abbrev pub invariant-digits : goal.invariant-digits
invariant-digits l = record {
  value : l.value ≡ spelled l.base (take l.digit-index l.digits) % 65536;
  small : l.value < 65536;
  large : l.is_large ≡ nat_lt 65535 (spelled l.base (take l.digit-index l.digits));
}
