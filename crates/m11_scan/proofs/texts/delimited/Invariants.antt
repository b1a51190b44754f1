use Rattle.std.proofs.Common.{◌≡◌, ◌+◌, length}
use Rattle.m11_scan.specs.Texts.{delimited}
use Rattle.m11_scan.proofs.texts.delimited.Given as goal

abbrev pub invariant-characters : goal.invariant-characters
invariant-characters l = record {
  text : l.count + (delimited l.delimiter l.rest).length ≡ (delimited l.delimiter l.text).length;
  closed : (delimited l.delimiter l.rest).is_closed ≡ (delimited l.delimiter l.text).is_closed;
  all : l.count + length l.rest ≡ length l.text;
}

abbrev pub decreases-characters : goal.decreases-characters
decreases-characters l = length l.rest
