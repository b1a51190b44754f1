use Rattle.std.proofs.Common.{◌≡◌, ◌+◌, ◌≤◌, length}
use Rattle.m11_scan.specs.Texts.{bracketed, inside}
use Rattle.m11_scan.proofs.texts.bracketed.Given as goal

abbrev pub invariant-characters : goal.invariant-characters
invariant-characters l = record {
  text : l.count + (inside l.depth l.rest).length ≡ (bracketed l.text).length;
  closed : (inside l.depth l.rest).is_closed ≡ (bracketed l.text).is_closed;
  all : l.count + length l.rest ≡ length l.text;
  deep : l.depth ≤ l.count;
}

abbrev pub decreases-characters : goal.decreases-characters
decreases-characters l = length l.rest
