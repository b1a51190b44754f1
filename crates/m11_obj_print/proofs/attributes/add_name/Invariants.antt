use Rattle.std.proofs.Common.{◌≡◌, ◌+◌, ◌≤◌, ◌++◌, length}
use Rattle.m11_obj.specs.Attributes.{shown_name}
use Rattle.m11_obj_print.proofs.attributes.add_name.Given as goal

abbrev pub invariant-characters : goal.invariant-characters
invariant-characters l = record {
  text : l.line.items ++ shown_name l.rest ≡ l.initial.line.items ++ shown_name l.name;
  room : length l.line.items + length (shown_name l.rest) ≤ 175;
}

abbrev pub decreases-characters : goal.decreases-characters
decreases-characters l = length l.rest
