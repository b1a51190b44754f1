use Rattle.std.proofs.Common.{◌≡◌, ◌≤◌, ◌+◌, ◌++◌}
use Rattle.arrayvec.specs.ArrayVec.{array_vec_len}
use Rattle.m11_asm_rules.specs.Elements.{names_at, names_within}
use Rattle.m11_asm_operands.proofs.elements.ListedNames.read.Given as goal

abbrev pub invariant-names : goal.invariant-names
invariant-names l = record {
  list : l.self.list.items ++ (names_within l.left l.line.text l.begin).list ≡ (names_at l.line.text l.column).list;
  end : (names_within l.left l.line.text l.begin).end ≡ (names_at l.line.text l.column).end;
  room : array_vec_len l.self.list + l.left ≤ 133;
}

abbrev pub decreases-names : goal.decreases-names
decreases-names l = l.left
