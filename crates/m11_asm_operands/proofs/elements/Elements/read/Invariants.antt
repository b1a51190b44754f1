use Rattle.std.proofs.Common.{◌≡◌, ◌≤◌, ◌+◌, ◌++◌}
use Rattle.arrayvec.specs.ArrayVec.{array_vec_len}
use Rattle.m11_asm_rules.specs.Elements.{elements_at, elements_within}
use Rattle.m11_asm_operands.specs.Elements.{elements_model}
use Rattle.m11_asm_operands.proofs.elements.Elements.read.Given as goal

abbrev pub invariant-elements : goal.invariant-elements
invariant-elements l = record {
  list : elements_model l.line.text l.self.list.items ++ (elements_within l.left l.line.text l.begin).list
      ≡ (elements_at l.line.text l.column).list;
  end : (elements_within l.left l.line.text l.begin).end ≡ (elements_at l.line.text l.column).end;
  room : array_vec_len l.self.list + l.left ≤ 133;
}

abbrev pub decreases-elements : goal.decreases-elements
decreases-elements l = l.left
