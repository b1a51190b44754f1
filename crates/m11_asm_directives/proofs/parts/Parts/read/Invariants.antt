use Rattle.std.proofs.Common.{◌≡◌, ◌≤◌, ◌*◌}
use Rattle.arrayvec.specs.ArrayVec.{array_vec_len}
use Rattle.m11_asm_rules.specs.Strings.{parts_at, parts_within}
use Rattle.m11_asm_directives.specs.Seen.{parts_then}
use Rattle.m11_asm_directives.proofs.parts.Parts.read.Given as goal

abbrev pub invariant-parts : goal.invariant-parts
invariant-parts l = record {
  parts :
      parts_then l.self.list.items (parts_within l.left l.line.text l.is_first l.column) ≡ parts_at l.line.text l.start;
  room : array_vec_len l.self.list * 2 ≤ l.column;
}

abbrev pub decreases-parts : goal.decreases-parts
decreases-parts l = l.left
