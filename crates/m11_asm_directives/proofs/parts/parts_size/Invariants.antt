use Rattle.std.proofs.Common.{◌≡◌, ◌≤◌, ◌+◌, ◌*◌, length}
use Rattle.m11_asm_rules.specs.Strings.{contents_of, parts_size}
use Rattle.m11_asm_directives.proofs.parts.parts_size.Given as goal

abbrev pub invariant-parts : goal.invariant-parts
invariant-parts l = record {
  size : l.size + parts_size (contents_of l.line.text l.rest) ≡ parts_size (contents_of l.line.text l.parts.list.items);
  most : l.size + length l.rest * 255 ≤ 255 * 66;
}

abbrev pub decreases-parts : goal.decreases-parts
decreases-parts l = length l.rest
