use Rattle.std.proofs.Common.{◌≡◌, ◌++◌, ◌-◌, drop, take}
use Rattle.m11_dump.specs.Instructions.{lines_from, over_from, unreferred}
use Rattle.m11_dump.proofs.instructions.put_lines.Given as goal

abbrev pub invariant-lines : goal.invariant-lines
invariant-lines l = record {
  leads : l.text.items ++ lines_from l.symbols unreferred l.address l.index 0 (drop l.index (take l.own l.bytes)) (drop l.own l.bytes)
      ≡ l.initial.text.items ++ lines_from l.symbols unreferred l.address 0 l.shown (take l.own l.bytes) (drop l.own l.bytes);
  over : over_from unreferred l.address l.index (l.index - l.own) (drop l.index (take l.own l.bytes)) (drop l.own l.bytes)
      ≡ over_from unreferred l.address 0 l.shown (take l.own l.bytes) (drop l.own l.bytes);
}

abbrev pub decreases-lines : goal.decreases-lines
decreases-lines l = l.own - l.index
