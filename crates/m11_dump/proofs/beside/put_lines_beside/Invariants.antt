use Rattle.std.proofs.Common.{◌≡◌, ◌++◌, drop, take}
use Rattle.m11_dump.specs.Beside.{lines_beside, places_at}
use Rattle.m11_dump.specs.Instructions.{over_from}
use Rattle.m11_dump.specs.References.{references_at}
use Rattle.m11_dump.proofs.beside.put_lines_beside.Given as goal

abbrev pub invariant-bytes : goal.invariant-bytes
invariant-bytes l = record {
  leads : l.text.items ++ lines_beside (references_at l.places) (places_at l.address l.places) l.address l.index l.left (drop l.index (take l.own l.bytes)) (drop l.own l.bytes)
      ≡ l.initial.text.items ++ lines_beside (references_at l.places) (places_at l.address l.places) l.address 0 l.shown (take l.own l.bytes) (drop l.own l.bytes);
  over : over_from (references_at l.places) l.address l.index l.left (drop l.index (take l.own l.bytes)) (drop l.own l.bytes)
      ≡ over_from (references_at l.places) l.address 0 l.shown (take l.own l.bytes) (drop l.own l.bytes);
}
