use Rattle.m11_dump.proofs.Offsets.{none_shorter}
use Rattle.m11_dump.proofs.positions.index_with.Goals as goal

pub beginnings-init : goal.beginnings-init
beginnings-init c = record {
  read = c.new-beginning.ensures;
  shorter = none_shorter c.args.fault c.requires.other c.args.content.now.items;
}
