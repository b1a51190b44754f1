use Rattle.m11_obj_blocks.specs.Frames.{word_bytes, content_limit}
use Rattle.m11_obj.specs.Relocations.{relocation_bytes, RelocationFits}
use Rattle.m11_obj.specs.Records.{Relocations}
use Rattle.m11_obj.proofs.RecordsAgain.{means}
use Rattle.m11_obj.proofs.BytesByPieces.{pieces_all, fact_all, pieces_more, piece_has_room, fact_more}
use Rattle.m11_obj.proofs.records.Record.relocations.Goals as goal

pub add_relocation-requires-clause-room : goal.add_relocation-requires-clause-room
add_relocation-requires-clause-room c =
    piece_has_room relocation_bytes c.args.relocations.now c.loop-relocation.relocation-index c.relocation-item.result
    c.loop-relocation.content.items (word_bytes 4) content_limit c.loop-relocation-test.true c.relocation-item.is
    c.loop-relocation.invariant.0 c.requires.room

pub loop-relocation-preserved : goal.loop-relocation-preserved
loop-relocation-preserved c =
    let relocation = c.relocation-item.result in (
      pieces_more relocation_bytes (word_bytes 4) c.args.relocations.now c.loop-relocation.relocation-index relocation
          c.loop-relocation.content.items _ c.loop-relocation-test.true c.relocation-item.is
          c.loop-relocation.invariant.0 c.add_relocation.ensures.bytes,
      fact_more RelocationFits c.args.relocations.now c.loop-relocation.relocation-index relocation
          c.loop-relocation-test.true c.relocation-item.is c.loop-relocation.invariant.1 c.add_relocation.ensures.fits,
    )

pub returns-clause-means : goal.returns-clause-means
returns-clause-means c =
    means (Relocations c.args.relocations.now) _ (
      c.requires.room,
      fact_all RelocationFits c.args.relocations.now c.loop-relocation.relocation-index
          c.loop-relocation-test.false c.loop-relocation.invariant.1,
    )
    (pieces_all relocation_bytes (word_bytes 4) c.args.relocations.now c.loop-relocation.relocation-index _
    c.loop-relocation-test.false c.loop-relocation.invariant.0)
