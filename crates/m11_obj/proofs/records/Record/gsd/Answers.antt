use Rattle.std.proofs.Common.{ap, ◌∙◌, length, arith, length-append}
use Rattle.m11_obj_blocks.specs.Frames.{word_bytes}
use Rattle.m11_obj.specs.Gsd.{entry_bytes, EntryFits}
use Rattle.m11_obj.specs.Records.{Gsd}
use Rattle.m11_obj.proofs.RecordsAgain.{means}
use Rattle.m11_obj.proofs.BytesByPieces.{pieces_all, fact_all, pieces_more, fact_more}
use Rattle.m11_obj.proofs.records.Record.gsd.Goals as goal

pub loop-entry-preserved : goal.loop-entry-preserved
loop-entry-preserved c =
    let entry = c.entry-item.result in
    let content = c.loop-entry.content.items in
    let longer = ap length c.add_entry.ensures.bytes ∙ length-append content (entry_bytes entry) in (
      pieces_more entry_bytes (word_bytes 1) c.args.entries.now c.loop-entry.entry-index entry content _
          c.loop-entry-test.true c.entry-item.is c.loop-entry.invariant.0 c.add_entry.ensures.bytes,
      omega arith,
      fact_more EntryFits c.args.entries.now c.loop-entry.entry-index entry c.loop-entry-test.true c.entry-item.is
          c.loop-entry.invariant.2 c.add_entry.ensures.fits,
    )

pub returns-clause-means : goal.returns-clause-means
returns-clause-means c =
    means (Gsd c.args.entries.now) _ (
      c.requires,
      fact_all EntryFits c.args.entries.now c.loop-entry.entry-index c.loop-entry-test.false c.loop-entry.invariant.2,
    )
    (pieces_all entry_bytes (word_bytes 1) c.args.entries.now c.loop-entry.entry-index _ c.loop-entry-test.false
    c.loop-entry.invariant.0)
