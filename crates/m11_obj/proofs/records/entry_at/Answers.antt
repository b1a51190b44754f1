use Rattle.std.proofs.Common.{arith}
use Rattle.m11_obj.proofs.RecordFields.{entry_bounds, entry_read, entry_is_read}
use Rattle.m11_obj.proofs.records.entry_at.Goals as goal

pub overflow_mul-index : goal.overflow_mul-index
overflow_mul-index c = omega (arith, entry_bounds c.args.bytes.now c.args.index c.requires.in_bounds)

pub overflow_add-index : goal.overflow_add-index
overflow_add-index c = omega (arith, entry_bounds c.args.bytes.now c.args.index c.requires.in_bounds)

pub split_at-requires : goal.split_at-requires
split_at-requires c = entry_bounds c.args.bytes.now c.args.index c.requires.in_bounds

pub unreachable-requires : goal.unreachable-requires
unreachable-requires c =
    entry_is_read c.args.bytes.now _ c.args.index _ c.requires.in_bounds c.split_at.ensures.back c.in-Err.ensures

pub returns : goal.returns
returns c =
    entry_read c.args.bytes.now _ c.args.index c.in-Ok.entry _ c.requires.in_bounds c.split_at.ensures.back
    c.in-Ok.ensures
