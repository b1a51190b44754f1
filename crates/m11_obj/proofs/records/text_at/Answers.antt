use Rattle.std.proofs.Common.{arith}
use Rattle.m11_obj.proofs.RecordFields.{text_bounds, text_read, text_is_read, text_within}
use Rattle.m11_obj.proofs.records.text_at.Goals as goal

pub split_at-requires : goal.split_at-requires
split_at-requires c = omega (arith, text_bounds c.args.bytes.now c.requires)

pub unreachable-requires : goal.unreachable-requires
unreachable-requires c =
    text_is_read c.args.bytes.now _ _ c.requires c.split_at.ensures.back c.in-Err.ensures

pub returns-clause-text : goal.returns-clause-text
returns-clause-text c =
    text_read c.args.bytes.now _ (c.in-Ok.text.0, c.in-Ok.text.1.now) c.requires c.split_at.ensures.back c.in-Ok.ensures

pub returns-clause-fits : goal.returns-clause-fits
returns-clause-fits c =
    text_within c.args.bytes.now _ (c.in-Ok.text.0, c.in-Ok.text.1.now) c.split_at.ensures.back c.in-Ok.ensures
