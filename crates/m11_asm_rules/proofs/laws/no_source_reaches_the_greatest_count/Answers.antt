use Rattle.m11_asm_rules.proofs.Bounded.{bounded}
use Rattle.m11_asm_rules.proofs.laws.no_source_reaches_the_greatest_count.Goals as goal

pub returns : goal.returns
returns c = bounded c.labels_and_body_are_in_order.ensures.labels
