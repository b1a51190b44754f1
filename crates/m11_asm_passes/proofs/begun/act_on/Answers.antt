use Rattle.std.proofs.Common.{subst}
use Rattle.m11_asm_rules.specs.Tables.{Table}
use Rattle.m11_asm_rules.specs.Unfolded.{known_after_labels}
use Rattle.m11_unfold.specs.Unfolder.{Acts}
use Rattle.m11_asm_passes.proofs.begun.act_on.Goals as goal

pub returns-clause-acts : goal.returns-clause-acts
returns-clause-acts c =
    let P : Table → Type 0 = λ t.
    Acts (known_after_labels t) c.args.line.now.text c.args.unfolder.now.stage c.act_under.new.unfolder.stage c.act_under.result in
    subst P c.table.ensures c.act_under.ensures.acts
