use Rattle.std.proofs.Common.{◌∙◌, refl}
use Rattle.m11_asm.proofs.Naming.{inserted_first}
use Rattle.m11_asm.proofs.facts.insert_all.Goals as goal

pub names-preserved : goal.names-preserved
names-preserved c =
    inserted_first c.args.line.now.text c.names.rest.now _ _ c.listed_name.result c.names.names.keys c.insert_one.new.names.keys
    c.in-len1-up.len_at_least refl c.listed_name.ensures c.in_ok-insert_one.ensures
    ∙ c.names.invariant
