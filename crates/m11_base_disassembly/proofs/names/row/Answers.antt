use Rattle.std.proofs.Common.{◌∙◌, rules, tests}
use Rattle.std.proofs.lemmas.Iterator.Search.{find_from_yields_List}
use Rattle.std.proofs.lemmas.Iterator.{YieldsList-from_slice}
use Rattle.m11_base.specs.Instructions.{is_of, rows, row_of}
use Rattle.m11_base_disassembly.proofs.names.row.Goals as goal

pub returns : goal.returns
unfolding row_of
returns c =
    c.copied.ensures
    ∙ find_from_yields_List (is_of c.args.word) _ _ _ c.find-found.ensures.ran (YieldsList-from_slice rows (c.iter.ensures.rest ∙ c.rows.ensures)) (λ x b q k. search (rules, tests))
