use Rattle.std.proofs.Common.{◌∙◌, rules, tests}
use Rattle.std.proofs.lemmas.Iterator.Search.{find_from_yields_List}
use Rattle.std.proofs.lemmas.Iterator.{YieldsList-from_slice}
use Rattle.m11_base.specs.Instructions.{is_of, other_names}
use Rattle.m11_base_disassembly.proofs.names.other_row.Goals as goal

pub returns : goal.returns
returns c =
    c.copied.ensures
    ∙ find_from_yields_List (is_of c.args.word) _ _ _ c.find-found.ensures.ran (YieldsList-from_slice other_names (c.iter.ensures.rest ∙ c.other_names.ensures)) (λ x b q k. search (rules, tests))
