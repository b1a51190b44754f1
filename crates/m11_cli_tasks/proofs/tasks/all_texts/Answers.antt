use Rattle.std.proofs.Common.{◌∙◌, ap, map, Some, None}
use Rattle.std.proofs.lemmas.Result.{IfOk-weaker}
use Rattle.clap.specs.Words.{found_of}
use Rattle.m11_cli_tasks.proofs.Entries.{all_are}
use Rattle.m11_cli_tasks.proofs.tasks.all_texts.Goals as goal

pub returns-in-Some : goal.returns-in-Some
returns-in-Some c =
    let all = all_are (found_of c.args.entries.now) c.args.id.now
    (Some (map (λ text. text.now) c.in-Some.texts.now)) c.in-Some.ensures in
    IfOk-weaker c.to_vec.result _ _ (λ copy same. ap (map (λ text. text.now)) (same (λ x y e. e)) ∙ all)
    c.to_vec.ensures.items_if_clones_equal

pub returns-in-None : goal.returns-in-None
returns-in-None c =
    ap (map (λ text. text.now)) c.new.ensures.items
    ∙ all_are (found_of c.args.entries.now) c.args.id.now None c.in-None.ensures
