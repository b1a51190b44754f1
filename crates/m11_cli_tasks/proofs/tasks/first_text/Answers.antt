use Rattle.std.proofs.Common.{◌∙◌, ap, refl}
use Rattle.clap.specs.Words.{found_of}
use Rattle.m11_cli_tasks.proofs.Entries.{first_is}
use Rattle.m11_cli_tasks.proofs.tasks.first_text.Goals as goal

pub returns : goal.returns
returns c =
    ap (λ text. text.now) c.unwrap_or.ensures
    ∙ first_is (found_of c.args.entries.now) c.args.id.now c.get_str.result _ c.get_str.ensures refl
