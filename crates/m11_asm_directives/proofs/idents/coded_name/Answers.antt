use Rattle.std.proofs.Common.{◌∙◌}
use Rattle.m11_asm_directives.proofs.Coding.{six_placed}
use Rattle.m11_asm_directives.proofs.idents.coded_name.Goals as goal

pub returns : goal.returns
returns c =
    c.pack.ensures
    ∙ six_placed c.args.text.now c.first_six-six.result.now _ _ _ _ _ _ c.first_six-six.ensures c.coded_at.ensures c.coded_at-2.ensures
    c.coded_at-3.ensures c.coded_at-4.ensures c.coded_at-5.ensures c.coded_at-6.ensures
