use Rattle.std.proofs.Common.{◌≡◌, IfOk, subst}
use Rattle.m11_asm_rules.specs.Contents.{Emission}
use Rattle.m11_asm_directives.proofs.radix50.emit_packed.Goals as goal

pub returns : goal.returns
returns c =
    let P : Emission → Type 0 = λ p. IfOk c.end.result (λ x. c.end.new.emission ≡ p) in
    subst P c.in_ok-waiting.ensures c.end.ensures
