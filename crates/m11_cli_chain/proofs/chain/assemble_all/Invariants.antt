use Rattle.std.proofs.Common.{length, map}
use Rattle.m11_cli_chain.proofs.Assembling.{Continues}
use Rattle.m11_cli_chain.proofs.chain.assemble_all.Given as goal

abbrev pub invariant-sources : goal.invariant-sources
invariant-sources l =
    Continues (map (λ texts. map (λ text. text.items) texts.items) l.sources)
    (map (λ texts. map (λ text. text.items) texts.items) l.rest) (map (λ object. object.items) l.objects.items)

abbrev pub decreases-sources : goal.decreases-sources
decreases-sources l = length l.rest
