use Rattle.std.proofs.Common.{map}
use Rattle.m11_cli_chain.proofs.Assembling.{continues_with, ends_with, fails_with}
use Rattle.m11_cli_chain.proofs.chain.assemble_all.Goals as goal

pub returns-in_err-object-clause-fails : goal.returns-in_err-object-clause-fails
returns-in_err-object-clause-fails c =
    fails_with (λ texts. map (λ text. text.items) texts.items) (λ object. object.items)
    (map (λ texts. map (λ text. text.items) texts.items) c.args.sources.now) c.sources.rest.now c.texts-item.result c.sources.objects.items
    c.in-len1-up.len_at_least c.texts-item.is c.sources.invariant c.in_err-object.field-0.0 c.from_residual.result
    (rw c.as_slice.ensures.value at c.in_err-object.ensures.fails) c.from_residual.ensures.1

pub sources-preserved : goal.sources-preserved
sources-preserved c =
    continues_with (λ texts. map (λ text. text.items) texts.items) (λ object. object.items)
    (map (λ texts. map (λ text. text.items) texts.items) c.args.sources.now) c.sources.rest.now c.texts-item.result c.sources.objects.items
    c.in-len1-up.len_at_least c.texts-item.is c.sources.invariant c.in_ok-object.object c.push.new.self.items
    (rw c.as_slice.ensures.value at c.in_ok-object.ensures.object) c.in-Ok.ensures.items

pub returns-clause-objects : goal.returns-clause-objects
returns-clause-objects c =
    ends_with (λ texts. map (λ text. text.items) texts.items) (map (λ texts. map (λ text. text.items) texts.items) c.args.sources.now)
    c.sources.rest.now (map (λ object. object.items) c.sources.objects.items) c.in_default.len_below c.sources.invariant
