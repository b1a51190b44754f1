use Rattle.std.proofs.Common.{Bool, Option, false, ap, sym, ◌∙◌}
use Rattle.std.specs.Option.{unwrap_or}
use Rattle.m11_link_layout.proofs.Listing.{reference_stays}
use Rattle.m11_link_layout.proofs.tables.Tables.add_reference.Goals as goal

pub returns-then-was_strong : goal.returns-then-was_strong
returns-then-was_strong c = reference_stays c.args.self.now c.args.name c.args.is_strong c.self.view_is
    (ap (λ (o : Option Bool). unwrap_or o false) (sym (c.copied.ensures ∙ c.get.ensures.value))
    ∙ sym c.unwrap_or-was_strong.ensures ∙ c.if-was_strong.true)
