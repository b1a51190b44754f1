use Rattle.std.proofs.Common.{◌≡◌, ◌∙◌, Option, sym, subst}
use Rattle.m11_base.specs.Rad50.{Name}
use Rattle.m11_asm_rules.specs.Limits.{has_too_many}
use Rattle.m11_asm_lines.specs.Assigned.{with_assignment}
use Rattle.m11_asm_lines.proofs.Room.{value_counts}
use Rattle.m11_asm_lines.proofs.pass.Pass.is_full_for.Goals as goal

pub returns-in-Some : goal.returns-in-Some
returns-in-Some c = λ is_global definition.
    let P : Option Name → Type 0 = λ n. c.lacks_room.result ≡ has_too_many (with_assignment n is_global definition c.args.self.now) in
    subst P (sym c.in-Some.is)
    (c.lacks_room.ensures definition
    ∙ value_counts c.in-Some.name definition c.args.self.now c.counts_are_within_the_limits.ensures.names
    c.counts_are_within_the_limits.ensures.symbols is_global)
