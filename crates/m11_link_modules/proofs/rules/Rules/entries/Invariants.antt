use Rattle.std.proofs.Common.{drop, map}
use Rattle.m11_link_modules.specs.Parts.{Entry}
use Rattle.m11_link_modules.proofs.Taking.{GoesOn}
use Rattle.m11_link_modules.proofs.rules.Rules.entries.Given as goal

abbrev pub invariant-entries : goal.invariant-entries
invariant-entries l = GoesOn l.initial.self l.self
    (map (λ entry. Entry entry) (drop l.entry-index l.entries))
    (map (λ entry. Entry entry) l.entries)
