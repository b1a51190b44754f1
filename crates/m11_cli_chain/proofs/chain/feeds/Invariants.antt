use Rattle.std.proofs.Common.{◌≡◌, ◌++◌, length, map}
use Rattle.m11_cli_chain.specs.Steps.{whole_text}
use Rattle.m11_cli_chain.proofs.chain.feeds.Given as goal

abbrev pub invariant-texts : goal.invariant-texts
invariant-texts l =
    map (λ feed. whole_text feed.rest.now) l.feeds.items ++ map whole_text (map (λ text. text.items) l.rest)
    ≡ map whole_text (map (λ text. text.items) l.texts)

abbrev pub decreases-texts : goal.decreases-texts
decreases-texts l = length l.rest
