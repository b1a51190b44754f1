use Rattle.std.proofs.Common.{sym, rules}
use Rattle.m11_base.proofs.Characters.{unpacked_again}
use Rattle.m11_base.proofs.rad50.Rad50.pack.Goals as goal

pub returns-clause-again : goal.returns-clause-again
returns-clause-again c =
    unpacked_again c.args.characters.now _ _ _ (search rules) (sym c.in_ok-first.ensures.code) (sym c.in_ok-second.ensures.code) (sym c.in_ok-third.ensures.code)
