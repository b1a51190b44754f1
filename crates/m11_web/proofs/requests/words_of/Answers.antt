use Rattle.std.proofs.Common.{arith}
use Rattle.std.proofs.lemmas.Bool.Decides.{nat_tests}
use Rattle.m11_web.proofs.BlocksRead.{ends}
use Rattle.m11_web.proofs.requests.words_of.Goals as goal

pub returns : goal.returns
returns c = ends _ _ _ c.words.invariant (grind (arith, nat_tests))
