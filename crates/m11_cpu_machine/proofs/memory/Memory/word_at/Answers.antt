use Rattle.std.proofs.Common.{arith}
use Rattle.std.proofs.lemmas.Bool.Decides.{nat_tests}
use Rattle.m11_cpu_machine.proofs.WordsAsBytes.{length_of_bytes}
use Rattle.m11_cpu_machine.proofs.memory.Memory.word_at.Goals as goal

pub returns-then-index-len-clause-held : goal.returns-then-index-len-clause-held
returns-then-index-len-clause-held c =
    grind (arith, nat_tests, length_of_bytes c.self.inside.words.items, c.self.view_is, c.if-index-len.true, c.from-index.ensures, c.turned.ensures, c.len.ensures)
