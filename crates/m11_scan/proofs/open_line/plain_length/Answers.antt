use Rattle.std.proofs.Common.{ℕ, take, sym, subst}
use Rattle.std.specs.Bool.{IsTrue}
use Rattle.std.specs.List.{AllByRecursion}
use Rattle.m11_scan.specs.Classes.{is_plain}
use Rattle.m11_scan.proofs.PlainFronts.{front_plain}
use Rattle.m11_scan.proofs.open_line.plain_length.Goals as goal

pub returns-clause-plain : goal.returns-clause-plain
returns-clause-plain c =
    let P : ℕ → Type 0 = λ n. AllByRecursion (λ byte. IsTrue (is_plain byte)) (take n c.args.bytes.now) in
    subst P (sym c.plain_run.ensures.run) (front_plain c.args.bytes.now)
