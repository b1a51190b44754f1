use Rattle.std.proofs.Common.{sym, subst}
use Rattle.m11_cpu_quick.specs.KindTables.{AreKinds}
use Rattle.std.specs.Prelude.{ℕ, slice_set}
use Rattle.m11_cpu_quick.proofs.KindsFound.{one_found}
use Rattle.m11_cpu_quick.proofs.kind_table.KindTable.look_at.Goals as goal

pub invariant_of-self : goal.invariant_of-self
invariant_of-self c =
    let P : ℕ → Type 0 = λ n. AreKinds (slice_set c.self.inside.of_words n c.of.result) in
    subst P (sym c.from-index.ensures) (one_found c.self.inside.of_words c.args.word c.of.result c.self.invariant c.of.ensures)
