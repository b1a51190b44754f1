use Rattle.std.proofs.Common.{◌≡◌, List, ℕ, arith, rules, sym, subst, ◌∙◌}
use Rattle.m11_dump.specs.LibraryStart.{EndsWith}
use Rattle.m11_dump.proofs.LibraryStarts.{from_start, starts_found, starts_none}
use Rattle.m11_dump.proofs.library_start.find_block.Goals as goal

pub returns-in-Ok-Some-clause-ends : goal.returns-in-Ok-Some-clause-ends
returns-in-Ok-Some-clause-ends c =
    let P : List ℕ → Type 0 = λ l. EndsWith l c.args.bytes.now in
    let items : c.try_extend_from_slice.new.self.items ≡ c.in-Ok-Some.content.now = search rules in
    let found = rw c.in-Ok-Some.field-0-is at c.in-Ok-Some.ensures in
    subst P (sym items) (starts_found c.args.bytes.now c.in-Ok-Some.content.now c.starts.start
    (sym (from_start c.args.bytes.now c.starts.start) ∙ found.0) found.1)

pub returns-clause-none : goal.returns-clause-none
returns-clause-none c = starts_none c.args.bytes.now (λ k lt. c.starts.invariant k (omega (arith, lt, c.starts-test.false)))
