use Rattle.std.proofs.Common.{◌∙◌, ℕ, ◌+◌, Some, get_or, set, take, refl, sym, ap, arith}
use Rattle.m11_dump_source.specs.Memory.{Cells, with_bytes}
use Rattle.m11_dump_source.proofs.Stored.{all_stored, none_stored, one_left_out, one_stored}
use Rattle.m11_dump_source.proofs.memory.store.Goals as goal
use Rattle.m11_dump_source.proofs.memory.store.Goals.{then-start-index, else-start-index}

pub bytes-init : goal.bytes-init
bytes-init c = record { held = sym (none_stored c.args.address c.args.memory.now); long = refl }

pub bytes-preserved : goal.bytes-preserved
bytes-preserved c = elim c.if-start-index.branch [
  | then-start-index w ↦ record {
    held = w.memory-is
        ∙ ap (λ (cells : Cells). set cells (c.from-start.result + c.bytes.index) (Some (get_or c.args.bytes.now c.bytes.index 0))) c.bytes.invariant.held
        ∙ ap (λ (start : ℕ). set (with_bytes c.args.address (take c.bytes.index c.args.bytes.now) c.args.memory.now) (start + c.bytes.index)
        (Some (get_or c.args.bytes.now c.bytes.index 0))) c.from-start.ensures
        ∙ sym (one_stored c.args.address c.bytes.index c.args.bytes.now c.args.memory.now c.bytes-test.true
        (omega (arith, w.if-start-index.true, c.from-start.ensures, c.bytes.invariant.long)));
    long = c.if-start-index.auto.memory ∙ c.bytes.invariant.long;
  }
  | else-start-index w ↦ record {
    held = w.memory-is ∙ c.bytes.invariant.held
        ∙ sym (one_left_out c.args.address c.bytes.index c.args.bytes.now c.args.memory.now c.bytes-test.true
        (omega (arith, w.if-start-index.false, c.from-start.ensures, c.bytes.invariant.long)));
    long = c.if-start-index.auto.memory ∙ c.bytes.invariant.long;
  }
]

pub returns-clause-cells : goal.returns-clause-cells
returns-clause-cells c = c.bytes.invariant.held ∙ all_stored c.args.address c.bytes.index c.args.bytes.now c.args.memory.now (omega (arith, c.bytes-test.false))
