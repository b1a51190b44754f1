use Rattle.std.proofs.Common.{rules, ◌≡◌, ◌∙◌, sym, ap, subst, length, take, List, ℕ, ◌+◌}
use Rattle.m11_base.specs.Feed.{GivesBytes}
use Rattle.m11_obj_blocks.proofs.blocks.read_ready_block.Goals as goal

pub returns-else-room-count-clause-reads : goal.returns-else-room-count-clause-reads
returns-else-room-count-clause-reads g c =
    let count : ℕ = length c.in-Some.bytes.now + 5 in
    let whole = c.in-Some.ensures.whole in
    let stored : c.try_extend_from_slice.new.self.items ≡ c.in-Some.bytes.now = search rules in
    let Gives : List ℕ → Type 0 = λ bytes. GivesBytes (g.F.Feed.text c.args.feed.now) (g.F.Feed.text c.pass.new.self) bytes in
    rw stored (
      whole.0,
      record {
        gave = subst Gives (ap (λ bytes. take count bytes) (sym c.ready.ensures.shown) ∙ whole.2) c.pass.ensures.passes;
        faults = search rules;
        room = search rules;
        bytes = c.in-Some.ensures.bytes;
      },
    )
