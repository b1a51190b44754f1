use Rattle.std.proofs.Common.{ap, length, arith, ◌∷◌, []}
use Rattle.std.proofs.lemmas.List.{length-append}
use Rattle.m11_unfold_bodies.specs.Frames.{line_where}
use Rattle.m11_unfold_bodies.proofs.Stacks.{depth-remains, expands}
use Rattle.m11_unfold_bodies.proofs.left.RemainingLines.expand.Goals as goal

pub invariant_of-self-2 : goal.invariant_of-self-2
invariant_of-self-2 c =
    let room = rw (← c.self.view_is) at c.requires.room in
    let deep = depth-remains c.self.inside.statement c.self.inside.frames.items (line_where c.self.inside.has_fed c.self.inside.fed) in
    let longer = ap length c.in_ok-push.ensures.items in
    let sum = length-append c.self.inside.frames.items (c.new.result ∷ []) in
    omega arith

pub returns-clause-ok : goal.returns-clause-ok
returns-clause-ok c =
    rw (← c.self.view_is)
    (expands c.args.template.value.formals c.args.rounds c.args.template.value.body c.args.mark c.self.inside.frames.items _
    c.new.result (line_where c.self.inside.has_fed c.self.inside.fed) c.self.inside.statement (rw (← c.self.view_is) at c.requires.free) c.in_ok-push.ensures.items
    c.new.ensures.lines c.new.ensures.mark)
