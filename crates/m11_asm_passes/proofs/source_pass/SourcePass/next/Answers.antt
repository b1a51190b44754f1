use Rattle.std.proofs.Common.{Result, subst, sym}
use Rattle.m11_asm_faults.specs.declared.fault.AsmFault.{AsmFault}
use Rattle.m11_asm_passes.specs.Placed.{live_in}
use Rattle.m11_asm_passes.specs.States.{SourcePassState, pass_state_of}
use Rattle.m11_asm_passes.specs.Turns.{SaysPlaced, Turns}
use Rattle.m11_asm_passes.specs.declared.turns.Turn.{Turn}
use Rattle.m11_asm_passes.proofs.source_pass.SourcePass.next.Goals as goal

pub returns-clause-turns : goal.returns-clause-turns
returns-clause-turns c = λ none.
    let new = pass_state_of c.next-turn.new.self in
    let live = live_in c.next-turn.new.placed.live in
    let R : Result Turn AsmFault → Type 0 = λ r. Turns c.args.map.now c.args.self.now.pass_state new live (SaysPlaced c.args.map.now c.next-turn.new.placed c.next-turn.new.self.emission) r in
    let S : SourcePassState → Type 0 = λ s. Turns c.args.map.now s.pass_state new live (SaysPlaced c.args.map.now c.next-turn.new.placed c.next-turn.new.self.emission) c.next-turn.result in
    subst R (sym c.keep.ensures.same) (subst S c.self.view_is c.next-turn.ensures.turns)
