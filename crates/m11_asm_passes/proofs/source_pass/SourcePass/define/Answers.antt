use Rattle.std.proofs.Common.{Result, subst, sym}
use Rattle.m11_asm_faults.specs.declared.fault.AsmFault.{AsmFault}
use Rattle.m11_asm_rules.specs.Meanings.{empty_map}
use Rattle.m11_asm_passes.specs.Placed.{live_in}
use Rattle.m11_asm_passes.specs.States.{SourcePassState, pass_state_of}
use Rattle.m11_asm_passes.specs.Turns.{SaysLive, Turns}
use Rattle.m11_asm_passes.specs.declared.turns.Turn.{Turn}
use Rattle.m11_asm_passes.proofs.source_pass.SourcePass.define.Goals as goal

pub returns-clause-turns : goal.returns-clause-turns
returns-clause-turns c = λ none.
    let new = pass_state_of c.define_next-turn.new.self in
    let live = live_in c.define_next-turn.new.live in
    let R : Result Turn AsmFault → Type 0 = λ r. Turns empty_map c.args.self.now.pass_state new live (SaysLive c.define_next-turn.new.live) r in
    let S : SourcePassState → Type 0 = λ s. Turns empty_map s.pass_state new live (SaysLive c.define_next-turn.new.live) c.define_next-turn.result in
    subst R (sym c.keep.ensures.same) (subst S c.self.view_is c.define_next-turn.ensures.turns)
