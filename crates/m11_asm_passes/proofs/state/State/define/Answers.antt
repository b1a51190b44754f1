use Rattle.std.proofs.Common.{◌∙◌, Ok, refl, sym, subst}
use Rattle.m11_unfold_rules.specs.Taking.{Live}
use Rattle.m11_asm_rules.specs.Meanings.{Map, empty_map}
use Rattle.m11_asm_lines.specs.declared.actions.Action.TheVariants as code
use Rattle.m11_asm_passes.proofs.Assembling.{defined_so, places_fails}
use Rattle.m11_asm_passes.proofs.Blanks.{blank_places, live_so}
use Rattle.m11_asm_passes.specs.Blank.{IsBlank}
use Rattle.m11_asm_passes.specs.Placed.{live_in}
use Rattle.m11_asm_passes.specs.States.{pass_state_of}
use Rattle.m11_asm_passes.specs.Turns.{Places, SaysLive}
use Rattle.m11_asm_passes.specs.declared.placed.LiveLine.{LiveLine}
use Rattle.m11_asm_passes.proofs.state.State.define.Goals as goal

pub returns-then-is_blank-clause-places : goal.returns-then-is_blank-clause-places
returns-then-is_blank-clause-places c =
    let old = pass_state_of c.args.self.now in
    let live : LiveLine =
    record {
      line = c.args.live.now.line;
      is_expanded = c.args.live.now.is_expanded;
      operation = record c.args.live.now.operation { action = code.NoAction };
    } in
    let blank : IsBlank live.line.text = record {
      unlabelled = c.statement-statement.ensures.unlabelled (c.is_blank.ensures.unlabelled c.if-is_blank.true);
      bodiless = sym c.statement-statement.ensures.body ∙ c.is_blank.ensures.bodiless c.if-is_blank.true;
    } in
    blank_places (live_in live) old blank c.counts_are_within_the_limits.ensures.defined c.counts_are_within_the_limits.ensures.symbols
    c.counts_are_within_the_limits.ensures.sections c.counts_are_within_the_limits.ensures.names empty_map old.emission (SaysLive live)
    (live_so (live_in live) old.unfolder.stage blank old.table live refl refl)

pub returns-in_err-begun-clause-places : goal.returns-in_err-begun-clause-places
returns-in_err-begun-clause-places c =
    let old = pass_state_of c.args.self.now in
    let new = pass_state_of c.begin.new.self in
    let live = c.begin.new.live in
    let result = c.from_residual.result in
    let M : Map → Type 0 = λ m. Places m (live_in c.args.live.now) old.unfolder.stage old new (SaysLive live) result in
    subst M c.none-map.ensures
    (places_fails c.none-map.result (live_in c.args.live.now) old.unfolder.stage old new c.in_err-begun.field-0.0 (SaysLive live) result
    c.in_err-begun.ensures.fails c.from_residual.ensures.1)

pub returns-in_err-apply-clause-places : goal.returns-in_err-apply-clause-places
returns-in_err-apply-clause-places c =
    let old = pass_state_of c.args.self.now in
    let new = pass_state_of c.apply.new.self in
    let live = c.begin.new.live in
    let result = c.from_residual-in_err-apply.result in
    let M : Map → Type 0 = λ m. Places m (live_in c.args.live.now) old.unfolder.stage old new (SaysLive live) result in
    let L : Live → Type 0 = λ l. Places c.none-map.result l old.unfolder.stage old new (SaysLive live) result in
    subst M c.none-map.ensures
    (subst L c.begin.ensures.same
    (places_fails c.none-map.result (live_in live) old.unfolder.stage old new c.in_err-apply.field-0.0 (SaysLive live) result
    (c.in_err-apply.ensures.finishes old c.in_ok-begun.ensures.begins) c.from_residual-in_err-apply.ensures.1))

pub returns-clause-places : goal.returns-clause-places
returns-clause-places c =
    let old = pass_state_of c.args.self.now in
    let new = pass_state_of c.apply.new.self in
    let live = c.begin.new.live in
    let M : Map → Type 0 = λ m. Places m (live_in c.args.live.now) old.unfolder.stage old new (SaysLive live) (Ok tt) in
    let L : Live → Type 0 = λ l. Places c.none-map.result l old.unfolder.stage old new (SaysLive live) (Ok tt) in
    subst M c.none-map.ensures
    (subst L c.begin.ensures.same
    (defined_so c.none-map.result (live_in live) old (pass_state_of c.begin.new.self) live.operation c.in_ok-begun.begun c.in_ok-begun.ensures.begins
    new live c.in_ok-apply.field-0 refl refl (c.in_ok-apply.ensures.finishes old c.in_ok-begun.ensures.begins)))
