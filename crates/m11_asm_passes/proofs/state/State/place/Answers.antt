use Rattle.std.proofs.Common.{◌∙◌, Ok, refl, sym, ap, subst}
use Rattle.std.specs.Int.RustNames.{bit_or}
use Rattle.m11_scan.specs.Views.{bits_of}
use Rattle.m11_unfold_rules.specs.Taking.{Live}
use Rattle.m11_asm_rules.specs.Contents.{Emission}
use Rattle.m11_asm_lines.specs.Lines.{flags_from}
use Rattle.m11_asm_passes.specs.Faults.{FailsAtLine}
use Rattle.m11_asm_passes.proofs.Assembling.{begins_still, emit_fails, placed_so, places_fails}
use Rattle.m11_asm_passes.proofs.Blanks.{blank_places}
use Rattle.m11_asm_passes.specs.Begun.{States}
use Rattle.m11_asm_passes.specs.Blank.{IsBlank}
use Rattle.m11_asm_passes.specs.Placed.{live_in}
use Rattle.m11_asm_passes.specs.States.{pass_state_of}
use Rattle.m11_asm_passes.specs.Turns.{Places, SaysPlaced}
use Rattle.m11_asm_passes.specs.declared.placed.PlacedLine.{PlacedLine}
use Rattle.m11_asm_passes.proofs.state.State.place.Goals as goal

pub returns-then-is_blank-clause-places : goal.returns-then-is_blank-clause-places
returns-then-is_blank-clause-places c =
    let map = c.args.map.now in
    let old = pass_state_of c.args.self.now in
    let emission = c.place_blank.new.emission in
    let blank : IsBlank c.args.placed.now.live.line.text = record {
      unlabelled = c.statement-statement.ensures.unlabelled (c.is_blank.ensures.unlabelled c.if-is_blank.true);
      bodiless = sym c.statement-statement.ensures.body ∙ c.is_blank.ensures.bodiless c.if-is_blank.true;
    } in
    blank_places (live_in c.args.placed.now.live) old blank c.counts_are_within_the_limits.ensures.defined
    c.counts_are_within_the_limits.ensures.symbols
    c.counts_are_within_the_limits.ensures.sections c.counts_are_within_the_limits.ensures.names map emission
    (SaysPlaced map c.place_blank.new.placed emission)
    (c.place_blank.ensures.placed map old.unfolder.stage)

pub returns-in_err-placed-clause-places : goal.returns-in_err-placed-clause-places
returns-in_err-placed-clause-places c =
    let map = c.args.map.now in
    let old = pass_state_of c.args.self.now in
    let new = pass_state_of c.apply.new.self in
    let fault = c.in_err-placed.field-0.0 in
    let F : Live → Type 0 = λ l. FailsAtLine map old.table old.counting l old.unfolder.stage fault in
    places_fails map (live_in c.args.placed.now.live) old.unfolder.stage old new fault _ c.from_residual-in_err-placed.result
    (subst F c.begin.ensures.same
    (c.in_err-placed.ensures.finishes old
    (begins_still map (live_in c.begin.new.live) old (pass_state_of c.begin.new.self) c.begin.new.live.operation c.in_ok-begun.begun
    c.emit_line.new.emission c.in_ok-begun.ensures.begins)))
    c.from_residual-in_err-placed.ensures.1

-- for what the line emits
pub returns-in_err-emit_line-clause-places : goal.returns-in_err-emit_line-clause-places
returns-in_err-emit_line-clause-places c =
    let map = c.args.map.now in
    let old = pass_state_of c.args.self.now in
    let new = record (pass_state_of c.begin.new.self) { emission = c.emit_line.new.emission } in
    let fault = c.in_err-emit_line.field-0.0 in
    let F : Live → Type 0 = λ l. FailsAtLine map old.table old.counting l old.unfolder.stage fault in
    places_fails map (live_in c.args.placed.now.live) old.unfolder.stage old new fault _ c.from_residual-in_err-emit_line.result
    (subst F c.begin.ensures.same
    (emit_fails map (live_in c.begin.new.live) old (pass_state_of c.begin.new.self) c.begin.new.live.operation c.in_ok-begun.begun
    c.in_ok-begun.ensures.begins fault c.in_err-emit_line.ensures.refuses c.in_err-emit_line.ensures.selects))
    c.from_residual-in_err-emit_line.ensures.1

pub returns-clause-places : goal.returns-clause-places
returns-clause-places c =
    let map = c.args.map.now in
    let old = pass_state_of c.args.self.now in
    let new = pass_state_of c.apply.new.self in
    let begun = c.in_ok-begun.begun in
    let text = c.begin.new.live.line.text in
    let statement = c.statement-statement.result in
    let said : States (live_in c.args.placed.now.live) statement = record {
      labels_end_is = c.statement-statement.ensures.labels_end;
      body_is = c.statement-statement.ensures.body;
      flags_are = c.statement-statement.ensures.label_flags;
    } in
    let S : Live → Type 0 = λ l. States l statement in
    let placed : PlacedLine = record {
      live = c.begin.new.live;
      flags = c.all_flags-placed.result;
      section = c.section_name-placed.result;
      location = c.put_location-placed.result;
      counter = c.counter-placed.result;
      assigned = c.in_ok-placed.field-0;
      is_shown = c.is_shown-placed.result;
    } in
    let L : Live → Type 0 = λ l. Places map l old.unfolder.stage old new (SaysPlaced map placed new.emission) (Ok tt) in
    subst L c.begin.ensures.same
    (placed_so map (live_in c.begin.new.live) old (pass_state_of c.begin.new.self) c.begin.new.live.operation begun c.in_ok-begun.ensures.begins
    statement (subst S (sym c.begin.ensures.same) said) new placed refl refl
    (c.apply.ensures.emission ∙ c.in_ok-emit_line.ensures.puts) c.section_name-placed.ensures
    (c.put_location-placed.ensures text) c.counter-placed.ensures c.is_shown-placed.ensures
    (c.all_flags-placed.ensures
    ∙ ap (λ (p : Emission). bit_or (flags_from text statement.labels_end statement.body
    (bits_of statement.label_flags) (bits_of begun.found.doubly_defined) (bits_of c.begin.new.live.operation.flags) p.flags
    begun.act.remarks.flags) (bits_of begun.found.moved)) (sym c.apply.ensures.emission))
    (c.in_ok-placed.ensures.finishes old
    (begins_still map (live_in c.begin.new.live) old (pass_state_of c.begin.new.self) c.begin.new.live.operation begun c.emit_line.new.emission
    c.in_ok-begun.ensures.begins)))
