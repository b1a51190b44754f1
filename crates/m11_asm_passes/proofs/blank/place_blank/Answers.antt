use Rattle.std.proofs.Common.{◌∙◌, ℕ, None, refl, ap}
use Rattle.std.specs.Int.RustNames.{bit_or}
use Rattle.m11_scan.specs.Views.{bits_of}
use Rattle.m11_scan_statements.specs.Statements.{label_flags}
use Rattle.m11_asm_lines.specs.declared.actions.Action.TheVariants as code
use Rattle.m11_asm_passes.proofs.Blanks.{placed_so}
use Rattle.m11_asm_passes.specs.Placed.{live_in}
use Rattle.m11_asm_passes.specs.declared.placed.PlacedLine.{PlacedLine}
use Rattle.m11_asm_passes.proofs.blank.place_blank.Goals as goal

pub returns-clause-placed : goal.returns-clause-placed
returns-clause-placed c = λ whole stage.
    let line = c.args.placed.now.live.line in
    let placed : PlacedLine = record {
      live = record {
        line = line;
        is_expanded = c.args.placed.now.live.is_expanded;
        operation = record c.args.placed.now.live.operation { action = code.NoAction };
      };
      flags = c.with-placed.result;
      section = c.section_name-placed.result;
      location = c.counter-placed.result;
      counter = c.counter-placed.result;
      assigned = None;
      is_shown = c.is_shown-placed.result;
    } in
    placed_so (live_in c.args.placed.now.live) stage c.requires.blank c.args.pass.now whole placed c.clear.new.self refl refl
    c.clear.ensures
    (c.with-placed.ensures
    ∙ ap (λ (n : ℕ). bit_or n (bits_of c.rest_flags.result)) c.requires.states.flags_are
    ∙ ap (bit_or (label_flags line)) c.rest_flags.ensures)
    c.section_name-placed.ensures c.counter-placed.ensures c.counter-placed.ensures refl c.is_shown-placed.ensures
