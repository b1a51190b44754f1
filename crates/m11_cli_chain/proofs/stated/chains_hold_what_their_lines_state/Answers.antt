use Rattle.std.proofs.Common.{◌∙◌, ℕ, Option, map, ap}
use Rattle.std.specs.Option.{unwrap_or}
use Rattle.m11_cli_chain.specs.Sources.{sources_of}
use Rattle.m11_asm_passes.specs.Lines.{givens}
use Rattle.m11_cli_chain.proofs.SourcesGiven.{all_given}
use Rattle.m11_cli_chain.proofs.stated.chains_hold_what_their_lines_state.Goals as goal

pub returns : goal.returns
returns c texts bottom words done linked = record {
  lines = linked.lines;
  live = linked.live;
  bytes = λ agree address low.
      linked.holds.bytes address low
      ∙ ap (λ (o : Option ℕ). unwrap_or o 0)
      (c.images_hold_what_their_lines_state.ensures bottom (map givens linked.lines) (sources_of linked.lines)
      (all_given linked.lines) agree address);
}
