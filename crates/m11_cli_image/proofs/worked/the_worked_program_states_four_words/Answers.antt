use Rattle.m11_cli_image.proofs.WorkedFits.{worked_fit}
use Rattle.m11_cli_image.proofs.WorkedOut.{placed_out, worked_agree, worked_of, worked_out}
use Rattle.m11_cli_image.proofs.worked.the_worked_program_states_four_words.Goals as goal

pub returns : goal.returns
returns c = record {
  lines = worked_of;
  agree = worked_agree;
  fit = worked_fit;
  stated = worked_out;
  placed = placed_out;
}
