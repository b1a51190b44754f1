use Rattle.m11_cli_image.proofs.ReadDirectories.{has_directory}
use Rattle.m11_cli_image.proofs.objects.directories_are_read_back.Goals as goal

pub returns : goal.returns
returns c = has_directory
