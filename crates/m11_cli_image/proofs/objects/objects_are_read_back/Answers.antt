use Rattle.m11_cli_image.proofs.ReadRecords.{is_read_back}
use Rattle.m11_cli_image.proofs.objects.objects_are_read_back.Goals as goal

pub returns : goal.returns
returns c = is_read_back
