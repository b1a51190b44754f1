use Rattle.m11_cli_image.proofs.ReadDirectories.{has_texts}
use Rattle.m11_cli_image.proofs.objects.texts_are_read_back.Goals as goal

pub returns : goal.returns
returns c = has_texts
