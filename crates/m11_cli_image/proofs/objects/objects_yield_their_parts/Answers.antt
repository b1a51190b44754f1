use Rattle.m11_cli_image.proofs.YieldedParts.{yields_parts}
use Rattle.m11_cli_image.proofs.objects.objects_yield_their_parts.Goals as goal

pub returns : goal.returns
returns c = yields_parts
