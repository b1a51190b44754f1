use Rattle.m11_obj.proofs.InReading.{are_read_again}
use Rattle.m11_obj.proofs.laws.texts_are_read_again.Goals as goal

pub returns : goal.returns
returns c = are_read_again
