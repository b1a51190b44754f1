use Rattle.m11_web.proofs.OneReading.{reading_one}
use Rattle.m11_web.proofs.laws.a_request_has_one_reading.Goals as goal

pub returns : goal.returns
returns c = reading_one
