use Rattle.m11_cpu_laws.proofs.Readings.{its_image, no_other_image, one_reading}
use Rattle.m11_cpu_laws.proofs.images.tapes_have_one_image.Goals as goal

pub returns-clause-reading : goal.returns-clause-reading
returns-clause-reading c = one_reading

pub returns-clause-image : goal.returns-clause-image
returns-clause-image c = its_image

pub returns-clause-no_other : goal.returns-clause-no_other
returns-clause-no_other c = no_other_image
