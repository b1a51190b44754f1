use Rattle.m11_base.proofs.Words.{fits_exactly}
use Rattle.m11_base.proofs.instruction.Insn.fits.Goals as goal

pub returns-clause-has_code : goal.returns-clause-has_code
returns-clause-has_code c = fits_exactly c.args.self.now c.fits_fields.result c.fits_fields.ensures.fits c.fits_fields.ensures.held
