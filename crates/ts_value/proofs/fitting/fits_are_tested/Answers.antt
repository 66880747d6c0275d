use Rattle.ts_value.proofs.FitLaws.{fits_of-Fits, Fits-fits_of, fill_fits}
use Rattle.ts_value.proofs.fitting.fits_are_tested.Goals as goal

pub returns-clause-tests : goal.returns-clause-tests
returns-clause-tests c = λ ty nullable val. (Fits-fits_of ty nullable val, fits_of-Fits ty nullable val)

pub returns-clause-fills : goal.returns-clause-fills
returns-clause-fills c = fill_fits
