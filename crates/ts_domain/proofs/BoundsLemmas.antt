-- The lemmas on bounds that many functions' goals want.
use Rattle.ts_domain.proofs.Between.{length-are_bounds}

pub ruleset bounds_lemmas = (length-are_bounds)
