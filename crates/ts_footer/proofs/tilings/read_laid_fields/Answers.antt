use Rattle.ts_footer.proofs.tilings.read_laid_fields.Goals as goal

pub returns-in-Sparse-clause-reads : goal.returns-in-Sparse-clause-reads
returns-in-Sparse-clause-reads c = rw c.in-Sparse.is c.read_fields.ensures.reads
