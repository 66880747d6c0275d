use Rattle.ts_dense.proofs.FormLaws.{one_spelling}
use Rattle.ts_dense.proofs.laws.pieces_have_one_form.Goals as goal

pub returns-clause-spelling : goal.returns-clause-spelling
returns-clause-spelling c frame schema = one_spelling frame schema.attrs
