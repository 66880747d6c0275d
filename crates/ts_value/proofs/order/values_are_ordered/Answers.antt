use Rattle.ts_value.proofs.ValOrder.{val_cmp_total, val_cmp_exact}
use Rattle.ts_value.proofs.order.values_are_ordered.Goals as goal

pub returns-clause-total : goal.returns-clause-total
returns-clause-total c = val_cmp_total

pub returns-clause-exact : goal.returns-clause-exact
returns-clause-exact c = val_cmp_exact
