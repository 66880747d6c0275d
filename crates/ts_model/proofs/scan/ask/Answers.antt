-- The box of a query that is ready lies in the domain, and does not have too many cells.
use Rattle.std.proofs.Common.{subst}
use Rattle.ts_model.specs.Queries.{ready_in}
use Rattle.ts_model.specs.Selections.{IsChecked}
use Rattle.ts_model.proofs.Referred.{ready_inside, ready_is_box, ready_few}
use Rattle.ts_model.proofs.scan.ask.Goals as goal

pub answer-requires-clause-inside : goal.answer-requires-clause-inside
answer-requires-clause-inside c =
    let wanted = ready_in c.args.frame.now c.args.current.now.attrs c.args.query.now in
    ready_inside c.args.frame.now c.args.current.now.attrs c.args.query.now c.in-Ok.ready (subst (λ r. IsChecked r wanted) c.in-Ok.is c.check_query.ensures)

pub answer-requires-clause-valid : goal.answer-requires-clause-valid
answer-requires-clause-valid c =
    let wanted = ready_in c.args.frame.now c.args.current.now.attrs c.args.query.now in
    ready_is_box c.args.frame.now c.args.current.now.attrs c.args.query.now c.in-Ok.ready c.requires.frame c.requires.bounds (subst (λ r. IsChecked r wanted) c.in-Ok.is c.check_query.ensures)

pub answer-requires-clause-few : goal.answer-requires-clause-few
answer-requires-clause-few c =
    let wanted = ready_in c.args.frame.now c.args.current.now.attrs c.args.query.now in
    ready_few c.args.frame.now c.args.current.now.attrs c.args.query.now c.in-Ok.ready (subst (λ r. IsChecked r wanted) c.in-Ok.is c.check_query.ensures)
