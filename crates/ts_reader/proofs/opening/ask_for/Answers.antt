-- A query that is ready asks for a box in the domain, and in a dense array for few cells.
use Rattle.std.proofs.Common.{ap, ◌∙◌}
use Rattle.std.proofs.lemmas.Result.{IfOk-weaker}
use Rattle.ts_model.specs.Queries.{ready_in}
use Rattle.ts_model.specs.States.{getting_vacs}
use Rattle.ts_model.proofs.Referred.{ready_few, ready_is_box}
use Rattle.ts_reader.proofs.Leads.{asked_for}
use Rattle.ts_reader.proofs.QueryLaws.{ready_covered}
use Rattle.ts_reader.proofs.opening.ask_for.Goals as goal

pub next_vac-requires : goal.next_vac-requires
next_vac-requires g c = (
  c.type_bounds.sync-R,
  rw c.in_ok-new-in-Ok.ensures (record {
    is_frame = c.requires.frame;
    are_attrs = c.requires.attrs;
    inside = ready_covered c.args.frame c.args.current.attrs c.args.query.now c.in-Ok.ready c.in-Ok.ensures;
    valid = ready_is_box c.args.frame c.args.current.attrs c.args.query.now c.in-Ok.ready c.requires.frame c.requires.bounds c.in-Ok.ensures;
    few_cells = ready_few c.args.frame c.args.current.attrs c.args.query.now c.in-Ok.ready c.in-Ok.ensures;
    fragments = c.requires.listed.fragments;
    counting = c.requires.listed.counting;
    deletes = c.requires.listed.deletes;
  }),
)

pub returns-in-Ok-clause-is : goal.returns-in-Ok-clause-is
returns-in-Ok-clause-is g c =
    IfOk-weaker c.next_vac.result _ _ (λ s is.
    is
    ∙ ap (getting_vacs g.P.Pieces.codec) c.in_ok-new-in-Ok.ensures
    ∙ asked_for g.P.Pieces.codec c.args.from c.args.to c.args.listed c.args.frame c.args.current c.in-Ok.ready (ready_in c.args.frame c.args.current.attrs c.args.query.now) c.new.result c.new-in-Ok.result c.new-in-Ok-2.result
    c.in-Ok.ensures c.new.ensures c.new-in-Ok.ensures c.new-in-Ok-2.ensures) c.next_vac.ensures.is
