-- A `.vac`, a head, a further schema or a delete is one call less.
use Rattle.std.proofs.Common.{◌≢◌, ◌<◌, None, length, sym, subst}
use Rattle.std.proofs.lemmas.Result.{IfOk-weaker}
use Rattle.ts_model.specs.States.{collect_asks, get_delete, get_head, get_schema, get_vac}
use Rattle.ts_reader.specs.Reading.{collect_left, reads_left}
use Rattle.ts_actor.proofs.Collected.{within_asked}
use Rattle.ts_reader.proofs.steps.go_collecting.Goals as goal

pub returns-in-GetsVacs-clause-fewer : goal.returns-in-GetsVacs-clause-fewer
returns-in-GetsVacs-clause-fewer g c =
    let at = c.in-GetsVacs in
    IfOk-weaker c.after_vac_reply.result _ _ (λ next fewer.
    subst (λ s. collect_asks g.P.Pieces.codec s ≢ None → reads_left g.P.Pieces.left next < collect_left g.P.Pieces.left s) (sym at.is)
    (λ asked. fewer (within_asked get_vac at.reading.counting (length at.reading.vacs) asked))) c.after_vac_reply.ensures.fewer

pub returns-in-GetsHeads-clause-fewer : goal.returns-in-GetsHeads-clause-fewer
returns-in-GetsHeads-clause-fewer g c =
    let at = c.in-GetsHeads in
    IfOk-weaker c.after_head_reply.result _ _ (λ next fewer.
    subst (λ s. collect_asks g.P.Pieces.codec s ≢ None → reads_left g.P.Pieces.left next < collect_left g.P.Pieces.left s) (sym at.is)
    (λ asked. fewer (within_asked (get_head g.P.Pieces.codec at.reading) at.reading.fragments (length at.opened) asked))) c.after_head_reply.ensures.fewer

pub returns-in-GetsSchemas-clause-fewer : goal.returns-in-GetsSchemas-clause-fewer
returns-in-GetsSchemas-clause-fewer g c =
    let at = c.in-GetsSchemas in
    IfOk-weaker c.after_further.result _ _ (λ next fewer.
    subst (λ s. collect_asks g.P.Pieces.codec s ≢ None → reads_left g.P.Pieces.left next < collect_left g.P.Pieces.left s) (sym at.is)
    (λ asked. fewer (within_asked get_schema at.keys (length at.schemas) asked))) c.after_further.ensures.fewer

pub returns-in-GetsDeletes-clause-fewer : goal.returns-in-GetsDeletes-clause-fewer
returns-in-GetsDeletes-clause-fewer g c =
    let at = c.in-GetsDeletes in
    IfOk-weaker c.after_delete_reply.result _ _ (λ next fewer.
    subst (λ s. collect_asks g.P.Pieces.codec s ≢ None → reads_left g.P.Pieces.left next < collect_left g.P.Pieces.left s) (sym at.is)
    (λ asked. fewer (within_asked get_delete at.reading.delete_names (length at.reading.deletions) asked))) c.after_delete_reply.ensures.fewer
