use Rattle.std.proofs.Common.{Err, ◌+◌, [], ◌∷◌, ◌++◌, map, drop, ap, ◌∙◌, sym, subst}
use Rattle.std.proofs.lemmas.Result.{err_from_is_err_and}
use Rattle.serde_json.specs.View.{items_of}
use Rattle.ts_table.specs.Columns.{val_seen}
use Rattle.ts_script.specs.Shapes.{Gives, items_onto}
use Rattle.ts_script.specs.Trees.{data_of}
use Rattle.ts_script.proofs.ListLemmas.{Gives-stopped, items_onto-at}
use Rattle.ts_script.proofs.Typed.{one_more}
use Rattle.ts_script.proofs.forms.read_cells.Goals as goal

pub returns-in_err-from_item-clause-gives : goal.returns-in_err-from_item-clause-gives
returns-in_err-from_item-clause-gives g c =
    let form = g.T.FromJson.form in
    let l = c.loop-place in
    let vs = c.args.cells.now.column in
    let p = err_from_is_err_and c.from_residual.result c.from_residual.ensures.1 in
    let whole = sym (items_onto-at form l.done vs l.place (val_seen c.at.result) c.at.ensures) ∙ l.invariant.gives in
    rw (p.1, p.2) (subst (Gives (Err c.in_err-from_item.field-0.0)) whole (Gives-stopped c.in_err-from_item.field-0.0 (form (data_of (val_seen c.at.result))) (λ x. items_onto form (l.done ++ x ∷ []) (items_of (map data_of (drop (l.place + 1) vs)))) c.in_err-from_item.ensures.gives))

pub loop-place-preserved : goal.loop-place-preserved
loop-place-preserved g c =
    let form = g.T.FromJson.form in
    let l = c.loop-place in
    let vs = c.args.cells.now.column in
    let x = c.in_ok-from_item.field-0 in
    let more = c.in_ok-push.ensures.ok in
    let next = items_onto-at form l.done vs l.place (val_seen c.at.result) c.at.ensures in
    let read = rw c.in_ok-from_item.ensures.gives at next in
    record {
      gives = ap (λ done. items_onto form done (items_of (map data_of (drop (l.place + 1) vs)))) more ∙ sym read ∙ l.invariant.gives;
      typed = rw more (one_more g.T.FromJson.typed l.done x l.invariant.typed c.in_ok-from_item.ensures.typed);
    }
