use Rattle.std.proofs.Common.{◌+◌, ◌∷◌, [], length, drop, arith, ap, sym, ◌∙◌, length-append}
use Rattle.ts_base.specs.declared.values.Val.TheVariants as val
use Rattle.ts_wire.specs.Place.{each_at}
use Rattle.ts_wire.proofs.Loop.{with_front, each_place_on, each_place_stop, each_done}
use Rattle.ts_column.specs.Stored.{stored_vals, kinds_vals, kind_val}
use Rattle.ts_column.specs.Tiles.{cell_at}
use Rattle.ts_column.proofs.StoredLaws.{kinds_more}
use Rattle.ts_column.proofs.stored.read_each_kind.Goals as goal

pub loop-place-preserved : goal.loop-place-preserved
loop-place-preserved c =
    let l = c.loop-place in
    let stored = c.args.stored.now in
    let vals = stored_vals stored in
    let pushed = c.in_ok-push-in-Ok.ensures.ok in
    let more = each_place_on cell_at vals l.place val.Null (kinds_vals stored l.kinds) l.cursor c.read_kind.new.cursor (kind_val stored c.in-Ok.kind l.place) _ (omega (arith, c.len-place-end.ensures)) c.in-Ok.ensures l.invariant.reads in
    record {
      reads = ap (λ kinds. with_front (kinds_vals stored kinds) (each_at cell_at (drop (l.place + 1) vals) c.read_kind.new.cursor)) pushed
          ∙ ap (λ front. with_front front (each_at cell_at (drop (l.place + 1) vals) c.read_kind.new.cursor)) (kinds_more stored l.kinds c.in-Ok.kind l.place (sym l.invariant.many)) ∙ more;
      many = ap length pushed ∙ omega (arith, length-append l.kinds (c.in-Ok.kind ∷ []), l.invariant.many);
    }

pub returns-in-Err-clause-reads : goal.returns-in-Err-clause-reads
returns-in-Err-clause-reads c =
    let l = c.loop-place in
    each_place_stop cell_at (stored_vals c.args.stored.now) l.place val.Null (kinds_vals c.args.stored.now l.kinds) l.cursor _ (omega (arith, c.len-place-end.ensures)) l.invariant.reads _ c.in-Err.ensures

pub returns-clause-reads : goal.returns-clause-reads
returns-clause-reads c =
    let l = c.loop-place in
    each_done cell_at (stored_vals c.args.stored.now) l.place (kinds_vals c.args.stored.now l.kinds) l.cursor _ (omega (arith, c.len-place-end.ensures)) l.invariant.reads
