-- The sources can be merged, and what they are merged into can be written.
use Rattle.std.proofs.Common.{sym, ◌∙◌, ◌∷◌, subst}
use Rattle.std.specs.Prelude.{All}
use Rattle.std.proofs.lemmas.List.Elements.{All-head, All-tail}
use Rattle.std.proofs.lemmas.Result.{IfOk-weaker}
use Rattle.ts_schema.specs.declared.frames.Frame.{Frame}
use Rattle.ts_model.specs.Merging.{HasBox, all_got}
use Rattle.ts_model.specs.States.{heads_of}
use Rattle.ts_consolidate.proofs.Sources.{Inside, both_ok, each_box, each_inside, each_spelled, fits_of}
use Rattle.ts_consolidate.proofs.putting.merge_sources.Goals as goal

pub merge_pieces-requires-clause-own : goal.merge_pieces-requires-clause-own
merge_pieces-requires-clause-own g c =
    let frame = c.args.survey.now.frame in
    let first = c.args.first.now in
    let others = c.args.others.now in
    subst (λ (f : Frame). HasBox f first.head) (sym c.get-frame.ensures)
    (All-head (HasBox frame) first.head (heads_of others) (each_box g.P.Pieces.codec frame c.args._schema.now.attrs (first ∷ others) c.args.got c.requires.got))

pub merge_pieces-requires-clause-boxes : goal.merge_pieces-requires-clause-boxes
merge_pieces-requires-clause-boxes g c =
    let frame = c.args.survey.now.frame in
    let first = c.args.first.now in
    let others = c.args.others.now in
    subst (All (HasBox c.get-frame.result.now)) (sym (c.as_slice.ensures ∙ c.in_ok-heads.ensures))
    (subst (λ (f : Frame). All (HasBox f) (heads_of others)) (sym c.get-frame.ensures)
    (All-tail (HasBox frame) first.head (heads_of others) (each_box g.P.Pieces.codec frame c.args._schema.now.attrs (first ∷ others) c.args.got c.requires.got)))

pub merge_pieces-requires-clause-inside : goal.merge_pieces-requires-clause-inside
merge_pieces-requires-clause-inside g c =
    let attrs = c.args._schema.now.attrs in
    subst (λ (f : Frame). All (All (Inside g.P.Pieces.codec f attrs)) c.args.got) (sym c.get-frame.ensures) (each_inside g.P.Pieces.codec c.args.survey.now.frame attrs (c.args.first.now ∷ c.args.others.now) c.args.got c.requires.got)

pub returns-clause-fits : goal.returns-clause-fits
returns-clause-fits g c =
    both_ok c.merge_pieces.result _ _ _ _ (λ piece sources named.
    (fits_of g.P.Pieces.codec c.args.survey.now c.args._schema.now c.args.first.now c.args.others.now c.args.got c.requires.has c.requires.got (g.met.P.Pieces.laws).merged c.args.job.now.id c.get-frame.result.now c.as_slice.result.now piece c.get-frame.ensures (c.as_slice.ensures ∙ c.in_ok-heads.ensures) sources).1 named)
    c.merge_pieces.ensures.sources c.merge_pieces.ensures.counts

pub returns-clause-spelled : goal.returns-clause-spelled
returns-clause-spelled g c =
    each_spelled c.args.survey.now.frame c.args._schema.now.attrs c.get-frame.result.now c.args.job.now.id c.args.first.now.head c.as_slice.result.now (all_got c.args.got) c.merge_pieces.result
    (IfOk-weaker c.merge_pieces.result _ _ (λ piece sources.
    (fits_of g.P.Pieces.codec c.args.survey.now c.args._schema.now c.args.first.now c.args.others.now c.args.got c.requires.has c.requires.got (g.met.P.Pieces.laws).merged c.args.job.now.id c.get-frame.result.now c.as_slice.result.now piece c.get-frame.ensures (c.as_slice.ensures ∙ c.in_ok-heads.ensures) sources).0)
    c.merge_pieces.ensures.sources) c.merge_pieces.ensures.merged
