-- The part of the column has what the versions of the strip show.
use Rattle.std.proofs.Common.{◌++◌, [], drop, take, sym, ap, ◌∙◌}
use Rattle.std.proofs.lemmas.List.{drop-map, get_or_default}
use Rattle.std.proofs.lemmas.Result.{on_ok_weaker}
use Rattle.ts_reader.specs.Shown.{version_val, version_vals}
use Rattle.ts_reader.proofs.LaidVals.{map_take}
use Rattle.ts_reader.proofs.laid.push_strip.Goals as goal

pub returns-in-Some : goal.returns-in-Some
returns-in-Some c =
    let r = c.args.reading.now in
    let schemas = c.args.schemas.now in
    let a = c.args.attr.now in
    let s = c.args.strip in
    let batches = c.args.batches.now in
    let batch = c.index-batches-strip.result in
    let own = c.index-batches-strip.is ∙ get_or_default batches s.batch batch [] c.requires.there.named in
    let shows = c.in-Some.ensures ∙ ap (λ vs. version_vals r schemas vs a) own in
    let part = ap (λ vals. take s.count (drop s.place vals)) shows ∙ ap (take s.count) (drop-map (version_val r schemas a) s.place _) ∙ sym (map_take (version_val r schemas a) s.count _) in
    on_ok_weaker c.append_part.result (λ is. is ∙ ap (λ vals. c.args.column.now ++ vals) part) c.append_part.ensures
