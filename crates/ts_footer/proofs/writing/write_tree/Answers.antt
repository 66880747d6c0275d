use Rattle.std.proofs.Common.{◌++◌, sym, ap, ◌∙◌}
use Rattle.std.proofs.lemmas.List.{append-nil}
use Rattle.std.specs.List.{flat_map}
use Rattle.ts_domain.specs.Rects.{rect_bytes}
use Rattle.ts_rtree.specs.Trees.{nodes_of}
use Rattle.ts_footer.specs.Footers.{leaves_in}
use Rattle.ts_footer.proofs.Writes.{no_boxes}
use Rattle.ts_footer.proofs.writing.write_tree.Goals as goal

pub returns-in-None : goal.returns-in-None
returns-in-None c =
    sym (ap (λ tree. c.args.scribe.now ++ flat_map rect_bytes (nodes_of (leaves_in tree))) c.in-None.is ∙ ap (λ text. c.args.scribe.now ++ text) no_boxes ∙ append-nil c.args.scribe.now)
