-- One more version is cut.
use Rattle.std.proofs.Common.{◌≡◌, get_or, set, sym, ap, ◌∙◌, arith}
use Rattle.std.proofs.lemmas.List.Edits.{map_over_more}
use Rattle.ts_base.specs.declared.heads.Version.{Version}
use Rattle.ts_schema.specs.Wants.{cut}
use Rattle.ts_schema.proofs.wants.cut_all.Goals as goal

pub loop-version-preserved : goal.loop-version-preserved
loop-version-preserved c =
    let is : c.version-item.result ≡ get_or c.loop-version.versions c.loop-version.version-index c.version-item.result = c.version-item.is in
    let more = map_over_more (cut c.args.want.now) c.args.versions.now c.loop-version.versions c.loop-version.version-index c.version-item.result (omega arith) c.loop-version.invariant is in
    ap (set c.loop-version.versions c.loop-version.version-index) c.in_ok-cut.ensures ∙ ap (λ (v : Version). set c.loop-version.versions c.loop-version.version-index (cut c.args.want.now v)) (sym is) ∙ more
