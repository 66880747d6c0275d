-- All cells lie in the leaf, and so in the box.
use Rattle.std.proofs.Common.{ℕ, subst}
use Rattle.std.specs.Prelude.{List, IsTrue}
use Rattle.std.specs.List.{All}
use Rattle.ts_base.specs.Keys.{is_within}
use Rattle.ts_plain.specs.Pieces.{origin_key}
use Rattle.ts_sparse_read.proofs.WantedLaws.{all_wanted}
use Rattle.ts_sparse_read.proofs.versions.are_all_wanted.Goals as goal

pub returns-then-does_cover : goal.returns-then-does_cover
returns-then-does_cover c t =
    let o = c.args.opened.now in
    let has = c.does_cover.ensures.cells c.if-does_cover.true in
    let written = subst (λ (os : List ℕ). All (λ (k : ℕ). IsTrue (is_within o.want.a o.want.b (origin_key o.head.origins k))) os) c.as_slice.ensures (c.are_origins_wanted.ensures t) in
    all_wanted o c.args.leaf.now c.args.columns.now c.requires.sound c.requires.within has written
