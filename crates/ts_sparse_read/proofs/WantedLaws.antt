-- Which cells of a tile are wanted.
use Rattle.std.proofs.Common.{ℕ, get_or, arith}
use Rattle.std.specs.Prelude.{IsTrue}
use Rattle.std.specs.List.{All}
use Rattle.std.proofs.lemmas.Bool.{and_from}
use Rattle.std.proofs.lemmas.List.Elements.{All-get_or}
use Rattle.ts_base.specs.Keys.{is_within}
use Rattle.ts_domain.specs.declared.boxes.SubBox.{SubBox}
use Rattle.ts_domain.specs.Boxes.{is_in_box, Covers}
use Rattle.ts_plain.specs.Pieces.{origin_key}
use Rattle.ts_sparse_read.specs.declared.columns.Columns.{Columns}
use Rattle.ts_sparse_read.specs.declared.opened.Opened.{Opened}
use Rattle.ts_sparse_read.specs.Sifts.{cell_in, AreSound}
use Rattle.ts_sparse_read.specs.Picks.{LieInLeaf, AreAllWanted}
use Rattle.ts_sparse_read.proofs.NearLaws.{cell_in_leaf}

-- all cells are wanted where the box has their leaf, and the interval all their writes
pub all_wanted : (opened : Opened) (leaf : SubBox) (c : Columns) → AreSound opened.frame c → LieInLeaf leaf c → Covers (opened.want).sub leaf
    → All (λ o. IsTrue (is_within (opened.want).a (opened.want).b (origin_key (opened.head).origins o))) c.origins → AreAllWanted opened c
all_wanted opened leaf c sound within covers written k below =
    let W = λ (o : ℕ). IsTrue (is_within (opened.want).a (opened.want).b (origin_key (opened.head).origins o)) in
    let coords = (cell_in c k).coords in
    let sub = (opened.want).sub in
    let many = sound.origins in
    and_from (is_within (opened.want).a (opened.want).b (origin_key (opened.head).origins (get_or c.origins k 0))) (is_in_box sub coords) (All-get_or W c.origins k 0 (omega (arith, many)) written)
    (covers coords (cell_in_leaf opened.frame leaf c k sound within below))
