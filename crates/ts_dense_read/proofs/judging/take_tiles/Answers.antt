-- One tile more keeps what the loop keeps.
use Rattle.std.proofs.Common.{rules, arith, ◌≡◌, ◌<◌, ◌-◌, min, length, get_or, drop, List, ℕ, sym, subst}
use Rattle.std.specs.Prelude.{Ok, IfSome}
use Rattle.ts_sparse_read.specs.Judges.{ranged}
use Rattle.ts_sparse_read.specs.TileReads.{vals_of_tile}
use Rattle.ts_sparse_read.proofs.DecodeSteps.{decoded_here, decoded_more}
use Rattle.ts_sparse_read.proofs.TileSifts.{rest_whole}
use Rattle.ts_dense_read.specs.SpaceTakes.{behind, tile_taken}
use Rattle.ts_dense_read.proofs.TileTakes.{walk_more}
use Rattle.ts_dense_read.proofs.judging.take_tiles.Goals as goal

pub loop-tile-preserved : goal.loop-tile-preserved
loop-tile-preserved g c =
    let o = c.args.opened.now in
    let l = c.loop-tile in
    let t = c.tile-item.result in
    let within : l.tile-index < length c.args.opened.now.tiles = search rules in
    let is : get_or c.args.opened.now.tiles l.tile-index t ≡ t = search rules in
    let read : behind l.found (tile_taken c.args.opened.now t (drop l.next c.args.got.now)) ≡ Ok c.take_tile.new.found =
    subst (λ gots. behind l.found (tile_taken c.args.opened.now t gots) ≡ Ok c.take_tile.new.found) (rest_whole l.next c.args.got.now) c.in_default.ensures in
    let steps : c.min-next.result ≡ min (length c.args.got.now - l.next) (length t.spans) = search rules in record {
      within = omega (arith, steps, l.invariant.within);
      taken = walk_more o c.args.got.now l.found c.take_tile.new.found l.tile-index l.next c.min-next.result t l.invariant.taken within is read steps;
      decoded = decoded_more o.want.attrs o.attrs o.tiles c.args.got.now l.decoded.items c.pop_front-vals.new.self.items t l.tile-index l.next c.min-next.result l.invariant.decoded within is c.pop_front-vals.ensures.rest steps;
    }

pub take_tile-requires-clause-decoded : goal.take_tile-requires-clause-decoded
take_tile-requires-clause-decoded g c =
    let o = c.args.opened.now in
    let l = c.loop-tile in
    let t = c.tile-item.result in
    let within : l.tile-index < length c.args.opened.now.tiles = search rules in
    let is : get_or c.args.opened.now.tiles l.tile-index t ≡ t = search rules in
    subst (λ (gots : List (List ℕ)). IfSome c.pop_front-vals.result (λ vals. vals_of_tile o.want.attrs t.cells (ranged t.spans gots) 0 o.attrs ≡ Ok vals)) (sym (rest_whole l.next c.args.got.now))
    (decoded_here o.want.attrs o.attrs o.tiles c.args.got.now l.decoded.items c.pop_front-vals.new.self.items c.pop_front-vals.result t l.tile-index l.next l.invariant.decoded within is c.pop_front-vals.ensures.items)
