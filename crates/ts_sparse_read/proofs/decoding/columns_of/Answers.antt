-- What is decoded of all tiles is what is read of each.
use Rattle.std.proofs.Common.{rules, ◌≡◌, ℕ, true, false, List, length, sym, ap, subst, ◌∙◌}
use Rattle.std.specs.Prelude.{Ok}
use Rattle.ts_base.specs.declared.values.Val.{Val}
use Rattle.ts_column.specs.declared.tiles.Tile.{Tile}
use Rattle.ts_column.specs.Tiles.{tiles_vals}
use Rattle.ts_sparse_read.specs.Decoded.{counts_of, attr_tiles, null_columns, AreOfAttr}
use Rattle.ts_sparse_read.proofs.DecodeSteps.{of_attr, of_none, tiles_many}
use Rattle.ts_sparse_read.proofs.decoding.columns_of.Goals as goal

pub returns-then-not-read : goal.returns-then-not-read
returns-then-not-read g c =
    let a = c.args in
    let off : c.args.read ≡ false = search rules in
    let are : c.in_ok-null_columns.field-0 ≡ null_columns (counts_of c.args.tiles.now) = c.in_ok-null_columns.ensures ∙ ap null_columns c.requires in
    subst (λ b. AreOfAttr b a.place a.attr.now a.tiles.now a.got.now c.in_ok-null_columns.field-0) (sym off)
    (subst (λ (cs : List (List Val)). AreOfAttr false a.place a.attr.now a.tiles.now a.got.now cs) (sym are) (of_none a.place a.attr.now a.tiles.now a.got.now))

pub decode_all-requires-after_bounds : goal.decode_all-requires-after_bounds
decode_all-requires-after_bounds g c κs within =
    let a = c.args in
    ap length (c.as_slice.ensures ∙ c.in_ok-parts.ensures) ∙ tiles_many a.place a.tiles.now a.got.now ∙ ap length (sym c.requires)

pub returns-in-Ok : goal.returns-in-Ok
returns-in-Ok g c =
    let a = c.args in
    let on : c.args.read ≡ true = search rules in
    let parts = c.as_slice.ensures ∙ c.in_ok-parts.ensures in
    let read : tiles_vals a.attr.now.ty a.attr.now.nullable (counts_of a.tiles.now) (attr_tiles a.place a.tiles.now a.got.now) ≡ Ok c.in-Ok.columns =
    subst (λ (ts : List Tile). tiles_vals a.attr.now.ty a.attr.now.nullable (counts_of a.tiles.now) ts ≡ Ok c.in-Ok.columns) parts
    (subst (λ (ns : List ℕ). tiles_vals a.attr.now.ty a.attr.now.nullable ns c.as_slice.result.now ≡ Ok c.in-Ok.columns) c.requires c.in-Ok.ensures) in
    subst (λ b. AreOfAttr b a.place a.attr.now a.tiles.now a.got.now c.in-Ok.columns) (sym on) (of_attr a.place a.attr.now a.tiles.now a.got.now c.in-Ok.columns read)
