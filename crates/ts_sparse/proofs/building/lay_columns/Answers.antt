-- The coordinates and the values of a piece that fits have room, and all columns are laid.
use Rattle.std.proofs.Common.{sym, subst}
use Rattle.ts_sparse.specs.Laying.{CoordsFit, ValuesFit}
use Rattle.ts_sparse.proofs.FitLaws.{coords_fit, values_fit}
use Rattle.ts_sparse.proofs.BuildLaws.{columns_laid}
use Rattle.ts_sparse.proofs.building.lay_columns.Goals as goal

pub lay_dims-requires-clause-fits : goal.lay_dims-requires-clause-fits
lay_dims-requires-clause-fits c =
    let versions = c.args.piece.now.versions in
    subst (λ dims. CoordsFit dims versions) (sym c.as_slice.ensures.value) (coords_fit c.args.frame.now c.args.schema.now.attrs c.args.piece.now.head.frag c.args.piece.now c.requires.fits)

pub lay_attrs-requires-clause-fits : goal.lay_attrs-requires-clause-fits
lay_attrs-requires-clause-fits c =
    let versions = c.args.piece.now.versions in
    subst (λ fields. ValuesFit fields versions) (sym c.as_slice-2.ensures) (values_fit c.args.frame.now c.args.schema.now.attrs c.args.piece.now.head.frag c.args.piece.now c.requires.fits)

pub returns : goal.returns
returns c =
    columns_laid c.args.frame.now c.args.schema.now.attrs c.args.piece.now c.new.result c.new-2.result _ _ _ _ _ c.new.ensures c.new-2.ensures c.as_slice.ensures.value c.as_slice-2.ensures
    c.in_ok-lay_dims.ensures c.in_ok-lay_attrs.ensures c.in_ok-lay_origins.ensures
