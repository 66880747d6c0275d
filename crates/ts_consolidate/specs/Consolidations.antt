-- What the merge of the pieces of several fragments answers.
use Rattle.std.specs.Prelude.{◌≡◌, ℕ, List, ◌∷◌}
use Rattle.ts_base.specs.declared.heads.Piece.{Piece}
use Rattle.ts_schema.specs.declared.attrs.Attr.{Attr}
use Rattle.ts_schema.specs.declared.frames.Frame.{Frame}
use Rattle.ts_model.specs.Consolidated.{IsConsolidated}
use Rattle.ts_model.specs.Merging.{MergesTo, merged_piece}

-- the piece is what a first source and others are merged into: it has the origins of all of them and the versions that a consolidation keeps, and it is one that a consolidation makes
pub record IsConsolidationOf (frame : Frame) (attrs : List Attr) (id : ℕ) (p : Piece) (ps : List Piece) (piece : Piece) : Type 0 where
  pub is : piece ≡ merged_piece frame id p ps
  pub merges : MergesTo (p ∷ ps) piece
  pub fits : IsConsolidated frame attrs piece
