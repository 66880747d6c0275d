-- A worked history: an array that was made, and then written four times.
use Rattle.std.proofs.Common.{◌≡◌, ℤ, pos, false, List, [], ◌∷◌, None, refl, sym, ◌∙◌, subst, arith}
use Rattle.std.specs.Prelude.{IsTrue}
use Rattle.std.specs.List.{All}
use Rattle.std.proofs.lemmas.Bool.{true≢false}
use Rattle.std.proofs.lemmas.Int.{ints}
use Rattle.std.proofs.lemmas.List.Elements.{All-cons, All-nil}
use Rattle.ts_base.specs.declared.values.Val.TheVariants.{Int}
use Rattle.ts_base.specs.declared.values.ValType.TheVariants.{U8}
use Rattle.ts_value.specs.Fits.{fits_of}
use Rattle.ts_domain.specs.Domains.{is_in_domain}
use Rattle.ts_schema.specs.declared.attrs.Attr.{Attr}
use Rattle.ts_schema.specs.declared.frames.Frame.{Frame}
use Rattle.ts_schema.specs.declared.schemas.Schema.{Schema}
use Rattle.ts_schema.specs.Faults.{schema_fault}
use Rattle.ts_schema.specs.FrameTexts.{IsFrame}
use Rattle.ts_schema.specs.SchemaTexts.{AreAttrs}
use Rattle.ts_model.specs.declared.deeds.Deed.TheVariants.{Framed, Declared, Wrote}
use Rattle.ts_model.specs.Deeds.{CellFits, IsHistory, RowFits}

-- what fits an attribute of bytes fits one whose type that is
fits_byte : (a : Attr) (v : ℤ) → IsTrue (fits_of U8 false (Int v)) → a.ty ≡ U8 → a.nullable ≡ false → IsTrue (fits_of a.ty a.nullable (Int v))
fits_byte a v fits is not_null = subst (λ ty. IsTrue (fits_of ty a.nullable (Int v))) (sym is) (subst (λ nullable. IsTrue (fits_of U8 nullable (Int v))) (sym not_null) fits)

-- rows of one byte, of one attribute of bytes
pub byte_rows : (a : Attr) → a.ty ≡ U8 → a.nullable ≡ false → RowFits (a ∷ []) (Int (pos 1) ∷ []) × RowFits (a ∷ []) (Int (pos 2) ∷ [])
byte_rows a is not_null = ((omega (arith, ints), fits_byte a (pos 1) refl is not_null, tt), (omega (arith, ints), fits_byte a (pos 2) refl is not_null, tt))

-- the cell of a write fits
cell_fits : (frame : Frame) (attrs : List Attr) (x v : ℤ) → IsTrue (is_in_domain frame.domain (x ∷ [])) → RowFits attrs (Int v ∷ [])
    → All (CellFits frame.domain attrs) (record { coords = x ∷ []; row = Int v ∷ [] } ∷ [])
cell_fits frame attrs x v inside row = All-cons (CellFits frame.domain attrs) (record { coords = x ∷ []; row = Int v ∷ [] }) [] (record { inside = inside; row = row }) (All-nil (CellFits frame.domain attrs))

-- a frame, a schema, and then writes of 1 at 1, of 2 at 2, of 2 at 1, and of 1 at 3
pub written_is_history : (frame : Frame) (attrs : List Attr) → IsFrame frame → AreAttrs attrs → schema_fault frame.domain attrs ≡ None → frame.dense ≡ false
    → IsTrue (is_in_domain frame.domain (pos 1 ∷ [])) → IsTrue (is_in_domain frame.domain (pos 2 ∷ [])) → IsTrue (is_in_domain frame.domain (pos 3 ∷ []))
    → RowFits attrs (Int (pos 1) ∷ []) → RowFits attrs (Int (pos 2) ∷ [])
    → IsHistory (
    Framed frame
    ∷ Declared (record { key = record { t = 0; id = 1 }; attrs = attrs })
    ∷ Wrote (record { key = record { t = 1; id = 2 }; schema = record { t = 0; id = 1 }; cells = record { coords = pos 1 ∷ []; row = Int (pos 1) ∷ [] } ∷ [] })
    ∷ Wrote (record { key = record { t = 2; id = 3 }; schema = record { t = 0; id = 1 }; cells = record { coords = pos 2 ∷ []; row = Int (pos 2) ∷ [] } ∷ [] })
    ∷ Wrote (record { key = record { t = 3; id = 4 }; schema = record { t = 0; id = 1 }; cells = record { coords = pos 1 ∷ []; row = Int (pos 2) ∷ [] } ∷ [] })
    ∷ Wrote (record { key = record { t = 3; id = 7 }; schema = record { t = 0; id = 1 }; cells = record { coords = pos 3 ∷ []; row = Int (pos 1) ∷ [] } ∷ [] })
    ∷ []
    )
written_is_history frame attrs is are sound sparse in1 in2 in3 row1 row2 =
    let schema : Schema = record { key = record { t = 0; id = 1 }; attrs = attrs } in (
      record { first = refl; is_frame = is },
      (
        record { frame = frame; framed = refl; new = refl; key = record { t = omega arith; id = omega arith }; attrs = are; sound = sound },
        (
          record { frame = frame; framed = refl; new = refl; key = record { t = omega arith; id = omega arith }; schema = schema; declared = refl; in_time = refl; some_cell = omega arith; few = omega arith; apart = refl; fit = cell_fits frame attrs (pos 1) (pos 1) in1 row1; boxed = λ dense. absurd (true≢false (sym dense ∙ sparse)) },
          (
            record { frame = frame; framed = refl; new = refl; key = record { t = omega arith; id = omega arith }; schema = schema; declared = refl; in_time = refl; some_cell = omega arith; few = omega arith; apart = refl; fit = cell_fits frame attrs (pos 2) (pos 2) in2 row2; boxed = λ dense. absurd (true≢false (sym dense ∙ sparse)) },
            (
              record { frame = frame; framed = refl; new = refl; key = record { t = omega arith; id = omega arith }; schema = schema; declared = refl; in_time = refl; some_cell = omega arith; few = omega arith; apart = refl; fit = cell_fits frame attrs (pos 1) (pos 2) in1 row2; boxed = λ dense. absurd (true≢false (sym dense ∙ sparse)) },
              (
                record { frame = frame; framed = refl; new = refl; key = record { t = omega arith; id = omega arith }; schema = schema; declared = refl; in_time = refl; some_cell = omega arith; few = omega arith; apart = refl; fit = cell_fits frame attrs (pos 3) (pos 1) in3 row1; boxed = λ dense. absurd (true≢false (sym dense ∙ sparse)) },
                tt,
              ),
            ),
          ),
        ),
      ),
    )
