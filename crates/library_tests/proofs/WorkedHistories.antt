-- Worked histories: an array that was made, and one that was written twice at one place, where a delete erases what was written last.
use Rattle.std.proofs.Common.{◌≡◌, ℤ, pos, false, List, [], ◌∷◌, None, refl, sym, ◌∙◌, subst, arith}
use Rattle.std.specs.Prelude.{IsTrue}
use Rattle.std.specs.List.{All}
use Rattle.std.proofs.lemmas.Bool.{true≢false}
use Rattle.std.proofs.lemmas.Int.{ints}
use Rattle.std.proofs.lemmas.List.Elements.{All-cons, All-nil}
use Rattle.ts_base.specs.declared.values.Val.TheVariants.{Int}
use Rattle.ts_base.specs.declared.values.ValType.TheVariants.{I64}
use Rattle.ts_value.specs.Fits.{fits_of}
use Rattle.ts_cond.specs.CondTexts.{IsCond}
use Rattle.ts_cond.specs.Tests.{Condition}
use Rattle.ts_domain.specs.Domains.{is_in_domain}
use Rattle.ts_schema.specs.declared.attrs.Attr.{Attr}
use Rattle.ts_schema.specs.declared.frames.Frame.{Frame}
use Rattle.ts_schema.specs.declared.schemas.Schema.{Schema}
use Rattle.ts_schema.specs.Faults.{schema_fault}
use Rattle.ts_schema.specs.FrameTexts.{IsFrame}
use Rattle.ts_schema.specs.SchemaTexts.{AreAttrs}
use Rattle.ts_model.specs.declared.deeds.Deed.TheVariants.{Framed, Declared, Wrote, Erased}
use Rattle.ts_model.specs.Deeds.{CellFits, IsHistory, RowFits}

-- a frame, and then a schema that the array can have
pub made_is_history : (frame : Frame) (attrs : List Attr) → IsFrame frame → AreAttrs attrs → schema_fault frame.domain attrs ≡ None → IsHistory (Framed frame ∷ Declared (record { key = record { t = 0; id = 1 }; attrs = attrs }) ∷ [])
made_is_history frame attrs is are sound =
    (record { first = refl; is_frame = is }, (record { frame = frame; framed = refl; new = refl; key = record { t = omega arith; id = omega arith }; attrs = are; sound = sound }, tt))

-- what fits an attribute of integers fits one whose type that is
fits_integer : (a : Attr) (v : ℤ) → IsTrue (fits_of I64 false (Int v)) → a.ty ≡ I64 → a.nullable ≡ false → IsTrue (fits_of a.ty a.nullable (Int v))
fits_integer a v fits is not_null = subst (λ ty. IsTrue (fits_of ty a.nullable (Int v))) (sym is) (subst (λ nullable. IsTrue (fits_of I64 nullable (Int v))) (sym not_null) fits)

-- rows of one integer, of one attribute of integers
pub integer_rows : (a : Attr) → a.ty ≡ I64 → a.nullable ≡ false → RowFits (a ∷ []) (Int (pos 7) ∷ []) × RowFits (a ∷ []) (Int (pos 10) ∷ [])
integer_rows a is not_null = ((omega (arith, ints), fits_integer a (pos 7) refl is not_null, tt), (omega (arith, ints), fits_integer a (pos 10) refl is not_null, tt))

-- the cell of a write at 5 fits
five_fits : (frame : Frame) (attrs : List Attr) (v : ℤ) → IsTrue (is_in_domain frame.domain (pos 5 ∷ [])) → RowFits attrs (Int v ∷ [])
    → All (CellFits frame.domain attrs) (record { coords = pos 5 ∷ []; row = Int v ∷ [] } ∷ [])
five_fits frame attrs v inside row = All-cons (CellFits frame.domain attrs) (record { coords = pos 5 ∷ []; row = Int v ∷ [] }) [] (record { inside = inside; row = row }) (All-nil (CellFits frame.domain attrs))

-- such an array, a write of 7 and then one of 10 at 5, and a delete of the stamp of the second
pub worked_is_history : (frame : Frame) (attrs : List Attr) (cond : Condition) → IsHistory (Framed frame ∷ Declared (record { key = record { t = 0; id = 1 }; attrs = attrs }) ∷ []) → frame.dense ≡ false
    → IsTrue (is_in_domain frame.domain (pos 5 ∷ [])) → RowFits attrs (Int (pos 7) ∷ []) → RowFits attrs (Int (pos 10) ∷ []) → IsCond cond
    → IsHistory (
    Framed frame
    ∷ Declared (record { key = record { t = 0; id = 1 }; attrs = attrs })
    ∷ Wrote (record { key = record { t = 1; id = 2 }; schema = record { t = 0; id = 1 }; cells = record { coords = pos 5 ∷ []; row = Int (pos 7) ∷ [] } ∷ [] })
    ∷ Wrote (record { key = record { t = 2; id = 3 }; schema = record { t = 0; id = 1 }; cells = record { coords = pos 5 ∷ []; row = Int (pos 10) ∷ [] } ∷ [] })
    ∷ Erased (record { key = record { t = 2; id = 4 }; cond = cond })
    ∷ []
    )
worked_is_history frame attrs cond made sparse inside seven ten is =
    let schema : Schema = record { key = record { t = 0; id = 1 }; attrs = attrs } in (
      made.0,
      (
        made.1.0,
        (
          record { frame = frame; framed = refl; new = refl; key = record { t = omega arith; id = omega arith }; schema = schema; declared = refl; in_time = refl; some_cell = omega arith; few = omega arith; apart = refl; fit = five_fits frame attrs (pos 7) inside seven; boxed = λ dense. absurd (true≢false (sym dense ∙ sparse)) },
          (
            record { frame = frame; framed = refl; new = refl; key = record { t = omega arith; id = omega arith }; schema = schema; declared = refl; in_time = refl; some_cell = omega arith; few = omega arith; apart = refl; fit = five_fits frame attrs (pos 10) inside ten; boxed = λ dense. absurd (true≢false (sym dense ∙ sparse)) },
            (
              record { frame = frame; framed = refl; sparse = sparse; new = refl; key = record { t = omega arith; id = omega arith }; cond = is },
              tt,
            ),
          ),
        ),
      ),
    )
