-- The rules of what can be stored in space tiles can be met, with holes among the cells.
use Rattle.std.proofs.Common.{pos, [], ◌∷◌, refl, arith}
use Rattle.std.specs.Prelude.{IsTrue}
use Rattle.std.proofs.lemmas.Bool.{true≢false}
use Rattle.std.proofs.lemmas.List.Elements.{All-nil, All-cons}
use Rattle.ts_base.specs.declared.keys.FragKey.{FragKey}
use Rattle.ts_base.specs.Labels.{is_label}
use Rattle.ts_domain.specs.declared.dims.Dim.{Dim}
use Rattle.ts_domain.specs.Dims.{IsBound, IsDim}
use Rattle.ts_schema.specs.FrameTexts.{IsFrame}
use Rattle.ts_plain.specs.Plain.{FitsHead}
use Rattle.ts_dense.specs.Dense.{FitsDense}
use Rattle.ts_dense.proofs.WorkedSizes.{rows, columns, frame, attrs, cell, corners}

-- made of writes from timestamp 1 to 3
pub name : FragKey
name = record { t1 = 1; t2 = 3; id = 9; v = 1 }

bound_1 : IsBound (pos 1)
bound_1 = record { above = omega arith; below = omega arith }

bound_2 : IsBound (pos 2)
bound_2 = record { above = omega arith; below = omega arith }

bound_3 : IsBound (pos 3)
bound_3 = record { above = omega arith; below = omega arith }

sound : IsFrame frame
unfolding frame
sound = record {
  capacity = refl;
  labels = All-cons (λ (d : Dim). IsTrue (is_label d.name)) rows (columns ∷ []) refl (All-cons (λ (d : Dim). IsTrue (is_label d.name)) columns [] refl (All-nil (λ (d : Dim). IsTrue (is_label d.name))));
  domain = record {
    some = omega arith;
    valid =
        All-cons IsDim rows (columns ∷ []) (record { integer = refl; low = bound_1; high = bound_3; extent = bound_2 })
        (All-cons IsDim columns [] (record { integer = refl; low = bound_1; high = bound_2; extent = bound_2 }) (All-nil IsDim));
    sound = refl;
  };
}

head : FitsHead frame name corners.head
unfolding frame name corners cell
head = record {
  schema = (omega arith, omega arith);
  kind = refl;
  span = refl;
  hull = (record { low = (omega arith, refl); high = (omega arith, refl) }, (record { low = (omega arith, refl); high = (omega arith, refl) }, tt));
  cells = omega arith;
  as_many = refl;
  few_origins = omega arith;
  some_origin = refl;
  origins = (record { range = (omega arith, omega arith); in_place = refl }, (record { range = (omega arith, omega arith); in_place = refl }, tt));
}

-- the two cells fit, and the four holes between them need no cells
pub corners_fit : FitsDense frame attrs name corners
unfolding frame attrs name corners cell
corners_fit = record {
  sound = sound;
  dense = refl;
  head = head;
  counts_hull = refl;
  no_hole = λ single. absurd (true≢false single);
  cells = (
    record { coords = ((omega arith, refl), ((omega arith, refl), tt)); rises = refl; origin = omega arith; known = refl; row = ((omega arith, refl), tt) },
    (record { coords = ((omega arith, refl), ((omega arith, refl), tt)); rises = refl; origin = omega arith; known = refl; row = ((omega arith, refl), tt) }, tt),
  );
  few_attrs = omega arith;
  few = omega arith;
}
