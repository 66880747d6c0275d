-- The integers of a tile are read exactly, and fit their type.
use Rattle.std.proofs.Common.{◌≡◌, ℕ, ◌≤◌, Bool, true, ℤ, pos, negsuc, List, [], ◌∷◌, ◌++◌, arith}
use Rattle.std.specs.Prelude.{◌≤ℤ◌}
use Rattle.std.specs.List.{flat_map, All}
use Rattle.std.proofs.lemmas.Int.{ints}
use Rattle.std.proofs.lemmas.List.Elements.{All-nil, All-cons, All-head, All-tail}
use Rattle.ts_base.specs.declared.values.ValType.{ValType}
use Rattle.ts_base.specs.declared.values.ValType.TheVariants.{I8, I16, I32, I64, U8, U16, U32, U64, Text, Blob}
use Rattle.ts_base.specs.Values.{is_integer, width_of, least_of, greatest_of}
use Rattle.ts_wire.specs.Exact.{Exact, InTurn}
use Rattle.ts_wire.specs.Numbers.{int_bytes, FitsInt}
use Rattle.ts_wire.proofs.Laws.{AreInTurn, items_exact}
use Rattle.ts_wire.proofs.Numbers.{int_exact}
use Rattle.ts_column.specs.Tiles.{is_signed, ints_at}

-- an integer in the range of its type has room in the width of the type
pub fits_width : (ty : ValType) (z : ℤ) → is_integer ty ≡ true → least_of ty ≤ℤ z → z ≤ℤ greatest_of ty → FitsInt (width_of ty) (is_signed ty) z
fits_width I8 (pos a) is low high = omega (arith, ints)
fits_width I8 (negsuc a) is low high = omega (arith, ints)
fits_width I16 (pos a) is low high = omega (arith, ints)
fits_width I16 (negsuc a) is low high = omega (arith, ints)
fits_width I32 (pos a) is low high = omega (arith, ints)
fits_width I32 (negsuc a) is low high = omega (arith, ints)
fits_width I64 (pos a) is low high = omega (arith, ints)
fits_width I64 (negsuc a) is low high = omega (arith, ints)
fits_width U8 (pos a) is low high = omega (arith, ints)
fits_width U8 (negsuc a) is low high = omega (arith, ints)
fits_width U16 (pos a) is low high = omega (arith, ints)
fits_width U16 (negsuc a) is low high = omega (arith, ints)
fits_width U32 (pos a) is low high = omega (arith, ints)
fits_width U32 (negsuc a) is low high = omega (arith, ints)
fits_width U64 (pos a) is low high = omega (arith, ints)
fits_width U64 (negsuc a) is low high = omega (arith, ints)
fits_width Text z is low high = cc
fits_width Blob z is low high = cc

-- and one that has room in the width is in the range
pub fits_range : (ty : ValType) (z : ℤ) → is_integer ty ≡ true → FitsInt (width_of ty) (is_signed ty) z → (least_of ty ≤ℤ z) × (z ≤ℤ greatest_of ty)
fits_range I8 (pos a) is fits = (omega (arith, ints), omega (arith, ints))
fits_range I8 (negsuc a) is fits = (omega (arith, ints), omega (arith, ints))
fits_range I16 (pos a) is fits = (omega (arith, ints), omega (arith, ints))
fits_range I16 (negsuc a) is fits = (omega (arith, ints), omega (arith, ints))
fits_range I32 (pos a) is fits = (omega (arith, ints), omega (arith, ints))
fits_range I32 (negsuc a) is fits = (omega (arith, ints), omega (arith, ints))
fits_range I64 (pos a) is fits = (omega (arith, ints), omega (arith, ints))
fits_range I64 (negsuc a) is fits = (omega (arith, ints), omega (arith, ints))
fits_range U8 (pos a) is fits = (omega (arith, ints), omega (arith, ints))
fits_range U8 (negsuc a) is fits = absurd fits
fits_range U16 (pos a) is fits = (omega (arith, ints), omega (arith, ints))
fits_range U16 (negsuc a) is fits = absurd fits
fits_range U32 (pos a) is fits = (omega (arith, ints), omega (arith, ints))
fits_range U32 (negsuc a) is fits = absurd fits
fits_range U64 (pos a) is fits = (omega (arith, ints), omega (arith, ints))
fits_range U64 (negsuc a) is fits = absurd fits
fits_range Text z is fits = absurd (cc)
fits_range Blob z is fits = absurd (cc)

-- so many integers
pub ints_exact : (n : ℕ) (signed : Bool) (count : ℕ) → 1 ≤ n → n ≤ 16 → Exact (AreInTurn (λ _. FitsInt n signed) count []) (flat_map (int_bytes n)) (ints_at n signed count)
unfolding ints_at
ints_exact n signed count some few = items_exact (λ front. int_exact n signed some few) count []

-- each of them fits alone
pub each_alone : {A : Type 0} (Fits : A → Type 0) (front xs : List A) → InTurn (λ _. Fits) front xs → All Fits xs
each_alone Fits front [] fits = All-nil Fits
each_alone Fits front (x ∷ xs) fits = All-cons Fits x xs fits.0 (each_alone Fits (front ++ x ∷ []) xs fits.1)

pub all_in_turn : {A : Type 0} (Fits : A → Type 0) (front xs : List A) → All Fits xs → InTurn (λ _. Fits) front xs
all_in_turn Fits front [] fits = tt
all_in_turn Fits front (x ∷ xs) fits = (All-head Fits x xs fits, all_in_turn Fits (front ++ x ∷ []) xs (All-tail Fits x xs fits))
