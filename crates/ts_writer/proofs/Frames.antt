-- The dimensions of a create: there is one, and the numbers of each are in range.
use Rattle.std.proofs.Common.{◌≡◌, ℤ, pos, ◌≤◌, ◌^◌, true, length, arith}
use Rattle.std.specs.Prelude.{IsTrue, nat_lt, int_le, neg_ℤ}
use Rattle.std.specs.List.{All, list_all}
use Rattle.std.proofs.lemmas.Int.{ints}
use Rattle.std.proofs.lemmas.Bool.{and_parts, ltb-true}
use Rattle.ts_base.specs.Labels.{is_label}
use Rattle.ts_base.specs.Values.{is_integer}
use Rattle.ts_domain.specs.declared.dims.Dim.{Dim}
use Rattle.ts_domain.specs.Dims.{IsBound, IsDim}
use Rattle.ts_schema.specs.FrameTexts.{is_bound}
use Rattle.ts_model.specs.declared.commands.FrameIn.{FrameIn}
use Rattle.ts_model.specs.declared.commands.Command.TheVariants.{Create}
use Rattle.ts_model.specs.Commands.{is_spelled_dim, fits}
use Rattle.ts_model.proofs.Spelled.{all_tested}

-- a number that passes the test of a bound is one
bound_is : (z : ℤ) → is_bound z ≡ true → IsBound z
bound_is z h = let parts = and_parts (int_le (neg_ℤ (pos (2 ^ 64))) z) (int_le z (pos (2 ^ 64))) h in record { above = omega (arith, ints, parts.0); below = omega (arith, ints, parts.1) }

-- the numbers of a dimension with a spelling are in range
dim_is : (d : Dim) → is_spelled_dim d ≡ true → IsDim d
dim_is d h =
    let first = and_parts (is_label d.name) _ h in
    let second = and_parts (is_integer d.ty) _ first.1 in
    let third = and_parts (is_bound d.low) _ second.1 in
    let fourth = and_parts (is_bound d.high) (is_bound d.extent) third.1 in
    record { integer = second.0; low = bound_is d.low third.0; high = bound_is d.high fourth.0; extent = bound_is d.extent fourth.1 }

-- a create has a dimension
pub some_dims : (f : FrameIn) → IsTrue (fits (Create f)) → 1 ≤ length f.dims
some_dims f can = ltb-true 0 (length f.dims) (and_parts (nat_lt 0 (length f.dims)) _ can).0

-- the numbers of each dimension of a create are in range
pub are_dims : (f : FrameIn) → IsTrue (fits (Create f)) → All IsDim f.dims
are_dims f can =
    let first = and_parts (nat_lt 0 (length f.dims)) _ can in
    let second = and_parts (list_all is_spelled_dim f.dims) _ first.1 in
    all_tested IsDim is_spelled_dim dim_is f.dims second.0
