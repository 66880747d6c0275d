-- The laws of all fields.
use Rattle.std.specs.Prelude.{ℕ, ◌^◌, ◌<◌, Bool, IsTrue}
use Rattle.ts_base.specs.Labels.{is_label}
use Rattle.ts_wire.specs.Broken.{IsField}
use Rattle.ts_wire.specs.Numbers.{number_bytes, number_at, is_width, FitsInt, int_bytes, int_at}
use Rattle.ts_wire.specs.Fields.{bool_bytes, bool_at, label_bytes, label_at, key_bytes, key_at, FitsKey, val_bytes, val_at, FitsVal}

-- each kind of field is read exactly as it is written, and broken at its start alone
pub record AreFields : Type 0 where
  pub numbers : (n : ℕ) → IsField (λ x. x < 256 ^ n) (number_bytes n) (number_at n)
  pub ints : (n : ℕ) (signed : Bool) → IsTrue (is_width n signed) → IsField (FitsInt n signed) (int_bytes n) (int_at n signed)
  pub bools : IsField (λ (b : Bool). Unit {0}) bool_bytes bool_at
  pub labels : IsField (λ text. IsTrue (is_label text)) label_bytes label_at
  pub keys : IsField FitsKey key_bytes key_at
  pub vals : IsField FitsVal val_bytes val_at
