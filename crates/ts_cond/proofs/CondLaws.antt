-- The fields of a condition and its tree are read exactly.
use Rattle.std.proofs.Common.{◌≡◌, ℕ, zero, suc, ◌<◌, ◌≤◌, ◌^◌, Bool, true, false, ◌&&◌, not, nat_eq, nat_lt, if◌then◌else◌, List, [], length, Option, Some, None, refl, sym, ap, arith, lit<}
use Rattle.std.proofs.lemmas.Bool.{eqb-true, ne_eqb}
use Rattle.ts_base.specs.declared.values.ValType.{ValType}
use Rattle.ts_base.specs.Labels.{is_label}
use Rattle.ts_wire.specs.Exact.{Exact, InTurn}
use Rattle.ts_wire.specs.Numbers.{number_bytes}
use Rattle.ts_wire.specs.Fields.{bool_bytes, label_bytes, val_bytes, FitsVal}
use Rattle.ts_wire.proofs.Laws.{restated, mapped_exact, both_exact, ruled_exact, counted_exact}
use Rattle.ts_wire.proofs.Numbers.{number_exact}
use Rattle.ts_wire.proofs.FieldLaws.{bool_exact, label_exact, val_exact}
use Rattle.ts_schema.specs.SchemaTexts.{type_bytes}
use Rattle.ts_schema.proofs.SchemaLaws.{type_exact}
use Rattle.ts_cond.specs.declared.fields.CondField.{CondField}
use Rattle.ts_cond.specs.declared.nodes.CondOp.{CondOp}
use Rattle.ts_cond.specs.declared.nodes.CondOp.TheVariants as op
use Rattle.ts_cond.specs.declared.tags.Tag.{Tag}
use Rattle.ts_cond.specs.declared.tags.Tag.TheVariants.{AllOf, AnyOf, NotOf, Comparing, Membership, Nullness}
use Rattle.ts_cond.specs.CondTexts.{dim_code, is_dim_code, dim_of, dim_bytes, dim_at, is_dim, has_field, may_be_of, may_be_null, may_fill, field_name_at, field_type_at, field_null_at, field_fill_at, field_at, is_field_count, field_count_at, fields_at, field_bytes, fields_bytes, FitsField, tag_code, is_tag_code, tag_of, tag_bytes, tag_at, op_code, is_op_code, op_of, op_bytes, op_at}

-- ---- fields

dim_there : (code : ℕ) (b : Bool) → nat_eq code 255 ≡ b → is_dim_code code ≡ true
    → (is_dim (if b then None else Some code) ≡ true) × (number_bytes 1 code ≡ number_bytes 1 (dim_code (if b then None else Some code)))
dim_there code true e h = (refl, ap (number_bytes 1) (eqb-true code 255 e))
dim_there code false e h = (grind (arith, e, h), refl)

-- the byte of each dimension, or of none, is its byte
dim_back : (dim : Option ℕ) → is_dim dim ≡ true
    → (code : ℕ) × ((code < 256 ^ 1) × (is_dim_code code ≡ true)) × (dim_of code ≡ dim) × (number_bytes 1 code ≡ number_bytes 1 (dim_code dim))
dim_back None h = (255, (lit< tt, refl), refl, refl)
dim_back (Some dim) h =
    let few : dim ≤ 7 = grind (arith, h) in
    (dim, (omega (arith, few), grind (arith, h)), rw (ne_eqb dim 255 (λ same. omega (arith, same, few))) refl, refl)

pub dim_exact : Exact (λ dim. is_dim dim ≡ true) dim_bytes dim_at
unfolding dim_bytes dim_at
dim_exact = mapped_exact (ruled_exact is_dim_code (number_exact 1)) (record {
  there = λ code fits. dim_there code (nat_eq code 255) refl fits.1;
  back = dim_back;
})

field_name_exact : (front : List CondField) → Exact (λ name. (is_label name ≡ true) × (not (has_field front name) ≡ true)) label_bytes (field_name_at front)
unfolding field_name_at
field_name_exact front = ruled_exact (λ name. not (has_field front name)) label_exact

field_type_exact : (dim : Option ℕ) → Exact (λ (t : ValType). Unit {0} × (may_be_of dim t ≡ true)) type_bytes (field_type_at dim)
unfolding field_type_at
field_type_exact dim = ruled_exact (may_be_of dim) type_exact

field_null_exact : (dim : Option ℕ) → Exact (λ (nullable : Bool). Unit {0} × (may_be_null dim nullable ≡ true)) bool_bytes (field_null_at dim)
unfolding field_null_at
field_null_exact dim = ruled_exact (may_be_null dim) bool_exact

field_fill_exact : (dim : Option ℕ) (t : ValType) (nullable : Bool) → Exact (λ fill. FitsVal fill × (may_fill dim t nullable fill ≡ true)) val_bytes (field_fill_at dim t nullable)
unfolding field_fill_at
field_fill_exact dim t nullable = ruled_exact (may_fill dim t nullable) val_exact

pub field_exact : (front : List CondField) → Exact (FitsField front) field_bytes (field_at front)
unfolding field_at field_bytes
field_exact front =
    mapped_exact (both_exact (field_name_exact front) (λ _ _. both_exact dim_exact (λ dim _. both_exact (field_type_exact dim) (λ t _. both_exact (field_null_exact dim) (λ nullable _. field_fill_exact dim t nullable))))) (record {
      there = λ x fits. (record { label = fits.0.0; new_name = fits.0.1; index = fits.1.0; type = fits.1.1.0.1; null = fits.1.1.1.0.1; value = fits.1.1.1.1.0; default = fits.1.1.1.1.1 }, refl);
      back = λ f fits. ((f.name, (f.dim, (f.ty, (f.nullable, f.fill)))), ((fits.label, fits.new_name), (fits.index, ((tt, fits.type), ((tt, fits.null), (fits.value, fits.default))))), refl, refl);
    })

pub field_count_exact : Exact (λ count. (count < 256 ^ 1) × (is_field_count count ≡ true)) (number_bytes 1) field_count_at
unfolding field_count_at
field_count_exact = ruled_exact is_field_count (number_exact 1)

-- there are few fields
pub few_fields : (count : ℕ) → is_field_count count ≡ true → count ≤ 72
few_fields count h = grind (arith, h)

-- a list of fields, as a condition has it
pub record HasFields (fields : List CondField) : Type 0 where
  pub count : is_field_count (length fields) ≡ true
  pub each : InTurn FitsField [] fields

pub fields_exact : Exact HasFields fields_bytes fields_at
unfolding fields_at fields_bytes
fields_exact = restated (counted_exact field_count_exact field_exact)
    (λ fields fits. (record { count = fits.0.1; each = fits.1 }, refl))
    (λ fields fits. ((let few = few_fields (length fields) fits.count in omega (arith, few), fits.count), fits.each))

-- ---- tags and comparisons

tag_few : (code : ℕ) → is_tag_code code ≡ true → (1 ≤ code) × (code ≤ 6)
tag_few code h = grind (arith, h)

-- the number of the tag of a number is that number
tag_again : (code : ℕ) → is_tag_code code ≡ true → tag_code (tag_of code) ≡ code
tag_again zero h = absurd (let few = tag_few 0 h in omega (arith, few.0))
tag_again (suc zero) h = refl
tag_again (suc (suc zero)) h = refl
tag_again (suc (suc (suc zero))) h = refl
tag_again (suc (suc (suc (suc zero)))) h = refl
tag_again (suc (suc (suc (suc (suc zero))))) h = refl
tag_again (suc (suc (suc (suc (suc (suc zero)))))) h = refl
tag_again (suc (suc (suc (suc (suc (suc (suc code))))))) h = absurd (let few = tag_few (suc (suc (suc (suc (suc (suc (suc code))))))) h in omega (arith, few.1))

-- the tag of a tag's number is that tag
abbrev Tagged : Tag → Type 0
Tagged tag = (code : ℕ) × (code < 256 ^ 1) × (is_tag_code code ≡ true) × (tag_of code ≡ tag) × (number_bytes 1 code ≡ tag_bytes tag)

tagged : (tag : Tag) → Tagged tag
unfolding tag_bytes
tagged AllOf = (1, lit< tt, refl, refl, refl)
tagged AnyOf = (2, lit< tt, refl, refl, refl)
tagged NotOf = (3, lit< tt, refl, refl, refl)
tagged Comparing = (4, lit< tt, refl, refl, refl)
tagged Membership = (5, lit< tt, refl, refl, refl)
tagged Nullness = (6, lit< tt, refl, refl, refl)

pub tag_exact : (nodes : ℕ) → Exact (λ (tag : Tag). nodes < 1024) tag_bytes (tag_at nodes)
unfolding tag_bytes tag_at
tag_exact nodes = mapped_exact (ruled_exact (λ code. is_tag_code code && nat_lt nodes 1024) (number_exact 1)) (record {
  there = λ code fits. (grind (arith, fits.1), ap (number_bytes 1) (sym (tag_again code (grind (arith, fits.1)))));
  back = λ tag few. let is = tagged tag in (is.0, (is.1, grind (arith, is.2, few)), is.3, is.4);
})

op_few : (code : ℕ) → is_op_code code ≡ true → code ≤ 5
op_few code h = grind (arith, h)

-- the number of the comparison of a number is that number
op_again : (code : ℕ) → is_op_code code ≡ true → op_code (op_of code) ≡ code
op_again zero h = refl
op_again (suc zero) h = refl
op_again (suc (suc zero)) h = refl
op_again (suc (suc (suc zero))) h = refl
op_again (suc (suc (suc (suc zero)))) h = refl
op_again (suc (suc (suc (suc (suc zero))))) h = refl
op_again (suc (suc (suc (suc (suc (suc code)))))) h = absurd (let few = op_few (suc (suc (suc (suc (suc (suc code)))))) h in omega (arith, few))

-- the comparison of a comparison's number is that comparison
abbrev Operates : CondOp → Type 0
Operates o = (code : ℕ) × ((code < 256 ^ 1) × (is_op_code code ≡ true)) × (op_of code ≡ o) × (number_bytes 1 code ≡ op_bytes o)

operates : (o : CondOp) → Operates o
unfolding op_bytes
operates op.Less = (0, (lit< tt, refl), refl, refl)
operates op.AtMost = (1, (lit< tt, refl), refl, refl)
operates op.Greater = (2, (lit< tt, refl), refl, refl)
operates op.AtLeast = (3, (lit< tt, refl), refl, refl)
operates op.Equal = (4, (lit< tt, refl), refl, refl)
operates op.Unequal = (5, (lit< tt, refl), refl, refl)

pub op_exact : Exact (λ (o : CondOp). Unit {0}) op_bytes op_at
unfolding op_bytes op_at
op_exact = mapped_exact (ruled_exact is_op_code (number_exact 1)) (record {
  there = λ code fits. (tt, ap (number_bytes 1) (sym (op_again code fits.1)));
  back = λ o all. operates o;
})
