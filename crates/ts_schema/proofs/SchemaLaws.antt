-- The attributes of a schema are read exactly.
use Rattle.std.proofs.Common.{◌≡◌, ℕ, zero, suc, ◌<◌, ◌≤◌, ◌^◌, Bool, true, not, List, length, refl, sym, ap, arith, lit<}
use Rattle.ts_base.specs.declared.values.ValType.{ValType}
use Rattle.ts_base.specs.declared.values.ValType.TheVariants.{I8, I16, I32, I64, U8, U16, U32, U64, Text, Blob}
use Rattle.ts_base.specs.Labels.{is_label}
use Rattle.ts_value.specs.Fits.{fits_of}
use Rattle.ts_wire.specs.Exact.{Exact}
use Rattle.ts_wire.specs.Numbers.{number_bytes}
use Rattle.ts_wire.specs.Fields.{label_bytes, val_bytes, FitsVal}
use Rattle.ts_wire.proofs.Laws.{restated, mapped_exact, both_exact, ruled_exact, counted_exact}
use Rattle.ts_wire.proofs.Numbers.{number_exact}
use Rattle.ts_wire.proofs.FieldLaws.{bool_exact, label_exact, val_exact}
use Rattle.ts_schema.specs.declared.attrs.Attr.{Attr}
use Rattle.ts_schema.specs.Attrs.{has_attr}
use Rattle.ts_schema.specs.SchemaTexts.{type_code, is_type_code, type_of, type_bytes, type_at, name_at, fill_at, attr_at, is_attr_count, attr_count_at, attrs_at, attr_bytes, attrs_bytes, FitsAttr, AreAttrs}

code_few : (code : ℕ) → is_type_code code ≡ true → (1 ≤ code) × (code ≤ 10)
code_few code h = grind (arith, h)

-- the number of the type of a number is that number
code_again : (code : ℕ) → is_type_code code ≡ true → type_code (type_of code) ≡ code
code_again zero h = absurd (let few = code_few 0 h in omega (arith, few.0))
code_again (suc zero) h = refl
code_again (suc (suc zero)) h = refl
code_again (suc (suc (suc zero))) h = refl
code_again (suc (suc (suc (suc zero)))) h = refl
code_again (suc (suc (suc (suc (suc zero))))) h = refl
code_again (suc (suc (suc (suc (suc (suc zero)))))) h = refl
code_again (suc (suc (suc (suc (suc (suc (suc zero))))))) h = refl
code_again (suc (suc (suc (suc (suc (suc (suc (suc zero)))))))) h = refl
code_again (suc (suc (suc (suc (suc (suc (suc (suc (suc zero))))))))) h = refl
code_again (suc (suc (suc (suc (suc (suc (suc (suc (suc (suc zero)))))))))) h = refl
code_again (suc (suc (suc (suc (suc (suc (suc (suc (suc (suc (suc code))))))))))) h = absurd (let few = code_few (suc (suc (suc (suc (suc (suc (suc (suc (suc (suc (suc code))))))))))) h in omega (arith, few.1))

-- the type of a type's number is that type
abbrev Coded : ValType → Type 0
Coded ty = (code : ℕ) × ((code < 256 ^ 1) × (is_type_code code ≡ true)) × (type_of code ≡ ty) × (number_bytes 1 code ≡ type_bytes ty)

coded : (ty : ValType) → Coded ty
unfolding type_bytes
coded I8 = (1, (lit< tt, refl), refl, refl)
coded I16 = (2, (lit< tt, refl), refl, refl)
coded I32 = (3, (lit< tt, refl), refl, refl)
coded I64 = (4, (lit< tt, refl), refl, refl)
coded U8 = (5, (lit< tt, refl), refl, refl)
coded U16 = (6, (lit< tt, refl), refl, refl)
coded U32 = (7, (lit< tt, refl), refl, refl)
coded U64 = (8, (lit< tt, refl), refl, refl)
coded Text = (9, (lit< tt, refl), refl, refl)
coded Blob = (10, (lit< tt, refl), refl, refl)

pub type_exact : Exact (λ (ty : ValType). Unit {0}) type_bytes type_at
unfolding type_bytes type_at
type_exact = mapped_exact (ruled_exact is_type_code (number_exact 1)) (record {
  there = λ code fits. (tt, ap (number_bytes 1) (sym (code_again code fits.1)));
  back = λ ty all. coded ty;
})

pub name_exact : (front : List Attr) → Exact (λ name. (is_label name ≡ true) × (not (has_attr front name) ≡ true)) label_bytes (name_at front)
unfolding name_at
name_exact front = ruled_exact (λ name. not (has_attr front name)) label_exact

pub fill_exact : (ty : ValType) (nullable : Bool) → Exact (λ fill. FitsVal fill × (fits_of ty nullable fill ≡ true)) val_bytes (fill_at ty nullable)
unfolding fill_at
fill_exact ty nullable = ruled_exact (fits_of ty nullable) val_exact

pub attr_exact : (front : List Attr) → Exact (FitsAttr front) attr_bytes (attr_at front)
unfolding attr_at attr_bytes
attr_exact front = mapped_exact (both_exact (name_exact front) (λ _ _. both_exact type_exact (λ ty _. both_exact bool_exact (λ nullable _. fill_exact ty nullable)))) (record {
  there = λ x fits. (record { label = fits.0.0; new_name = fits.0.1; value = fits.1.1.1.0; fill = fits.1.1.1.1 }, refl);
  back = λ a fits. ((a.name, (a.ty, (a.nullable, a.fill))), ((fits.label, fits.new_name), (tt, (tt, (fits.value, fits.fill)))), refl, refl);
})

pub attr_count_exact : Exact (λ count. (count < 256 ^ 1) × (is_attr_count count ≡ true)) (number_bytes 1) attr_count_at
unfolding attr_count_at
attr_count_exact = ruled_exact is_attr_count (number_exact 1)

-- a number of attributes that may be fits in one byte
pub count_few : (count : ℕ) → is_attr_count count ≡ true → count < 256 ^ 1
count_few count h = grind (arith, h)

pub attrs_exact : Exact AreAttrs attrs_bytes attrs_at
unfolding attrs_at attrs_bytes
attrs_exact = restated (counted_exact attr_count_exact attr_exact)
    (λ attrs fits. (record { count = fits.0.1; each = fits.1 }, refl))
    (λ attrs fits. ((count_few (length attrs) fits.count, fits.count), fits.each))
