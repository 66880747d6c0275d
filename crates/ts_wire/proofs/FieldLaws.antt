-- The fields are read exactly.
use Rattle.std.proofs.Common.{◌≡◌, ℕ, zero, suc, ◌^◌, ◌<◌, ◌≤◌, Bool, true, false, nat_le, nat_eq, if◌then◌else◌, List, ◌++◌, length, refl, sym, ap, subst, arith, lit<}
use Rattle.std.proofs.lemmas.Bool.{leb-true, le-leb}
use Rattle.ts_base.specs.Labels.{is_label}
use Rattle.ts_base.specs.declared.values.Val.{Val}
use Rattle.ts_base.specs.declared.values.Val.TheVariants.{Null, Int, Bytes}
use Rattle.ts_base.proofs.LabelText.{label_is_short, IsAscii-from_is_label}
use Rattle.ts_wire.specs.Exact.{IsBytes, Exact}
use Rattle.ts_wire.specs.Numbers.{number_bytes, int_bytes, FitsInt}
use Rattle.ts_wire.specs.Fields.{bool_bytes, bool_at, sized_bytes, sized_at, FitsSized, label_bytes, label_at, key_bytes, key_at, FitsKey, tag_of, untagged_bytes, val_bytes, untagged_at, val_at, FitsVal}
use Rattle.ts_wire.proofs.Laws.{bytes_exact, given_exact, mapped_exact, both_exact, field_exact, ruled_exact, restated}
use Rattle.ts_wire.proofs.Numbers.{number_exact, int_exact}

-- a label has 64 bytes at most
pub label_short : (text : List ℕ) → is_label text ≡ true → length text ≤ 64
label_short text is = label_is_short text is

-- every bool has its byte
pub bool_exact : Exact (λ (b : Bool). Unit {0}) bool_bytes bool_at
unfolding bool_bytes bool_at
bool_exact = mapped_exact (ruled_exact (λ x. nat_le x 1) (number_exact 1)) (record {
  there = λ x fits. (tt, there x (leb-true x 1 fits.1));
  back = λ b all. back b;
})
  where
    there : (x : ℕ) → x ≤ 1 → number_bytes 1 x ≡ number_bytes 1 (if nat_eq x 1 then 1 else 0)
    there zero h = refl
    there (suc zero) h = refl
    there (suc (suc x)) h = absurd (omega arith)

    back : (b : Bool) → (x : ℕ) × ((x < 256 ^ 1) × (nat_le x 1 ≡ true)) × (nat_eq x 1 ≡ b) × (number_bytes 1 x ≡ number_bytes 1 (if b then 1 else 0))
    back true = (1, (lit< tt, refl), refl, refl)
    back false = (0, (lit< tt, refl), refl, refl)

-- bytes behind their length
pub sized_exact : (n : ℕ) → Exact (FitsSized n) (sized_bytes n) (sized_at n)
unfolding sized_bytes sized_at
sized_exact n = mapped_exact (both_exact (number_exact n) (λ count fits. bytes_exact count)) (record {
  there = λ x fits.
      let P : ℕ → Type 0 = λ count. (count < 256 ^ n) × IsBytes x.1 in
      (subst P (sym fits.1.0) (fits.0, fits.1.1), ap (λ count. number_bytes n count ++ x.1) (sym fits.1.0));
  back = λ bytes fits. ((length bytes, bytes), (fits.0, (refl, fits.1)), refl, refl);
})

-- labels
pub label_exact : Exact (λ text. is_label text ≡ true) label_bytes label_at
unfolding label_bytes label_at
label_exact = field_exact (restated (ruled_exact is_label (sized_exact 1)) (λ text fits. (fits.1, refl)) (λ text is. (sized text is, is)))
  where
    sized : (text : List ℕ) → is_label text ≡ true → FitsSized 1 text
    sized text is = let short = label_is_short text is in let ascii = IsAscii-from_is_label text is in (omega arith, λ i. omega (arith, ascii i))

-- keys
pub key_exact : Exact FitsKey key_bytes key_at
unfolding key_bytes key_at
key_exact = field_exact (mapped_exact (both_exact (number_exact 8) (λ t fits. number_exact 16)) (record {
  there = λ x fits. (fits, refl);
  back = λ key fits. ((key.t, key.id), fits, refl, refl);
}))

-- values: those that a tag allows
abbrev Tagged : ℕ → Val → Type 0
Tagged tag val = FitsVal val × (tag_of val ≡ tag)

untagged_exact : (tag : ℕ) → tag ≤ 2 → Exact (Tagged tag) untagged_bytes (untagged_at tag)
untagged_exact zero few = restated (given_exact Null) (λ val is. rw is ((tt, refl), refl)) null
  where
    null : (val : Val) → Tagged 0 val → val ≡ Null
    null Null fits = refl
    null (Int z) fits = absurd (omega (arith, fits.1))
    null (Bytes bytes) fits = absurd (omega (arith, fits.1))
untagged_exact (suc zero) few = mapped_exact (int_exact 16 true (omega arith) (omega arith)) (record {
  there = λ z fits. ((fits, refl), refl);
  back = back;
})
  where
    back : (val : Val) → Tagged 1 val → (z : _) × FitsInt 16 true z × (Int z ≡ val) × (int_bytes 16 z ≡ untagged_bytes val)
    back Null fits = absurd (omega (arith, fits.1))
    back (Int z) fits = (z, fits.0, refl, refl)
    back (Bytes bytes) fits = absurd (omega (arith, fits.1))
untagged_exact (suc (suc zero)) few = mapped_exact (sized_exact 8) (record {
  there = λ bytes fits. ((fits, refl), refl);
  back = back;
})
  where
    back : (val : Val) → Tagged 2 val → (bytes : List ℕ) × FitsSized 8 bytes × (Bytes bytes ≡ val) × (sized_bytes 8 bytes ≡ untagged_bytes val)
    back Null fits = absurd (omega (arith, fits.1))
    back (Int z) fits = absurd (omega (arith, fits.1))
    back (Bytes bytes) fits = (bytes, fits.0, refl, refl)
untagged_exact (suc (suc (suc tag))) few = absurd (omega arith)

-- a tag is 2 at most
tag_few : (val : Val) → tag_of val ≤ 2
tag_few Null = omega arith
tag_few (Int z) = omega arith
tag_few (Bytes bytes) = omega arith

pub val_exact : Exact FitsVal val_bytes val_at
unfolding val_bytes val_at
val_exact = field_exact (mapped_exact (both_exact (ruled_exact (λ tag. nat_le tag 2) (number_exact 1)) (λ tag fits. untagged_exact tag (leb-true tag 2 fits.1))) (record {
  there = λ x fits. (fits.1.0, ap (λ tag. number_bytes 1 tag ++ untagged_bytes x.1) (sym fits.1.1));
  back = λ val fits. let few = tag_few val in ((tag_of val, val), ((omega arith, le-leb (tag_of val) 2 few), (fits, refl)), refl, refl);
}))
