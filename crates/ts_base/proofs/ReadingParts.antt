-- The file of a part, cut into the pieces that it is read from.
use Rattle.std.proofs.Common.{◌≡◌, ℕ, ◌<◌, ◌^◌, ◌==◌, false, List, [], ◌∷◌, ◌++◌, codes, decimal, refl, sym, ap, ◌∙◌, arith}
use Rattle.std.proofs.lemmas.List.{append_assoc}
use Rattle.ts_base.specs.declared.names.Part.{Part}
use Rattle.ts_base.specs.declared.names.Part.TheVariants as part
use Rattle.ts_base.specs.Spelling.{FitsPart, part_text}
use Rattle.ts_base.proofs.Cuts.{Lacks, before, after, before_at, after_at, before_none, after_none, lacks_append, lacks_decimal}
use Rattle.ts_base.proofs.Splits.{byte_at}

-- what stands before the first `_` of a file
abbrev pub column_of : Part → List ℕ
column_of part.Meta = []
column_of (part.Attr n) = codes "a" ++ decimal n
column_of (part.Var n) = codes "a" ++ decimal n
column_of (part.Validity n) = codes "a" ++ decimal n
column_of (part.Dim n) = codes "d" ++ decimal n
column_of part.Origin = codes "o"
column_of part.Plain = codes "plain"

-- what stands between the first `_` of a file and its `.tdb`
abbrev pub ending_of : Part → List ℕ
ending_of part.Meta = codes "_fragment_metadata"
ending_of (part.Var n) = codes "var"
ending_of (part.Validity n) = codes "validity"
ending_of _ = []

-- a part's file, cut at the dot and then at the `_`
pub record CutsPart (p : Part) (text : List ℕ) : Type 0 where
  pub column : before 95 (before 46 text) ≡ column_of p
  pub ending : after 95 (before 46 text) ≡ ending_of p

-- a letter and a number, which end at the dot
alone : (letter n : ℕ) → (letter == 46) ≡ false → (letter == 95) ≡ false → n < 2 ^ 8
    → (before 95 (before 46 (letter ∷ (decimal n ++ codes ".tdb"))) ≡ letter ∷ decimal n) × (after 95 (before 46 (letter ∷ (decimal n ++ codes ".tdb"))) ≡ [])
alone letter n dot line fits =
    let file : before 46 (letter ∷ (decimal n ++ codes ".tdb")) ≡ letter ∷ decimal n = before_at 46 (letter ∷ decimal n) (codes "tdb") (dot, lacks_decimal 46 n (omega arith) (omega arith)) in
    let lacks : Lacks 95 (letter ∷ decimal n) = (line, lacks_decimal 95 n (omega arith) (omega arith)) in
    (ap (before 95) file ∙ before_none 95 (letter ∷ decimal n) lacks, ap (after 95) file ∙ after_none 95 (letter ∷ decimal n) lacks)

-- an `a` and a number, and an ending before the dot
ended : (n : ℕ) (ending : List ℕ) → Lacks 46 ending → n < 2 ^ 8
    → let text = 97 ∷ (decimal n ++ (95 ∷ (ending ++ codes ".tdb"))) in
    (before 95 (before 46 text) ≡ 97 ∷ decimal n) × (after 95 (before 46 text) ≡ ending)
ended n ending lacks fits =
    let dotless = lacks_append 46 (97 ∷ decimal n) (95 ∷ ending) (refl, lacks_decimal 46 n (omega arith) (omega arith)) (refl, lacks) in
    let file : before 46 (97 ∷ (decimal n ++ (95 ∷ (ending ++ codes ".tdb")))) ≡ 97 ∷ (decimal n ++ 95 ∷ ending) =
    ap (λ (tail : List ℕ). before 46 (97 ∷ tail)) (sym (append_assoc (decimal n) (95 ∷ ending) (codes ".tdb"))) ∙ before_at 46 (97 ∷ (decimal n ++ 95 ∷ ending)) (codes "tdb") dotless in
    let lineless : Lacks 95 (97 ∷ decimal n) = (refl, lacks_decimal 95 n (omega arith) (omega arith)) in
    (ap (before 95) file ∙ before_at 95 (97 ∷ decimal n) ending lineless, ap (after 95) file ∙ after_at 95 (97 ∷ decimal n) ending lineless)

cuts_part : (p : Part) → FitsPart p → CutsPart p (part_text p)
cuts_part part.Meta fits = record { column = refl; ending = refl }
cuts_part (part.Attr n) fits = let pieces = alone 97 n refl refl fits in record { column = pieces.0; ending = pieces.1 }
cuts_part (part.Var n) fits = let pieces = ended n (codes "var") (refl, (refl, (refl, tt))) fits in record { column = pieces.0; ending = pieces.1 }
cuts_part (part.Validity n) fits =
    let pieces = ended n (codes "validity") (refl, (refl, (refl, (refl, (refl, (refl, (refl, (refl, tt)))))))) fits in record { column = pieces.0; ending = pieces.1 }
cuts_part (part.Dim n) fits = let pieces = alone 100 n refl refl fits in record { column = pieces.0; ending = pieces.1 }
cuts_part part.Origin fits = record { column = refl; ending = refl }
cuts_part part.Plain fits = record { column = refl; ending = refl }

-- the same of a text that spells the part, and of its pieces
pub part_read : (p : Part) (text file column ending : List ℕ) → FitsPart p → text ≡ part_text p → file ≡ before 46 text
    → column ≡ before 95 file → ending ≡ after 95 file → (column ≡ column_of p) × (ending ≡ ending_of p)
part_read p text file column ending fits same is_file is_column is_ending =
    let cuts = cuts_part p fits in
    let at = is_file ∙ ap (before 46) same in
    (is_column ∙ ap (before 95) at ∙ cuts.column, is_ending ∙ ap (after 95) at ∙ cuts.ending)

-- each ending is that of one kind of part
pub meta_only : (p : Part) → codes "_fragment_metadata" ≡ ending_of p → part.Meta ≡ p
meta_only part.Meta same = refl
meta_only _ same = absurd (omega (arith, byte_at 0 same))

pub var_only : (p : Part) → FitsPart p → (k : ℕ) → ((n : ℕ) → n < 2 ^ 8 → column_of p ≡ codes "a" ++ decimal n → k ≡ n) → codes "var" ≡ ending_of p → part.Var k ≡ p
var_only (part.Var n) fits k reads same = ap part.Var (reads n fits refl)
var_only part.Meta fits k reads same = absurd (omega (arith, byte_at 0 same))
var_only _ fits k reads same = absurd (omega (arith, byte_at 2 same))

pub validity_only : (p : Part) → FitsPart p → (k : ℕ) → ((n : ℕ) → n < 2 ^ 8 → column_of p ≡ codes "a" ++ decimal n → k ≡ n) → codes "validity" ≡ ending_of p → part.Validity k ≡ p
validity_only (part.Validity n) fits k reads same = ap part.Validity (reads n fits refl)
validity_only part.Meta fits k reads same = absurd (omega (arith, byte_at 0 same))
validity_only _ fits k reads same = absurd (omega (arith, byte_at 2 same))

-- what a column alone is read as
pub record ReadsColumn (column : List ℕ) (p : Part) : Type 0 where
  pub origin : column ≡ codes "o" → p ≡ part.Origin
  pub plain : column ≡ codes "plain" → p ≡ part.Plain
  pub dim : (n : ℕ) → n < 2 ^ 8 → column ≡ codes "d" ++ decimal n → p ≡ part.Dim n
  pub attr : (n : ℕ) → n < 2 ^ 8 → column ≡ codes "a" ++ decimal n → p ≡ part.Attr n

pub column_only : (p q : Part) → FitsPart p → ReadsColumn (column_of p) q
    → ¬ (ending_of p ≡ codes "_fragment_metadata") → ¬ (ending_of p ≡ codes "var") → ¬ (ending_of p ≡ codes "validity") → q ≡ p
column_only part.Meta q fits reads not_meta not_var not_validity = absurd (not_meta refl)
column_only (part.Var n) q fits reads not_meta not_var not_validity = absurd (not_var refl)
column_only (part.Validity n) q fits reads not_meta not_var not_validity = absurd (not_validity refl)
column_only (part.Attr n) q fits reads not_meta not_var not_validity = reads.attr n fits refl
column_only (part.Dim n) q fits reads not_meta not_var not_validity = reads.dim n fits refl
column_only part.Origin q fits reads not_meta not_var not_validity = reads.origin refl
column_only part.Plain q fits reads not_meta not_var not_validity = reads.plain refl
