-- The spelling of a name is ASCII text, and so is what stands in it behind a prefix.
use Rattle.std.proofs.Common.{◌≡◌, ℕ, zero, suc, ◌<◌, ◌^◌, Bool, true, false, ◌&&◌, nat_lt, List, [], ◌∷◌, ◌++◌, length, codes, decimal, IsAscii, IsUtf8, lit<, refl, subst, arith}
use Rattle.std.proofs.Math.Seq.{drop-append_seam}
use Rattle.std.proofs.lemmas.Bool.{ltb-true}
use Rattle.std.proofs.lemmas.Fmt.{IsAscii-decimal}
use Rattle.std.proofs.lemmas.Str.{IsAscii-append, IsAscii-drop, IsUtf8-from_ascii}
use Rattle.ts_base.specs.declared.keys.FragKey.{FragKey}
use Rattle.ts_base.specs.declared.names.Part.{Part}
use Rattle.ts_base.specs.declared.names.Part.TheVariants as part
use Rattle.ts_base.specs.declared.names.CommitKind.{CommitKind}
use Rattle.ts_base.specs.declared.names.CommitKind.TheVariants as kind
use Rattle.ts_base.specs.declared.names.LeaseMode.{LeaseMode}
use Rattle.ts_base.specs.declared.names.LeaseMode.TheVariants as mode
use Rattle.ts_base.specs.declared.names.Name.{Name}
use Rattle.ts_base.specs.declared.names.Name.TheVariants as name
use Rattle.ts_base.specs.Spelling.{FitsFrag, FitsPart, FitsName, id_text, span_text, stamp_text, frag_text, part_text, kind_text, mode_text, name_text}
use Rattle.ts_base.proofs.Ids.{ascii_id}

-- each byte is below 128
abbrev are_small : List ℕ → Bool
are_small [] = true
are_small (b ∷ bs) = nat_lt b 128 && are_small bs

both_hold : (s t : Bool) → (s && t) ≡ true → (s ≡ true) × (t ≡ true)
both_hold true t h = (refl, h)
both_hold false t h = cc

plain : (bs : List ℕ) → are_small bs ≡ true → IsAscii bs
plain [] is i = lit< tt
plain (b ∷ bs) is zero = ltb-true b 128 ((both_hold (nat_lt b 128) (are_small bs) is).0)
plain (b ∷ bs) is (suc i) = plain bs ((both_hold (nat_lt b 128) (are_small bs) is).1) i

span_plain : (t1 t2 id : ℕ) → t1 < 2 ^ 64 → t2 < 2 ^ 64 → IsAscii (span_text t1 t2 id)
span_plain t1 t2 id first second =
    let start = IsAscii-append (codes "__") (decimal t1) (plain (codes "__") refl) (IsAscii-decimal t1 first) in
    let from = IsAscii-append (codes "__" ++ decimal t1) (codes "_") start (plain (codes "_") refl) in
    let to = IsAscii-append (codes "__" ++ decimal t1 ++ codes "_") (decimal t2) from (IsAscii-decimal t2 second) in
    let last = IsAscii-append (codes "__" ++ decimal t1 ++ codes "_" ++ decimal t2) (codes "_") to (plain (codes "_") refl) in
    IsAscii-append (codes "__" ++ decimal t1 ++ codes "_" ++ decimal t2 ++ codes "_") (id_text id) last (ascii_id id)

frag_plain : (f : FragKey) → FitsFrag f → IsAscii (frag_text f)
frag_plain f fits =
    let span = IsAscii-append (span_text f.t1 f.t2 f.id) (codes "_") (span_plain f.t1 f.t2 f.id fits.t1 fits.t2) (plain (codes "_") refl) in
    IsAscii-append (span_text f.t1 f.t2 f.id ++ codes "_") (decimal f.v) span (IsAscii-decimal f.v (omega (arith, fits.v)))

-- a number between two texts
numbered : (front back : List ℕ) (n : ℕ) → are_small front ≡ true → are_small back ≡ true → n < 2 ^ 8 → IsAscii (front ++ decimal n ++ back)
numbered front back n is also fits =
    IsAscii-append (front ++ decimal n) back (IsAscii-append front (decimal n) (plain front is) (IsAscii-decimal n (omega (arith, fits)))) (plain back also)

part_plain : (p : Part) → FitsPart p → IsAscii (part_text p)
part_plain part.Meta fits = plain (part_text part.Meta) refl
part_plain (part.Attr n) fits = numbered (codes "a") (codes ".tdb") n refl refl fits
part_plain (part.Var n) fits = numbered (codes "a") (codes "_var.tdb") n refl refl fits
part_plain (part.Validity n) fits = numbered (codes "a") (codes "_validity.tdb") n refl refl fits
part_plain (part.Dim n) fits = numbered (codes "d") (codes ".tdb") n refl refl fits
part_plain part.Origin fits = plain (part_text part.Origin) refl
part_plain part.Plain fits = plain (part_text part.Plain) refl

kind_plain : (k : CommitKind) → IsAscii (kind_text k)
kind_plain kind.Wrt = plain (kind_text kind.Wrt) refl
kind_plain kind.Del = plain (kind_text kind.Del) refl
kind_plain kind.Vac = plain (kind_text kind.Vac) refl

mode_plain : (m : LeaseMode) → IsAscii (mode_text m)
mode_plain mode.Shr = plain (mode_text mode.Shr) refl
mode_plain mode.Exc = plain (mode_text mode.Exc) refl

-- three texts in a row
in_a_row : (front middle point ending : List ℕ) → are_small front ≡ true → IsAscii middle → are_small point ≡ true → IsAscii ending → IsAscii (front ++ middle ++ point ++ ending)
in_a_row front middle point ending is some also more =
    let first = IsAscii-append front middle (plain front is) some in
    IsAscii-append (front ++ middle ++ point) ending (IsAscii-append (front ++ middle) point first (plain point also)) more

name_plain : (n : Name) → FitsName n → IsAscii (name_text n)
name_plain name.Domain fits = plain (name_text name.Domain) refl
name_plain (name.Schema k) fits = IsAscii-append (codes "__schema/") (stamp_text k) (plain (codes "__schema/") refl) (span_plain k.t k.t k.id fits.t fits.t)
name_plain (name.Commit f kind) fits = in_a_row (codes "__commits/") (frag_text f) (codes ".") (kind_text kind) refl (frag_plain f fits) refl (kind_plain kind)
name_plain (name.Part f part) fits = in_a_row (codes "__fragments/") (frag_text f) (codes "/") (part_text part) refl (frag_plain f fits.0) refl (part_plain part fits.1)
name_plain (name.Lease k mode) fits = in_a_row (codes "__leases/") (stamp_text k) (codes ".") (mode_text mode) refl (span_plain k.t k.t k.id fits.t fits.t) refl (mode_plain mode)

-- what stands in a name's spelling behind some text is UTF-8
pub rest_is_text : (n : Name) (front rest : List ℕ) → FitsName n → name_text n ≡ front ++ rest → IsUtf8 rest
rest_is_text n front rest fits same =
    let whole : IsAscii (front ++ rest) = subst IsAscii same (name_plain n fits) in
    IsUtf8-from_ascii rest (subst IsAscii (drop-append_seam front rest) (IsAscii-drop (front ++ rest) (length front) whole))
