-- A spelled key, part or name, cut into the pieces that it is read from.
use Rattle.std.proofs.Common.{◌≡◌, ℕ, ◌<◌, ◌^◌, List, [], ◌∷◌, ◌++◌, ◌==◌, false, codes, decimal, refl, sym, ap, ◌∙◌, inl, inr, arith}
use Rattle.std.proofs.lemmas.List.{append_assoc, append-nil}
use Rattle.std.proofs.lemmas.Bool.{ne_eqb}
use Rattle.ts_base.specs.declared.keys.FragKey.{FragKey}
use Rattle.ts_base.specs.declared.keys.Key.{Key}
use Rattle.ts_base.specs.Spelling.{FitsKey, FitsFrag, id_text, span_text, stamp_text, frag_text}
use Rattle.ts_base.proofs.Cuts.{Lacks, before, after, before_at, after_at, lacks_append, lacks_decimal, lacks_id}
use Rattle.ts_base.proofs.Splits.{IsStop, span_parts}

-- a span before a text, cut at each `_`
pub record CutsSpan (t1 t2 id : ℕ) (rest text : List ℕ) : Type 0 where
  pub first : before 95 (after 95 (after 95 text)) ≡ decimal t1
  pub second : before 95 (after 95 (after 95 (after 95 text))) ≡ decimal t2
  pub last : after 95 (after 95 (after 95 (after 95 text))) ≡ id_text id ++ rest

cuts_span : (t1 t2 id : ℕ) (rest text : List ℕ) → t1 < 2 ^ 64 → t2 < 2 ^ 64 → text ≡ span_text t1 t2 id ++ rest → CutsSpan t1 t2 id rest text
cuts_span t1 t2 id rest text fits_1 fits_2 same =
    let lacks_1 = lacks_decimal 95 t1 (omega arith) fits_1 in
    let lacks_2 = lacks_decimal 95 t2 (omega arith) fits_2 in
    let tail = decimal t2 ++ 95 ∷ (id_text id ++ rest) in
    let opened : after 95 (after 95 text) ≡ decimal t1 ++ 95 ∷ tail = ap (λ t. after 95 (after 95 t)) (same ∙ span_parts t1 t2 id rest) in
    let second : after 95 (after 95 (after 95 text)) ≡ tail = ap (after 95) opened ∙ after_at 95 (decimal t1) tail lacks_1 in
    record {
      first = ap (before 95) opened ∙ before_at 95 (decimal t1) tail lacks_1;
      second = ap (before 95) second ∙ before_at 95 (decimal t2) (id_text id ++ rest) lacks_2;
      last = ap (after 95) second ∙ after_at 95 (decimal t2) (id_text id ++ rest) lacks_2;
    }

-- the pieces that the key of a schema or a lease is read from
pub stamp_read : (k : Key) (text first opened t tail id : List ℕ) → FitsKey k → text ≡ stamp_text k
    → first ≡ after 95 text → opened ≡ after 95 first → t ≡ before 95 opened → tail ≡ after 95 opened → id ≡ after 95 tail
    → (t ≡ decimal k.t) × (id ≡ id_text k.id)
stamp_read k text first opened t tail id fits same is_first is_opened is_t is_tail is_id =
    let cuts = cuts_span k.t k.t k.id [] text fits.t fits.t (same ∙ sym (append-nil (stamp_text k))) in
    let at = is_opened ∙ ap (after 95) is_first in
    (is_t ∙ ap (before 95) at ∙ cuts.first, is_id ∙ ap (after 95) (is_tail ∙ ap (after 95) at) ∙ cuts.last ∙ append-nil (id_text k.id))

-- the pieces that the key of a fragment is read from
pub frag_read : (f : FragKey) (text first opened t1 tail t2 end id v : List ℕ) → FitsFrag f → text ≡ frag_text f
    → first ≡ after 95 text → opened ≡ after 95 first → t1 ≡ before 95 opened → tail ≡ after 95 opened
    → t2 ≡ before 95 tail → end ≡ after 95 tail → id ≡ before 95 end → v ≡ after 95 end
    → (t1 ≡ decimal f.t1) × (t2 ≡ decimal f.t2) × (id ≡ id_text f.id) × (v ≡ decimal f.v)
frag_read f text first opened t1 tail t2 end id v fits same is_first is_opened is_t1 is_tail is_t2 is_end is_id is_v =
    let cuts = cuts_span f.t1 f.t2 f.id (95 ∷ decimal f.v) text fits.t1 fits.t2 (same ∙ append_assoc (span_text f.t1 f.t2 f.id) (codes "_") (decimal f.v)) in
    let at = is_opened ∙ ap (after 95) is_first in
    let then = is_tail ∙ ap (after 95) at in
    let last = is_end ∙ ap (after 95) then ∙ cuts.last in
    let lacks = lacks_id 95 f.id (inr refl) in
    (is_t1 ∙ ap (before 95) at ∙ cuts.first, is_t2 ∙ ap (before 95) then ∙ cuts.second, is_id ∙ ap (before 95) last ∙ before_at 95 (id_text f.id) (decimal f.v) lacks, is_v ∙ ap (after 95) last ∙ after_at 95 (id_text f.id) (decimal f.v) lacks)

-- a span holds no mark below the digits
lacks_span : (mark t1 t2 id : ℕ) → mark < 48 → IsStop mark → t1 < 2 ^ 64 → t2 < 2 ^ 64 → Lacks mark (span_text t1 t2 id)
lacks_span mark t1 t2 id low stop fits_1 fits_2 =
    let line : (95 == mark) ≡ false = ne_eqb 95 mark (λ same. omega arith) in
    let first = lacks_append mark (codes "__") (decimal t1) (line, (line, tt)) (lacks_decimal mark t1 stop fits_1) in
    let second = lacks_append mark (codes "__" ++ decimal t1 ++ codes "_") (decimal t2) (lacks_append mark (codes "__" ++ decimal t1) (codes "_") first (line, tt)) (lacks_decimal mark t2 stop fits_2) in
    lacks_append mark (codes "__" ++ decimal t1 ++ codes "_" ++ decimal t2 ++ codes "_") (id_text id) (lacks_append mark (codes "__" ++ decimal t1 ++ codes "_" ++ decimal t2) (codes "_") second (line, tt)) (lacks_id mark id (inl low))

pub lacks_stamp : (mark : ℕ) (k : Key) → mark < 48 → IsStop mark → FitsKey k → Lacks mark (stamp_text k)
lacks_stamp mark k low stop fits = lacks_span mark k.t k.t k.id low stop fits.t fits.t

pub lacks_frag : (mark : ℕ) (f : FragKey) → mark < 48 → IsStop mark → FitsFrag f → Lacks mark (frag_text f)
lacks_frag mark f low stop fits =
    let line : (95 == mark) ≡ false = ne_eqb 95 mark (λ same. omega arith) in
    lacks_append mark (span_text f.t1 f.t2 f.id ++ codes "_") (decimal f.v) (lacks_append mark (span_text f.t1 f.t2 f.id) (codes "_") (lacks_span mark f.t1 f.t2 f.id low stop fits.t1 fits.t2) (line, tt)) (lacks_decimal mark f.v stop (omega (arith, fits.v)))
