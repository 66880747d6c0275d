-- The text of a name, cut into the pieces that it is read from.
use Rattle.std.proofs.Common.{◌≡◌, List, ℕ, ◌∷◌, ◌++◌, codes, sym, ap, ◌∙◌, arith}
use Rattle.std.proofs.lemmas.List.{append_assoc}
use Rattle.ts_base.specs.declared.keys.FragKey.{FragKey}
use Rattle.ts_base.specs.declared.keys.Key.{Key}
use Rattle.ts_base.specs.declared.names.Part.{Part}
use Rattle.ts_base.specs.declared.names.CommitKind.{CommitKind}
use Rattle.ts_base.specs.declared.names.LeaseMode.{LeaseMode}
use Rattle.ts_base.specs.declared.names.Name.{Name}
use Rattle.ts_base.specs.declared.names.Name.TheVariants as name
use Rattle.ts_base.specs.Spelling.{FitsKey, FitsFrag, FitsName, FitsPart, stamp_text, frag_text, part_text, kind_text, mode_text, name_text}
use Rattle.ts_base.proofs.Cuts.{before, after, before_at, after_at}
use Rattle.ts_base.proofs.Splits.{byte_at}
use Rattle.ts_base.proofs.Reading.{lacks_stamp, lacks_frag}

-- a name in the folder of commits
pub commit_only : (n : Name) (text file front rest : List ℕ) (f : FragKey) (k : CommitKind) → FitsName n → text ≡ name_text n
    → before 47 text ≡ codes "__commits" → file ≡ after 47 text → front ≡ before 46 file → rest ≡ after 46 file
    → ((g : FragKey) → FitsFrag g → front ≡ frag_text g → f ≡ g) → ((l : CommitKind) → rest ≡ kind_text l → k ≡ l) → name.Commit f k ≡ n
commit_only (name.Commit g l) text file front rest f k fits same folder is_file is_front is_rest reads_frag reads_kind =
    let at : file ≡ frag_text g ++ 46 ∷ kind_text l = is_file ∙ ap (after 47) same ∙ append_assoc (frag_text g) (codes ".") (kind_text l) in
    let lacks = lacks_frag 46 g (omega arith) (omega arith) fits in
    let frag = reads_frag g fits (is_front ∙ ap (before 46) at ∙ before_at 46 (frag_text g) (kind_text l) lacks) in
    let kind = reads_kind l (is_rest ∙ ap (after 46) at ∙ after_at 46 (frag_text g) (kind_text l) lacks) in
    λ i. name.Commit (frag i) (kind i)
commit_only _ text file front rest f k fits same folder is_file is_front is_rest reads_frag reads_kind =
    absurd (omega (arith, byte_at 2 (sym folder ∙ ap (before 47) same)))

-- a name in the folder of fragments
pub part_only : (n : Name) (text file front rest : List ℕ) (f : FragKey) (p : Part) → FitsName n → text ≡ name_text n
    → before 47 text ≡ codes "__fragments" → file ≡ after 47 text → front ≡ before 47 file → rest ≡ after 47 file
    → ((g : FragKey) → FitsFrag g → front ≡ frag_text g → f ≡ g) → ((q : Part) → FitsPart q → rest ≡ part_text q → p ≡ q) → name.Part f p ≡ n
part_only (name.Part g q) text file front rest f p fits same folder is_file is_front is_rest reads_frag reads_part =
    let at : file ≡ frag_text g ++ 47 ∷ part_text q = is_file ∙ ap (after 47) same ∙ append_assoc (frag_text g) (codes "/") (part_text q) in
    let lacks = lacks_frag 47 g (omega arith) (omega arith) fits.0 in
    let frag = reads_frag g fits.0 (is_front ∙ ap (before 47) at ∙ before_at 47 (frag_text g) (part_text q) lacks) in
    let part = reads_part q fits.1 (is_rest ∙ ap (after 47) at ∙ after_at 47 (frag_text g) (part_text q) lacks) in
    λ i. name.Part (frag i) (part i)
part_only _ text file front rest f p fits same folder is_file is_front is_rest reads_frag reads_part =
    absurd (omega (arith, byte_at 2 (sym folder ∙ ap (before 47) same)))

-- a name in the folder of leases
pub lease_only : (n : Name) (text file front rest : List ℕ) (k : Key) (m : LeaseMode) → FitsName n → text ≡ name_text n
    → before 47 text ≡ codes "__leases" → file ≡ after 47 text → front ≡ before 46 file → rest ≡ after 46 file
    → ((l : Key) → FitsKey l → front ≡ stamp_text l → k ≡ l) → ((o : LeaseMode) → rest ≡ mode_text o → m ≡ o) → name.Lease k m ≡ n
lease_only (name.Lease l o) text file front rest k m fits same folder is_file is_front is_rest reads_key reads_mode =
    let at : file ≡ stamp_text l ++ 46 ∷ mode_text o = is_file ∙ ap (after 47) same ∙ append_assoc (stamp_text l) (codes ".") (mode_text o) in
    let lacks = lacks_stamp 46 l (omega arith) (omega arith) fits in
    let key = reads_key l fits (is_front ∙ ap (before 46) at ∙ before_at 46 (stamp_text l) (mode_text o) lacks) in
    let mode = reads_mode o (is_rest ∙ ap (after 46) at ∙ after_at 46 (stamp_text l) (mode_text o) lacks) in
    λ i. name.Lease (key i) (mode i)
lease_only _ text file front rest k m fits same folder is_file is_front is_rest reads_key reads_mode =
    absurd (omega (arith, byte_at 2 (sym folder ∙ ap (before 47) same)))
