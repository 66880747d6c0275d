-- Origins are read exactly.
use Rattle.std.proofs.Common.{◌≡◌, ℕ, ◌^◌, ◌<◌, nat_lt, List, [], length, Result, Ok, Err, refl, ap, ◌∙◌, arith}
use Rattle.std.specs.Prelude.{IfOk}
use Rattle.std.specs.List.{flat_map, All}
use Rattle.std.proofs.lemmas.Bool.{ltb-true, lt-ltb}
use Rattle.ts_base.specs.declared.lists.OutOfMemory.{OutOfMemory}
use Rattle.ts_wire.specs.declared.faults.ReadFault.{ReadFault}
use Rattle.ts_wire.specs.Place.{place, items_at}
use Rattle.ts_wire.specs.Exact.{IsBytes, Exact}
use Rattle.ts_wire.specs.Numbers.{number_bytes}
use Rattle.ts_wire.specs.Reading.{DecodesOr}
use Rattle.ts_wire.proofs.Laws.{AreInTurn, restated, ruled_exact, items_exact, whole_found, whole_only}
use Rattle.ts_wire.proofs.Numbers.{number_exact}
use Rattle.ts_column.specs.Origins.{origin_at, origins_in, AreOrigins}
use Rattle.ts_column.proofs.IntLaws.{each_alone, all_in_turn}

-- one origin
origin_exact : (entries : ℕ) → entries < 2 ^ 32 → Exact (λ i. i < entries) (number_bytes 4) (origin_at entries)
unfolding origin_at
origin_exact entries few = restated (ruled_exact (λ i. nat_lt i entries) (number_exact 4))
    (λ i fits. (ltb-true i entries fits.1, refl))
    (λ i known. (omega (arith, known, few), lt-ltb i entries known))

-- all of them
origins_exact : (entries count : ℕ) → entries < 2 ^ 32 → Exact (AreInTurn (λ _ i. i < entries) count []) (flat_map (number_bytes 4)) (items_at (λ _. origin_at entries) count [])
origins_exact entries count few = items_exact (λ front. origin_exact entries few) count []

-- what was decoded was spelled so
pub decoded_spelled : (entries count : ℕ) (bytes : List ℕ) (result : Result (List ℕ) ReadFault) → entries < 2 ^ 32 → IsBytes bytes → DecodesOr (λ origins. origins) (origins_in entries count bytes) result → IfOk result (AreOrigins entries count bytes)
unfolding origins_in
decoded_spelled entries count bytes (Ok origins) few are is =
    let was = whole_found (origins_exact entries count few) (place bytes 0) origins are is in
    record { spelled = was.0; many = was.1.0; known = each_alone (λ i. i < entries) [] origins was.1.1 }
decoded_spelled entries count bytes (Err e) few are is = tt

-- what is spelled is decoded
spelled_back : (entries : ℕ) (origins : List ℕ) → entries < 2 ^ 32 → All (λ i. i < entries) origins → origins_in entries (length origins) (flat_map (number_bytes 4) origins) ≡ Ok origins
unfolding origins_in
spelled_back entries origins few known = whole_only (origins_exact entries (length origins) few) origins 0 (refl, all_in_turn (λ i. i < entries) [] origins known)

pub encoded_back : (entries : ℕ) (origins : List ℕ) (result : Result (List ℕ) OutOfMemory) → entries < 2 ^ 32 → All (λ i. i < entries) origins → IfOk result (λ bytes. bytes ≡ flat_map (number_bytes 4) origins)
    → IfOk result (λ bytes. origins_in entries (length origins) bytes ≡ Ok origins)
encoded_back entries origins (Ok bytes) few known is = ap (origins_in entries (length origins)) is ∙ spelled_back entries origins few known
encoded_back entries origins (Err e) few known is = tt
