-- A body behind the room for its envelope.
use Rattle.std.proofs.Common.{◌≡◌, ℕ, ◌+◌, ◌-◌, ◌≤◌, List, ◌++◌, length, length-append, take, drop, arith, sym, ap, ◌∙◌}
use Rattle.std.proofs.lemmas.List.{append_assoc, drop-append-le, length-drop, take_at}
use Rattle.ts_wire.specs.declared.kinds.Kind.{Kind}
use Rattle.ts_wire.proofs.Objects.{length-envelope_bytes}
use Rattle.ts_wire.specs.Envelope.{envelope_bytes, wrapped}

-- what is appended to all is appended to the body
pub body_grows : (xs ys : List ℕ) → 14 ≤ length xs → drop 14 (xs ++ ys) ≡ drop 14 xs ++ ys
body_grows xs ys room = drop-append-le 14 xs ys room

-- so it is where three texts are appended in turn
pub body_grows_thrice : (xs a b c first second third : List ℕ) → 14 ≤ length xs → first ≡ xs ++ a → second ≡ first ++ b → third ≡ second ++ c
    → drop 14 third ≡ drop 14 xs ++ ((a ++ b) ++ c)
body_grows_thrice xs a b c first second third room is_first is_second is_third =
    let joint : third ≡ xs ++ ((a ++ b) ++ c) =
    is_third ∙ ap (λ t. t ++ c) (is_second ∙ ap (λ t. t ++ b) is_first ∙ append_assoc xs a b) ∙ append_assoc xs (a ++ b) c in
    ap (drop 14) joint ∙ body_grows xs ((a ++ b) ++ c) room

-- the envelope of a body, written over the room for it
pub enveloped : (k : Kind) (object envelope written result : List ℕ) (len : ℕ) → 14 ≤ length object → len ≡ length object
    → envelope ≡ envelope_bytes k (length object - 14) → written ≡ envelope ++ drop (length envelope) object → result ≡ take len (written ++ drop (length written) object)
    → result ≡ wrapped k (drop 14 object)
unfolding wrapped
enveloped k object envelope written result len room is_len is_envelope is_written is_result =
    let count : length (drop 14 object) ≡ length object - 14 = length-drop 14 object in
    let front : length envelope ≡ 14 = ap length is_envelope ∙ length-envelope_bytes k (length object - 14) in
    let whole : written ≡ envelope ++ drop 14 object = is_written ∙ ap (λ n. envelope ++ drop n object) front in
    let long : length written ≡ 14 + (length object - 14) =
    ap length whole ∙ length-append envelope (drop 14 object) ∙ ap (λ n. n + length (drop 14 object)) front ∙ ap (λ n. 14 + n) count in
    is_result ∙ take_at written (drop (length written) object) len (omega (arith, long, is_len, room)) ∙ whole ∙ ap (λ t. t ++ drop 14 object) (is_envelope ∙ ap (envelope_bytes k) (sym count))
