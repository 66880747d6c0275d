-- Lists of kinds: so many of one kind, and others behind them.
use Rattle.std.proofs.Common.{◌≡◌, ℕ, ◌+◌, ◌-◌, ◌<◌, ◌≤◌, List, [], ◌∷◌, ◌++◌, length, map, get_or, replicate, take, drop, refl, sym, ap, subst, ◌∙◌, arith}
use Rattle.std.proofs.lemmas.List.{append-nil, drop-append-le, drop-replicate, get_or-replicate, length-append, length-replicate, replicate-append-replicate, take-append-le, take-replicate}
use Rattle.std.proofs.Math.Seq.{take-append-add, drop-append-add}
use Rattle.std.proofs.lemmas.List.Elements.{All-head, All-tail}
use Rattle.std.specs.Prelude.{All}
use Rattle.ts_table.specs.declared.kinds.Kind.{Kind}
use Rattle.ts_table.specs.declared.kinds.Kind.TheVariants.{Null}

-- so many more of the first kind
pub run_more : (c n : ℕ) (f k : Kind) (rest : List Kind) → rest ≡ [] → replicate c f ≡ replicate c k → replicate (c + n) k ++ rest ≡ (replicate c f ++ rest) ++ replicate n k
run_more c n f k rest none same =
    subst (λ r. replicate (c + n) k ++ r ≡ (replicate c f ++ r) ++ replicate n k) (sym none)
    (append-nil (replicate (c + n) k) ∙ sym (replicate-append-replicate c n k) ∙ ap (λ xs. xs ++ replicate n k) (sym same ∙ sym (append-nil (replicate c f))))

pub ruleset runs = (run_more)

-- cut among those of the first kind, and behind them
pub cut_first : (n c : ℕ) (f : Kind) (rest : List Kind) → n < c → replicate n f ++ take 0 rest ≡ take n (replicate c f ++ rest)
cut_first n c f rest below =
    let long = length-replicate c f in
    append-nil (replicate n f) ∙ sym (take-append-le n (replicate c f) rest (omega (arith, below, long)) ∙ take-replicate n c f (omega (arith, below)))

pub cut_rest : (n c : ℕ) (f : Kind) (rest : List Kind) → c ≤ n → replicate c f ++ take (n - c) rest ≡ take n (replicate c f ++ rest)
cut_rest n c f rest above =
    let long = length-replicate c f in
    let at : length (replicate c f) + (n - c) ≡ n = omega (arith, above, long) in
    sym (ap (λ m. take m (replicate c f ++ rest)) (sym at) ∙ take-append-add (replicate c f) rest (n - c))

pub ruleset cuts = (cut_first, cut_rest)

-- a part among those of the first kind, across their end, and behind them
pub part_first : (c : ℕ) (f : Kind) (rest : List Kind) (from count : ℕ) → from ≤ c → count ≤ c - from → replicate count f ≡ take count (drop from (replicate c f ++ rest))
part_first c f rest from count before few =
    let long = length-replicate c f in
    let many = length-replicate (c - from) f in
    sym (ap (take count) (drop-append-le from (replicate c f) rest (omega (arith, before, long)) ∙ ap (λ xs. xs ++ rest) (drop-replicate from c f))
    ∙ take-append-le count (replicate (c - from) f) rest (omega (arith, few, many)) ∙ take-replicate count (c - from) f few)

pub part_across : (c : ℕ) (f : Kind) (rest : List Kind) (from count : ℕ) → from ≤ c → c - from ≤ count
    → replicate (c - from) f ++ take (count - (c - from)) (drop 0 rest) ≡ take count (drop from (replicate c f ++ rest))
part_across c f rest from count before many =
    let long = length-replicate c f in
    let left = length-replicate (c - from) f in
    let at : length (replicate (c - from) f) + (count - (c - from)) ≡ count = omega (arith, many, left) in
    sym (ap (take count) (drop-append-le from (replicate c f) rest (omega (arith, before, long)) ∙ ap (λ xs. xs ++ rest) (drop-replicate from c f))
    ∙ ap (λ m. take m (replicate (c - from) f ++ rest)) (sym at) ∙ take-append-add (replicate (c - from) f) rest (count - (c - from)))

pub part_behind : (c : ℕ) (f : Kind) (rest : List Kind) (from count : ℕ) → c ≤ from → take count (drop (from - c) rest) ≡ take count (drop from (replicate c f ++ rest))
part_behind c f rest from count above =
    let long = length-replicate c f in
    let at : length (replicate c f) + (from - c) ≡ from = omega (arith, above, long) in
    sym (ap (take count) (ap (λ m. drop m (replicate c f ++ rest)) (sym at) ∙ drop-append-add (replicate c f) rest (from - c)))

pub ruleset parts = (part_first, part_across, part_behind, length-append, length-replicate)

-- all places have the first kind
at_first : (c : ℕ) (f : Kind) (places : List ℕ) → All (λ place. place < c) places → replicate (length places) f ≡ map (λ place. get_or (replicate c f) place Null) places
at_first c f [] all = refl
at_first c f (p ∷ places) all =
    let here : get_or (replicate c f) p Null ≡ f = get_or-replicate c p f Null (All-head (λ place. place < c) p places all) in
    let rest : replicate (length places) f ≡ map (λ place. get_or (replicate c f) place Null) places = at_first c f places (All-tail (λ place. place < c) p places all) in
    cc

pub same_at : (c : ℕ) (f : Kind) (rest : List Kind) (places : List ℕ) → rest ≡ [] → All (λ place. place < length (replicate c f ++ rest)) places
    → replicate (length places) f ≡ map (λ place. get_or (replicate c f ++ rest) place Null) places
same_at c f rest places none all =
    let whole : replicate c f ++ rest ≡ replicate c f = ap (λ r. replicate c f ++ r) none ∙ append-nil (replicate c f) in
    let long : length (replicate c f ++ rest) ≡ c = ap length whole ∙ length-replicate c f in
    at_first c f places (λ k d h. let below = all k d h in omega (arith, below, long)) ∙ ap (λ xs. map (λ place. get_or xs place Null) places) (sym whole)

pub ruleset sames = (same_at)
