-- Boxes whose dimensions are turned: the same cells, in the other order of dimensions.
use Rattle.std.proofs.Common.{◌≡◌, ℕ, ◌-◌, ◌*◌, ◌<◌, true, ◌&&◌, List, [], ◌∷◌, ◌++◌, reverse, length, get_or, set, refl, sym, ap, ◌∙◌, ◌⊎◌, inl, inr, arith, length-set, get_or-set_same, get_or-set_other, ℤ}
use Rattle.std.specs.Prelude.{IsTrue, int_le}
use Rattle.std.proofs.Math.Nat.{mul_comm}
use Rattle.std.proofs.lemmas.Bool.{and_parts, and_from, cases_eq}
use Rattle.std.proofs.lemmas.List.{reverse-append, length-reverse, get_or-reverse, same_lists}
use Rattle.ts_domain.specs.declared.orders.Order.{Order}
use Rattle.ts_domain.specs.declared.orders.Order.TheVariants.{Row, Col}
use Rattle.ts_domain.specs.Bounds.{are_bounds, is_between, count_between, cells_between}
use Rattle.ts_order.specs.Orders.{turned, dim_at}
use Rattle.ts_order.proofs.PlaceLaws.{cells_between-push}
use Rattle.ts_order.proofs.OrderLemmas.{turned-turned}

reverse-cons : {A : Type 0} (x : A) (xs : List A) → reverse (x ∷ xs) ≡ reverse xs ++ x ∷ []
reverse-cons x xs = reverse-append (x ∷ []) xs

same_length : {A B : Type 0} (xs : List A) (ys : List B) → length ys ≡ length xs → length (reverse ys) ≡ length (reverse xs)
same_length xs ys e = length-reverse ys ∙ e ∙ sym (length-reverse xs)

-- ---- bounds

are_bounds-push : (ls hs : List ℤ) (l h : ℤ) → IsTrue (are_bounds ls hs) → IsTrue (int_le l h) → IsTrue (are_bounds (ls ++ l ∷ []) (hs ++ h ∷ []))
are_bounds-push [] [] l h t u = and_from (int_le l h) true u refl
are_bounds-push [] (k ∷ hs) l h t u = cc
are_bounds-push (k ∷ ls) [] l h t u = cc
are_bounds-push (k ∷ ls) (g ∷ hs) l h t u =
    let parts = and_parts (int_le k g) (are_bounds ls hs) t in
    and_from (int_le k g) (are_bounds (ls ++ l ∷ []) (hs ++ h ∷ [])) parts.0 (are_bounds-push ls hs l h parts.1 u)

are_bounds-reverse : (ls hs : List ℤ) → IsTrue (are_bounds ls hs) → IsTrue (are_bounds (reverse ls) (reverse hs))
are_bounds-reverse [] [] t = refl
are_bounds-reverse [] (h ∷ hs) t = cc
are_bounds-reverse (l ∷ ls) [] t = cc
are_bounds-reverse (l ∷ ls) (h ∷ hs) t =
    let parts = and_parts (int_le l h) (are_bounds ls hs) t in
    rw (reverse-cons l ls, reverse-cons h hs) (are_bounds-push (reverse ls) (reverse hs) l h (are_bounds-reverse ls hs parts.1) parts.0)

pub are_bounds-turned : (order : Order) (ls hs : List ℤ) → IsTrue (are_bounds ls hs) → IsTrue (are_bounds (turned order ls) (turned order hs))
are_bounds-turned Row ls hs t = t
are_bounds-turned Col ls hs t = are_bounds-reverse ls hs t

-- ---- the number of cells

cells_between-reverse : (ls hs : List ℤ) → length hs ≡ length ls → cells_between (reverse ls) (reverse hs) ≡ cells_between ls hs
cells_between-reverse [] [] e = refl
cells_between-reverse [] (h ∷ hs) e = cc
cells_between-reverse (l ∷ ls) [] e = cc
cells_between-reverse (l ∷ ls) (h ∷ hs) e =
    let rest = cells_between-reverse ls hs (cc) in
    rw (reverse-cons l ls, reverse-cons h hs)
    (cells_between-push (reverse ls) (reverse hs) l h (same_length ls hs (cc)) ∙ ap (λ n. n * count_between l h) rest ∙ mul_comm (cells_between ls hs) (count_between l h))

pub cells_between-turned : (order : Order) (ls hs : List ℤ) → length hs ≡ length ls → cells_between (turned order ls) (turned order hs) ≡ cells_between ls hs
cells_between-turned Row ls hs e = refl
cells_between-turned Col ls hs e = cells_between-reverse ls hs e

-- ---- coordinates between bounds

is_between-push : (ls hs xs : List ℤ) (l h x : ℤ) → IsTrue (is_between ls hs xs) → IsTrue (int_le l x && int_le x h) → IsTrue (is_between (ls ++ l ∷ []) (hs ++ h ∷ []) (xs ++ x ∷ []))
is_between-push [] [] [] l h x t u = and_from (int_le l x && int_le x h) true u refl
is_between-push [] [] (y ∷ xs) l h x t u = cc
is_between-push [] (k ∷ hs) xs l h x t u = cc
is_between-push (k ∷ ls) [] xs l h x t u = cc
is_between-push (k ∷ ls) (g ∷ hs) [] l h x t u = cc
is_between-push (k ∷ ls) (g ∷ hs) (y ∷ xs) l h x t u =
    let parts = and_parts (int_le k y && int_le y g) (is_between ls hs xs) t in
    and_from (int_le k y && int_le y g) (is_between (ls ++ l ∷ []) (hs ++ h ∷ []) (xs ++ x ∷ [])) parts.0 (is_between-push ls hs xs l h x parts.1 u)

is_between-reverse : (ls hs xs : List ℤ) → IsTrue (is_between ls hs xs) → IsTrue (is_between (reverse ls) (reverse hs) (reverse xs))
is_between-reverse [] [] [] t = refl
is_between-reverse [] [] (x ∷ xs) t = cc
is_between-reverse [] (h ∷ hs) xs t = cc
is_between-reverse (l ∷ ls) [] xs t = cc
is_between-reverse (l ∷ ls) (h ∷ hs) [] t = cc
is_between-reverse (l ∷ ls) (h ∷ hs) (x ∷ xs) t =
    let parts = and_parts (int_le l x && int_le x h) (is_between ls hs xs) t in
    rw (reverse-cons l ls, reverse-cons h hs, reverse-cons x xs) (is_between-push (reverse ls) (reverse hs) (reverse xs) l h x (is_between-reverse ls hs xs parts.1) parts.0)

pub is_between-turned : (order : Order) (ls hs xs : List ℤ) → IsTrue (is_between ls hs xs) → IsTrue (is_between (turned order ls) (turned order hs) (turned order xs))
is_between-turned Row ls hs xs t = t
is_between-turned Col ls hs xs t = is_between-reverse ls hs xs t

-- and back
pub turned-is_between : (order : Order) (ls hs xs : List ℤ) → IsTrue (is_between (turned order ls) (turned order hs) xs) → IsTrue (is_between ls hs (turned order xs))
turned-is_between order ls hs xs t =
    rw (turned-turned order ls, turned-turned order hs) at (is_between-turned order (turned order ls) (turned order hs) xs t)

-- ---- a number written into coordinates

reverse-set : (xs : List ℤ) (rank : ℕ) (v : ℤ) → rank < length xs → reverse (set xs (length xs - 1 - rank) v) ≡ set (reverse xs) rank v
reverse-set xs rank v k =
    same_lists (reverse (set xs (length xs - 1 - rank) v)) (set (reverse xs) rank v)
    (length-reverse (set xs (length xs - 1 - rank) v) ∙ length-set xs (length xs - 1 - rank) v ∙ sym (length-reverse xs) ∙ sym (length-set (reverse xs) rank v))
    (λ i d below. by i d (rw (length-reverse (set xs (length xs - 1 - rank) v), length-set xs (length xs - 1 - rank) v) at below) (cases_eq i rank))
  where
    left : (i : ℕ) (d : ℤ) → i < length xs → get_or (reverse (set xs (length xs - 1 - rank) v)) i d ≡ get_or (set xs (length xs - 1 - rank) v) (length xs - 1 - i) d
    left i d below =
        let long : length (set xs (length xs - 1 - rank) v) ≡ length xs = length-set xs (length xs - 1 - rank) v in
        get_or-reverse (set xs (length xs - 1 - rank) v) i d (rw long below) ∙ ap (λ n. get_or (set xs (length xs - 1 - rank) v) (n - 1 - i) d) long

    by : (i : ℕ) (d : ℤ) → i < length xs → (i ≡ rank) ⊎ (i ≡ rank → ⊥) → get_or (reverse (set xs (length xs - 1 - rank) v)) i d ≡ get_or (set (reverse xs) rank v) i d
    by i d below (inl e) =
        let here : length xs - 1 - i ≡ length xs - 1 - rank = ap (λ k. length xs - 1 - k) e in
        let inside : length xs - 1 - rank < length xs = omega arith in
        let below_turned : rank < length (reverse xs) = rw (length-reverse xs) k in
        left i d below ∙ ap (λ k. get_or (set xs (length xs - 1 - rank) v) k d) here ∙ get_or-set_same xs (length xs - 1 - rank) v d inside
        ∙ sym (ap (λ k. get_or (set (reverse xs) rank v) k d) e ∙ get_or-set_same (reverse xs) rank v d below_turned)
    by i d below (inr n) =
        let apart : length xs - 1 - i ≡ length xs - 1 - rank → ⊥ = λ e. n (omega arith) in
        left i d below ∙ get_or-set_other xs (length xs - 1 - rank) (length xs - 1 - i) v d apart
        ∙ sym (get_or-set_other (reverse xs) rank i v d n ∙ get_or-reverse xs i d below)

pub turned-set : (order : Order) (xs : List ℤ) (rank : ℕ) (v : ℤ) → rank < length xs → turned order (set xs (dim_at order (length xs) rank) v) ≡ set (turned order xs) rank v
turned-set Row xs rank v k = refl
turned-set Col xs rank v k = reverse-set xs rank v k
