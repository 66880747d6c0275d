-- Whether a group is around, told by a list in the other order.
use Rattle.std.proofs.Common.{◌≡◌, refl, sym, ap, ◌∙◌, suc, nat_lt, List, [], ◌∷◌, map, reverse, length, arith}
use Rattle.std.proofs.lemmas.Bool.{lt-ltb}
use Rattle.std.proofs.lemmas.List.{length-reverse, length-map}
use Rattle.ts_cond.specs.declared.machine.Group as code
use Rattle.ts_cond.specs.Machine.{Group, is_inside}
use Rattle.ts_cond.specs.States.{group_of}

by_length : (outer : List Group) → is_inside outer ≡ nat_lt 0 (length outer)
by_length [] = refl
by_length (l ∷ outer) = sym (lt-ltb 0 (suc (length outer)) (omega arith))

pub inside_by_count : (outer : List code.Group) → is_inside (reverse (map group_of outer)) ≡ nat_lt 0 (length outer)
inside_by_count outer =
    by_length (reverse (map group_of outer)) ∙ ap (nat_lt 0) (length-reverse (map group_of outer) ∙ length-map outer group_of)
