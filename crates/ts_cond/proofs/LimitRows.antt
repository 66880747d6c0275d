-- Worked trees: how deep and how large they are.
use Rattle.std.proofs.Common.{◌≡◌, refl, ℕ, true, false, List, [], ◌∷◌, pos}
use Rattle.ts_cond.specs.declared.nodes.CondOp.TheVariants as op
use Rattle.ts_cond.specs.Grammar.{Value, number, Cond, term, or, fact, and, Fact, not_of, paren, compare, member, is_null}
use Rattle.ts_cond.specs.Limits.{depth_of, nodes_of}

abbrev one : Value
one = number (pos 1)

abbrev equals : List ℕ → Fact
equals name = compare name op.Equal one

-- a = 1 and b = 1 or not (c in (1, 1) and d not in (1) or e is null)
abbrev worked : Cond
worked =
    or (and (equals (97 ∷ [])) (fact (equals (98 ∷ []))))
    (term (fact (not_of (paren
    (or (and (member (99 ∷ []) false one (one ∷ [])) (fact (member (100 ∷ []) true one [])))
    (term (fact (is_null (101 ∷ [])))))))))

-- two lists of terms, two lists of facts, one `not`, five tests and three values
worked_nodes : nodes_of worked ≡ 13
worked_nodes = refl

-- a `not`, and a parenthesis in it
worked_depth : depth_of worked ≡ 2
worked_depth = refl

-- ((a = 1)) or not not a = 1 or a = 1 and a = 1 and a = 1
abbrev lists : Cond
lists =
    or (fact (paren (term (fact (paren (term (fact (equals (97 ∷ [])))))))))
    (or (fact (not_of (not_of (equals (97 ∷ [])))))
    (term (and (equals (97 ∷ [])) (and (equals (97 ∷ [])) (fact (equals (97 ∷ [])))))))

-- a list of terms, a list of facts, two `not` and five tests
lists_nodes : nodes_of lists ≡ 9
lists_nodes = refl

lists_depth : depth_of lists ≡ 2
lists_depth = refl
