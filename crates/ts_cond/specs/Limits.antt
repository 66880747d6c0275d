-- How deep and how large the tree of a condition is.
use Rattle.std.specs.Prelude.{ℕ, ◌+◌, max, ◌≤◌, length}
use Rattle.ts_cond.specs.Grammar.{Cond, term, or, Term, fact, and, Fact, not_of, paren, compare, member, is_null}

-- how many parentheses and `not` of facts are open at a place, where they are most; the parentheses of a list of values and the `not` of `not in` do not count
abbrev mutual
  pub depth_of : Cond → ℕ
  depth_of (term t) = term_depth t
  depth_of (or t c) = max (term_depth t) (depth_of c)

  pub term_depth : Term → ℕ
  term_depth (fact f) = fact_depth f
  term_depth (and f t) = max (fact_depth f) (term_depth t)

  pub fact_depth : Fact → ℕ
  fact_depth (not_of f) = 1 + fact_depth f
  fact_depth (paren c) = 1 + depth_of c
  fact_depth (compare name op v) = 0
  fact_depth (member name negated v vs) = 0
  fact_depth (is_null name) = 0

-- the nodes: a list of two terms or more is one, and so is a list of two facts or more, a `not`, a test, and a value of a membership; parentheses are none
abbrev mutual
  pub nodes_of : Cond → ℕ
  nodes_of (term t) = term_nodes t
  nodes_of (or t c) = 1 + (term_nodes t + terms_nodes c)

  -- without the list that they stand in
  pub terms_nodes : Cond → ℕ
  terms_nodes (term t) = term_nodes t
  terms_nodes (or t c) = term_nodes t + terms_nodes c

  pub term_nodes : Term → ℕ
  term_nodes (fact f) = fact_nodes f
  term_nodes (and f t) = 1 + (fact_nodes f + facts_nodes t)

  -- without the list that they stand in
  pub facts_nodes : Term → ℕ
  facts_nodes (fact f) = fact_nodes f
  facts_nodes (and f t) = fact_nodes f + facts_nodes t

  pub fact_nodes : Fact → ℕ
  fact_nodes (not_of f) = 1 + fact_nodes f
  fact_nodes (paren c) = nodes_of c
  fact_nodes (compare name op v) = 1
  fact_nodes (member name negated v vs) = 1 + (1 + length vs)
  fact_nodes (is_null name) = 1

-- at most 32 deep, and of at most 1,024 nodes
abbrev pub IsWithin : Cond → Type 0
IsWithin c = (depth_of c ≤ 32) × (nodes_of c ≤ 1024)
