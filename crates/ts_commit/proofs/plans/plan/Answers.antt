-- The fragments that pass the test are the eligible ones, and the plan is what is told of it.
use Rattle.std.proofs.Common.{◌≡◌, ℕ, List, IfOk, subst, ap, ◌∙◌}
use Rattle.ts_base.specs.declared.heads.Head.{Head}
use Rattle.ts_commit.specs.declared.choices.Eligible.{Eligible}
use Rattle.ts_commit.specs.Selections.{is_merged}
use Rattle.ts_commit.specs.Plans.{shared_schema, attributes_in, plan_in, plan_of}
use Rattle.ts_commit.specs.Passes.{passed}
use Rattle.ts_commit.proofs.PlanLaws.{passed_is, told_if, by_schema_if}
use Rattle.ts_commit.proofs.plans.plan.Goals as goal

planned : (c : goal.After-drop-eligible) → IfOk c.plan_among.result (λ planned. planned ≡ plan_of c.args.heads.now c.args.vacs.now (attributes_in c.args.heads.now c.args.attrs.now) c.args.a c.args.b c.args.limits)
planned c =
    let e : Eligible = record { merged = c.in_ok-all_named.field-0; from = c.args.a; to = c.args.b } in
    let same = passed_is e c.args.heads.now c.args.vacs.now (λ f. c.in_ok-all_named.ensures.named f ∙ ap (λ vacs. is_merged vacs f) c.as_slice.ensures) in
    let P = λ (heads all : List Head) (counts : List ℕ). IfOk c.plan_among.result (λ planned. planned ≡ plan_in (attributes_in heads counts) c.args.limits all (shared_schema c.args.limits.min all)) in
    subst (λ all. P c.args.heads.now all c.args.attrs.now) same
    (subst (P c.args.heads.now (passed e c.args.heads.now)) c.as_slice-3.ensures (subst (λ heads. P heads (passed e heads) c.as_slice-3.result.now) c.as_slice-2.ensures c.plan_among.ensures))

pub returns-clause-plan : goal.returns-clause-plan
returns-clause-plan c = planned c

pub returns-clause-told : goal.returns-clause-told
returns-clause-told c = told_if c.plan_among.result c.args.heads.now c.args.vacs.now (attributes_in c.args.heads.now c.args.attrs.now) c.args.a c.args.b c.args.limits (planned c)

pub returns-clause-by_schema : goal.returns-clause-by_schema
returns-clause-by_schema c = by_schema_if c.plan_among.result c.args.heads.now c.args.attrs.now c.args.vacs.now c.args.a c.args.b c.args.limits (planned c)
