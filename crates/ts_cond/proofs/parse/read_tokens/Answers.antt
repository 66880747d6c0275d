use Rattle.std.proofs.Common.{rules, arith, ◌≡◌, sym, ap, ◌∙◌, ◌+◌, ◌-◌, [], length, length-drop, Ok, Err, if◌then◌else◌}
use Rattle.ts_cond.specs.declared.faults.CondFault.TheVariants as fault
use Rattle.ts_cond.specs.Machine.{reads}
use Rattle.ts_cond.specs.Spelled.{some_kind}
use Rattle.ts_cond.specs.States.{reading_of}
use Rattle.ts_cond.specs.Tokens.{scan}
use Rattle.ts_cond.proofs.ScanLaws.{read_ok, read_err, read_bad, read_end, err_ends, nothing_left}
use Rattle.ts_cond.proofs.parse.read_tokens.Goals as goal

pub loop-rest-preserved : goal.loop-rest-preserved
loop-rest-preserved c =
    let front = c.in-Some.front in
    let rest = c.loop-rest.rest.now in
    let count : length c.behind-rest.result.now ≡ length rest - front.len = ap length c.behind-rest.ensures ∙ length-drop _ _ in (
      ap (λ bytes. reads (reading_of c.step_front.new.state) (scan 0 (c.loop-rest.at + front.len) bytes)) c.behind-rest.ensures
          ∙ sym (read_ok (reading_of c.loop-rest.state) (reading_of c.step_front.new.state) c.loop-rest.at rest (some_kind front.kind) front.len (sym c.in-Some.ensures.reads) c.in-Some.ensures.some c.in-Some.ensures.within c.in-Ok.ensures.went)
          ∙ c.loop-rest.invariant.0,
      c.in-Ok.ensures.depth,
      c.in-Ok.ensures.nodes,
      c.in-Ok.ensures.fields,
      omega (arith, c.in-Some.ensures.within, c.loop-rest.invariant.4),
    )

pub returns-in-None : goal.returns-in-None
returns-in-None c =
    let some : c.loop-rest.rest.now ≡ [] → ⊥ = search rules in
    sym c.loop-rest.invariant.0 ∙ read_bad (reading_of c.loop-rest.state) c.loop-rest.at c.loop-rest.rest.now some (search rules)

pub returns-in-Err : goal.returns-in-Err
returns-in-Err c =
    let front = c.in-Some.front in
    let r = reading_of c.loop-rest.state in
    err_ends _ (reading_of c.step_front.new.state) _ _ c.in-Err.ensures.went
    (λ e. sym c.loop-rest.invariant.0 ∙ read_err r _ c.loop-rest.at c.loop-rest.rest.now (some_kind front.kind) front.len (sym c.in-Some.ensures.reads) c.in-Some.ensures.some c.in-Some.ensures.within e)

pub returns-then-may_end : goal.returns-then-may_end
returns-then-may_end c =
    let r = reading_of c.loop-rest.state in
    let at = c.loop-rest.at in
    let empty : c.loop-rest.rest.now ≡ [] = nothing_left c.is_empty.result _ c.is_empty.ensures c.loop-rest-test.false in
    sym c.loop-rest.invariant.0 ∙ ap (λ bytes. reads r (scan 0 at bytes)) empty ∙ read_end r at ∙ ap (λ b. if b then Ok r else Err (fault.Syntax at)) (sym c.may_end.ensures ∙ c.if-may_end.true)

pub returns-else-may_end : goal.returns-else-may_end
returns-else-may_end c =
    let r = reading_of c.loop-rest.state in
    let at = c.loop-rest.at in
    let empty : c.loop-rest.rest.now ≡ [] = nothing_left c.is_empty.result _ c.is_empty.ensures c.loop-rest-test.false in
    sym c.loop-rest.invariant.0 ∙ ap (λ bytes. reads r (scan 0 at bytes)) empty ∙ read_end r at ∙ ap (λ b. if b then Ok r else Err (fault.Syntax at)) (sym c.may_end.ensures ∙ c.if-may_end.false)
