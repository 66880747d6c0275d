-- A version at the cell of the next is told, and where there is none all are apart.
use Rattle.std.proofs.Common.{◌≡◌, ◌+◌, ◌-◌, get_or, sym, ap, ◌∙◌, arith}
use Rattle.std.proofs.lemmas.Bool.{true≢false}
use Rattle.std.proofs.lemmas.List.{get_or_default}
use Rattle.std.proofs.lemmas.List.Sorted.{all_adjacent_more}
use Rattle.ts_table.specs.Tables.{version_or}
use Rattle.ts_writer.proofs.places.have_twins.Goals as goal

pub returns-then-share_cell-clause-twins : goal.returns-then-share_cell-clause-twins
returns-then-share_cell-clause-twins c told =
    let next = c.loop-next.next in
    let places = c.args.places.now in
    let back : next ≡ next - 1 + 1 = omega arith in
    record { at = next - 1; within = omega arith; same = c.share_cell.ensures.0 c.if-share_cell.true ∙ ap (λ n. (version_or c.args.table.now (get_or places n 0)).coords) back }

pub loop-next-preserved : goal.loop-next-preserved
loop-next-preserved c =
    let next = c.loop-next.next in
    let places = c.args.places.now in
    let vs = c.args.table.now in
    all_adjacent_more places (λ p q. (version_or vs p).coords ≡ (version_or vs q).coords → ⊥) next (omega arith) c.loop-next.invariant (λ d e.
    let first : get_or places (next - 1) 0 ≡ get_or places (next - 1) d = get_or_default places (next - 1) 0 d (omega arith) in
    let second : get_or places next 0 ≡ get_or places next d = get_or_default places next 0 d (omega arith) in
    let same = ap (λ p. (version_or vs p).coords) first ∙ e ∙ sym (ap (λ p. (version_or vs p).coords) second) in
    true≢false (sym (c.share_cell.ensures.1 same) ∙ c.if-share_cell.false))
