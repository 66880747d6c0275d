use Rattle.std.proofs.Common.{◌≡◌, ◌+◌, ◌-◌, length, drop, Some, sym, ◌∙◌, subst, arith}
use Rattle.std.proofs.lemmas.List.{take_all, length-drop}
use Rattle.ts_script.proofs.Cuts.{Cuts, cuts}
use Rattle.ts_script.proofs.parts.next_part.Goals as goal

pub returns-in_err-end : goal.returns-in_err-end
returns-in_err-end c =
    let bytes = c.args.bytes.now in
    rw c.from_residual.ensures (record {
      parts = subst (Cuts c.args.mark bytes) (sym c.first_mark.ensures ∙ c.in_err-end.was) (cuts c.args.mark bytes);
      shorter = tt;
    })

pub returns : goal.returns
returns c =
    let bytes = c.args.bytes.now in
    let end = c.in_ok-end.end in
    let cut : Cuts c.args.mark bytes (Some end) = subst (Cuts c.args.mark bytes) (sym c.first_mark.ensures ∙ c.in_ok-end.was) (cuts c.args.mark bytes) in
    let size : length (drop (end + 1) bytes) ≡ length bytes - (end + 1) = length-drop (end + 1) bytes in
    let whole = take_all (length bytes - (end + 1)) (drop (end + 1) bytes) (omega arith) in
    rw whole (record { parts = cut.1; shorter = omega (arith, cut.0) })
