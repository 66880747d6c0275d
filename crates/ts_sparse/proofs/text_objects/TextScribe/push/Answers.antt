-- The byte list begins a tile, or goes into the last one.
use Rattle.std.proofs.Common.{◌∙◌}
use Rattle.std.proofs.lemmas.Result.{on_ok_weaker}
use Rattle.ts_sparse.proofs.TextLaws.{first_text, next_text}
use Rattle.ts_sparse.proofs.text_objects.TextScribe.push.Goals as goal
use Rattle.ts_sparse.proofs.text_objects.TextScribe.push.Goals.{then-self-eq0+in_ok-begin_tile, else-self-eq0}

pub returns : goal.returns
returns c =
    let some = c.requires.some in
    elim c.if-self-eq0.branch [
      | then-self-eq0+in_ok-begin_tile w ↦ on_ok_weaker c.write.result (λ push n texts written. first_text n texts _ _ _ _ written some w.if-self-eq0.true (w.self-is ∙ w.in_ok-begin_tile.ensures) push) c.write.ensures
      | else-self-eq0 w ↦ on_ok_weaker c.write.result (λ push n texts written. next_text n texts _ _ _ _ written some w.if-self-eq0.false w.self-is push) c.write.ensures
    ]
