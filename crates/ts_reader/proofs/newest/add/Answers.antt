-- The first one stands alone, and another is put behind the last.
use Rattle.std.proofs.Common.{List, [], ◌∷◌, ◌++◌, sym, ap, subst, ◌∙◌}
use Rattle.std.proofs.lemmas.Result.{on_ok_weaker}
use Rattle.ts_base.specs.declared.heads.Version.{Version}
use Rattle.ts_reader.specs.Newest.{AreNewest}
use Rattle.ts_reader.proofs.Alone.{newest_first, newest_more}
use Rattle.ts_reader.proofs.newest.add.Goals as goal

pub returns-in-None : goal.returns-in-None
returns-in-None c =
    let v = c.args.version.now in
    on_ok_weaker c.push.result
    (λ is versions are behind.
    let one = is ∙ ap (λ (ws : List Version). ws ++ c.again.result ∷ []) c.in-None.ensures.1 ∙ ap (λ (w : Version). w ∷ []) c.again.ensures in
    subst (AreNewest (versions ++ v ∷ [])) (sym one) (newest_first versions v (subst (AreNewest versions) c.in-None.ensures.0 are)))
    c.push.ensures.ok

pub returns-in-Some : goal.returns-in-Some
returns-in-Some c =
    let v = c.args.version.now in
    on_ok_weaker c.add_behind.result
    (λ is versions are behind.
    subst (AreNewest (versions ++ v ∷ [])) (sym is) (newest_more versions c.pop.new.self c.in-Some.last v (subst (AreNewest versions) c.in-Some.ensures are) behind))
    c.add_behind.ensures
