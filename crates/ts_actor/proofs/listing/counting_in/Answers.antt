-- Those that count are among those that have a `.vac`.
use Rattle.std.proofs.Common.{sym, subst}
use Rattle.std.specs.List.{All}
use Rattle.std.specs.BTreeSet.{contains}
use Rattle.std.proofs.lemmas.Result.{IfOk-weaker}
use Rattle.std.proofs.lemmas.List.Elements.{All-filter}
use Rattle.ts_base.specs.Keys.{frag_cmp}
use Rattle.ts_actor.specs.Listings.{IsSpelledVac}
use Rattle.ts_actor.proofs.listing.counting_in.Goals as goal

pub returns-clause-spelled : goal.returns-clause-spelled
returns-clause-spelled c =
    IfOk-weaker c.among.result _ _ (λ chosen is. subst (All IsSpelledVac) (sym is) (All-filter (contains frag_cmp c.in_ok-set.set) IsSpelledVac c.in_ok-merged.merged c.in_ok-merged.ensures.spelled)) c.among.ensures
