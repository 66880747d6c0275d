-- The comparisons with the key rise along the schemas.
use Rattle.std.proofs.Common.{rules}
use Rattle.std.proofs.lemmas.List.Sorted.{answers_always}
use Rattle.ts_actor.proofs.Rising.{searched}
use Rattle.ts_actor.proofs.known.search_schemas.Goals as goal

pub returns : goal.returns
returns c =
    let facts = c.binary_search_by_key.ensures in
    let by_key = facts.position (λ s. s.key) (answers_always _ _ _ (λ f a r g called. search rules)) in
    searched c.args.key c.args.schemas.now c.requires _ facts.bound by_key
