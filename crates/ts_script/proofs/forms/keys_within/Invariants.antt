use Rattle.std.proofs.Common.{◌≡◌, map}
use Rattle.ts_script.specs.Trees.{members_view}
use Rattle.ts_script.specs.Shapes.{keys_within}
use Rattle.ts_script.proofs.forms.keys_within.Given as goal

abbrev pub invariant-loop-key : goal.invariant-loop-key
invariant-loop-key l =
    keys_within (map (λ k. k.now) l.common) (map (λ k. k.now) l.own) (members_view l.key-iterator) ≡ keys_within (map (λ k. k.now) l.common) (map (λ k. k.now) l.own) (members_view l.members.entries)
