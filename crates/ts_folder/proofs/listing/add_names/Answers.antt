use Rattle.std.proofs.Common.{◌≡◌, ◌==◌, All, [], ◌∷◌, subst, rules, tests}
use Rattle.std.specs.List.{Contains}
use Rattle.std.proofs.lemmas.List.Elements.{All-append, All-map}
use Rattle.ts_folder.specs.Listings.{HasNameOf}
use Rattle.ts_folder.proofs.Kept.{one_file}
use Rattle.ts_folder.proofs.Parts.{parts_are}
use Rattle.ts_folder.proofs.listing.add_names.Goals as goal

pub loop-file-preserved-in-Continue-branch-3 : goal.loop-file-preserved-in-Continue-branch-3
loop-file-preserved-in-Continue-branch-3 c =
    let keys = c.add_name.new.names.keys in
    let was = c.loop-file.invariant in (
      search rules,
      search rules,
      search rules,
      All-append (λ file. HasNameOf c.args.prefix keys file.now) c.loop-file.yielded (c.in-Some.file ∷ [])
          (λ k d less name is. c.in_ok-add_name.ensures.kept name (was.3 k d less name is))
          (one_file (λ file. HasNameOf c.args.prefix keys file.now) c.in-Some.file
          (λ name is. let read = c.in_ok-name.ensures.every name is in let same : c.in-Some-2.name ≡ name = cc in subst (Contains keys) same c.in_ok-add_name.ensures.added)),
      λ name had. c.in_ok-add_name.ensures.kept name (was.4 name had),
    )

pub returns-clause-every : goal.returns-clause-every
returns-clause-every c =
    let end = parts_are _ _ _ (λ b. b == 0) c.args.listing.now c.loop-file.yielded c.loop-file.yielded_by c.in-None.is c.next.ensures.steps (cc) (cc) (cc) (λ x r q k. search (rules, tests)) in
    subst (All (HasNameOf c.args.prefix c.loop-file.names.keys)) end
    (All-map (HasNameOf c.args.prefix c.loop-file.names.keys) (λ file. file.now) c.loop-file.yielded c.loop-file.invariant.3)
