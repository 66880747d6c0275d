-- The objects of one fragment more, and of all.
use Rattle.std.proofs.Common.{◌≡◌, ◌∷◌, [], cond, rules, ap, ◌∙◌, arith, length}
use Rattle.std.specs.Slice.Iter.{iter_rest}
use Rattle.std.specs.Iterator.Adapters.{zip_first, zip_second}
use Rattle.std.proofs.lemmas.List.{length_push}
use Rattle.std.proofs.lemmas.Slice.Zip.{zip_turn, zip_end}
use Rattle.ts_base.specs.Names.{wrt_of}
use Rattle.ts_commit.specs.Selections.{is_among}
use Rattle.ts_model.specs.States.{vac_of}
use Rattle.ts_vacuum.proofs.RemovedLaws.{names_all, names_on}
use Rattle.ts_vacuum.proofs.removed.names_of_all.Goals as goal

pub loop-frag-preserved : goal.loop-frag-preserved
loop-frag-preserved c =
    let set = c.args.set.now in
    let listed = c.args.listed.now in
    let begins = c.into_iter-frag-iterator.result in
    let first : iter_rest (zip_first begins) ≡ set = search rules in
    let second : iter_rest (zip_second begins) ≡ listed = search rules in
    let turn = zip_turn set listed c.loop-frag.yielded begins c.loop-frag.frag-iterator c.next.new.self c.next.result first second c.loop-frag.yielded_by (c.in-Some.frag, c.in-Some.parts) c.in-Some.is c.next.ensures.steps in
    let f = c.in-Some.frag.now in
    let parts = c.in-Some.parts.now in
    let wrt = ap (λ b. cond b (wrt_of f ∷ []) []) (c.in_ok-committed.ensures.same f ∙ ap (is_among f) c.as_slice.ensures) in
    let vac = ap (λ b. cond b (vac_of f ∷ []) []) (c.in_ok-with_vac.ensures.same f ∙ ap (is_among f) c.as_slice-2.ensures) in
    names_on c.args.sweep.now set listed (length c.loop-frag.yielded) _ f parts c.loop-frag.names _ _ _ (length_push c.loop-frag.yielded _) turn.0 turn.1 (turn.2 f) (turn.3 parts) c.loop-frag.invariant wrt vac c.in_ok-add_names_of.ensures

pub returns : goal.returns
returns c =
    let set = c.args.set.now in
    let listed = c.args.listed.now in
    let begins = c.into_iter-frag-iterator.result in
    let first : iter_rest (zip_first begins) ≡ set = search rules in
    let second : iter_rest (zip_second begins) ≡ listed = search rules in
    let end = zip_end set listed c.loop-frag.yielded begins c.loop-frag.frag-iterator c.next.new.self c.next.result first second c.loop-frag.yielded_by c.in-None.is c.next.ensures.steps in
    c.loop-frag.invariant ∙ names_all c.args.sweep.now set listed (length c.loop-frag.yielded) (omega (arith, end))
