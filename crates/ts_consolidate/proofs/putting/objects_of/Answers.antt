-- The names of the parts, of the `.vac` and of the `.wrt` have spellings.
use Rattle.std.proofs.Common.{ap, ◌∙◌, [], ◌∷◌, ◌++◌, sym, subst}
use Rattle.ts_base.specs.Names.{wrt_of}
use Rattle.ts_model.specs.States.{vac_of}
use Rattle.ts_consolidate.specs.Merges.{HaveNames}
use Rattle.ts_consolidate.proofs.Objects.{objects_spelled}
use Rattle.ts_consolidate.proofs.putting.objects_of.Goals as goal

pub returns-clause-spelled : goal.returns-clause-spelled
returns-clause-spelled c =
    subst HaveNames (sym (c.from_vec.ensures ∙ c.in_ok-push-2.ensures.items
    ∙ ap (λ objects. objects ++ record { name = wrt_of c.args.frag; bytes = c.new.result } ∷ []) (c.in_ok-push.ensures.items ∙ ap (λ objects. objects ++ record { name = vac_of c.args.frag; bytes = c.in_ok-of_list.field-0 } ∷ []) c.in_ok-objects.ensures)))
    (objects_spelled c.args.frag c.args.parts c.in_ok-of_list.field-0 c.new.result c.requires.frag c.requires.parts)
