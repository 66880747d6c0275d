use Rattle.std.proofs.Common.{ap, ◌∙◌, [], ◌∷◌, ◌++◌}
use Rattle.ts_base.specs.Names.{wrt_of}
use Rattle.ts_model.specs.States.{part_objects}
use Rattle.ts_writer.proofs.Written.{objects_spelled}
use Rattle.ts_writer.proofs.writing.objects_of.Goals as goal

pub returns-clause-spelled : goal.returns-clause-spelled
returns-clause-spelled c =
    objects_spelled c.args.frag c.args.parts c.from_vec.result c.requires.frag c.requires.parts
    (c.from_vec.ensures ∙ c.in_ok-push.ensures.items
    ∙ ap (λ objects. objects ++ record { name = wrt_of c.args.frag; bytes = c.new.result } ∷ []) c.in_ok-objects.ensures
    ∙ ap (λ bytes. part_objects c.args.frag c.args.parts ++ record { name = wrt_of c.args.frag; bytes = bytes } ∷ []) c.new.ensures)
