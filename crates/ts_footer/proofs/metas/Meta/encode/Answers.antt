-- Metadata that some object holds is stored as in that object.
use Rattle.ts_footer.proofs.MetaObjects.{meta_written, one_meta, meta_undone}
use Rattle.ts_footer.proofs.metas.Meta.encode.Goals as goal

pub returns-clause-spelled : goal.returns-clause-spelled
returns-clause-spelled c has =
    meta_written c.args.frame.now c.args.schema.now.attrs c.args.self.now _ c.as_slice-dims.ensures.sound has (rw c.as_slice.ensures at c.write_meta.ensures)

pub returns-clause-undone : goal.returns-clause-undone
returns-clause-undone c has =
    meta_undone c.args.frame.now c.args.schema.now.attrs c.args.self.now _ c.as_slice-dims.ensures.sound has (rw c.as_slice.ensures at c.write_meta.ensures)

pub returns-clause-one : goal.returns-clause-one
returns-clause-one c object is =
    one_meta c.args.frame.now c.args.schema.now.attrs c.args.self.now object _ c.as_slice-dims.ensures.sound is (rw c.as_slice.ensures at c.write_meta.ensures)
