-- The cells of a write, the bounds of its box, and the names of its objects.
use Rattle.std.proofs.Common.{◌≡◌, List, [], ◌∷◌, ◌++◌, Result, Ok, Err, refl, sym, ap, ◌∙◌, subst}
use Rattle.std.specs.Prelude.{IsTrue}
use Rattle.std.specs.List.{All, list_all}
use Rattle.std.proofs.lemmas.Bool.{and_parts}
use Rattle.std.proofs.lemmas.List.Elements.{All-nil, All-cons, All-head, All-tail}
use Rattle.ts_base.specs.declared.heads.Cell.{Cell}
use Rattle.ts_base.specs.declared.heads.Piece.{Piece}
use Rattle.ts_base.specs.declared.keys.FragKey.{FragKey}
use Rattle.ts_base.specs.declared.names.PartBytes.{PartBytes}
use Rattle.ts_base.specs.declared.names.Name.TheVariants as name
use Rattle.ts_base.specs.Names.{IsSpelled, IsSpelledFrag, IsSpelledPart, wrt_of}
use Rattle.ts_schema.specs.declared.frames.Frame.{Frame}
use Rattle.ts_schema.specs.declared.schemas.Schema.{Schema}
use Rattle.ts_table.specs.declared.origins.Origin.{Origin}
use Rattle.ts_model.specs.declared.answers.Refusal.{Refusal}
use Rattle.ts_model.specs.declared.answers.Outcome.TheVariants as outcome
use Rattle.ts_model.specs.declared.commands.Job.{Job}
use Rattle.ts_model.specs.declared.commands.WriteIn.{WriteIn}
use Rattle.ts_model.specs.declared.states.State.{State}
use Rattle.ts_model.specs.Codecs.{Codec}
use Rattle.ts_model.specs.Jobs.{frag_of_job, key_of}
use Rattle.ts_model.specs.declared.states.NewObject.{NewObject}
use Rattle.ts_model.specs.Commands.{is_spelled_col, is_spelled_box, is_spelled_write, piece_of}
use Rattle.ts_model.specs.States.{part_objects, putting, puts_cells}
use Rattle.ts_model.specs.Selections.{IsNamedBox}
use Rattle.ts_model.proofs.Laying.{named_spelled}
use Rattle.ts_model.proofs.Spelled.{all_tested}
use Rattle.ts_writer.specs.Laying.{pieced}
use Rattle.ts_writer.specs.Writing.{AreSpelled}

-- values that are there are the same
same_Ok : {A E : Type 0} (x y : A) → ◌≡◌ {A = Result A E} (Ok x) (Ok y) → x ≡ y
same_Ok x y e = cc

-- the piece of a write is that of the cells that it lays
pub record IsLaid (frame : Frame) (origin : Origin) (r : Result (List Cell) Refusal) (piece : Piece) : Type 0 where
  pub cells : List Cell
  pub laid : r ≡ Ok cells
  pub is : piece ≡ piece_of frame (record { key = origin.key; schema = origin.schema; cells = cells })

pub laid_of : (frame : Frame) (origin : Origin) (r : Result (List Cell) Refusal) (piece : Piece) → pieced frame origin r ≡ Ok piece → IsLaid frame origin r piece
laid_of frame origin (Ok cells) piece e = record { cells = cells; laid = refl; is = sym (same_Ok _ piece e) }
laid_of frame origin (Err r) piece e = cc

-- a write that has no piece is refused
pub refused_of : (frame : Frame) (origin : Origin) (r : Result (List Cell) Refusal) (why : Refusal) → pieced frame origin r ≡ Err why → r ≡ Err why
refused_of frame origin (Ok cells) why e = cc
refused_of frame origin (Err r) why e = cc

-- a job that puts the objects of the piece puts those of its cells
pub put_laid : {F : Type 0} (codec : Codec F) (job : Job) (frame : Frame) (s : Schema) (r : Result (List Cell) Refusal) (piece : Piece) (frag : FragKey) (parts : List PartBytes) (objects : List NewObject) (state : State F)
    → IsLaid frame (record { key = key_of job; schema = s.key }) r piece → frag ≡ frag_of_job job → parts ≡ codec.parts frame s piece → objects ≡ part_objects frag parts ++ record { name = wrt_of frag; bytes = [] } ∷ []
    → state ≡ putting objects 0 (outcome.Written frag) → state ≡ puts_cells codec job frame s r
put_laid codec job frame s r piece frag parts objects state is frag_is parts_are objects_are state_is =
    let whole : parts ≡ codec.parts frame s (piece_of frame (record { key = key_of job; schema = s.key; cells = is.cells })) = parts_are ∙ ap (codec.parts frame s) is.is in
    state_is ∙ ap (λ xs. putting xs 0 (outcome.Written frag)) objects_are
    ∙ (λ i. putting (part_objects (frag_is i) (whole i) ++ record { name = wrt_of (frag_is i); bytes = [] } ∷ []) 0 (outcome.Written (frag_is i)))
    ∙ ap (puts_cells codec job frame s) (sym is.laid)

-- the columns of a write have spellings
pub columns_spelled : (w : WriteIn) → IsTrue (is_spelled_write w) → IsTrue (list_all is_spelled_col w.cols)
columns_spelled w spelled = (and_parts (list_all is_spelled_col w.cols) (list_all is_spelled_box w.sub) spelled).0

-- the bounds of a write's box are in order
pub bounds_in_order : (w : WriteIn) → IsTrue (is_spelled_write w) → All IsNamedBox w.sub
bounds_in_order w spelled = all_tested IsNamedBox is_spelled_box named_spelled w.sub (and_parts (list_all is_spelled_col w.cols) (list_all is_spelled_box w.sub) spelled).1

parts_spelled : (frag : FragKey) (parts : List PartBytes) → IsSpelledFrag frag → All (λ x. IsSpelledPart x.part) parts → AreSpelled (part_objects frag parts ++ record { name = wrt_of frag; bytes = [] } ∷ [])
parts_spelled frag [] is each = All-cons (λ (o : NewObject). IsSpelled o.name) (record { name = wrt_of frag; bytes = [] }) [] (is, tt) (All-nil (λ (o : NewObject). IsSpelled o.name))
parts_spelled frag (x ∷ parts) is each =
    All-cons (λ (o : NewObject). IsSpelled o.name) (record { name = name.Part frag x.part; bytes = x.bytes }) (part_objects frag parts ++ record { name = wrt_of frag; bytes = [] } ∷ [])
    (is, All-head (λ (x : PartBytes). IsSpelledPart x.part) x parts each) (parts_spelled frag parts is (All-tail (λ (x : PartBytes). IsSpelledPart x.part) x parts each))

-- the names of the objects of a write have spellings
pub objects_spelled : (frag : FragKey) (parts : List PartBytes) (objects : List NewObject) → IsSpelledFrag frag → All (λ x. IsSpelledPart x.part) parts → objects ≡ part_objects frag parts ++ record { name = wrt_of frag; bytes = [] } ∷ [] → AreSpelled objects
objects_spelled frag parts objects is each e = subst AreSpelled (sym e) (parts_spelled frag parts is each)
