-- The names of the objects of a consolidation.
use Rattle.std.proofs.Common.{ℕ, List, [], ◌∷◌, ◌++◌}
use Rattle.std.specs.Prelude.{All}
use Rattle.std.proofs.lemmas.List.Elements.{All-nil, All-cons, All-head, All-push, All-tail}
use Rattle.ts_base.specs.declared.keys.FragKey.{FragKey}
use Rattle.ts_base.specs.declared.names.Name.TheVariants as name
use Rattle.ts_base.specs.declared.names.PartBytes.{PartBytes}
use Rattle.ts_base.specs.Names.{IsSpelled, IsSpelledFrag, IsSpelledPart, wrt_of}
use Rattle.ts_model.specs.declared.states.NewObject.{NewObject}
use Rattle.ts_model.specs.States.{part_objects, vac_of}
use Rattle.ts_consolidate.specs.Merges.{HaveNames}

-- the object has a name with a spelling
abbrev HasName : NewObject → Type 0
HasName o = IsSpelled o.name

parts_spelled : (frag : FragKey) (parts : List PartBytes) → IsSpelledFrag frag → All (λ (x : PartBytes). IsSpelledPart x.part) parts → HaveNames (part_objects frag parts)
parts_spelled frag [] is each = All-nil HasName
parts_spelled frag (x ∷ parts) is each =
    All-cons HasName (record { name = name.Part frag x.part; bytes = x.bytes }) (part_objects frag parts) (is, All-head (λ (x : PartBytes). IsSpelledPart x.part) x parts each)
    (parts_spelled frag parts is (All-tail (λ (x : PartBytes). IsSpelledPart x.part) x parts each))

-- the names of the parts, of the `.vac` and of the `.wrt` have spellings
pub objects_spelled : (frag : FragKey) (parts : List PartBytes) (vac wrt : List ℕ) → IsSpelledFrag frag → All (λ (x : PartBytes). IsSpelledPart x.part) parts
    → HaveNames ((part_objects frag parts ++ record { name = vac_of frag; bytes = vac } ∷ []) ++ record { name = wrt_of frag; bytes = wrt } ∷ [])
objects_spelled frag parts vac wrt is each =
    All-push HasName (part_objects frag parts ++ record { name = vac_of frag; bytes = vac } ∷ []) (record { name = wrt_of frag; bytes = wrt })
    (All-push HasName (part_objects frag parts) (record { name = vac_of frag; bytes = vac }) (parts_spelled frag parts is each) (is, tt)) (is, tt)
