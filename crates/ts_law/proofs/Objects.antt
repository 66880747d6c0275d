-- What jobs are to put, and what is known of it before the first put.
use Rattle.std.proofs.Common.{List, None, Option, Some, [], ap, arith, cond, false, inl, inr, length, length-append, refl, subst, suc, sym, true, zero, ℕ, ◌++◌, ◌<◌, ◌∙◌, ◌∷◌, ◌≡◌}
use Rattle.std.proofs.lemmas.Bool.{eqb-true}
use Rattle.std.proofs.lemmas.List.{length-map}
use Rattle.std.proofs.lemmas.Option.{none-some, same_Some, slice_get-map}
use Rattle.std.specs.Prelude.{option_map, slice_get}
use Rattle.ts_base.specs.Held.{Held}
use Rattle.ts_base.specs.Names.{wrt_of}
use Rattle.ts_cond.specs.Tests.{Condition}
use Rattle.ts_base.specs.declared.keys.FragKey.{FragKey}
use Rattle.ts_base.specs.declared.names.LeaseMode.{LeaseMode}
use Rattle.ts_base.specs.declared.names.Name.{Name}
use Rattle.ts_base.specs.declared.names.Part.{Part}
use Rattle.ts_base.specs.declared.names.PartBytes.{PartBytes}
use Rattle.ts_schema.specs.Parts.{look_in}
use Rattle.ts_schema.specs.declared.attrs.Attr.{Attr}
use Rattle.ts_model.specs.Deeds.{History}
use Rattle.ts_model.specs.Codecs.{Codec, Spelled}
use Rattle.ts_law.specs.Fresh.{id_in}
use Rattle.ts_law.specs.Kept.{Aims, Clean, Putting}
use Rattle.ts_law.specs.Stands.{IsNoLease}
use Rattle.ts_model.specs.Jobs.{key_of}
use Rattle.ts_model.specs.States.{delete_object_of, part_objects, schema_object_of}
use Rattle.ts_model.specs.Stages.{lease_of, mode_of}
use Rattle.ts_model.specs.Told.{Told}
use Rattle.ts_model.specs.declared.answers.Outcome.{Outcome}
use Rattle.ts_model.specs.declared.commands.Job.{Job}
use Rattle.ts_model.specs.declared.states.NewObject.{NewObject}
use Rattle.ts_model.proofs.ListLemmas.{slice_get_left, slice_get_push}
use Rattle.ts_base.specs.declared.names.Name.TheVariants as name
use Rattle.ts_base.specs.declared.names.Part.TheVariants as part_kind
use Rattle.ts_base.specs.contracts.names.PartPartialEq.TheImpl as part

-- the name carries the identifier, and is none of a lease
abbrev pub Carries : ℕ → Name → Type 0
Carries id n = (id_in n ≡ Some id) × IsNoLease n

-- so does the name of each of the objects
abbrev pub CarryAll : ℕ → List NewObject → Type 0
CarryAll id objects = (i : ℕ) (o : NewObject) → slice_get objects i ≡ Some o → Carries id o.name

-- the schema object of a job carries its identifier
pub schema_carries : (job : Job) (attrs : List Attr) → CarryAll job.id (schema_object_of job attrs ∷ [])
schema_carries job attrs zero o at = subst (λ x. Carries job.id x.name) (same_Some (schema_object_of job attrs) o at) (refl, tt)
schema_carries job attrs (suc i) o at = absurd (none-some o at)

-- the object of a delete job carries its identifier
pub delete_carries : (job : Job) (condition : Condition) → CarryAll job.id (delete_object_of job condition ∷ [])
delete_carries job condition zero o at = subst (λ x. Carries job.id x.name) (same_Some (delete_object_of job condition) o at) (refl, tt)
delete_carries job condition (suc i) o at = absurd (none-some o at)

-- the object of a part
abbrev pub part_object : FragKey → PartBytes → NewObject
part_object frag x = record { name = name.Part frag x.part; bytes = x.bytes }

-- an object at a place of the parts is that of the part there
part_at : (frag : FragKey) (parts : List PartBytes) (i : ℕ) (o : NewObject) → slice_get (part_objects frag parts) i ≡ Some o
    → (x : PartBytes) × (slice_get parts i ≡ Some x) × (o ≡ part_object frag x)
part_at frag parts i o at = from (slice_get parts i) refl (sym (slice_get-map (part_object frag) parts i) ∙ at)
  where
    from : (found : Option PartBytes) → slice_get parts i ≡ found → option_map (part_object frag) found ≡ Some o
        → (x : PartBytes) × (slice_get parts i ≡ Some x) × (o ≡ part_object frag x)
    from None is same = absurd (none-some o same)
    from (Some x) is same = (x, is, sym (same_Some (part_object frag x) o same))

-- there are as many objects as parts
pub part_count : (frag : FragKey) (parts : List PartBytes) → length (part_objects frag parts) ≡ length parts
part_count frag parts = length-map parts (part_object frag)

-- the objects of a write: those of its parts, and then the `.wrt`
abbrev pub objects_of : FragKey → List PartBytes → List NewObject
objects_of frag parts = part_objects frag parts ++ record { name = wrt_of frag; bytes = [] } ∷ []

-- the last item is at the place behind the others
pub last_at : (xs : List NewObject) (y : NewObject) → slice_get (xs ++ y ∷ []) (length xs) ≡ Some y
last_at [] y = refl
last_at (x ∷ xs) y = last_at xs y

-- the object of a part is at the place of the part
pub part_here : (frag : FragKey) (parts : List PartBytes) (i : ℕ) (x : PartBytes) → slice_get parts i ≡ Some x → slice_get (objects_of frag parts) i ≡ Some (part_object frag x)
part_here frag parts i x at =
    slice_get_left (part_objects frag parts) (record { name = wrt_of frag; bytes = [] } ∷ []) i (part_object frag x)
    (slice_get-map (part_object frag) parts i ∙ ap (option_map (part_object frag)) at)

-- one object more than parts
pub object_count : (frag : FragKey) (parts : List PartBytes) → length (objects_of frag parts) ≡ suc (length parts)
object_count frag parts = length-append (part_objects frag parts) (record { name = wrt_of frag; bytes = [] } ∷ []) ∙ omega (arith, part_count frag parts)

-- what a write puts at a place: a part, or last the `.wrt`
pub data PutAt (frag : FragKey) (parts : List PartBytes) (i : ℕ) (o : NewObject) : Type 0 where
  APart : (x : PartBytes) → slice_get parts i ≡ Some x → o ≡ part_object frag x → PutAt frag parts i o
  ACommit : i ≡ length parts → o ≡ record { name = wrt_of frag; bytes = [] } → PutAt frag parts i o

-- what is at a place of the objects of a write is a part there or the `.wrt`
pub put_at : (frag : FragKey) (parts : List PartBytes) (i : ℕ) (o : NewObject) → slice_get (objects_of frag parts) i ≡ Some o → PutAt frag parts i o
put_at frag parts i o at = elim (slice_get_push (part_objects frag parts) (record { name = wrt_of frag; bytes = [] }) i o at) [
  | inl part ↦ let found = part_at frag parts i o part in APart found.0 found.1 found.2
  | inr last ↦ ACommit (last.0 ∙ part_count frag parts) (sym last.1)
]

-- the objects of a write carry the identifier of its fragment
pub write_carries : (frag : FragKey) (parts : List PartBytes) → CarryAll frag.id (objects_of frag parts)
write_carries frag parts i o at = elim (put_at frag parts i o at) [
  | APart x is same ↦ subst (λ y. Carries frag.id y.name) (sym same) (refl, tt)
  | ACommit is same ↦ subst (λ y. Carries frag.id y.name) (sym same) (refl, tt)
]

-- no two parts of a list are one
abbrev pub IsOnce : List PartBytes → Type 0
IsOnce parts = (i k : ℕ) (x y : PartBytes) → slice_get parts i ≡ Some x → slice_get parts k ≡ Some y → x.part ≡ y.part → i ≡ k

-- one name of a fragment is of one part
same_part_name : (frag : FragKey) (p q : Part) → name.Part frag p ≡ name.Part frag q → p ≡ q
same_part_name frag p q same = cc

-- a part is no `.wrt`
part_no_commit : (frag : FragKey) (p : Part) → name.Part frag p ≡ wrt_of frag → ⊥
part_no_commit frag p same = cc

-- no two objects of a write have one name
pub objects_apart : (frag : FragKey) (parts : List PartBytes) → IsOnce parts → (i k : ℕ) (y z : NewObject)
    → slice_get (objects_of frag parts) i ≡ Some y → slice_get (objects_of frag parts) k ≡ Some z → y.name ≡ z.name → i ≡ k
objects_apart frag parts once i k y z at too same = elim (put_at frag parts i y at) [
  | APart x is named ↦ elim (put_at frag parts k z too) [
    | APart x' is' named' ↦ once i k x x' is is' (same_part_name frag x.part x'.part (ap (λ o. o.name) (sym named) ∙ same ∙ ap (λ o. o.name) named'))
    | ACommit is' named' ↦ absurd (part_no_commit frag x.part (ap (λ o. o.name) (sym named) ∙ same ∙ ap (λ o. o.name) named'))
  ]
  | ACommit is named ↦ elim (put_at frag parts k z too) [
    | APart x' is' named' ↦ absurd (part_no_commit frag x'.part (ap (λ o. o.name) (sym named') ∙ sym same ∙ ap (λ o. o.name) named))
    | ACommit is' named' ↦ is ∙ sym is'
  ]
]

-- parts that test equal are one
same_part : (p q : Part) → (part.ghosts).eq p q ≡ true → p ≡ q
same_part part_kind.Meta part_kind.Meta e = refl
same_part (part_kind.Attr n) (part_kind.Attr k) e = ap part_kind.Attr (eqb-true n k e)
same_part (part_kind.Var n) (part_kind.Var k) e = ap part_kind.Var (eqb-true n k e)
same_part (part_kind.Validity n) (part_kind.Validity k) e = ap part_kind.Validity (eqb-true n k e)
same_part (part_kind.Dim n) (part_kind.Dim k) e = ap part_kind.Dim (eqb-true n k e)
same_part part_kind.Origin part_kind.Origin e = refl
same_part part_kind.Plain part_kind.Plain e = refl
same_part _ _ e = cc

-- a part that a look finds in a list is at some place of it
pub look_finds : (parts : List PartBytes) (p : Part) (bytes : List ℕ) → look_in parts p ≡ Some bytes → (i : ℕ) × (slice_get parts i ≡ Some (record { part = p; bytes = bytes }))
look_finds [] p bytes e = absurd (none-some bytes e)
look_finds (x ∷ parts) p bytes e = elim ((part.ghosts).eq x.part p) as (λ b. (part.ghosts).eq x.part p ≡ b → cond b (Some x.bytes) (look_in parts p) ≡ Some bytes
    → (i : ℕ) × (slice_get (x ∷ parts) i ≡ Some (record { part = p; bytes = bytes }))) [
      | true ↦ λ same found. (0, λ i. Some (record { part = same_part x.part p same i; bytes = same_Some x.bytes bytes found i }))
      | false ↦ λ _ found. let later = look_finds parts p bytes found in (suc later.0, later.1)
    ] refl e

-- what is no lease is not that of a job
pub apart_from_lease : (job : Job) (n : Name) → IsNoLease n → lease_of job ≡ Some n → ⊥
apart_from_lease job n none = by_mode (mode_of job.command)
  where
    by_mode : (o : Option LeaseMode) → option_map (name.Lease (key_of job)) o ≡ Some n → ⊥
    by_mode None is = none-some n is
    by_mode (Some mode) is = subst IsNoLease (sym (same_Some (name.Lease (key_of job) mode) n is)) none

-- a job that puts nothing yet has the objects before it free, where nothing carries its identifier
pub begins_putting : {F : Type 0} (codec : Codec F) (spelled : Spelled) (opening : Held) (past : History) (jobs : List Job) (told : List Told) (n : Held) (number : ℕ) (job : Job) (objects : List NewObject) (end : Outcome)
    → Clean opening past jobs told n job → CarryAll job.id objects → 0 < length objects → Aims codec spelled opening past jobs told n number job objects end
    → Putting codec spelled opening past jobs told n number job objects 0 end
begins_putting codec spelled opening past jobs told n number job objects end clean carry some aims = record {
  held = λ i o before at. absurd (omega arith);
  short = λ i o before at. absurd (omega arith);
  free = λ i o behind at. let carries = carry i o at in clean.free o.name carries.0 (apart_from_lease job o.name carries.1);
  some = some;
  undone = clean.undone;
  unspent = clean.unspent;
  aims = aims;
}
