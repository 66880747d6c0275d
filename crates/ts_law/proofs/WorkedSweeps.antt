-- A vacuum on worked rows: what it removes over a small listing, its course, what it may look at, and how it ends.
use Rattle.std.proofs.Common.{inl, inr, ap, ◌∙◌, arith, ◌≡◌, ℕ, List, [], ◌∷◌, refl, sym, subst}
use Rattle.std.specs.Prelude.{Contains}
use Rattle.ts_base.specs.declared.keys.FragKey.{FragKey}
use Rattle.ts_base.specs.declared.keys.Key.{Key}
use Rattle.ts_base.specs.declared.names.Name.{Name}
use Rattle.ts_base.specs.declared.names.Name.TheVariants as name
use Rattle.ts_base.specs.declared.names.Part.TheVariants as part
use Rattle.ts_base.specs.Names.{wrt_of}
use Rattle.ts_commit.specs.declared.vacs.VacOf.{VacOf}
use Rattle.ts_commit.specs.Selections.{removal_set}
use Rattle.ts_store.specs.declared.call.Call.TheVariants as call
use Rattle.ts_store.specs.declared.call.Reply.TheVariants as reply
use Rattle.ts_model.specs.declared.commands.Command.TheVariants.{Vacuum}
use Rattle.ts_model.specs.declared.commands.Job.{Job}
use Rattle.ts_model.specs.declared.answers.Outcome.TheVariants as outcome
use Rattle.ts_model.specs.Codecs.{Codec}
use Rattle.ts_model.specs.States.{Exchange, counting_in, get_vac, list_commits, list_parts, list_schemas, names_removed, vac_of}
use Rattle.ts_model.proofs.ListLemmas.{Contains-cons, Contains-here, Contains-there, Contains-nil, Contains-only}
use Rattle.ts_law.specs.Courses.{EndsAlong, IsCurrentKey, IsLookOf, course_by}
use Rattle.ts_law.specs.Swept.{sweep_over}
use Rattle.ts_law.proofs.CourseSweeps.{found_swept}

-- ---- a listing

-- a fragment of one instant
abbrev one_at : ℕ → FragKey
one_at t = record { t1 = t; t2 = t; id = t; v = 1 }

-- a fragment that two of them were merged into
abbrev merged : FragKey
merged = record { t1 = 1; t2 = 2; id = 7; v = 1 }

-- a fragment that was merged and is not committed
abbrev unfinished : FragKey
unfinished = record { t1 = 3; t2 = 4; id = 8; v = 1 }

-- three fragments are committed, of which two were merged into the third; another one has its `.vac` alone
abbrev commits : List Name
commits = vac_of merged ∷ vac_of unfinished ∷ wrt_of (one_at 1) ∷ wrt_of (one_at 2) ∷ wrt_of merged ∷ []

-- the `.vac` of the third names the two
abbrev vacs : List VacOf
vacs = record { frag = merged; names = one_at 1 ∷ one_at 2 ∷ [] } ∷ []

-- it counts, and the other does not
one_counts : counting_in commits ≡ merged ∷ []
one_counts = refl

-- the two are to be removed
two_swept : removal_set vacs ≡ one_at 1 ∷ one_at 2 ∷ []
two_swept = refl

-- a part of a fragment
abbrev meta : FragKey → Name
meta f = name.Part f part.Meta

-- of the first of them a part was listed, and of the second none: the `.wrt` of each goes before its parts, and the `.vac` that named them goes last
abbrev all_names : List Name
all_names = wrt_of (one_at 1) ∷ meta (one_at 1) ∷ wrt_of (one_at 2) ∷ vac_of merged ∷ []

names_in_order : names_removed (sweep_over commits vacs) (one_at 1 ∷ one_at 2 ∷ []) ((meta (one_at 1) ∷ []) ∷ [] ∷ []) ≡ all_names
names_in_order = refl

-- a fragment that is not committed any more leaves its parts alone to remove
parts_alone : names_removed (sweep_over (vac_of merged ∷ wrt_of merged ∷ []) vacs) (one_at 1 ∷ one_at 2 ∷ []) ((meta (one_at 1) ∷ []) ∷ [] ∷ []) ≡ meta (one_at 1) ∷ vac_of merged ∷ []
parts_alone = refl

-- where the `.vac` of one of them was listed it goes with it, also where it does not count
own_vac_goes : names_removed (sweep_over (vac_of (one_at 1) ∷ vac_of merged ∷ wrt_of merged ∷ []) vacs) (one_at 1 ∷ []) ([] ∷ []) ≡ vac_of (one_at 1) ∷ vac_of merged ∷ []
own_vac_goes = refl

-- ---- the course

-- its course where it found them: the two listings, that of each fragment's parts, and the removals
vacuum_course : {F : Type 0} (codec : Codec F) (job : Job) → course_by codec job (found_swept (one_at 1 ∷ one_at 2 ∷ []) all_names) Vacuum
    ≡ list_commits ∷ list_schemas ∷ list_parts (one_at 1) ∷ list_parts (one_at 2) ∷ call.Remove (wrt_of (one_at 1)) ∷ call.Remove (meta (one_at 1)) ∷ call.Remove (wrt_of (one_at 2)) ∷ call.Remove (vac_of merged) ∷ []
vacuum_course codec job = refl

-- ---- what it may look at

-- the key of a schema at an instant before
abbrev first : Key
first = record { t = 1; id = 1 }

-- the listing of these commits, and then of a schema
abbrev commits_told : List Name → Exchange
commits_told names = record { call = list_commits; reply = reply.Names names }

abbrev schema_told : Exchange
schema_told = record { call = list_schemas; reply = reply.Names (name.Schema first ∷ []) }

abbrev told : List Name → List Exchange
told names = commits_told names ∷ schema_told ∷ []

-- a vacuum at a later instant
abbrev later : Job → Job
later any = record any { command = Vacuum; at = 5 }

-- it found the schema there
has_schema : (any : Job) (names : List Name) → IsCurrentKey (later any) (told names) first
has_schema any names = record { names = name.Schema first ∷ []; listed = Contains-there (commits_told names) (schema_told ∷ []) schema_told (Contains-here schema_told []); newest = refl }

-- it may get the `.vac` that counts
vacuum_looks : {F : Type 0} (codec : Codec F) (any : Job) → IsLookOf codec (later any) (found_swept [] []) (told commits) (get_vac merged)
vacuum_looks codec any = (first, has_schema any commits, merged, (commits, Contains-here (commits_told commits) (schema_told ∷ []), Contains-here merged []), refl)

-- but not the other one
vacuum_looks_not : {F : Type 0} (codec : Codec F) (any : Job) → IsLookOf codec (later any) (found_swept [] []) (told commits) (get_vac unfinished) → ⊥
vacuum_looks_not codec any (k, there, f, (names, listed, counts), same) = elim (Contains-cons (commits_told commits) (schema_told ∷ []) (commits_told names) listed) [
  | inl one ↦
      let replies : reply.Names commits ≡ reply.Names names = ap (λ x. x.reply) one in
      let is : commits ≡ names = cc in
      let among : merged ≡ f = Contains-only merged f (subst (λ ns. Contains (counting_in ns) f) (sym is) counts) in
      let other : unfinished ≡ f = cc in
      let ids : 7 ≡ 8 = ap (λ (g : FragKey). g.id) (among ∙ sym other) in
      omega (arith, ids)
  | inr next ↦
      let calls : list_schemas ≡ list_commits = ap (λ x. x.call) (Contains-only schema_told (commits_told names) next) in
      cc
]

-- nor any before it listed the schemas
vacuum_looks_not_yet : {F : Type 0} (codec : Codec F) (any : Job) → IsLookOf codec (later any) (found_swept [] []) (commits_told commits ∷ []) (get_vac merged) → ⊥
vacuum_looks_not_yet codec any (k, there, f, counts, same) =
    let calls : list_commits ≡ list_schemas = ap (λ x. x.call) (Contains-only (commits_told commits) (record { call = list_schemas; reply = reply.Names there.names }) there.listed) in
    cc

-- ---- ends

-- where no `.vac` counts it ends with none removed
nothing_removed : {F : Type 0} (codec : Codec F) (any : Job) → EndsAlong codec (later any) (found_swept [] []) (list_commits ∷ list_schemas ∷ []) (told (wrt_of (one_at 1) ∷ [])) (outcome.Vacuumed 0)
nothing_removed codec any = (
  (refl, (list_schemas ∷ [], inr refl, (refl, ([], inr refl, refl)))),
  refl,
  refl,
  record {
    chooses = record {
      key = first;
      current = has_schema any (wrt_of (one_at 1) ∷ []);
      names = wrt_of (one_at 1) ∷ [];
      listed = Contains-here (commits_told (wrt_of (one_at 1) ∷ [])) (schema_told ∷ []);
      vacs = [];
      all_vacs = refl;
      each_vac = λ v at. absurd (Contains-nil v at);
      is = refl;
    };
    listed = [];
    each_listed = tt;
    is = refl;
  },
)
