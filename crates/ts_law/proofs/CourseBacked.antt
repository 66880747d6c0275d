-- What a job is said to have merged or to remove is so by what it was told, also before more calls.
use Rattle.std.proofs.Common.{◌≡◌, ℕ, List, [], ◌∷◌, ◌++◌, None, inl, inr}
use Rattle.std.specs.Prelude.{Contains}
use Rattle.std.proofs.lemmas.List.Elements.{Contains-append_left}
use Rattle.ts_base.specs.declared.keys.FragKey.{FragKey}
use Rattle.ts_base.specs.declared.names.Name.{Name}
use Rattle.ts_store.specs.declared.call.Reply.TheVariants as reply
use Rattle.ts_model.specs.declared.commands.Job.{Job}
use Rattle.ts_model.specs.Codecs.{Codec}
use Rattle.ts_model.specs.States.{Exchange, get_vac, list_commits, list_parts, list_schemas}
use Rattle.ts_law.specs.Courses.{ChoosesBy, EachListed, Found, MergesFound, RemovesBy, SweepsFound}
use Rattle.ts_law.proofs.CourseGrows.{AreAmong, merged_nothing, merged_stays}

-- ---- what a vacuum removes

-- calls that tell something are among others
abbrev pub AreTold : List Exchange → List Exchange → Type 0
AreTold a b = (x : Exchange) → (x.reply ≡ reply.NoMemory → ⊥) → Contains a x → Contains b x

-- calls that are among others tell so there
pub told_among : (a b : List Exchange) → AreAmong a b → AreTold a b
told_among a b among x tells at = among x at

-- names are told, and bytes are
names_tell : (names : List Name) → reply.Names names ≡ reply.NoMemory → ⊥
names_tell names e = cc

bytes_tell : (bytes : List ℕ) → reply.Bytes bytes ≡ reply.NoMemory → ⊥
bytes_tell bytes e = cc

-- what it chose
abbrev chosen_stays : (job : Job) (a b : List Exchange) (set : List FragKey) → AreTold a b → ChoosesBy job a set → ChoosesBy job b set
chosen_stays job a b set told is = record {
  key = is.key;
  current = record { names = is.current.names; listed = told (record { call = list_schemas; reply = reply.Names is.current.names }) (names_tell is.current.names) is.current.listed; newest = is.current.newest };
  names = is.names;
  listed = told (record { call = list_commits; reply = reply.Names is.names }) (names_tell is.names) is.listed;
  vacs = is.vacs;
  all_vacs = is.all_vacs;
  each_vac = λ v at. let (bytes, got, reads) = is.each_vac v at in (bytes, told (record { call = get_vac v.frag; reply = reply.Bytes bytes }) (bytes_tell bytes) got, reads);
  is = is.is;
}

-- the parts that it listed
pub parts_stay : (a b : List Exchange) (set : List FragKey) (listed : List (List Name)) → AreTold a b → EachListed a set listed → EachListed b set listed
parts_stay a b [] [] told each = tt
parts_stay a b (f ∷ set) (names ∷ listed) told each = (told (record { call = list_parts f; reply = reply.Names names }) (names_tell names) each.0, parts_stay a b set listed told each.1)
parts_stay a b [] (names ∷ listed) told each = absurd each
parts_stay a b (f ∷ set) [] told each = absurd each

-- the names that it removes
pub removed_stays : (job : Job) (a b : List Exchange) (set : List FragKey) (removed : List Name) → AreTold a b → RemovesBy job a set removed → RemovesBy job b set removed
removed_stays job a b set removed told is = record {
  chooses = chosen_stays job a b set told is.chooses;
  listed = is.listed;
  each_listed = parts_stay a b set is.listed told is.each_listed;
  is = is.is;
}

-- all that it is said to remove
pub swept_stays : (job : Job) (found : Found) (a b : List Exchange) → AreTold a b → SweepsFound job found a → SweepsFound job found b
swept_stays job found a b told (chooses, removes) = (
  elim chooses [ inl none ↦ inl none | inr is ↦ inr (chosen_stays job a b found.swept told is) ],
  elim removes [ inl none ↦ inl none | inr is ↦ inr (removed_stays job a b found.swept found.removed told is) ],
)

-- ---- what a job is said to have done

-- a job merged nothing, and knows of nothing to remove
abbrev pub IsIdle : Found → Type 0
IsIdle found = (found.merged ≡ None) × (found.swept ≡ []) × (found.removed ≡ [])

module _ {F : Type 0} (codec : Codec F) where
  -- what a job is said to have merged or to remove is so by what it was told
  abbrev pub AreBacked : Job → Found → List Exchange → Type 0
  AreBacked job found trace = MergesFound codec job found trace × SweepsFound job found trace

  -- also where it was told more
  pub backed_stays : (job : Job) (found : Found) (trace more : List Exchange) → AreBacked job found trace → AreBacked job found (trace ++ more)
  backed_stays job found trace more (merges, sweeps) = (merged_stays codec job found trace more merges, swept_stays job found trace (trace ++ more) (told_among trace (trace ++ more) (λ x at. Contains-append_left trace more x at)) sweeps)

  -- one that did neither is not said to have done so
  pub backed_idle : (job : Job) (found : Found) (trace : List Exchange) → IsIdle found → AreBacked job found trace
  backed_idle job found trace idle = (merged_nothing codec job found trace idle.0, (inl idle.1, inl idle.2))
