-- What a job was told before some calls it was told before more of them too.
use Rattle.std.proofs.Common.{◌≡◌, ℕ, List, [], ◌∷◌, ◌++◌, None, Result, Ok, inl, inr, sym, ◌∙◌, ap, append_assoc}
use Rattle.std.specs.Prelude.{Contains, filter}
use Rattle.std.proofs.lemmas.List.Elements.{Contains-append_left}
use Rattle.std.proofs.lemmas.Option.{none-some}
use Rattle.ts_base.specs.declared.keys.Key.{Key}
use Rattle.ts_base.specs.declared.keys.FragKey.{FragKey}
use Rattle.ts_base.specs.declared.names.Name.{Name}
use Rattle.ts_schema.specs.declared.schemas.Schema.{Schema}
use Rattle.ts_schema.specs.declared.wants.Want.{Want}
use Rattle.ts_store.specs.declared.call.Call.{Call}
use Rattle.ts_store.specs.declared.call.Reply.{Reply}
use Rattle.ts_model.specs.declared.commands.Job.{Job}
use Rattle.ts_model.specs.Codecs.{Codec}
use Rattle.ts_model.specs.States.{Exchange, deletes_in, meets}
use Rattle.ts_base.specs.declared.heads.Head.{Head}
use Rattle.ts_base.specs.declared.heads.Version.{Version}
use Rattle.ts_commit.specs.declared.vacs.Planned.{Planned}
use Rattle.ts_commit.specs.declared.vacs.Planned.TheVariants as planned
use Rattle.ts_model.specs.declared.commands.Command.{Command}
use Rattle.ts_model.specs.declared.commands.Command.TheVariants.{Create, Evolve, Write, Read, Delete, Consolidate, Vacuum, Unlock, Fragments}
use Rattle.ts_model.specs.declared.deeds.Deletion.{Deletion}
use Rattle.ts_model.specs.declared.states.Opened.{Opened}
use Rattle.ts_law.specs.Courses.{AreDeletesOf, Found, GotDelete, IsWantOf, Merge, MergesFound, GotHead, GotNames, GotSchema, HasOpened, HasTaken, EachTaken, IsFramed, IsCurrentKey, IsGot, IsNamedFor, IsOpened, IsFetched, IsUnderWay, IsListedIn, IsListedInside, IsCountingIn, IsMergeBy, PlansBy}

-- the calls of the first list are calls of the second
abbrev pub AreAmong : List Exchange → List Exchange → Type 0
AreAmong a b = (x : Exchange) → Contains a x → Contains b x

-- calls are among them with one more
pub among_more : (a : List Exchange) (x : Exchange) → AreAmong a (a ++ x ∷ [])
among_more a x y at = Contains-append_left a (x ∷ []) y at

-- a schema that was got
pub schema_stays : (a b : List Exchange) (s : Schema) → AreAmong a b → GotSchema a s → GotSchema b s
schema_stays a b s among (bytes, got, is) = (bytes, among _ got, is)

-- the key of the schema there
pub key_stays : (job : Job) (a b : List Exchange) (k : Key) → AreAmong a b → IsCurrentKey job a k → IsCurrentKey job b k
key_stays job a b k among is = record { names = is.names; listed = among _ is.listed; newest = is.newest }

-- all that a job found
pub got_stays : (job : Job) (found : Found) (a b : List Exchange) → AreAmong a b → IsGot job found a → IsGot job found b
got_stays job found a b among got = record {
  key = key_stays job a b (found.current).key among got.key;
  schema = schema_stays a b found.current among got.schema;
  frame_bytes = got.frame_bytes;
  frame_got = among _ got.frame_got;
  frame_is = got.frame_is;
}

-- a fragment or a delete that was listed
pub listed_stays : (kind : List Name → List FragKey) (a b : List Exchange) (from to : ℕ) (f : FragKey) → AreAmong a b → IsListedIn kind a from to f → IsListedIn kind b from to f
listed_stays kind a b from to f among (names, told, has, in_time) = (names, among _ told, has, in_time)

-- a fragment whose `.vac` counts
pub counting_stays : (a b : List Exchange) (f : FragKey) → AreAmong a b → IsCountingIn a f → IsCountingIn b f
counting_stays a b f among (names, told, has) = (names, among _ told, has)

-- the frame alone
pub framed_stays : (found : Found) (a b : List Exchange) → AreAmong a b → IsFramed found a → IsFramed found b
framed_stays found a b among framed = record { frame_bytes = framed.frame_bytes; frame_got = among _ framed.frame_got; frame_is = framed.frame_is }

-- a fragment in the interval of a consolidation
pub inside_stays : (a b : List Exchange) (from to : ℕ) (f : FragKey) → AreAmong a b → IsListedInside a from to f → IsListedInside b from to f
inside_stays a b from to f among (names, told, has, in_time) = (names, among _ told, has, in_time)

-- what a `.vac` names
pub names_stay : (a b : List Exchange) (f : FragKey) (names : List FragKey) → AreAmong a b → GotNames a f names → GotNames b f names
names_stay a b f names among (bytes, told, is) = (bytes, among _ told, is)

-- the deletes that a read was told
pub deletes_stay : (a b : List Exchange) (names : List FragKey) (erased : List Deletion) → AreAmong a b → AreDeletesOf a names erased → AreDeletesOf b names erased
deletes_stay a b [] [] among are = are
deletes_stay a b [] (e ∷ erased) among are = absurd are
deletes_stay a b (f ∷ names) [] among are = absurd are
deletes_stay a b (f ∷ names) (e ∷ erased) among ((bytes, condition, told, spells, is), are) = ((bytes, condition, among _ told, spells, is), deletes_stay a b names erased among are)

-- one more of them
pub deletes_more : (a : List Exchange) (names : List FragKey) (erased : List Deletion) (f : FragKey) (e : Deletion) → AreDeletesOf a names erased → GotDelete a f e → AreDeletesOf a (names ++ f ∷ []) (erased ++ e ∷ [])
deletes_more a [] [] f e are got = (got, tt)
deletes_more a [] (d ∷ erased) f e are got = absurd are
deletes_more a (g ∷ names) [] f e are got = absurd are
deletes_more a (g ∷ names) (d ∷ erased) f e are got = (are.0, deletes_more a names erased f e are.1 got)

-- what is wanted of a fragment
pub want_stays : (found : Found) (a b : List Exchange) (command : Command) (s : Schema) (want : Want) → AreAmong a b → IsWantOf found a command s want → IsWantOf found b command s want
want_stays found a b (Read from to query) s want among (r, by, is) = (
  r,
  record {
    from_is = by.from_is;
    to_is = by.to_is;
    frame_is = by.frame_is;
    there_is = by.there_is;
    is_ready = by.is_ready;
    names = by.names;
    listed = among _ by.listed;
    deletes = deletes_stay a b (filter (meets from to) (deletes_in by.names)) r.deletions among by.deletes;
  },
  is,
)
want_stays found a b (Consolidate from to limits) s want among is = is
want_stays found a b (Create f) s want among is = is
want_stays found a b (Evolve change) s want among is = is
want_stays found a b (Write w) s want among is = is
want_stays found a b (Delete text) s want among is = is
want_stays found a b Vacuum s want among is = is
want_stays found a b (Unlock seed lane) s want among is = is
want_stays found a b Fragments s want among is = is

module _ {F : Type 0} (codec : Codec F) where
  -- the head of a fragment
  pub head_stays : (found : Found) (a b : List Exchange) (f : FragKey) (head : Head) → AreAmong a b → GotHead codec found a f head → GotHead codec found b f head
  head_stays found a b f head among (object, told, is) = (object, among _ told, is)

  -- the schema in which a fragment is opened
  named_stays : (command : Command) (found : Found) (a b : List Exchange) (head : Head) (s : Schema) → AreAmong a b → IsNamedFor codec found a command head s → IsNamedFor codec found b command head s
  named_stays (Consolidate from to limits) found a b head s among (f, first, got, same) = (f, first, head_stays found a b f first among got, same)
  named_stays (Create f) found a b head s among same = same
  named_stays (Evolve change) found a b head s among same = same
  named_stays (Write w) found a b head s among same = same
  named_stays (Read from to query) found a b head s among same = same
  named_stays (Delete text) found a b head s among same = same
  named_stays Vacuum found a b head s among same = same
  named_stays (Unlock seed lane) found a b head s among same = same
  named_stays Fragments found a b head s among same = same

  -- a fragment that was opened
  pub opened_stays : (job : Job) (found : Found) (a b : List Exchange) (frag : FragKey) (opening : Result F ℕ) → AreAmong a b → IsOpened codec job found a frag opening → IsOpened codec job found b frag opening
  opened_stays job found a b frag opening among is = record {
    object = is.object;
    got = among _ is.got;
    head = is.head;
    reads = is.reads;
    schema = is.schema;
    schema_got = schema_stays a b is.schema among is.schema_got;
    named = named_stays job.command found a b is.head is.schema among is.named;
    want = is.want;
    wants = want_stays found a b job.command is.schema is.want among is.wants;
    opens = is.opens;
  }

  -- how far a fetch came
  pub fetched_stays : (a b : List Exchange) (f : F) (c : Call) (replies : List Reply) (g : F) (d : Call) → AreAmong a b → IsFetched codec a f c replies g d → IsFetched codec b f c replies g d
  fetched_stays a b f c [] g d among is = is
  fetched_stays a b f c (r ∷ replies) g d among (told, h, e, asks, more) = (among _ told, h, e, asks, fetched_stays a b h e replies g d among more)

  -- a fetch that is under way
  pub way_stays : (job : Job) (found : Found) (a b : List Exchange) (frag : FragKey) (fetch : F) (c : Call) → AreAmong a b → IsUnderWay codec job found a frag fetch c → IsUnderWay codec job found b frag fetch c
  way_stays job found a b frag fetch c among way = record {
    first = way.first;
    opened = opened_stays job found a b frag (Ok way.first) among way.opened;
    begun = way.begun;
    asked = way.asked;
    begins = way.begins;
    replies = way.replies;
    fetched = fetched_stays a b way.begun way.asked way.replies fetch c among way.fetched;
  }

  -- an opened fragment
  pub open_stays : (found : Found) (a b : List Exchange) (o : Opened) → AreAmong a b → HasOpened codec found a o → HasOpened codec found b o
  open_stays found a b o among (told, is) = (among _ told, is)

  -- a fetch that has all versions
  pub taken_stays : (job : Job) (found : Found) (a b : List Exchange) (f : FragKey) (vs : List Version) → AreAmong a b → HasTaken codec job found a f vs → HasTaken codec job found b f vs
  taken_stays job found a b f vs among (fetch, inl (opened, takes)) = (fetch, inl (opened_stays job found a b f (Ok fetch) among opened, takes))
  taken_stays job found a b f vs among (fetch, inr (x, way, told, takes)) = (fetch, inr (x, way_stays job found a b f fetch x.call among way, among x told, takes))

  -- so have those of several fragments
  pub each_stays : (job : Job) (found : Found) (a b : List Exchange) (sources : List Opened) (got : List (List Version)) → AreAmong a b → EachTaken codec job found a sources got → EachTaken codec job found b sources got
  each_stays job found a b [] [] among each = tt
  each_stays job found a b (o ∷ sources) (vs ∷ got) among each = (taken_stays job found a b o.frag vs among each.0, each_stays job found a b sources got among each.1)
  each_stays job found a b [] (vs ∷ got) among each = absurd each
  each_stays job found a b (o ∷ sources) [] among each = absurd each

  -- the plan of a consolidation
  abbrev plans_stay : (job : Job) (found : Found) (a b : List Exchange) (plan : Planned) → AreAmong a b → PlansBy codec job found a plan → PlansBy codec job found b plan
  plans_stay job found a b plan among is = record {
    from = is.from;
    to = is.to;
    limits = is.limits;
    merges = is.merges;
    framed = framed_stays found a b among is.framed;
    names = is.names;
    listed = among _ is.listed;
    opened = is.opened;
    all_opened = is.all_opened;
    each_opened = λ o at. open_stays found a b o among (is.each_opened o at);
    vacs = is.vacs;
    all_vacs = is.all_vacs;
    each_vac = λ v at. names_stay a b v.frag v.names among (is.each_vac v at);
    attributes = is.attributes;
    counted = λ o at. let (s, same, got, count) = is.counted o at in (s, same, schema_stays a b s among got, count);
    is = is.is;
  }

  -- what a consolidation merged
  pub merge_stays : (job : Job) (found : Found) (a b : List Exchange) (merge : Merge) (count : ℕ) → AreAmong a b → IsMergeBy codec job found a merge count → IsMergeBy codec job found b merge count
  merge_stays job found a b merge count among is = record {
    chosen = is.chosen;
    by_plan = plans_stay job found a b (planned.Take is.chosen) among is.by_plan;
    first = is.first;
    others = is.others;
    sources = is.sources;
    counted = is.counted;
    schema_got = schema_stays a b merge.schema among is.schema_got;
    schema_named = is.schema_named;
    got = is.got;
    each_taken = each_stays job found a b (is.first ∷ is.others) is.got among is.each_taken;
    piece = is.piece;
    names = is.names;
  }

  -- what was merged
  pub merged_stays : (job : Job) (found : Found) (trace more : List Exchange) → MergesFound codec job found trace → MergesFound codec job found (trace ++ more)
  merged_stays job found trace more merges merge some =
      let has = merges merge some in
      record {
        front = has.front;
        last = has.last;
        later = has.later ++ more;
        parts = ap (λ t. t ++ more) has.parts ∙ append_assoc has.front (has.last ∷ has.later) more;
        was_told = has.was_told;
        count = has.count;
        by_told = has.by_told;
      }

  -- a job that merged nothing is not said to have merged anything
  pub merged_nothing : (job : Job) (found : Found) (trace : List Exchange) → found.merged ≡ None → MergesFound codec job found trace
  merged_nothing job found trace none merge some = absurd (none-some merge (sym none ∙ some))
