-- The calls of a vacuum at its work: it finds what to remove, and removes it.
use Rattle.std.proofs.Common.{length, ◌≡◌, ◌||◌, ℕ, ◌+◌, suc, Bool, true, false, cond, List, [], ◌∷◌, ◌++◌, drop, take, Option, Some, None, Result, Ok, Err, IsTrue, arith, refl, sym, ◌∙◌, ap, inl, inr, subst, slice_get, append_assoc}
use Rattle.std.specs.Prelude.{Contains, option_map, nat_lt, map as list_map}
use Rattle.std.proofs.lemmas.Bool.{ltb-false}
use Rattle.std.proofs.lemmas.List.{append-nil, take_all}
use Rattle.std.proofs.lemmas.List.Elements.{All-cons, Contains-append_left, Contains-push, Contains-push_cases}
use Rattle.std.proofs.lemmas.Option.{none-some, same_Some}
use Rattle.ts_base.specs.declared.keys.FragKey.{FragKey}
use Rattle.ts_base.specs.declared.keys.Key.{Key}
use Rattle.ts_base.specs.declared.names.Name.{Name}
use Rattle.ts_commit.specs.declared.vacs.VacOf.{VacOf}
use Rattle.ts_commit.specs.Selections.{removal_set}
use Rattle.ts_commit.specs.Vacs.{names_of}
use Rattle.ts_schema.specs.Evolutions.{schema_at}
use Rattle.ts_store.specs.declared.call.Call.{Call}
use Rattle.ts_store.specs.declared.call.Reply.{Reply}
use Rattle.ts_model.specs.declared.answers.Outcome.{Outcome}
use Rattle.ts_model.specs.declared.commands.Command.TheVariants.{Vacuum}
use Rattle.ts_model.specs.declared.commands.Job.{Job}
use Rattle.ts_model.specs.declared.states.State.{State}
use Rattle.ts_model.specs.declared.states.State.TheVariants.{Over, Sweeps}
use Rattle.ts_model.specs.declared.states.Sweep.{Sweep}
use Rattle.ts_model.specs.Codecs.{Codec}
use Rattle.ts_model.specs.Jobs.{looked_at}
use Rattle.ts_model.specs.States.{Exchange, after_swept, asks, asks_memory, counting_in, get_vac, goes, list_commits, list_parts, list_schemas, listing_parts, names_removed, on_bytes, on_names, on_read, removing, schemas_in, sweep_with, sweeping_vacs, takes_memory, vac_of, where_swept}
use Rattle.ts_model.proofs.ListLemmas.{Contains-nil, take_next}
use Rattle.ts_law.specs.Courses.{AreFound, ChoosesBy, EachListed, Found, GotNames, IsCurrentKey, RemovesBy, SaysFound, SweepsFound, lets_on, sweep_calls}
use Rattle.ts_law.specs.Swept.{sweep_over}
use Rattle.ts_law.proofs.CourseBacked.{AreBacked, parts_stay, swept_stays, told_among}
use Rattle.ts_law.proofs.CourseCalls.{Ends, Follows, Next, Well, WorkAsks, WorkEnds, drop_item, drop_past, ends_cons, ends_more, next_is, next_short, follows_ended, follows_refused, goes_none, item_in}
use Rattle.ts_law.proofs.CourseGrows.{AreAmong, among_more, key_stays, merged_nothing, names_stay}
use Rattle.ts_law.proofs.CourseMerges.{all_of_them, one_longer}
use Rattle.ts_law.proofs.CourseRemoves.{follows_removing, removes_go}
use Rattle.ts_law.proofs.CourseSeeks.{no_frame, no_schema}
use Rattle.ts_law.proofs.ReadSteps.{push_next}
use Rattle.ts_store.specs.declared.call.Call.TheVariants as call
use Rattle.ts_store.specs.declared.call.Reply.TheVariants as reply
use Rattle.ts_model.specs.declared.answers.Outcome.TheVariants as outcome
use Rattle.ts_model.specs.declared.answers.Refusal.TheVariants as refusal
use Rattle.ts_model.specs.declared.states.Sweeping.TheVariants as sweeping

-- what a vacuum found that is to remove the fragments of a set, and these names
abbrev pub found_swept : List FragKey → List Name → Found
found_swept set removed = record { taken = false; current = no_schema; frame = no_frame; merged = None; leases = []; swept = set; removed = removed }

-- the listings of the parts of these fragments, and the removals of these names
abbrev calls_left : List FragKey → List Name → List Call
calls_left set removed = list_map list_parts set ++ list_map call.Remove removed

module _ {F : Type 0} (codec : Codec F) (any : Job) where
  -- a job that vacuums
  abbrev sweeping_job : Job
  sweeping_job = record any { command = Vacuum }

  -- ---- what calls find

  -- what is found of an array is one of these
  module _ {I : Type 0} (found_of : I → Found) where
    -- the calls from a state on find something, say so and go along the course
    abbrev Finds : List Exchange → (I → List Call) → List Exchange → Outcome → State F → Type 0
    Finds seen course xs end s =
        WorkAsks codec sweeping_job s xs → WorkEnds codec sweeping_job s xs end
        → (i : I) × (AreFound sweeping_job (found_of i) xs × Ends codec sweeping_job seen (found_of i) (course i) xs end) × SweepsFound sweeping_job (found_of i) (seen ++ xs)

    -- so do the calls after one more, which leads to a state
    abbrev FindsAfter : List Exchange → (I → List Call) → Exchange → List Exchange → Outcome → State F → Type 0
    FindsAfter seen course x xs end s =
        WorkAsks codec sweeping_job s xs → WorkEnds codec sweeping_job s xs end
        → (i : I) × (AreFound sweeping_job (found_of i) (x ∷ xs) × Ends codec sweeping_job seen (found_of i) (course i) (x ∷ xs) end) × SweepsFound sweeping_job (found_of i) (seen ++ x ∷ xs)

    -- a call that a state asks, and what follows from where it leads
    finds_by : (seen : List Exchange) (course : I → List Call) (x : Exchange) (xs : List Exchange) (end : Outcome) (s : State F) (c : Call) → asks codec sweeping_job s ≡ Some c
        → FindsAfter seen course (record { call = c; reply = x.reply }) xs end (goes codec sweeping_job s x.reply) → Finds seen course (x ∷ xs) end s
    finds_by seen course x xs end s c is follows a e =
        subst
        (λ d. (i : I) × (AreFound sweeping_job (found_of i) (record { call = d; reply = x.reply } ∷ xs) × Ends codec sweeping_job seen (found_of i) (course i) (record { call = d; reply = x.reply } ∷ xs) end) × SweepsFound sweeping_job (found_of i) (seen ++ record { call = d; reply = x.reply } ∷ xs))
        (same_Some c x.call (sym is ∙ a.0)) (follows a.1 (ends_more codec sweeping_job (takes_memory s || asks_memory (goes codec sweeping_job s x.reply)) (goes codec sweeping_job s x.reply) xs end e))

    -- a call that leads on
    finds_on : (seen : List Exchange) (course rest : I → List Call) (x : Exchange) (xs : List Exchange) (end : Outcome) (s : State F) → IsTrue (lets_on x.call x.reply) → ((i : I) → Next codec sweeping_job seen (found_of i) (course i) x.call (rest i))
        → Finds (seen ++ x ∷ []) rest xs end s → FindsAfter seen course x xs end s
    finds_on seen course rest x xs end s on next goes_on a e =
        let (i, (told, ended), swept) = goes_on a e in (
          i,
          (All-cons (λ y. SaysFound (found_of i) Vacuum y.call y.reply) x xs tt told, ends_cons codec sweeping_job seen (found_of i) (course i) (rest i) x xs end on (next_is codec sweeping_job seen (found_of i) (course i) x.call (rest i) (next i)) (λ _ _. next_short codec sweeping_job seen (found_of i) (course i) x.call x.reply (rest i) (next i)) ended),
          subst (SweepsFound sweeping_job (found_of i)) (append_assoc seen (x ∷ []) xs) swept,
        )

    -- a call after which it is known what was found
    finds_with : (seen : List Exchange) (course : I → List Call) (x : Exchange) (xs : List Exchange) (end : Outcome) (s : State F) (i : I) → SweepsFound sweeping_job (found_of i) (seen ++ x ∷ []) → Follows codec sweeping_job seen (found_of i) (course i) x xs end s
        → FindsAfter seen course x xs end s
    finds_with seen course x xs end s i swept follows a e = (
      i,
      follows a e,
      subst (SweepsFound sweeping_job (found_of i)) (append_assoc seen (x ∷ []) xs)
          (swept_stays sweeping_job (found_of i) (seen ++ x ∷ []) ((seen ++ x ∷ []) ++ xs) (told_among (seen ++ x ∷ []) ((seen ++ x ∷ []) ++ xs) (λ y at. Contains-append_left (seen ++ x ∷ []) xs y at)) swept),
    )

    -- no call at all
    finds_none : (seen : List Exchange) (course : I → List Call) (end : Outcome) (s : State F) (i : I) → ((o : Outcome) → s ≡ Over o → ⊥) → SweepsFound sweeping_job (found_of i) seen → Finds seen course [] end s
    finds_none seen course end s i not_over swept a e = (i, goes_none codec sweeping_job seen (found_of i) (course i) end s not_over a e, subst (SweepsFound sweeping_job (found_of i)) (sym (append-nil seen)) swept)

  -- ---- the parts of the fragments that it removes, where it listed these commits

  module _ (names : List Name) where
    -- it knows a schema that holds at its stamp, listed the commits, and got these `.vac` objects, the first of those that count
    record HasSwept (seen : List Exchange) (vacs : List VacOf) : Type 0 where
      key : Key
      current : IsCurrentKey sweeping_job seen key
      listed : Contains seen (record { call = list_commits; reply = reply.Names names })
      vacs_are : list_map (λ v. v.frag) vacs ≡ take (length vacs) (counting_in names)
      each_vac : (v : VacOf) → Contains vacs v → GotNames seen v.frag v.names

    -- so it has after more calls
    swept_on : (a b : List Exchange) (vacs : List VacOf) → AreAmong a b → HasSwept a vacs → HasSwept b vacs
    swept_on a b vacs among has = record {
      key = has.key;
      current = key_stays sweeping_job a b has.key among has.current;
      listed = among _ has.listed;
      vacs_are = has.vacs_are;
      each_vac = λ v at. names_stay a b v.frag v.names among (has.each_vac v at);
    }

    -- with all of them it chose what to remove
    abbrev chosen : (seen : List Exchange) (vacs : List VacOf) → HasSwept seen vacs → list_map (λ v. v.frag) vacs ≡ counting_in names → ChoosesBy sweeping_job seen (removal_set vacs)
    chosen seen vacs has all = record { key = has.key; current = has.current; names = names; listed = has.listed; vacs = vacs; all_vacs = all; each_vac = has.each_vac; is = refl }

    module _ (vacs : List VacOf) (all : list_map (λ v. v.frag) vacs ≡ counting_in names) where
      -- the fragments that it removes
      abbrev set : List FragKey
      set = removal_set vacs

      -- what it knows of the array
      abbrev sweep : Sweep
      sweep = sweep_over names vacs

      -- it listed the parts of the first of the fragments
      record HasParts (seen : List Exchange) (listed : List (List Name)) : Type 0 where
        swept : HasSwept seen vacs
        each : EachListed seen (take (length listed) set) listed

      -- what it chose is so, and it is said to remove nothing yet
      choosing : (seen : List Exchange) (listed : List (List Name)) → HasParts seen listed → SweepsFound sweeping_job (found_swept set []) seen
      choosing seen listed has = (inr (chosen seen vacs has.swept all), inl refl)

      -- with one listing more
      each_push : (seen : List Exchange) (frags : List FragKey) (listed : List (List Name)) (f : FragKey) (parts : List Name) → EachListed seen frags listed → Contains seen (record { call = list_parts f; reply = reply.Names parts })
          → EachListed seen (frags ++ f ∷ []) (listed ++ parts ∷ [])
      each_push seen [] [] f parts each one = (one, tt)
      each_push seen (g ∷ frags) (some ∷ listed) f parts each one = (each.0, each_push seen frags listed f parts each.1 one)
      each_push seen [] (some ∷ listed) f parts each one = absurd each
      each_push seen (g ∷ frags) [] f parts each one = absurd each

      parts_push : (seen : List Exchange) (listed : List (List Name)) (f : FragKey) (parts : List Name) → slice_get set (length listed) ≡ Some f → HasParts seen listed
          → HasParts (seen ++ record { call = list_parts f; reply = reply.Names parts } ∷ []) (listed ++ parts ∷ [])
      parts_push seen listed f parts at has =
          let y : Exchange = record { call = list_parts f; reply = reply.Names parts } in
          let more = seen ++ y ∷ [] in
          let one : length (listed ++ parts ∷ []) ≡ length listed + 1 = one_longer listed parts ∙ omega arith in
          let longer : take (length (listed ++ parts ∷ [])) set ≡ take (length listed) set ++ f ∷ [] = ap (λ n. take n set) one ∙ take_next set (length listed) f at in
          record {
            swept = swept_on seen more vacs (among_more seen y) has.swept;
            each = subst (λ frags. EachListed more frags (listed ++ parts ∷ [])) (sym longer)
                (each_push more (take (length listed) set) listed f parts (parts_stay seen more (take (length listed) set) listed (told_among seen more (among_more seen y)) has.each) (Contains-push seen y));
          }

      -- with all of them it knows the names
      removing_by : (seen : List Exchange) (listed : List (List Name)) → HasParts seen listed → nat_lt (length listed) (length set) ≡ false → RemovesBy sweeping_job seen set (names_removed sweep set listed)
      removing_by seen listed has enough = record {
        chooses = chosen seen vacs has.swept all;
        listed = listed;
        each_listed = subst (λ frags. EachListed seen frags listed) (take_all (length listed) set (ltb-false (length listed) (length set) enough)) has.each;
        is = refl;
      }

      -- after a call, the parts of the next fragment are listed, or the names are removed
      follows_listing : (seen : List Exchange) (course : List Name → List Call) (x : Exchange) (xs : List Exchange) (end : Outcome) (listed : List (List Name)) → IsTrue (lets_on x.call x.reply)
          → ((removed : List Name) → Next codec sweeping_job seen (found_swept set removed) (course removed) x.call (calls_left (drop (length listed) set) removed))
          → HasParts (seen ++ x ∷ []) listed
          → Finds (found_swept set) (seen ++ x ∷ []) (calls_left (drop (length listed) set)) xs end (Sweeps (sweeping.ListsParts sweep set listed))
          → FindsAfter (found_swept set) seen course x xs end (listing_parts sweep set listed)
      follows_listing seen course x xs end listed on next has goes_on = by_count (nat_lt (length listed) (length set)) refl
        where
          removed : List Name
          removed = names_removed sweep set listed

          last : Outcome
          last = outcome.Vacuumed (length set)

          by_count : (b : Bool) → nat_lt (length listed) (length set) ≡ b → FindsAfter (found_swept set) seen course x xs end (cond b (Sweeps (sweeping.ListsParts sweep set listed)) (removing (names_removed sweep set listed) 0 (outcome.Vacuumed (length set))))
          by_count true some = finds_on (found_swept set) seen course (calls_left (drop (length listed) set)) x xs end (Sweeps (sweeping.ListsParts sweep set listed)) on next goes_on
          by_count false none =
              let by : RemovesBy sweeping_job (seen ++ x ∷ []) set removed = removing_by (seen ++ x ∷ []) listed has none in
              let well : Well codec sweeping_job (seen ++ x ∷ []) (found_swept set removed) last = (refl, refl, by) in
              let left : Next codec sweeping_job seen (found_swept set removed) (course removed) x.call (list_map call.Remove removed) =
              subst (λ frags. Next codec sweeping_job seen (found_swept set removed) (course removed) x.call (calls_left frags removed)) (drop_past set (length listed) none) (next removed) in
              finds_with (found_swept set) seen course x xs end (removing removed 0 last) removed (inr by.chooses, inr by)
              (follows_removing codec sweeping_job seen (found_swept set removed) (course removed) x xs end removed 0 last well tt on left
              (removes_go codec sweeping_job (seen ++ x ∷ []) (found_swept set removed) removed last well (λ n r. tt) xs end 0))

      -- a vacuum that lists parts
      listing_goes : (seen xs : List Exchange) (end : Outcome) (listed : List (List Name)) → HasParts seen listed → Finds (found_swept set) seen (calls_left (drop (length listed) set)) xs end (Sweeps (sweeping.ListsParts sweep set listed))
      listing_goes seen [] end listed has = finds_none (found_swept set) seen (calls_left (drop (length listed) set)) end (Sweeps (sweeping.ListsParts sweep set listed)) [] (λ o q. cc) (choosing seen listed has)
      listing_goes seen (x ∷ xs) end listed has = by_item (slice_get set (length listed)) refl (λ y more has_more. listing_goes (seen ++ y ∷ []) xs end more has_more)
        where
          here : State F
          here = Sweeps (sweeping.ListsParts sweep set listed)

          by_item : (i : Option FragKey) → slice_get set (length listed) ≡ i
              → ((y : Exchange) (more : List (List Name)) → HasParts (seen ++ y ∷ []) more → Finds (found_swept set) (seen ++ y ∷ []) (calls_left (drop (length more) set)) xs end (Sweeps (sweeping.ListsParts sweep set more)))
              → Finds (found_swept set) seen (calls_left (drop (length listed) set)) (x ∷ xs) end here
          by_item None is later = λ a e. absurd (none-some x.call (sym (ap (option_map list_parts) is) ∙ a.0))
          by_item (Some f) is later =
              let left : drop (length listed) set ≡ f ∷ drop (suc (length listed)) set = drop_item set (length listed) f is in
              finds_by (found_swept set) seen (calls_left (drop (length listed) set)) x xs end here (list_parts f) (ap (option_map list_parts) is)
              (subst (λ frags. FindsAfter (found_swept set) seen (calls_left frags) (record { call = list_parts f; reply = x.reply }) xs end (goes codec sweeping_job here x.reply)) (sym left) (rw is (by_reply x.reply)))
            where
              by_reply : (r : Reply) → FindsAfter (found_swept set) seen (calls_left (f ∷ drop (suc (length listed)) set)) (record { call = list_parts f; reply = r }) xs end (on_names (list_parts f) (λ parts. listing_parts sweep set (listed ++ parts ∷ [])) r)
              by_reply (reply.Names parts) =
                  let y : Exchange = record { call = list_parts f; reply = reply.Names parts } in
                  let more = parts_push seen listed f parts is has in
                  follows_listing seen (calls_left (f ∷ drop (suc (length listed)) set)) y xs end (listed ++ parts ∷ []) refl
                  (λ removed. inr (ap (λ n. list_parts f ∷ calls_left (drop n set) removed) (sym (one_longer listed parts)), tt)) more (later y (listed ++ parts ∷ []) more)
              by_reply r =
                  let y : Exchange = record { call = list_parts f; reply = r } in
                  finds_with (found_swept set) seen (calls_left (f ∷ drop (suc (length listed)) set)) y xs end (on_names (list_parts f) (λ parts. listing_parts sweep set (listed ++ parts ∷ [])) r) []
                  (swept_stays sweeping_job (found_swept set []) seen (seen ++ y ∷ []) (told_among seen (seen ++ y ∷ []) (among_more seen y)) (choosing seen listed has))
                  (follows_ended codec sweeping_job seen (found_swept set []) (calls_left (f ∷ drop (suc (length listed)) set) []) (calls_left (drop (suc (length listed)) set) []) (list_parts f) r xs end tt tt (inr (refl, tt)))

    -- ---- the `.vac` objects that count

    -- what it found, by what it is to remove
    abbrev found_pair : List FragKey × List Name → Found
    found_pair p = found_swept p.0 p.1

    -- all calls after the two listings
    abbrev calls_pair : List FragKey × List Name → List Call
    calls_pair p = calls_left p.0 p.1

    -- what is found of the names is found of both
    of_pair : (set : List FragKey) (seen : List Exchange) (course : List FragKey × List Name → List Call) (x : Exchange) (xs : List Exchange) (end : Outcome) (s : State F)
        → FindsAfter (found_swept set) seen (λ removed. course (set, removed)) x xs end s → FindsAfter found_pair seen course x xs end s
    of_pair set seen course x xs end s finds a e = let (removed, told, swept) = finds a e in ((set, removed), told, swept)

    -- after a call, the next `.vac` is got, or the parts are listed
    follows_sweeping : (seen : List Exchange) (course : List FragKey × List Name → List Call) (x : Exchange) (xs : List Exchange) (end : Outcome) (vacs : List VacOf) → IsTrue (lets_on x.call x.reply)
        → ((p : List FragKey × List Name) → Next codec sweeping_job seen (found_pair p) (course p) x.call (calls_pair p)) → HasSwept (seen ++ x ∷ []) vacs
        → Finds found_pair (seen ++ x ∷ []) calls_pair xs end (Sweeps (sweeping.GetsVacs (sweep_over names vacs))) → FindsAfter found_pair seen course x xs end (sweeping_vacs (sweep_over names vacs))
    follows_sweeping seen course x xs end vacs on next has goes_on = by_count (nat_lt (length vacs) (length (counting_in names))) refl
      where
        by_count : (b : Bool) → nat_lt (length vacs) (length (counting_in names)) ≡ b
            → FindsAfter found_pair seen course x xs end (cond b (Sweeps (sweeping.GetsVacs (sweep_over names vacs))) (listing_parts (sweep_over names vacs) (removal_set vacs) []))
        by_count true some = finds_on found_pair seen course calls_pair x xs end (Sweeps (sweeping.GetsVacs (sweep_over names vacs))) on next goes_on
        by_count false none =
            let all : list_map (λ v. v.frag) vacs ≡ counting_in names = all_of_them (λ (v : VacOf). v.frag) vacs (counting_in names) has.vacs_are none in
            let parts : HasParts vacs all (seen ++ x ∷ []) [] = record { swept = has; each = tt } in
            of_pair (removal_set vacs) seen course x xs end (listing_parts (sweep_over names vacs) (removal_set vacs) [])
            (follows_listing vacs all seen (λ removed. course (removal_set vacs, removed)) x xs end [] on (λ removed. next (removal_set vacs, removed)) parts (listing_goes vacs all (seen ++ x ∷ []) xs end [] parts))

    -- with one `.vac` more
    vac_push : (seen : List Exchange) (vacs : List VacOf) (f : FragKey) (bytes : List ℕ) (told : List FragKey) → slice_get (counting_in names) (length vacs) ≡ Some f → names_of bytes ≡ Ok told → HasSwept seen vacs
        → HasSwept (seen ++ record { call = get_vac f; reply = reply.Bytes bytes } ∷ []) (vacs ++ record { frag = f; names = told } ∷ [])
    vac_push seen vacs f bytes told at reads has = record {
      key = before.key;
      current = before.current;
      listed = before.listed;
      vacs_are = push_next (λ (v : VacOf). v.frag) vacs v (counting_in names) has.vacs_are at;
      each_vac = λ w among. elim (Contains-push_cases vacs v w among) [
        | inl old ↦ before.each_vac w old
        | inr same ↦ subst (λ u. GotNames more u.frag u.names) same (bytes, Contains-push seen y, reads)
      ];
    }
      where
        y : Exchange
        y = record { call = get_vac f; reply = reply.Bytes bytes }

        more : List Exchange
        more = seen ++ y ∷ []

        v : VacOf
        v = record { frag = f; names = told }

        before : HasSwept more vacs
        before = swept_on seen more vacs (among_more seen y) has

    -- a vacuum that gets its `.vac` objects
    vacs_go : (seen xs : List Exchange) (end : Outcome) (vacs : List VacOf) → HasSwept seen vacs → Finds found_pair seen calls_pair xs end (Sweeps (sweeping.GetsVacs (sweep_over names vacs)))
    vacs_go seen [] end vacs has = finds_none found_pair seen calls_pair end (Sweeps (sweeping.GetsVacs (sweep_over names vacs))) ([], []) (λ o q. cc) (inl refl, inl refl)
    vacs_go seen (x ∷ xs) end vacs has = by_item (slice_get (counting_in names) (length vacs)) refl (λ y more has_more. vacs_go (seen ++ y ∷ []) xs end more has_more)
      where
        here : State F
        here = Sweeps (sweeping.GetsVacs (sweep_over names vacs))

        by_item : (i : Option FragKey) → slice_get (counting_in names) (length vacs) ≡ i
            → ((y : Exchange) (more : List VacOf) → HasSwept (seen ++ y ∷ []) more → Finds found_pair (seen ++ y ∷ []) calls_pair xs end (Sweeps (sweeping.GetsVacs (sweep_over names more)))) → Finds found_pair seen calls_pair (x ∷ xs) end here
        by_item None is later = λ a e. absurd (none-some x.call (sym (ap (option_map get_vac) is) ∙ a.0))
        by_item (Some f) is later = finds_by found_pair seen calls_pair x xs end here (get_vac f) (ap (option_map get_vac) is) (rw is (by_reply x.reply))
          where
            look : (p : List FragKey × List Name) → Next codec sweeping_job seen (found_pair p) (calls_pair p) (get_vac f) (calls_pair p)
            look p = inl ((has.key, has.current, f, (names, has.listed, item_in (counting_in names) (length vacs) f is), refl), refl)

            by_names : (bytes : List ℕ) (told : Result (List FragKey) ℕ) → names_of bytes ≡ told
                → FindsAfter found_pair seen calls_pair (record { call = get_vac f; reply = reply.Bytes bytes }) xs end (on_read (vac_of f) (λ told. sweeping_vacs (sweep_with (sweep_over names vacs) f told)) told)
            by_names bytes (Ok told) reads =
                let y : Exchange = record { call = get_vac f; reply = reply.Bytes bytes } in
                let more : HasSwept (seen ++ y ∷ []) (vacs ++ record { frag = f; names = told } ∷ []) = vac_push seen vacs f bytes told is reads has in
                follows_sweeping seen calls_pair y xs end (vacs ++ record { frag = f; names = told } ∷ []) refl look more (later y (vacs ++ record { frag = f; names = told } ∷ []) more)
            by_names bytes (Err at) reads =
                let y : Exchange = record { call = get_vac f; reply = reply.Bytes bytes } in
                finds_with found_pair seen calls_pair y xs end (on_read (vac_of f) (λ told. sweeping_vacs (sweep_with (sweep_over names vacs) f told)) (Err at)) ([], []) (inl refl, inl refl)
                (follows_refused codec sweeping_job seen (found_pair ([], [])) [] [] y xs end (refusal.Damaged (vac_of f) at) tt (look ([], [])) (inl (bytes, Contains-push seen y, reads)))

            by_reply : (r : Reply) → FindsAfter found_pair seen calls_pair (record { call = get_vac f; reply = r }) xs end (on_bytes (get_vac f) (after_swept (sweep_over names vacs) f) r)
            by_reply (reply.Bytes bytes) = by_names bytes (names_of bytes) refl
            by_reply r =
                finds_with found_pair seen calls_pair (record { call = get_vac f; reply = r }) xs end (on_bytes (get_vac f) (after_swept (sweep_over names vacs) f) r) ([], []) (inl refl, inl refl)
                (follows_ended codec sweeping_job seen (found_pair ([], [])) [] [] (get_vac f) r xs end tt tt (look ([], [])))

    -- ---- the listings before

    -- the listing of the schemas
    schemas_go : (seen xs : List Exchange) (end : Outcome) → Contains seen (record { call = list_commits; reply = reply.Names names }) → Finds found_pair seen (λ p. list_schemas ∷ calls_pair p) xs end (Sweeps (sweeping.ListsSchemas (sweep_over names [])))
    schemas_go seen [] end listed = finds_none found_pair seen (λ p. list_schemas ∷ calls_pair p) end (Sweeps (sweeping.ListsSchemas (sweep_over names []))) ([], []) (λ o q. cc) (inl refl, inl refl)
    schemas_go seen (x ∷ xs) end listed = finds_by found_pair seen (λ p. list_schemas ∷ calls_pair p) x xs end here list_schemas refl (by_reply x.reply)
      where
        here : State F
        here = Sweeps (sweeping.ListsSchemas (sweep_over names []))

        by_key : (declared : List Name) (k : Option Key) → schema_at (schemas_in declared) (looked_at sweeping_job) ≡ k
            → FindsAfter found_pair seen (λ p. list_schemas ∷ calls_pair p) (record { call = list_schemas; reply = reply.Names declared }) xs end (where_swept (sweep_over names []) (looked_at sweeping_job) k)
        by_key declared (Some k) holds =
            let y : Exchange = record { call = list_schemas; reply = reply.Names declared } in
            let has : HasSwept (seen ++ y ∷ []) [] = record {
              key = k;
              current = record { names = declared; listed = Contains-push seen y; newest = holds };
              listed = among_more seen y _ listed;
              vacs_are = refl;
              each_vac = λ v at. absurd (Contains-nil v at);
            } in
            follows_sweeping seen (λ p. list_schemas ∷ calls_pair p) y xs end [] refl (λ p. inr (refl, tt)) has (vacs_go (seen ++ y ∷ []) xs end [] has)
        by_key declared None holds =
            let y : Exchange = record { call = list_schemas; reply = reply.Names declared } in
            finds_with found_pair seen (λ p. list_schemas ∷ calls_pair p) y xs end (where_swept (sweep_over names []) (looked_at sweeping_job) None) ([], []) (inl refl, inl refl)
            (follows_refused codec sweeping_job seen (found_pair ([], [])) (list_schemas ∷ []) [] y xs end (refusal.NoSchema (looked_at sweeping_job)) tt (inr (refl, tt)) (tt, declared, refl, refl, holds))

        by_reply : (r : Reply) → FindsAfter found_pair seen (λ p. list_schemas ∷ calls_pair p) (record { call = list_schemas; reply = r }) xs end (goes codec sweeping_job here r)
        by_reply (reply.Names declared) = by_key declared (schema_at (schemas_in declared) (looked_at sweeping_job)) refl
        by_reply r =
            finds_with found_pair seen (λ p. list_schemas ∷ calls_pair p) (record { call = list_schemas; reply = r }) xs end (goes codec sweeping_job here r) ([], []) (inl refl, inl refl)
            (follows_ended codec sweeping_job seen (found_pair ([], [])) (list_schemas ∷ []) [] list_schemas r xs end tt tt (inr (refl, tt)))

  -- ---- from its first call on

  -- a vacuum goes along its course, and ends by it
  pub sweep_finds : (before xs : List Exchange) (end : Outcome) → WorkAsks codec sweeping_job (Sweeps sweeping.ListsCommits) xs → WorkEnds codec sweeping_job (Sweeps sweeping.ListsCommits) xs end
      → (found : Found) × (AreFound sweeping_job found xs × Ends codec sweeping_job before found (list_commits ∷ list_schemas ∷ sweep_calls found) xs end) × AreBacked codec sweeping_job found (before ++ xs)
  sweep_finds before xs end a e =
      let (p, told, swept) = by_calls xs a e in
      (found_swept p.0 p.1, told, (merged_nothing codec sweeping_job (found_swept p.0 p.1) (before ++ xs) refl, swept))
    where
      here : State F
      here = Sweeps sweeping.ListsCommits

      course : List FragKey × List Name → List Call
      course p = list_commits ∷ list_schemas ∷ calls_left p.0 p.1

      of_both : List FragKey × List Name → Found
      of_both p = found_swept p.0 p.1

      by_reply : (r : Reply) (ys : List Exchange) → FindsAfter of_both before course (record { call = list_commits; reply = r }) ys end (goes codec sweeping_job here r)
      by_reply (reply.Names names) ys =
          let y : Exchange = record { call = list_commits; reply = reply.Names names } in
          finds_on of_both before course (λ p. list_schemas ∷ calls_left p.0 p.1) y ys end (Sweeps (sweeping.ListsSchemas (sweep_over names []))) refl (λ p. inr (refl, tt)) (schemas_go names (before ++ y ∷ []) ys end (Contains-push before y))
      by_reply r ys =
          finds_with of_both before course (record { call = list_commits; reply = r }) ys end (goes codec sweeping_job here r) ([], []) (inl refl, inl refl)
          (follows_ended codec sweeping_job before (of_both ([], [])) (course ([], [])) (list_schemas ∷ []) list_commits r ys end tt tt (inr (refl, tt)))

      by_calls : (ys : List Exchange) → Finds of_both before course ys end here
      by_calls [] = finds_none of_both before course end here ([], []) (λ o q. cc) (inl refl, inl refl)
      by_calls (x ∷ ys) = finds_by of_both before course x ys end here list_commits refl (by_reply x.reply ys)
