-- Where the steps of fetches lead a read.
use Rattle.std.proofs.Common.{◌≡◌, ℕ, suc, zero, false, cond, nat_lt, length, List, [], ◌∷◌, ◌++◌, Option, Some, None, Result, Ok, Err, drop, refl, sym, ap, ◌∙◌}
use Rattle.std.specs.Prelude.{slice_get}
use Rattle.std.proofs.lemmas.Option.{same_Some, none-some}
use Rattle.ts_base.specs.declared.keys.FragKey.{FragKey}
use Rattle.ts_base.specs.declared.keys.Key.{Key}
use Rattle.ts_base.specs.declared.heads.Version.{Version}
use Rattle.ts_base.specs.declared.heads.Head.{Head}
use Rattle.ts_base.specs.declared.names.Name.TheVariants as name
use Rattle.ts_schema.specs.declared.schemas.Schema.{Schema}
use Rattle.ts_schema.specs.declared.frames.Frame.{Frame}
use Rattle.ts_model.specs.declared.answers.Refusal.{Refusal}
use Rattle.ts_model.specs.declared.deeds.Deletion.{Deletion}
use Rattle.ts_model.specs.declared.queries.Ready.{Ready}
use Rattle.ts_model.specs.declared.states.Listed.{Listed}
use Rattle.ts_model.specs.declared.states.Opened.{Opened}
use Rattle.ts_model.specs.declared.states.Reading.{Reading}
use Rattle.ts_model.specs.declared.states.State.{State}
use Rattle.ts_model.specs.declared.states.State.TheVariants.{Collects}
use Rattle.ts_model.specs.declared.states.Collecting.TheVariants.{GetsDeletes, GetsHeads, GetsVacs}
use Rattle.ts_model.specs.Codecs.{Stepped, Codec, Asks, Takes, Breaks}
use Rattle.ts_model.specs.States.{fetch_leads, fetch_begins, fetches_one, fetching, known_schema, keys_named, gathering, opening, on_read, after_head, getting_deletes, asks_for, getting_vacs, heads_of, loaded_of, loads, opened_among, with_clipped}
use Rattle.ts_commit.specs.Selections.{clipped_names}
use Rattle.ts_commit.specs.declared.vacs.VacOf.{VacOf}
use Rattle.ts_reader.specs.declared.fetching.FetchStep.{FetchStep}
use Rattle.ts_reader.specs.Fetching.{step_by, first_step, step_in, state_after_step}

-- the rest of a list from an item on
rest_from : {X : Type 0} (xs : List X) (i : ℕ) (x : X) → slice_get xs i ≡ Some x → drop i xs ≡ x ∷ drop (suc i) xs
rest_from [] i x at = absurd (none-some x at)
rest_from (y ∷ xs) zero x at = ap (λ z. z ∷ xs) (same_Some y x at)
rest_from (y ∷ xs) (suc i) x at = rest_from xs i x at

module _ {F : Type 0} (codec : Codec F) (r : Reading) (opened : List Opened) (schemas : List Schema) (next : ℕ) (got : List Version) (on : List Version → State F) where
  -- a step of a fetch
  pub step_leads : (frag : FragKey) (step : Stepped F) → fetch_leads r opened schemas next frag got on step ≡ state_after_step r opened schemas next frag got on (step_by frag step)
  step_leads frag (Asks f c) = refl
  step_leads frag (Takes vs) = refl
  step_leads frag (Breaks part at) = refl

  first_leads : (frag : FragKey) (begun : Result F ℕ) → fetch_begins codec r opened schemas next frag got on begun ≡ state_after_step r opened schemas next frag got on (first_step codec r frag begun)
  first_leads frag (Ok f) = step_leads frag _
  first_leads frag (Err at) = refl

  one_leads : (o : Opened) (known : Option Schema) → fetches_one codec r opened schemas next o got on known ≡ state_after_step r opened schemas next o.frag got on (step_in codec r o known)
  one_leads o None = refl
  one_leads o (Some s) = first_leads o.frag _

-- a read at a fragment goes where the beginning of its fetch leads
pub fetching_at : {F : Type 0} (codec : Codec F) (r : Reading) (opened : List Opened) (schemas : List Schema) (next : ℕ) (got : List Version) (o : Opened) → slice_get opened next ≡ Some o
    → fetching codec r opened schemas next (drop next opened) got
    ≡ state_after_step r opened schemas next o.frag got (λ vs. fetching codec r opened schemas (suc next) (drop (suc next) opened) (got ++ vs)) (step_in codec r o (known_schema r schemas o.head.schema))
fetching_at codec r opened schemas next got o at =
    ap (λ rest. fetching codec r opened schemas next rest got) (rest_from opened next o at)
    ∙ one_leads codec r opened schemas next got (λ vs. fetching codec r opened schemas (suc next) (drop (suc next) opened) (got ++ vs)) o (known_schema r schemas o.head.schema)

-- a read that is at a fragment goes on as the beginning of its fetch did
pub leads_on : {F : Type 0} (codec : Codec F) (r : Reading) (opened : List Opened) (schemas : List Schema) (next : ℕ) (got : List Version) (o : Opened) (s : State F) (l : FetchStep F) → slice_get opened next ≡ Some o
    → s ≡ fetching codec r opened schemas next (drop next opened) got → l ≡ step_in codec r o (known_schema r schemas o.head.schema)
    → s ≡ state_after_step r opened schemas next o.frag got (λ vs. fetching codec r opened schemas (suc next) (drop (suc next) opened) (got ++ vs)) l
leads_on codec r opened schemas next got o s l at came led =
    came ∙ fetching_at codec r opened schemas next got o at
    ∙ ap (state_after_step r opened schemas next o.frag got (λ vs. fetching codec r opened schemas (suc next) (drop (suc next) opened) (got ++ vs))) (sym led)

-- a fetch that is told something goes on as its step did
pub told_leads : {F : Type 0} (r : Reading) (opened : List Opened) (schemas : List Schema) (next : ℕ) (got : List Version) (on : List Version → State F) (codec : Codec F) (frag : FragKey) (step : Stepped F) (l : FetchStep F)
    → l ≡ step_by frag step → fetch_leads r opened schemas next frag got on step ≡ state_after_step r opened schemas next frag got on l
told_leads r opened schemas next got on codec frag step l led = step_leads codec r opened schemas next got on frag step ∙ ap (state_after_step r opened schemas next frag got on) (sym led)

-- where all heads are read the fragments that are loaded come next
pub all_open : {F : Type 0} (codec : Codec F) (r : Reading) (opened : List Opened) → nat_lt (length opened) (length r.fragments) ≡ false
    → loads codec (with_clipped r (clipped_names r.from r.to (heads_of opened))) (opened_among (loaded_of r opened) opened) ≡ opening codec r opened
all_open codec r opened last = sym (ap (λ b. cond b (Collects (GetsHeads r opened)) (loads codec (with_clipped r (clipped_names r.from r.to (heads_of opened))) (opened_among (loaded_of r opened) opened))) last)

-- the further schemas of the fragments that are loaded come first
pub all_loaded : {F : Type 0} (codec : Codec F) (r : Reading) (opened : List Opened) (keys : List Key) (schemas : List Schema) → keys ≡ keys_named r opened → schemas ≡ []
    → gathering codec r opened keys schemas ≡ loads codec r opened
all_loaded codec r opened keys schemas named none = ap (λ ks. gathering codec r opened ks schemas) named ∙ ap (λ ss. gathering codec r opened (keys_named r opened) ss) none

-- what is loaded goes on where its parts are those of a read
pub loads_same : {F : Type 0} (codec : Codec F) (r q : Reading) (opened chosen : List Opened) → r ≡ q → opened ≡ chosen → loads codec r opened ≡ loads codec q chosen
loads_same codec r q opened chosen same_r same_o = ap (λ x. loads codec x opened) same_r ∙ ap (loads codec q) same_o

-- where all `.vac` objects are got the fragments come next
pub all_vacs : {F : Type 0} (codec : Codec F) (r : Reading) (opened : List Opened) → nat_lt (length r.vacs) (length r.counting) ≡ false → opened ≡ [] → opening codec r opened ≡ getting_vacs codec r
all_vacs codec r opened last none = ap (opening codec r) none ∙ sym (ap (λ b. cond b (Collects (GetsVacs r)) (opening codec r [])) last)

-- a head that is read opens its fragment
pub head_read : {F : Type 0} (codec : Codec F) (r : Reading) (opened more : List Opened) (f : FragKey) (bytes : List ℕ) (head : Head) → codec.head r.frame f bytes ≡ Ok head → more ≡ opened ++ record { frag = f; head = head; object = bytes } ∷ []
    → opening codec r more ≡ after_head codec r opened f bytes
head_read codec r opened more f bytes head read is =
    ap (opening codec r) is
    ∙ sym (ap (on_read (name.Part f (codec.head_part r.frame)) (λ h. opening codec r (opened ++ record { frag = f; head = h; object = bytes } ∷ []))) read)

-- where all deletes are got the fetches come next
pub all_deletions : {F : Type 0} (codec : Codec F) (r : Reading) (opened : List Opened) (schemas : List Schema) (got : List Version) → nat_lt (length r.deletions) (length r.delete_names) ≡ false → got ≡ []
    → fetching codec r opened schemas 0 (drop 0 opened) got ≡ getting_deletes codec r opened schemas
all_deletions codec r opened schemas got last none =
    ap (λ vs. fetching codec r opened schemas 0 opened vs) none ∙ sym (ap (λ b. cond b (Collects (GetsDeletes r opened schemas)) (fetching codec r opened schemas 0 opened [])) last)

-- a query that is ready gets the first `.vac`
pub asked_for : {F : Type 0} (codec : Codec F) (from to : ℕ) (listed : Listed) (frame : Frame) (s : Schema) (ready : Ready) (found : Result Ready Refusal) (vacs : List VacOf) (clipped : List FragKey) (erased : List Deletion)
    → found ≡ Ok ready → vacs ≡ [] → clipped ≡ [] → erased ≡ []
    → getting_vacs codec (record { from = from; to = to; ready = ready; frame = frame; current = s; fragments = listed.fragments; counting = listed.counting; vacs = vacs; clipped = clipped; delete_names = listed.delete_names; deletions = erased }) ≡ asks_for codec from to listed frame s found
asked_for codec from to listed frame s ready found vacs clipped erased is no_vacs no_clipped none =
    (λ i. getting_vacs codec (record { from = from; to = to; ready = ready; frame = frame; current = s; fragments = listed.fragments; counting = listed.counting; vacs = no_vacs i; clipped = no_clipped i; delete_names = listed.delete_names; deletions = none i }))
    ∙ sym (ap (asks_for codec from to listed frame s) is)
