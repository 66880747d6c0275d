-- Where the steps of fetches lead a consolidation.
use Rattle.std.proofs.Common.{◌≡◌, ℕ, suc, zero, true, false, cond, nat_lt, List, [], ◌∷◌, ◌++◌, length, Some, Result, Ok, Err, drop, refl, sym, ap, ◌∙◌}
use Rattle.std.specs.Prelude.{slice_get}
use Rattle.std.proofs.lemmas.Option.{same_Some, none-some}
use Rattle.ts_base.specs.declared.keys.FragKey.{FragKey}
use Rattle.ts_base.specs.declared.keys.Key.{Key}
use Rattle.ts_base.specs.declared.names.Name.TheVariants as name
use Rattle.ts_base.specs.declared.heads.Head.{Head}
use Rattle.ts_base.specs.declared.heads.Piece.{Piece}
use Rattle.ts_base.specs.declared.heads.Version.{Version}
use Rattle.ts_commit.specs.Selections.{names_merged}
use Rattle.ts_schema.specs.declared.frames.Frame.{Frame}
use Rattle.ts_schema.specs.declared.schemas.Schema.{Schema}
use Rattle.ts_model.specs.declared.commands.Job.{Job}
use Rattle.ts_model.specs.declared.states.Opened.{Opened}
use Rattle.ts_model.specs.declared.answers.Outcome.TheVariants as outcome
use Rattle.ts_model.specs.declared.states.State.{State}
use Rattle.ts_model.specs.declared.states.State.TheVariants.{Merges, Over}
use Rattle.ts_model.specs.declared.states.Merging.TheVariants.{GetsHeads}
use Rattle.ts_model.specs.declared.states.Survey.{Survey}
use Rattle.ts_model.specs.Codecs.{Stepped, Codec, Asks, Takes, Breaks}
use Rattle.ts_model.specs.States.{after_opened, can_be_named, frags_of, merge_objects, merging_from, on_read, opening_next, piece_merged, puts_merged, putting, schemas_named, source_begins, source_leads, surveying}
use Rattle.ts_consolidate.specs.declared.fetching.SourceStep.{SourceStep}
use Rattle.ts_consolidate.specs.Fetching.{step_by, first_step, step_of, state_after}

-- the rest of a list from an item on
rest_from : {X : Type 0} (xs : List X) (i : ℕ) (x : X) → slice_get xs i ≡ Some x → drop i xs ≡ x ∷ drop (suc i) xs
rest_from [] i x at = absurd (none-some x at)
rest_from (y ∷ xs) zero x at = ap (λ z. z ∷ xs) (same_Some y x at)
rest_from (y ∷ xs) (suc i) x at = rest_from xs i x at

module _ {F : Type 0} (codec : Codec F) (s : Survey) (sources : List Opened) (schema : Schema) (next : ℕ) (got : List (List Version)) (on : List Version → State F) where
  -- a step of a fetch
  step_leads : (frag : FragKey) (step : Stepped F) → source_leads s sources schema next frag got on step ≡ state_after s sources schema next frag got on (step_by frag step)
  step_leads frag (Asks f c) = refl
  step_leads frag (Takes vs) = refl
  step_leads frag (Breaks part at) = refl

  first_leads : (frag : FragKey) (begun : Result F ℕ) → source_begins codec s sources schema next frag got on begun ≡ state_after s sources schema next frag got on (first_step codec s.frame frag begun)
  first_leads frag (Ok f) = step_leads frag _
  first_leads frag (Err at) = refl

module _ {F : Type 0} (codec : Codec F) (job : Job) (s : Survey) (sources : List Opened) (schema : Schema) (next : ℕ) (got : List (List Version)) where
  -- how it goes on with the versions of the source at a place
  abbrev On : List Version → State F
  On vs = merging_from codec job s sources schema (suc next) (drop (suc next) sources) (got ++ vs ∷ [])

  -- a consolidation that is at a source goes on as the beginning of its fetch did
  pub leads_on : (o : Opened) (t : State F) (l : SourceStep F) → slice_get sources next ≡ Some o → t ≡ merging_from codec job s sources schema next (drop next sources) got → l ≡ step_of codec s.frame schema o
      → t ≡ state_after s sources schema next o.frag got On l
  leads_on o t l at came led =
      came ∙ ap (λ rest. merging_from codec job s sources schema next rest got) (rest_from sources next o at)
      ∙ first_leads codec s sources schema next got On o.frag _
      ∙ ap (state_after s sources schema next o.frag got On) (sym led)

  -- a fetch that is told something goes on as its step did
  pub told_leads : (frag : FragKey) (step : Stepped F) (l : SourceStep F) → l ≡ step_by frag step → source_leads s sources schema next frag got On step ≡ state_after s sources schema next frag got On l
  told_leads frag step l led = step_leads codec s sources schema next got On frag step ∙ ap (state_after s sources schema next frag got On) (sym led)

-- ---- the puts

-- a consolidation that can name the piece puts it
pub puts_it : {F : Type 0} (codec : Codec F) (job : Job) (s : Survey) (schema : Schema) (got : List (List Version)) (o : Opened) (others : List Opened) (t : State F) (frame : Frame) (piece : Piece) (frags names : List FragKey) (count : ℕ)
    → frame ≡ s.frame → piece ≡ piece_merged job s.frame o others got → can_be_named piece ≡ true → frags ≡ frags_of (o ∷ others) → names ≡ names_merged s.vacs frags → count ≡ length (o ∷ others)
    → t ≡ putting (merge_objects codec frame schema piece names) 0 (outcome.Consolidated piece.head.frag count) → t ≡ puts_merged codec job s schema got (o ∷ others)
puts_it codec job s schema got o others t frame piece frags names count frames is can frags_are names_are counts led =
    let named : names ≡ names_merged s.vacs (frags_of (o ∷ others)) = names_are ∙ ap (names_merged s.vacs) frags_are in
    led ∙ (λ i. putting (merge_objects codec (frames i) schema (is i) (named i)) 0 (outcome.Consolidated (is i).head.frag (counts i)))
    ∙ sym (ap (λ b. cond b (putting (merge_objects codec s.frame schema (piece_merged job s.frame o others got) (names_merged s.vacs (frags_of (o ∷ others)))) 0 (outcome.Consolidated (piece_merged job s.frame o others got).head.frag (length (o ∷ others)))) (Over outcome.OutOfMemory))
    (ap can_be_named (sym is) ∙ can))

-- one that cannot is over
pub puts_none : {F : Type 0} (codec : Codec F) (job : Job) (s : Survey) (schema : Schema) (got : List (List Version)) (o : Opened) (others : List Opened) → can_be_named (piece_merged job s.frame o others got) ≡ false → Over outcome.OutOfMemory ≡ puts_merged codec job s schema got (o ∷ others)
puts_none codec job s schema got o others cannot =
    sym (ap (λ b. cond b (putting (merge_objects codec s.frame schema (piece_merged job s.frame o others got) (names_merged s.vacs (frags_of (o ∷ others)))) 0 (outcome.Consolidated (piece_merged job s.frame o others got).head.frag (length (o ∷ others)))) (Over outcome.OutOfMemory)) cannot)

-- ---- the survey

-- where all heads are read the schemas that they name come next
pub all_heads : {F : Type 0} (codec : Codec F) (job : Job) (s : Survey) (opened : List Opened) (keys : List Key) (schemas : List Schema) → nat_lt (length opened) (length s.fragments) ≡ false → keys ≡ schemas_named opened → schemas ≡ []
    → surveying codec job s opened keys schemas ≡ opening_next codec job s opened
all_heads codec job s opened keys schemas last named none =
    ap (λ ks. surveying codec job s opened ks schemas) named ∙ ap (surveying codec job s opened (schemas_named opened)) none
    ∙ sym (ap (λ b. cond b (Merges (GetsHeads s opened)) (surveying codec job s opened (schemas_named opened) [])) last)

-- a head that is read opens its fragment
pub head_read : {F : Type 0} (codec : Codec F) (job : Job) (s : Survey) (opened more : List Opened) (f : FragKey) (bytes : List ℕ) (head : Head) → codec.head s.frame f bytes ≡ Ok head → more ≡ opened ++ record { frag = f; head = head; object = bytes } ∷ []
    → opening_next codec job s more ≡ after_opened codec job s opened f bytes
head_read codec job s opened more f bytes head read is =
    ap (opening_next codec job s) is
    ∙ sym (ap (on_read (name.Part f (codec.head_part s.frame)) (λ h. opening_next codec job s (opened ++ record { frag = f; head = h; object = bytes } ∷ []))) read)
