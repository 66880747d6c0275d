-- What each status tells, and where it comes.
use Rattle.std.proofs.Common.{◌≡◌, ◌⊎◌, inl, inr, ℕ, List, [], ◌∷◌, Bool, true, false, Option, Some, None, Result, Ok, Err, arith, refl, sym, ◌∙◌, ap, subst}
use Rattle.std.specs.Prelude.{IsSomeAnd}
use Rattle.std.proofs.lemmas.Bool.{true≢false}
use Rattle.std.proofs.lemmas.Option.{none-some, same_Some}
use Rattle.ts_base.specs.Held.{Held}
use Rattle.ts_store.specs.Counts.{Rose}
use Rattle.ts_model.specs.declared.commands.Line.{Line}
use Rattle.ts_model.specs.declared.answers.Driven.{Driven}
use Rattle.ts_model.specs.declared.answers.Driven.TheVariants.{Done, Stopped}
use Rattle.ts_model.specs.declared.answers.Outcome.{Outcome}
use Rattle.ts_model.specs.declared.answers.Outcome.TheVariants.{Created, Evolved, Written, Deleted, Read, Consolidated, Vacuumed, Unlocked, Listed, Refused, OutOfMemory as NoMemory}
use Rattle.ts_model.specs.Told.{Told}
use Rattle.ts_top.specs.declared.top.Stop.TheVariants.{Usage, BadScript, ReadFault, OutOfMemory}
use Rattle.ts_script.specs.declared.words.Asked.{Asked}
use Rattle.ts_script.specs.declared.words.Asked.TheVariants.{Play, Object, Command as Alone, Generate}
use Rattle.ts_script.specs.declared.words.Report.{Report}
use Rattle.ts_script.specs.declared.words.Report.TheVariants.{Script, Single, Summary}
use Rattle.ts_script.specs.Words.{asked}
use Rattle.ts_script.specs.Script.{Fault, Bad}
use Rattle.ts_script.specs.Meanings.{has_input, meaning, report_of}
use Rattle.ts_law.specs.Fresh.{in_lane_order}
use Rattle.std.specs.List.{list_any}
use Rattle.ts_top.specs.Summaries.{lacks_memory, status_generated, was_refused}
use Rattle.ts_top.specs.Reports.{report_text, status_alone, status_printed}
use Rattle.ts_top.specs.Seen.{Stream, Seen, Means, AskFor, Performed, Plays, ended, ran_short, PrintsEnds, whole, sink_failed, no_text, EndsRefused, WasRefused, IsRunOf, stopped, played}

-- two meanings of one input are one
one_meaning : (job : Asked) (told : Option (List ℕ)) (a b : Result (List Line) Fault) → has_input job ≡ true → Means job told a → IsSomeAnd told (λ all. meaning job all ≡ b) → a ≡ b
one_meaning (Alone line) told a b has m is = absurd (true≢false (sym has))
one_meaning (Generate cells) told a b has m is = absurd (true≢false (sym has))
one_meaning Play None a b has m is = absurd is
one_meaning Play (Some all) a b has m is = sym m.2 ∙ ap (meaning Play) m.1 ∙ is
one_meaning (Object form at) None a b has m is = absurd is
one_meaning (Object form at) (Some all) a b has m is = sym m.2 ∙ ap (meaning (Object form at)) m.1 ∙ is

-- what stands for a fault has an input
faulty_has : (job : Asked) (all : List ℕ) (f : Fault) → meaning job all ≡ Err f → has_input job ≡ true
faulty_has (Alone line) all f e = cc
faulty_has (Generate cells) all f e = cc
faulty_has Play all f e = refl
faulty_has (Object form at) all f e = refl

-- the words ask for one thing
one_job : (words : List (List ℕ)) (a b : Asked) → asked words ≡ Some a → asked words ≡ Some b → a ≡ b
one_job words a b x y = same_Some a b (sym x ∙ y)

-- an input that means a fault, where the words ask for this
abbrev pub IsFaulty : List (List ℕ) → Option (List ℕ) → Fault → Type 0
IsFaulty words told f = (job : Asked) × (asked words ≡ Some job) × IsSomeAnd told (λ all. meaning job all ≡ Err f)

-- what was read then means the same fault
faulty : (words : List (List ℕ)) (job other : Asked) (told : Option (List ℕ)) (said : Result (List Line) Fault) (f : Fault) → asked words ≡ Some job → asked words ≡ Some other → Means job told said → IsSomeAnd told (λ all. meaning other all ≡ Err f) → said ≡ Err f
faulty words job other None said f x y m is = absurd is
faulty words job other (Some all) said f x y m is =
    let P : Asked → Type 0 = λ j. meaning j all ≡ Err f in
    let there = subst P (one_job words other job y x) is in
    one_meaning job (Some all) said (Err f) (faulty_has job all f there) m there

status_alone_few : (end : Outcome) → (status_alone end ≡ 0) ⊎ (status_alone end ≡ 6) ⊎ (status_alone end ≡ 7)
status_alone_few (Refused r) = inr (inl refl)
status_alone_few NoMemory = inr (inr refl)
status_alone_few Created = inl refl
status_alone_few (Evolved k) = inl refl
status_alone_few (Written f) = inl refl
status_alone_few (Deleted f) = inl refl
status_alone_few (Read answer) = inl refl
status_alone_few (Consolidated f count) = inl refl
status_alone_few (Vacuumed count) = inl refl
status_alone_few (Unlocked count) = inl refl
status_alone_few (Listed names) = inl refl

generated_few : (short refused : Bool) (results : List (Driven Outcome)) → list_any lacks_memory results ≡ short → list_any was_refused results ≡ refused → (status_generated results ≡ 0) ⊎ (status_generated results ≡ 6) ⊎ (status_generated results ≡ 7)
unfolding status_generated
generated_few true refused results s r = rw s (inr (inr refl))
generated_few false true results s r = rw (s, r) (inr (inl refl))
generated_few false false results s r = rw (s, r) (inl refl)

pub printed_few : (report : Report) (results : List (Driven Outcome)) → (status_printed report results ≡ 0) ⊎ (status_printed report results ≡ 6) ⊎ (status_printed report results ≡ 7)
printed_few Script results = inl refl
printed_few Summary results = generated_few _ _ results refl refl
printed_few Single [] = inl refl
printed_few Single (Done end ∷ []) = status_alone_few end
printed_few Single (Stopped ∷ []) = inl refl
printed_few Single (Done end ∷ b ∷ rest) = inl refl
printed_few Single (Stopped ∷ b ∷ rest) = inl refl

-- the status of a run that printed its ends
abbrev pub IsEnding : ℕ → Type 0
IsEnding status = (status ≡ 0) ⊎ (status ≡ 5) ⊎ (status ≡ 6) ⊎ (status ≡ 7)

pub prints_status : (out : Stream) (text : List ℕ) (report : Report) (results : List (Driven Outcome)) (status : ℕ) → PrintsEnds out text (status_printed report results) status → IsEnding status
prints_status out text report results status (whole is unhurt all) = elim (printed_few report results) [
  | inl e ↦ inl (is ∙ e)
  | inr rest ↦ elim rest [ inl e ↦ inr (inr (inl (is ∙ e))) | inr e ↦ inr (inr (inr (is ∙ e))) ]
]
prints_status out text report results status (sink_failed is rose front) = inr (inl is)
prints_status out text report results status (no_text is nothing) = inr (inr (inr is))

module _ {S : Type 0} (held : S → Option Held) (made : S → List Told → S → Type 0) where
  -- the status of a run that did its commands
  played_status : (seen : Seen S) (report : Report) (lines : List Line) → Plays held made seen report lines → IsEnding seen.status
  played_status seen report lines (ended ends performed printed) = prints_status seen.out _ report ends seen.status printed
  played_status seen report lines (ran_short status journal same nothing) = inr (inr (inr status))

  -- no such run has the status n
  not_played : (seen : Seen S) (report : Report) (lines : List Line) (n : ℕ) → Plays held made seen report lines → seen.status ≡ n → (IsEnding n → ⊥) → ⊥
  not_played seen report lines n plays is never = never (subst IsEnding is (played_status seen report lines plays))

  -- these are the statuses of no such run
  two : IsEnding 2 → ⊥
  two e = elim e [ inl q ↦ omega arith | inr r ↦ elim r [ inl q ↦ omega arith | inr r' ↦ elim r' [ inl q ↦ omega arith | inr q ↦ omega arith ] ] ]

  three : IsEnding 3 → ⊥
  three e = elim e [ inl q ↦ omega arith | inr r ↦ elim r [ inl q ↦ omega arith | inr r' ↦ elim r' [ inl q ↦ omega arith | inr q ↦ omega arith ] ] ]

  four : IsEnding 4 → ⊥
  four e = elim e [ inl q ↦ omega arith | inr r ↦ elim r [ inl q ↦ omega arith | inr r' ↦ elim r' [ inl q ↦ omega arith | inr q ↦ omega arith ] ] ]

  pub usage : (seen : Seen S) → IsRunOf held made seen → seen.status ≡ 2 → asked seen.words ≡ None
  usage seen (stopped Usage h) e = h.reason.0
  usage seen (stopped (BadScript n) h) e = absurd (let none : ⊥ = omega (arith, h.status) in none)
  usage seen (stopped ReadFault h) e = absurd (let none : ⊥ = omega (arith, h.status) in none)
  usage seen (stopped OutOfMemory h) e = absurd (let none : ⊥ = omega (arith, h.status) in none)
  usage seen (played job lines h) e = absurd (not_played seen _ lines 2 h.plays e two)

  pub usage_there : (seen : Seen S) → IsRunOf held made seen → asked seen.words ≡ None → (seen.status ≡ 2) ⊎ (seen.status ≡ 7)
  usage_there seen (stopped Usage h) e = inl h.status
  usage_there seen (stopped (BadScript n) h) e = absurd (none-some h.reason.job (sym e ∙ h.reason.asks))
  usage_there seen (stopped ReadFault h) e =
      let (job, asks, has, rose) = h.reason in
      absurd (none-some job (sym e ∙ asks))
  usage_there seen (stopped OutOfMemory h) e = inr h.status
  usage_there seen (played job lines h) e = absurd (none-some job (sym e ∙ h.read.asks))

  pub bad_script : (seen : Seen S) → IsRunOf held made seen → seen.status ≡ 3 → (n : ℕ) × AskFor seen.words seen.input.old (Err (Bad n))
  bad_script seen (stopped Usage h) e = absurd (let none : ⊥ = omega (arith, h.status) in none)
  bad_script seen (stopped (BadScript n) h) e = (n, (h.reason.job, h.reason.asks, h.reason.means))
  bad_script seen (stopped ReadFault h) e = absurd (let none : ⊥ = omega (arith, h.status) in none)
  bad_script seen (stopped OutOfMemory h) e = absurd (let none : ⊥ = omega (arith, h.status) in none)
  bad_script seen (played job lines h) e = absurd (not_played seen _ lines 3 h.plays e three)

  pub read_fault : (seen : Seen S) → IsRunOf held made seen → seen.status ≡ 4 → IsSomeAnd (asked seen.words) (λ job. has_input job ≡ true) × Rose seen.input.before seen.input.now
  read_fault seen (stopped Usage h) e = absurd (let none : ⊥ = omega (arith, h.status) in none)
  read_fault seen (stopped (BadScript n) h) e = absurd (let none : ⊥ = omega (arith, h.status) in none)
  read_fault seen (stopped ReadFault h) e =
      let (job, asks, has, rose) = h.reason in
      let P : Option Asked → Type 0 = λ said. IsSomeAnd said (λ j. has_input j ≡ true) in
      (subst P (sym asks) has, rose)
  read_fault seen (stopped OutOfMemory h) e = absurd (let none : ⊥ = omega (arith, h.status) in none)
  read_fault seen (played job lines h) e = absurd (not_played seen _ lines 4 h.plays e four)

  write_fault_printed : (seen : Seen S) (text : List ℕ) (report : Report) (results : List (Driven Outcome)) → PrintsEnds seen.out text (status_printed report results) seen.status → seen.status ≡ 5 → Rose seen.out.before seen.out.now
  write_fault_printed seen text report results (whole is unhurt all) e = absurd (elim (printed_few report results) [
    | inl q ↦ let none : ⊥ = omega arith in none
    | inr r ↦ elim r [ inl q ↦ let none : ⊥ = omega arith in none | inr q ↦ let none : ⊥ = omega arith in none ]
  ])
  write_fault_printed seen text report results (sink_failed is rose front) e = rose
  write_fault_printed seen text report results (no_text is nothing) e = absurd (let none : ⊥ = omega arith in none)

  write_fault_played : (seen : Seen S) (report : Report) (lines : List Line) → Plays held made seen report lines → seen.status ≡ 5 → Rose seen.out.before seen.out.now
  write_fault_played seen report lines (ended ends performed printed) e = write_fault_printed seen _ report ends printed e
  write_fault_played seen report lines (ran_short status journal same nothing) e = absurd (let none : ⊥ = omega arith in none)

  pub write_fault : (seen : Seen S) → IsRunOf held made seen → seen.status ≡ 5 → Rose seen.out.before seen.out.now
  write_fault seen (stopped Usage h) e = absurd (let none : ⊥ = omega (arith, h.status) in none)
  write_fault seen (stopped (BadScript n) h) e = absurd (let none : ⊥ = omega (arith, h.status) in none)
  write_fault seen (stopped ReadFault h) e = absurd (let none : ⊥ = omega (arith, h.status) in none)
  write_fault seen (stopped OutOfMemory h) e = absurd (let none : ⊥ = omega (arith, h.status) in none)
  write_fault seen (played job lines h) e = write_fault_played seen _ lines h.plays e

  pub bad_script_there : (seen : Seen S) → IsRunOf held made seen → (job : Asked) → asked seen.words ≡ Some job → (n : ℕ) → IsSomeAnd seen.input.old (λ all. meaning job all ≡ Err (Bad n)) → (seen.status ≡ 3) ⊎ (seen.status ≡ 4) ⊎ (seen.status ≡ 7)
  bad_script_there seen (stopped Usage h) job is n there = absurd (none-some job (sym h.reason.0 ∙ is))
  bad_script_there seen (stopped (BadScript m) h) job is n there = inl h.status
  bad_script_there seen (stopped ReadFault h) job is n there = inr (inl h.status)
  bad_script_there seen (stopped OutOfMemory h) job is n there = inr (inr h.status)
  bad_script_there seen (played other lines h) job is n there = let same = faulty seen.words other job seen.input.old (Ok lines) (Bad n) h.read.asks is h.read.means there in cc

  -- a run that stops before its first command makes no call of the store
  pub untouched : (seen : Seen S) → IsRunOf held made seen → (seen.status ≡ 2) ⊎ (seen.status ≡ 3) ⊎ (seen.status ≡ 4) → (seen.journal ≡ []) × (seen.later ≡ seen.store)
  untouched seen (stopped stop h) e = (h.journal, h.untouched)
  untouched seen (played job lines h) e = absurd (elim e [
    | inl q ↦ not_played seen _ lines 2 h.plays q two
    | inr r ↦ elim r [
      | inl q ↦ not_played seen _ lines 3 h.plays q three
      | inr q ↦ not_played seen _ lines 4 h.plays q four
    ]
  ])

  refused_printed : (seen : Seen S) (report : Report) (lines : List Line) (results : List (Driven Outcome)) → Performed held made seen lines results → PrintsEnds seen.out (report_text report (in_lane_order lines) results) (status_printed report results) seen.status → seen.status ≡ 6 → EndsRefused held made seen report lines
  refused_printed seen report lines results performed (whole is unhurt all) e = record { results = results; performed = performed; refused = sym is ∙ e; printed = all }
  refused_printed seen report lines results performed (sink_failed is rose front) e = absurd (let none : ⊥ = omega arith in none)
  refused_printed seen report lines results performed (no_text is nothing) e = absurd (let none : ⊥ = omega arith in none)

  refused_played : (seen : Seen S) (report : Report) (lines : List Line) → Plays held made seen report lines → seen.status ≡ 6 → EndsRefused held made seen report lines
  refused_played seen report lines (ended ends performed printed) e = refused_printed seen report lines ends performed printed e
  refused_played seen report lines (ran_short status journal same nothing) e = absurd (let none : ⊥ = omega arith in none)

  pub refused : (seen : Seen S) → IsRunOf held made seen → seen.status ≡ 6 → WasRefused held made seen
  refused seen (stopped Usage h) e = absurd (let none : ⊥ = omega (arith, h.status) in none)
  refused seen (stopped (BadScript n) h) e = absurd (let none : ⊥ = omega (arith, h.status) in none)
  refused seen (stopped ReadFault h) e = absurd (let none : ⊥ = omega (arith, h.status) in none)
  refused seen (stopped OutOfMemory h) e = absurd (let none : ⊥ = omega (arith, h.status) in none)
  refused seen (played job lines h) e = record { job = job; lines = lines; read = h.read; ended = refused_played seen (report_of job) lines h.plays e }
