-- What was read of an input means what the whole input means.
use Rattle.std.proofs.Common.{◌≡◌, ℕ, ◌+◌, ◌<◌, ◌≤◌, List, [], ◌∷◌, ◌++◌, length, Bool, true, false, nat_lt, length-append, Result, Ok, Err, refl, sym, ap, ◌∙◌, arith}
use Rattle.std.proofs.lemmas.List.{append-nil}
use Rattle.std.proofs.lemmas.Bool.{ltb-true, ltb-false, lt-ltb, true≢false}
use Rattle.ts_model.specs.declared.commands.Command.{Command}
use Rattle.ts_model.specs.declared.commands.Line.{Line}
use Rattle.ts_script.specs.declared.words.Asked.{Asked}
use Rattle.ts_script.specs.declared.words.Asked.TheVariants.{Play, Object, Command as Alone, Generate}
use Rattle.ts_script.specs.declared.words.ObjectForm.{ObjectForm}
use Rattle.ts_script.specs.Script.{Fault, ◌then◌, byte_limit, object_in}
use Rattle.ts_script.specs.Meanings.{has_input, meaning}
use Rattle.ts_script.specs.Words.{line_alone}
use Rattle.ts_script.proofs.Whole.{script_of_front, script_of_ok}

object_by : (form : ObjectForm) (taken rest : List ℕ) (over : Bool) → nat_lt byte_limit (length taken) ≡ over → (length taken < byte_limit + 1 → rest ≡ []) → object_in form taken ≡ object_in form (taken ++ rest)
unfolding object_in
object_by form taken rest true over whole =
    let long : byte_limit < length taken = ltb-true byte_limit (length taken) over in
    let wide : byte_limit < length (taken ++ rest) = omega (arith, length-append taken rest) in
    rw (over, lt-ltb byte_limit (length (taken ++ rest)) wide) refl
object_by form taken rest false within whole =
    let short : length taken ≤ byte_limit = ltb-false byte_limit (length taken) within in
    rw (whole (omega arith), append-nil) refl

object_ok : (form : ObjectForm) (input : List ℕ) (command : Command) (over : Bool) → nat_lt byte_limit (length input) ≡ over → object_in form input ≡ Ok command → length input ≤ byte_limit
unfolding object_in
object_ok form input command true over e = let none = rw over at e in cc
object_ok form input command false within e = ltb-false byte_limit (length input) within

then_ok : {A B : Type 0} (said : Result A Fault) (next : A → Result B Fault) (x : B) → (said then next) ≡ Ok x → (more : A) × (said ≡ Ok more)
then_ok (Ok more) next x e = (more, refl)
then_ok (Err f) next x e = cc

-- what was read, up to one byte past the limit or to its end, means what the whole input means
pub meaning_front : (job : Asked) (all taken rest : List ℕ) → all ≡ taken ++ rest → (length taken < byte_limit + 1 → rest ≡ []) → meaning job taken ≡ meaning job all
meaning_front Play all taken rest split whole = script_of_front all taken rest split whole
meaning_front (Object form at) all taken rest split whole =
    ap (λ said. said then λ command. Ok (line_alone at false command ∷ [])) (object_by form taken rest _ refl whole ∙ ap (object_in form) (sym split))
meaning_front (Alone line) all taken rest split whole = refl
meaning_front (Generate cells) all taken rest split whole = refl

-- an input with a meaning is within the limit
pub meaning_ok : (job : Asked) (input : List ℕ) (lines : List Line) → has_input job ≡ true → meaning job input ≡ Ok lines → length input ≤ byte_limit
meaning_ok Play input lines has e = script_of_ok input lines e
meaning_ok (Object form at) input lines has e =
    let found = then_ok (object_in form input) (λ command. Ok (line_alone at false command ∷ [])) lines e in
    object_ok form input found.0 _ refl found.1
meaning_ok (Alone line) input lines has e = absurd (true≢false (sym has))
meaning_ok (Generate cells) input lines has e = absurd (true≢false (sym has))
