-- Reading a script piece by piece.
use Rattle.std.proofs.Common.{◌≡◌, ℕ, ◌+◌, ◌<◌, ◌≤◌, List, [], ◌∷◌, ◌++◌, length, take, Bool, true, false, nat_lt, length-append, Result, Ok, Err, refl, sym, ap, ◌∙◌, subst, arith}
use Rattle.std.proofs.lemmas.List.{append-nil, length-take, take-append-le}
use Rattle.std.proofs.lemmas.Bool.{ltb-true, ltb-false, lt-ltb}
use Rattle.std.proofs.lemmas.List.Splits.{length-slice_split}
use Rattle.ts_model.specs.declared.commands.Line.{Line}
use Rattle.ts_script.specs.Script.{Fault, ◌then◌, byte_limit, with_line, script_from, pieces_of, script_within, script_of, IsScript}
use Rattle.ts_script.specs.declared.script.ScriptFault.{ScriptFault}
use Rattle.ts_script.specs.declared.script.ScriptFault.TheVariants as fault
use Rattle.ts_script.proofs.Cuts.{is_feed}

-- a piece that is not the last
script_from-not_last : (past : Bool) (n : ℕ) (lines : List Line) (bytes : List ℕ) (pieces : List (List ℕ)) → 0 < length pieces
    → script_from past n lines (bytes ∷ pieces) ≡ (with_line n lines bytes then λ more. script_from past (n + 1) more pieces)
script_from-not_last past n lines bytes [] some = absurd (omega arith)
script_from-not_last past n lines bytes (next ∷ rest) some = refl

script_from-piece : (past : Bool) (n : ℕ) (lines : List Line) (bytes rest : List ℕ)
    → script_from past n lines (bytes ∷ pieces_of rest) ≡ (with_line n lines bytes then λ more. script_from past (n + 1) more (pieces_of rest))
script_from-piece past n lines bytes rest =
    script_from-not_last past n lines bytes (pieces_of rest) (omega (arith, length-slice_split is_feed rest))

-- the lines before line n are read, and the rest is still to be read
pub record IsUnderWay (limit : ℕ) (input : List ℕ) (n : ℕ) (lines : List Line) (rest : List ℕ) : Type 0 where
  pub left : script_from (nat_lt limit (length input)) n lines (pieces_of rest) ≡ script_within limit input
  pub numbered : n + length rest ≤ limit + 1

pub IsUnderWay-first : (limit : ℕ) (input : List ℕ) → IsUnderWay limit input 1 [] (take limit input)
unfolding script_within
IsUnderWay-first limit input = record { left = refl; numbered = omega (arith, length-take limit input) }

-- what is left to read, once the next piece is read
after_piece : (limit : ℕ) (input : List ℕ) (n : ℕ) (lines : List Line) (rest piece others : List ℕ)
    → IsUnderWay limit input n lines rest → pieces_of rest ≡ piece ∷ pieces_of others
    → (with_line n lines piece then λ more. script_from (nat_lt limit (length input)) (n + 1) more (pieces_of others)) ≡ script_within limit input
after_piece limit input n lines rest piece others way cut =
    let past = nat_lt limit (length input) in
    sym (script_from-piece past n lines piece others) ∙ sym (ap (script_from past n lines) cut) ∙ way.left

pub IsUnderWay-next : (limit : ℕ) (input : List ℕ) (n : ℕ) (lines more : List Line) (rest piece others : List ℕ)
    → IsUnderWay limit input n lines rest → pieces_of rest ≡ piece ∷ pieces_of others → length others < length rest → with_line n lines piece ≡ Ok more
    → IsUnderWay limit input (n + 1) more others
IsUnderWay-next limit input n lines more rest piece others way cut shorter read =
    let further : List Line → Result (List Line) Fault = λ more. script_from (nat_lt limit (length input)) (n + 1) more (pieces_of others) in
    record {
      left = sym (ap (λ said. said then further) read) ∙ after_piece limit input n lines rest piece others way cut;
      numbered = omega (arith, way.numbered);
    }

-- a line that stops the reader stops the script
stops : {A B : Type 0} (e : ScriptFault) (said : Result A Fault) (next : A → Result B Fault) → IsScript {A = A} (Err e) said → IsScript {A = B} (Err e) (said then next)
stops (fault.Bad n) said next h = rw h
stops fault.OutOfMemory said next h = tt

pub IsScript-stopped : (limit : ℕ) (input : List ℕ) (n : ℕ) (lines : List Line) (rest piece others : List ℕ) (e : ScriptFault)
    → IsUnderWay limit input n lines rest → pieces_of rest ≡ piece ∷ pieces_of others → IsScript {A = List Line} (Err e) (with_line n lines piece)
    → IsScript {A = List Line} (Err e) (script_within limit input)
IsScript-stopped limit input n lines rest piece others e way cut stopped =
    subst (IsScript {A = List Line} (Err e)) (after_piece limit input n lines rest piece others way cut)
    (stops e (with_line n lines piece) (λ more. script_from (nat_lt limit (length input)) (n + 1) more (pieces_of others)) stopped)

-- ---- the limit on bytes

then_is_no : {A B : Type 0} (said : Result A Fault) (next : A → Result B Fault) (x : B) → ((more : A) → next more ≡ Ok x → ⊥) → (said then next) ≡ Ok x → ⊥
then_is_no (Ok more) next x never e = never more e
then_is_no (Err f) next x never e = cc

past_is_no : (n : ℕ) (lines : List Line) (pieces : List (List ℕ)) (x : List Line) → 0 < length pieces → script_from true n lines pieces ≡ Ok x → ⊥
past_is_no n lines [] x some e = omega arith
past_is_no n lines (piece ∷ []) x some e = cc
past_is_no n lines (piece ∷ next ∷ rest) x some e =
    then_is_no (with_line n lines piece) (λ more. script_from true (n + 1) more (next ∷ rest)) x
    (λ more h. past_is_no (n + 1) more (next ∷ rest) x (omega arith) h) e

ok_by : (limit : ℕ) (input : List ℕ) (x : List Line) (past : Bool) → nat_lt limit (length input) ≡ past → script_from past 1 [] (pieces_of (take limit input)) ≡ Ok x → length input ≤ limit
ok_by limit input x true over e =
    absurd (past_is_no 1 [] (pieces_of (take limit input)) x (omega (arith, length-slice_split is_feed (take limit input))) e)
ok_by limit input x false within e = ltb-false limit (length input) within

script_within-ok : (limit : ℕ) (input : List ℕ) (x : List Line) → script_within limit input ≡ Ok x → length input ≤ limit
unfolding script_within
script_within-ok limit input x e = ok_by limit input x (nat_lt limit (length input)) refl e

-- an input that is a script is within the limit
pub script_of_ok : (input : List ℕ) (x : List Line) → script_of input ≡ Ok x → length input ≤ byte_limit
unfolding script_of
script_of_ok input x e = script_within-ok byte_limit input x e

front_past : (limit : ℕ) (taken rest : List ℕ) → limit < length taken → script_within limit taken ≡ script_within limit (taken ++ rest)
unfolding script_within
front_past limit taken rest over =
    let wide : limit < length (taken ++ rest) = omega (arith, length-append taken rest) in
    let some : limit ≤ length taken = omega arith in
    rw (lt-ltb limit (length taken) over, lt-ltb limit (length (taken ++ rest)) wide, take-append-le limit taken rest some)

front_by : (limit : ℕ) (taken rest : List ℕ) (over : Bool) → nat_lt limit (length taken) ≡ over → (length taken < limit + 1 → rest ≡ []) → script_within limit taken ≡ script_within limit (taken ++ rest)
front_by limit taken rest true over whole = front_past limit taken rest (ltb-true limit (length taken) over)
front_by limit taken rest false within whole =
    let short : length taken ≤ limit = ltb-false limit (length taken) within in
    rw (whole (omega arith), append-nil)

script_within-front : (limit : ℕ) (all taken rest : List ℕ) → all ≡ taken ++ rest → (length taken < limit + 1 → rest ≡ []) → script_within limit taken ≡ script_within limit all
script_within-front limit all taken rest split whole = front_by limit taken rest (nat_lt limit (length taken)) refl whole ∙ ap (script_within limit) (sym split)

-- what was read, up to one byte past the limit or to its end, means what the whole input means
pub script_of_front : (all taken rest : List ℕ) → all ≡ taken ++ rest → (length taken < byte_limit + 1 → rest ≡ []) → script_of taken ≡ script_of all
unfolding script_of
script_of_front all taken rest split whole = script_within-front byte_limit all taken rest split whole
