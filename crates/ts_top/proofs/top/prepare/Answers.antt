-- What was read means what the whole input means.
use Rattle.std.proofs.Common.{◌≡◌, ℕ, ◌≤◌, [], List, Bool, true, false, Option, Some, None, Result, Ok, Err, arith, refl, sym, ◌∙◌, ap, length}
use Rattle.std.specs.Prelude.{IfSome}
use Rattle.std.proofs.lemmas.Bool.{true≢false}
use Rattle.ts_store.specs.Streams.{TakesInput}
use Rattle.ts_model.specs.declared.commands.Line.{Line}
use Rattle.ts_script.specs.declared.words.Asked.{Asked}
use Rattle.ts_script.specs.declared.words.Asked.TheVariants.{Play, Object, Command as Alone, Generate}
use Rattle.ts_script.specs.Script.{Fault, Bad, byte_limit}
use Rattle.ts_script.specs.Meanings.{has_input, meaning}
use Rattle.ts_script.proofs.Meanings.{meaning_front, meaning_ok}
use Rattle.ts_top.specs.Seen.{Stream, IsFrontRead, IsInputRead, IsTaken, Means}
use Rattle.ts_top.proofs.top.prepare.Goals as goal

-- the bytes that were read mean what the input means
front : (job : Asked) (old new : Option (List ℕ)) (taken : List ℕ) (said : Result (List Line) Fault) → TakesInput old new taken → meaning job taken ≡ said → (input : List ℕ) × IfSome old (λ all. input ≡ all) × (meaning job input ≡ said)
front job None new taken said takes is = (taken, tt, is)
front job (Some all) None taken said takes is = absurd takes
front job (Some all) (Some rest) taken said takes is = (all, refl, sym (meaning_front job all taken rest takes.whole takes.to_end) ∙ is)

means : (job : Asked) (has : Bool) (input : Stream) (taken : List ℕ) (said : Result (List Line) Fault) → has ≡ has_input job → IsTaken has input taken → meaning job taken ≡ said → Means job input.old said
means (Alone line) has input taken said same takes is = sym is
means (Generate cells) has input taken said same takes is = sym is
means Play true input taken said same takes is = front Play input.old input.new taken said takes.0 is
means Play false input taken said same takes is = absurd (true≢false (sym same))
means (Object form at) true input taken said same takes is = front (Object form at) input.old input.new taken said takes.0 is
means (Object form at) false input taken said same takes is = absurd (true≢false (sym same))

-- an input is read to its end
to_end : (job : Asked) (old new : Option (List ℕ)) (taken : List ℕ) (lines : List Line) → has_input job ≡ true → TakesInput old new taken → meaning job taken ≡ Ok lines → IfSome old (λ _. new ≡ Some [])
to_end job None new taken lines has takes is = tt
to_end job (Some all) None taken lines has takes is = absurd takes
to_end job (Some all) (Some rest) taken lines has takes is = ap Some (takes.to_end (let short : length taken ≤ byte_limit = meaning_ok job taken lines has is in omega arith))

input_read : (job : Asked) (has : Bool) (input : Stream) (taken : List ℕ) (lines : List Line) → has ≡ has_input job → IsTaken has input taken → meaning job taken ≡ Ok lines → IsInputRead job input
input_read (Alone line) true input taken lines same takes is = absurd (true≢false same)
input_read (Alone line) false input taken lines same takes is = takes.1
input_read (Generate cells) true input taken lines same takes is = absurd (true≢false same)
input_read (Generate cells) false input taken lines same takes is = takes.1
input_read Play true input taken lines same takes is = (to_end Play input.old input.new taken lines refl takes.0 is, takes.1)
input_read Play false input taken lines same takes is = absurd (true≢false (sym same))
input_read (Object form at) true input taken lines same takes is = (to_end (Object form at) input.old input.new taken lines refl takes.0 is, takes.1)
input_read (Object form at) false input taken lines same takes is = absurd (true≢false (sym same))

-- what means a fault has an input, of which a front was read
faulty_has : (job : Asked) (taken : List ℕ) (f : Fault) → meaning job taken ≡ Err f → has_input job ≡ true
faulty_has (Alone line) taken f e = cc
faulty_has (Generate cells) taken f e = cc
faulty_has Play taken f e = refl
faulty_has (Object form at) taken f e = refl

fronts : (has : Bool) (input : Stream) (taken : List ℕ) → has ≡ true → IsTaken has input taken → IsFrontRead input × (input.now ≡ input.before)
fronts true input taken is takes = ((taken, takes.0), takes.1)
fronts false input taken is takes = absurd (true≢false (sym is))

pub returns-in-Ok-read_lines-clause-read : goal.returns-in-Ok-read_lines-clause-read
returns-in-Ok-read_lines-clause-read g c =
    let job = c.in-Ok.asked in
    let bytes = c.in-Ok-take_input.bytes in
    let input : Stream = record { old = g.I.Source.left c.args.input.now; new = g.I.Source.left c.take_input.new.input; before = g.I.Source.faults c.args.input.now; now = g.I.Source.faults c.take_input.new.input } in
    let is = ap (meaning job) (sym c.as_slice.ensures) ∙ c.in-Ok-read_lines.ensures.lines in (
      job,
      record {
        asks = c.in-Ok.ensures.asked;
        means = means job c.has_input.result input bytes (Ok c.in-Ok-read_lines.lines) c.has_input.ensures c.in-Ok-take_input.ensures.taken is;
        read = input_read job c.has_input.result input bytes c.in-Ok-read_lines.lines c.has_input.ensures c.in-Ok-take_input.ensures.taken is;
      },
      c.report-report.ensures,
    )

pub returns-in-Err-Bad-clause-reason : goal.returns-in-Err-Bad-clause-reason
returns-in-Err-Bad-clause-reason g c =
    let job = c.in-Ok.asked in
    let bytes = c.in-Ok-take_input.bytes in
    let f = Bad c.in-Err-Bad.line in
    let input : Stream = record { old = g.I.Source.left c.args.input.now; new = g.I.Source.left c.take_input.new.input; before = g.I.Source.faults c.args.input.now; now = g.I.Source.faults c.take_input.new.input } in
    let is = ap (meaning job) (sym c.as_slice.ensures) ∙ (rw c.in-Err-Bad.field-0-is at c.in-Err-Bad.ensures).lines in
    let has = c.has_input.ensures ∙ faulty_has job bytes f is in
    let (front_read, unhurt) = fronts c.has_input.result input bytes has c.in-Ok-take_input.ensures.taken in
    record {
      job = job;
      asks = c.in-Ok.ensures.asked;
      has = faulty_has job bytes f is;
      means = rw c.in-Err-Bad.field-0-is (means job c.has_input.result input bytes (Err f) c.has_input.ensures c.in-Ok-take_input.ensures.taken is);
      front = front_read;
      unhurt = unhurt;
    }
