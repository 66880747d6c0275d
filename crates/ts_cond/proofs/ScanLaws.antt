-- Going over a text token by token.
use Rattle.std.proofs.Common.{◌≡◌, refl, sym, ap, ◌∙◌, ℕ, zero, suc, ◌+◌, ◌-◌, ◌≤◌, List, [], ◌∷◌, length, drop, Option, Some, None, Result, Ok, Err, if◌then◌else◌, Bool, true, false, nat_eq, arith}
use Rattle.std.proofs.lemmas.Bool.{eqb-true}
use Rattle.ts_cond.specs.declared.faults.CondFault.{CondFault}
use Rattle.ts_cond.specs.declared.faults.CondFault.TheVariants as fault
use Rattle.ts_cond.specs.declared.machine.Wrong.{Wrong}
use Rattle.ts_cond.specs.Machine.{Reading, reads, step, after, front_step, may_end}
use Rattle.ts_cond.specs.States.{Comes, Ends}
use Rattle.ts_cond.specs.Tokens.{Kind, Scan, scan, put, put_kind, front, more_of}

-- the bytes of the last token are passed over
pub scan_skips : (n at : ℕ) (bytes : List ℕ) → n ≤ length bytes → scan n at bytes ≡ scan 0 (at + n) (drop n bytes)
unfolding scan
scan_skips zero at bytes within = ap (λ place. scan 0 place bytes) (omega arith)
scan_skips (suc n) at [] within = absurd (omega arith)
scan_skips (suc n) at (b ∷ bytes) within =
    let next : at + 1 + n ≡ at + suc n = omega arith in
    scan_skips n (at + 1) bytes (omega arith) ∙ ap (λ place. scan 0 place (drop n bytes)) next

abbrev ok_or : Reading → Result Reading CondFault → Reading
ok_or d (Ok r) = r
ok_or d (Err w) = d

-- a step that leads on leads on whatever comes after
after_ok : (x : Result Reading Wrong) (at : ℕ) (s : Reading) (next : Reading → Result Reading CondFault) → after x at Ok ≡ Ok s → after x at next ≡ next s
after_ok (Ok r) at s next e = ap next (ap (ok_or r) e)
after_ok (Err wrong) at s next e = cc

after_err : (x : Result Reading Wrong) (at : ℕ) (w : CondFault) (next : Reading → Result Reading CondFault) → after x at Ok ≡ Err w → after x at next ≡ Err w
after_err (Ok r) at w next e = cc
after_err (Err wrong) at w next e = e

kind_ok : (kind : Option Kind) (at : ℕ) (r s : Reading) (rest : Scan) → front_step kind at r ≡ Ok s → reads r (put_kind kind at rest) ≡ reads s rest
unfolding reads
kind_ok None at r s rest e = ap (λ t. reads t rest) (ap (ok_or r) e)
kind_ok (Some kind) at r s rest e = after_ok (step kind r) at s (λ t. reads t rest) e

kind_err : (kind : Option Kind) (at : ℕ) (r : Reading) (w : CondFault) (rest : Scan) → front_step kind at r ≡ Err w → reads r (put_kind kind at rest) ≡ Err w
unfolding reads
kind_err None at r w rest e = cc
kind_err (Some kind) at r w rest e = after_err (step kind r) at w (λ t. reads t rest) e

-- what stands at the front, and then the text behind it
pub scan_front : (at : ℕ) (bytes : List ℕ) (kind : Option Kind) (len : ℕ) → front bytes ≡ Some (record { kind = kind; len = len }) → 1 ≤ len → len ≤ length bytes
    → scan 0 at bytes ≡ put_kind kind at (scan 0 (at + len) (drop len bytes))
unfolding scan
scan_front at [] kind len e some within = absurd (omega arith)
scan_front at (b ∷ bytes) kind zero e some within = absurd (omega arith)
scan_front at (b ∷ bytes) kind (suc n) e some within =
    let count : suc n - 1 ≡ n = omega arith in
    let next : at + 1 + n ≡ at + suc n = omega arith in
    ap (λ x. put x at (scan (more_of x) (at + 1) bytes)) e
    ∙ ap (put_kind kind at) (ap (λ k. scan k (at + 1) bytes) count ∙ scan_skips n (at + 1) bytes (omega arith) ∙ ap (λ place. scan 0 place (drop n bytes)) next)

pub read_ok : (r s : Reading) (at : ℕ) (bytes : List ℕ) (kind : Option Kind) (len : ℕ) → front bytes ≡ Some (record { kind = kind; len = len }) → 1 ≤ len → len ≤ length bytes
    → front_step kind at r ≡ Ok s → reads r (scan 0 at bytes) ≡ reads s (scan 0 (at + len) (drop len bytes))
read_ok r s at bytes kind len e some within goes = ap (reads r) (scan_front at bytes kind len e some within) ∙ kind_ok kind at r s _ goes

pub read_err : (r : Reading) (w : CondFault) (at : ℕ) (bytes : List ℕ) (kind : Option Kind) (len : ℕ) → front bytes ≡ Some (record { kind = kind; len = len }) → 1 ≤ len → len ≤ length bytes
    → front_step kind at r ≡ Err w → reads r (scan 0 at bytes) ≡ Err w
read_err r w at bytes kind len e some within goes = ap (reads r) (scan_front at bytes kind len e some within) ∙ kind_err kind at r w _ goes

-- nothing begins here
pub read_bad : (r : Reading) (at : ℕ) (bytes : List ℕ) → (bytes ≡ [] → ⊥) → front bytes ≡ None → reads r (scan 0 at bytes) ≡ Err (fault.Syntax at)
unfolding scan reads
read_bad r at [] some e = absurd (some refl)
read_bad r at (b ∷ bytes) some e = ap (λ x. reads r (put x at (scan (more_of x) (at + 1) bytes))) e

-- the text ends here
pub read_end : (r : Reading) (at : ℕ) → reads r (scan 0 at []) ≡ (if may_end r.expects r.outer then Ok r else Err (fault.Syntax at))
unfolding scan reads
read_end r at = refl

-- a fault of a step is the fault of the text
pub err_ends : (w : CondFault) (new : Reading) (x y : Result Reading CondFault) → Comes {A = Unit {0}} (Err w) new x → (x ≡ Err w → y ≡ Err w) → Ends (Err w) y
err_ends fault.OutOfMemory new x y e goes = tt
err_ends (fault.Syntax at) new x y e goes = goes e
err_ends (fault.UnknownField name) new x y e goes = goes e
err_ends (fault.TypeClash name) new x y e goes = goes e
err_ends fault.TooDeep new x y e goes = goes e
err_ends fault.TooLarge new x y e goes = goes e

-- a text without bytes is empty
pub nothing_left : (b : Bool) (bytes : List ℕ) → b ≡ nat_eq (length bytes) 0 → b ≡ true → bytes ≡ []
nothing_left b [] same test = refl
nothing_left true (x ∷ bytes) same test = absurd (omega (arith, eqb-true (length (x ∷ bytes)) 0 (sym same)))
nothing_left false (x ∷ bytes) same test = cc
