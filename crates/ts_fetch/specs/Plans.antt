-- Fetches whose calls are known once the metadata is read: the sizes of the objects that are used, and the ranges of the tiles.
use Rattle.std.specs.Prelude.{◌≡◌, ◌≢◌, ℕ, ◌+◌, ◌≤◌, ⊤, nat_eq, nat_lt, min, if◌then◌else◌, List, [], ◌∷◌, ◌++◌, length, Option, Some, None, All}
use Rattle.ts_wire.specs.Exact.{IsBytes}
use Rattle.ts_base.specs.declared.keys.FragKey.{FragKey}
use Rattle.ts_base.specs.declared.names.Part.{Part}
use Rattle.ts_base.specs.declared.names.Name.TheVariants as name
use Rattle.ts_base.specs.declared.heads.Version.{Version}
use Rattle.ts_base.specs.Names.{IsSpelledPart}
use Rattle.ts_store.specs.declared.call.Call.{Call}
use Rattle.ts_store.specs.declared.call.Call.TheVariants as call
use Rattle.ts_store.specs.declared.call.Reply.{Reply}
use Rattle.ts_store.specs.declared.call.Reply.TheVariants as reply
use Rattle.ts_store.specs.Calls.{part_of}
use Rattle.ts_schema.specs.Parts.{Look, Got, Sized}
use Rattle.ts_model.specs.Codecs.{Stepped, Asks, Takes, Breaks}
use Rattle.ts_actor.specs.declared.pieces.Fetched.{Fetched}
use Rattle.ts_actor.specs.declared.pieces.Fetched.TheVariants as fetched
use Rattle.ts_fetch.specs.declared.planned.Planned.{Planned}
use Rattle.ts_fetch.specs.declared.planned.Planned.TheVariants.{SizeOf, Range}
use Rattle.ts_fetch.specs.declared.judging.Verdict.{Verdict}
use Rattle.ts_fetch.specs.declared.judging.Verdict.TheVariants.{Whole, Broken}

-- what a judge says of the ranges that were got; G is what is known from the metadata
abbrev pub Judging : Type 0 → Type 0
Judging G = G → List (List ℕ) → Verdict

-- how far a fetch by a plan has come
pub record Going (G : Type 0) : Type 0 where
  -- what is known from the metadata
  pub given : G
  pub frag : FragKey
  -- the call that it waits for, if it asked for one
  pub waits : Option Planned
  -- the calls after it, in their order
  pub left : List Planned
  -- the ranges that were got, in their order
  pub got : List (List ℕ)

-- a fetch that will make these calls
abbrev pub begun : {G : Type 0} → G → FragKey → List Planned → Going G
begun given frag plan = record { given = given; frag = frag; waits = None; left = plan; got = [] }

-- the call that is planned, on a part of the fragment
abbrev pub call_of : FragKey → Planned → Call
call_of frag (SizeOf part size) = call.Size (name.Part frag part)
call_of frag (Range part from count) = call.Get (name.Part frag part) from count

-- the part of a call has a spelling
abbrev pub IsSpelledPlanned : Planned → Type 0
IsSpelledPlanned (SizeOf part size) = IsSpelledPart part
IsSpelledPlanned (Range part from count) = IsSpelledPart part

-- what a fetch does by what the judge says
abbrev pub stepped : {F : Type 0} → Verdict → Stepped F
stepped (Whole versions) = Takes versions
stepped (Broken part at) = Breaks part at

-- it asks for the next call of the plan, or judges what it got
abbrev pub asks_next : {G : Type 0} → Judging G → G → FragKey → List Planned → List (List ℕ) → Stepped (Going G)
asks_next judge given frag [] got = stepped (judge given got)
asks_next judge given frag (p ∷ left) got = Asks (record { given = given; frag = frag; waits = Some p; left = left; got = got }) (call_of frag p)

-- it waits as before, and asks for the size of a part
abbrev pub asks_size : {G : Type 0} → G → FragKey → Planned → Part → List Planned → List (List ℕ) → Stepped (Going G)
asks_size given frag p part left got = Asks (record { given = given; frag = frag; waits = Some p; left = left; got = got }) (call.Size (name.Part frag part))

-- what it does with a reply to the call that it waits for: a size has to be the stated one, a range is kept. A reply of another kind tells it nothing: there it would ask for the size of the part, where the code ends for want of memory, as it may at each step
abbrev pub told : {G : Type 0} → Judging G → G → FragKey → Option Planned → List Planned → List (List ℕ) → Reply → Stepped (Going G)
told judge given frag None left got r = asks_next judge given frag left got
told judge given frag (Some (SizeOf part size)) left got (reply.Length count) = if nat_eq count size then asks_next judge given frag left got else Breaks part (min count size)
told judge given frag (Some (Range part from count)) left got (reply.Bytes bytes) = asks_next judge given frag left (got ++ bytes ∷ [])
told judge given frag (Some (SizeOf part size)) left got r = asks_size given frag (SizeOf part size) part left got
told judge given frag (Some (Range part from count)) left got r = asks_size given frag (Range part from count) part left got

-- a step of a fetch by a plan
abbrev pub plan_steps : {G : Type 0} → Judging G → Going G → Reply → Stepped (Going G)
plan_steps judge f r = told judge f.given f.frag f.waits f.left f.got r

-- where a fetch may lack memory: it keeps a range, it judges since no call is left, or the reply was of another kind
abbrev pub MayLack : Option Planned → List Planned → Reply → Type 0
MayLack None left r = left ≡ []
MayLack (Some (SizeOf part size)) left (reply.Length count) = (left ≡ []) × (count ≡ size)
MayLack (Some (SizeOf part size)) left r = ⊤
MayLack (Some (Range part from count)) left r = ⊤

-- where it ended for want of memory, this was the cause
abbrev pub LacksFor : Type 0 → Fetched → Type 0
LacksFor cause fetched.OutOfMemory = cause
LacksFor cause _ = ⊤

-- more than the calls that a fetch still asks for
abbrev pub calls_left : {G : Type 0} → Going G → ℕ
calls_left f = length f.left + 1

-- how many calls of a list are gets
abbrev pub gets_planned : List Planned → ℕ
gets_planned [] = 0
gets_planned (SizeOf part size ∷ plan) = gets_planned plan
gets_planned (Range part from count ∷ plan) = gets_planned plan + 1

-- how many gets a fetch may still make
abbrev pub gets_left : {G : Type 0} → Going G → ℕ
gets_left f = gets_planned f.left

-- ---- over parts that are held

-- a part is held, and its size is the stated one
abbrev pub IsRight : Look → Planned → Type 0
IsRight look (SizeOf part size) = (bytes : List ℕ) × (look part ≡ Some bytes) × (length bytes ≡ size)
IsRight look (Range part from count) = (bytes : List ℕ) × (look part ≡ Some bytes)

-- the bytes of a part, none where it is not held
abbrev pub bytes_in : Option (List ℕ) → List ℕ
bytes_in None = []
bytes_in (Some bytes) = bytes

-- what the gets of a list find
abbrev pub ranges_of : Look → List Planned → List (List ℕ)
ranges_of look [] = []
ranges_of look (SizeOf part size ∷ plan) = ranges_of look plan
ranges_of look (Range part from count ∷ plan) = part_of from count (bytes_in (look part)) ∷ ranges_of look plan

-- a fetch waits for the reply to a call of its plan, is right about all that is left, and will find what is wanted
pub record OnPlan {G : Type 0} (judge : Judging G) (look : Look) (frag : FragKey) (wanted : List Version) (f : Going G) (c : Call) : Type 0 where
  pub now : Planned
  pub waits : f.waits ≡ Some now
  pub frag_is : f.frag ≡ frag
  pub call_is : c ≡ call_of frag now
  pub right : IsRight look now
  pub rest : All (IsRight look) f.left
  pub finds : judge f.given (f.got ++ ranges_of look (now ∷ f.left)) ≡ Whole wanted

-- ---- over what was heard

-- each get of a list got a range of bytes, no longer than it asked for
abbrev pub AreRanges : List Planned → List (List ℕ) → Type 0
AreRanges [] [] = ⊤
AreRanges [] (bytes ∷ got) = ⊥
AreRanges (SizeOf part size ∷ plan) got = AreRanges plan got
AreRanges (Range part from count ∷ plan) [] = ⊥
AreRanges (Range part from count ∷ plan) (bytes ∷ got) = (IsBytes bytes × (length bytes ≤ count)) × AreRanges plan got

-- what was got of the parts after these calls, the last first
abbrev pub gots_after : List Planned → List (List ℕ) → List Got → List Got
gots_after [] got gots = gots
gots_after (SizeOf part size ∷ plan) got gots = gots_after plan got gots
gots_after (Range part from count ∷ plan) [] gots = gots
gots_after (Range part from count ∷ plan) (bytes ∷ got) gots = gots_after plan got (record { part = part; at = from; bytes = bytes; ends = nat_lt (length bytes) count } ∷ gots)

-- which sizes were told after these calls, each the stated one, the last first
abbrev pub sizes_after : List Planned → List Sized → List Sized
sizes_after [] sizes = sizes
sizes_after (SizeOf part size ∷ plan) sizes = sizes_after plan (record { part = part; size = size } ∷ sizes)
sizes_after (Range part from count ∷ plan) sizes = sizes_after plan sizes

-- all these calls had their replies: the ranges that were got, and each size as stated
pub record HeardAll (start : List Got) (plan : List Planned) (got : List (List ℕ)) (gots : List Got) (sizes : List Sized) : Type 0 where
  pub ranges : AreRanges plan got
  pub gots_are : gots ≡ gots_after plan got start
  pub sizes_are : sizes ≡ sizes_after plan []

-- the whole plan had its replies, and the judge says this of the ranges
pub record IsJudged {G : Type 0} (judge : Judging G) (start : List Got) (given : G) (plan : List Planned) (verdict : Verdict) (gots : List Got) (sizes : List Sized) : Type 0 where
  pub got : List (List ℕ)
  pub heard : HeardAll start plan got gots sizes
  pub judged : judge given got ≡ verdict

-- the last size that was told is another than the stated one, and this is the lesser of the two
pub record IsOtherSize (start : List Got) (plan : List Planned) (part : Part) (at : ℕ) (gots : List Got) (sizes : List Sized) : Type 0 where
  pub front : List Planned
  pub rest : List Planned
  pub got : List (List ℕ)
  pub before : List Sized
  pub size : ℕ
  pub count : ℕ
  pub plan_is : plan ≡ front ++ SizeOf part size ∷ rest
  pub heard : HeardAll start front got gots before
  pub told_is : sizes ≡ record { part = part; size = count } ∷ before
  pub other : count ≢ size
  pub at_is : at ≡ min count size
