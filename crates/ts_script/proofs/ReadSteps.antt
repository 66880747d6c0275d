-- Reading tokens, a value at a time.
use Rattle.std.proofs.Common.{◌≡◌, ℕ, zero, suc, ℤ, ◌-◌, ◌<◌, ◌≤◌, List, [], ◌∷◌, ◌++◌, length, Bool, true, false, true≢false, Bor, ◌⊎◌, inl, inr, Option, Some, None, option_map, option_and_then, refl, sym, ap, ◌∙◌, arith}
use Rattle.std.specs.Prelude.{MatchOption, is_some}
use Rattle.json.specs.Token.{Token}
use Rattle.json.specs.Reads.{token_of}
use Rattle.json.specs.declared.token.Token as kit
use Rattle.json.specs.declared.token.Token.TheVariants.{EndArray, EndObject, Key, Bad}
use Rattle.json.specs.Json as json
use Rattle.json.specs.Json.{Parse, parse_map, after_end_array, read_key, items_step, members_step, items, members, value, if_last}
use Rattle.json.proofs.Grammar.{Takes, left, value_is, value-begin_array, value-begin_object, skip_value-shorter, items_end, items_more, members_end, members_no_key, members_more, read_key-shorter}
use Rattle.serde_json.specs.Data.{Num, Data, null, boolean, number, string, array, object, Items, no_items, item, Members, no_members, put}
use Rattle.json.specs.Lex.{tokens}
use Rattle.serde_json.specs.Read.{number_of, of_json, of_items, of_members, converted, max_depth, read}
use Rattle.serde_json.specs.Find.{of_integer}
use Rattle.serde_json.specs.View.{items_of}
use Rattle.ts_script.specs.Readings.{value_at, onto, items_from, members_from}

-- ---- what was converted

abbrev pick : {A : Type 0} → A → Option A → A
pick d None = d
pick d (Some a) = a

found : {A B : Type 0} (a : A) (r s : List Token) (x : Option B) (b : B) → option_map {U = B × List Token} (λ y. (y, r)) x ≡ Some (b, s) → (r ≡ s) × (x ≡ Some b)
found a r s None b e = absurd (cc)
found a r s (Some y) b e = let same = ap (pick (y, r)) e in (ap (λ p. p.1) same, ap (λ p. Some p.0) same)

-- what was read under a conversion was read before it
pub was_read : {A B : Type 0} (f : A → Option B) (o : Option (A × List Token)) (b : B) (r : List Token) → converted f o ≡ Some (b, r) → (a : A) × (o ≡ Some (a, r)) × (f a ≡ Some b)
was_read f None b r e = absurd (cc)
was_read f (Some p) b r e = let both = found p.0 p.1 r (f p.0) b e in (p.0, ap (λ s. Some (p.0, s)) both.0, both.1)

refused : {B : Type 0} (r : List Token) (x : Option B) → option_map {U = B × List Token} (λ y. (y, r)) x ≡ None → x ≡ None
refused r None e = refl
refused r (Some y) e = absurd (cc)

-- ---- the number of turns plays no part where there are enough

module _ (p : Parse json.Json) (takes : Takes p) (none : p [] ≡ None) where
  item_turn : (f g : Parse json.Items) (n : ℕ) (o : Option (json.Json × List Token)) → ((x : List Token) → left o ≡ Some x → length x < n) → ((x : List Token) → length x < n → f x ≡ g x)
      → option_and_then (λ q. parse_map (json.item q.0) (f q.1)) o ≡ option_and_then (λ q. parse_map (json.item q.0) (g q.1)) o
  item_turn f g n None first same = refl
  item_turn f g n (Some q) first same = ap (parse_map (json.item q.0)) (same q.1 (first q.1 refl))

  item_step : (f g : Parse json.Items) (ts : List Token) (o : Option (List Token)) → ((x : List Token) → length x < length ts → f x ≡ g x) → items_step p f ts o ≡ items_step p g ts o
  item_step f g ts (Some r) same = refl
  item_step f g ts None same = item_turn f g (length ts) (p ts) (takes ts) same

  items_enough : (n m : ℕ) (ts : List Token) → length ts ≤ n → length ts ≤ m → items p n ts ≡ items p m ts
  unfolding items
  items_enough zero zero ts a b = refl
  items_enough zero (suc m) [] a b = sym (ap (option_and_then (λ q. parse_map (json.item q.0) (items p m q.1))) none)
  items_enough zero (suc m) (t ∷ ts) a b = absurd (omega arith)
  items_enough (suc n) zero [] a b = ap (option_and_then (λ q. parse_map (json.item q.0) (items p n q.1))) none
  items_enough (suc n) zero (t ∷ ts) a b = absurd (omega arith)
  items_enough (suc n) (suc m) ts a b = item_step (items p n) (items p m) ts (after_end_array ts) (λ x h. items_enough n m x (omega arith) (omega arith))

  member_turn : (k : List ℕ) (f g : Parse json.Members) (n : ℕ) (o : Option (json.Json × List Token)) → ((x : List Token) → left o ≡ Some x → length x < n) → ((x : List Token) → length x < n → f x ≡ g x)
      → option_and_then (λ q. parse_map (json.member k q.0) (f q.1)) o ≡ option_and_then (λ q. parse_map (json.member k q.0) (g q.1)) o
  member_turn k f g n None first same = refl
  member_turn k f g n (Some q) first same = ap (parse_map (json.member k q.0)) (same q.1 (first q.1 refl))

  member_step : (f g : Parse json.Members) (ts : List Token) (o : Option (Option (List ℕ) × List Token)) → read_key ts ≡ o → ((x : List Token) → length x < length ts → f x ≡ g x)
      → option_and_then (λ q. members_step p f q.0 q.1) o ≡ option_and_then (λ q. members_step p g q.0 q.1) o
  member_step f g ts None e same = refl
  member_step f g ts (Some (None, s)) e same = refl
  member_step f g ts (Some (Some k, s)) e same =
      let less : length s < length ts = read_key-shorter ts (Some k) s e in
      member_turn k f g (length s) (p s) (takes s) (λ x h. same x (omega arith))

  members_enough : (n m : ℕ) (ts : List Token) → length ts ≤ n → length ts ≤ m → members p n ts ≡ members p m ts
  unfolding members
  members_enough zero zero ts a b = refl
  members_enough zero (suc m) [] a b = refl
  members_enough zero (suc m) (t ∷ ts) a b = absurd (omega arith)
  members_enough (suc n) zero [] a b = refl
  members_enough (suc n) zero (t ∷ ts) a b = absurd (omega arith)
  members_enough (suc n) (suc m) ts a b = member_step (members p n) (members p m) ts (read_key ts) refl (λ x h. members_enough n m x (omega arith) (omega arith))

no_tokens : (depth : ℕ) → value depth [] ≡ None
no_tokens depth = value_is depth []

-- ---- values

pub value_at-none : (depth : ℕ) → value_at depth [] ≡ None
unfolding value_at
value_at-none depth = ap (converted of_json) (value_is depth [])

pub value_at-null : (depth : ℕ) (ts : List Token) → value_at depth (Token.null ∷ ts) ≡ Some (null, ts)
unfolding value_at
value_at-null depth ts = ap (converted of_json) (value_is depth (Token.null ∷ ts))

pub value_at-boolean : (depth : ℕ) (b : Bool) (ts : List Token) → value_at depth (Token.boolean b ∷ ts) ≡ Some (boolean b, ts)
unfolding value_at
value_at-boolean depth b ts = ap (converted of_json) (value_is depth (Token.boolean b ∷ ts))

pub value_at-string : (depth : ℕ) (s : List ℕ) (ts : List Token) → value_at depth (Token.string s ∷ ts) ≡ Some (string s, ts)
unfolding value_at
value_at-string depth s ts = ap (converted of_json) (value_is depth (Token.string s ∷ ts))

number_read : (ts : List Token) (o : Option Num) → option_map {U = Data × List Token} (λ d. (d, ts)) (option_map number o) ≡ option_map {U = Data × List Token} (λ n. (number n, ts)) o
number_read ts None = refl
number_read ts (Some n) = refl

pub value_at-number : (depth : ℕ) (s : List ℕ) (ts : List Token) → value_at depth (Token.number s ∷ ts) ≡ option_map (λ n. (number n, ts)) (number_of s)
unfolding value_at
value_at-number depth s ts = ap (converted of_json) (value_is depth (Token.number s ∷ ts)) ∙ number_read ts (number_of s)

pub value_at-whole : (depth : ℕ) (s : List ℕ) (z : ℤ) (ts : List Token) → number_of s ≡ Some (of_integer z) → value_at depth (Token.number s ∷ ts) ≡ Some (number (of_integer z), ts)
value_at-whole depth s z ts e = value_at-number depth s ts ∙ rw e

pub ruleset plain_values = (value_at-null, value_at-string, value_at-whole)

pub value_at-number_read : (depth : ℕ) (s : List ℕ) (n : Num) (ts : List Token) → Some n ≡ number_of s → value_at depth (Token.number s ∷ ts) ≡ Some (number n, ts)
value_at-number_read depth s n ts e = value_at-number depth s ts ∙ rw (← e)

pub value_at-no_number : (depth : ℕ) (s : List ℕ) (ts : List Token) → None ≡ number_of s → value_at depth (Token.number s ∷ ts) ≡ None
value_at-no_number depth s ts e = value_at-number depth s ts ∙ rw (← e)

twice : {A B : Type 0} (g : A → B) (r : List Token) (x : Option A) → option_map (λ b. (b, r)) (option_map g x) ≡ parse_map g (option_map (λ a. (a, r)) x)
twice g r None = refl
twice g r (Some a) = refl

converted-array : (o : Option (json.Items × List Token)) → converted of_json (parse_map json.array o) ≡ parse_map array (converted of_items o)
converted-array None = refl
converted-array (Some p) = twice array p.1 (of_items p.0)

converted-object : (o : Option (json.Members × List Token)) → converted of_json (parse_map json.object o) ≡ parse_map object (converted (λ ms. of_members ms no_members) o)
converted-object None = refl
converted-object (Some p) = twice object p.1 (of_members p.0 no_members)

onto_none : (o : Option (Items × List Token)) → o ≡ parse_map (onto []) o
onto_none None = refl
onto_none (Some p) = refl

pub value_at-array : (depth : ℕ) (ts : List Token) → 0 < depth → value_at depth (Token.begin_array ∷ ts) ≡ parse_map array (items_from (depth - 1) [] ts)
unfolding value_at items_from
value_at-array depth ts some =
    ap (converted of_json) (value-begin_array depth ts some) ∙ converted-array (items (value (depth - 1)) (length ts) ts) ∙ ap (parse_map array) (onto_none _)

pub value_at-object : (depth : ℕ) (ts : List Token) → 0 < depth → value_at depth (Token.begin_object ∷ ts) ≡ parse_map object (members_from (depth - 1) no_members ts)
unfolding value_at members_from
value_at-object depth ts some = ap (converted of_json) (value-begin_object depth ts some) ∙ converted-object (members (value (depth - 1)) (length ts) ts)

-- ---- tokens at which no value begins

pub value_at-too_deep_array : (depth : ℕ) (ts : List Token) → depth ≡ 0 → value_at depth (Token.begin_array ∷ ts) ≡ None
unfolding value_at value
value_at-too_deep_array zero ts e = refl
value_at-too_deep_array (suc d) ts e = absurd (omega arith)

pub value_at-too_deep_object : (depth : ℕ) (ts : List Token) → depth ≡ 0 → value_at depth (Token.begin_object ∷ ts) ≡ None
unfolding value_at value
value_at-too_deep_object zero ts e = refl
value_at-too_deep_object (suc d) ts e = absurd (omega arith)

value_at-end_array : (depth : ℕ) (ts : List Token) → value_at depth (Token.end_array ∷ ts) ≡ None
unfolding value_at
value_at-end_array depth ts = ap (converted of_json) (value_is depth (Token.end_array ∷ ts))

value_at-end_object : (depth : ℕ) (ts : List Token) → value_at depth (Token.end_object ∷ ts) ≡ None
unfolding value_at
value_at-end_object depth ts = ap (converted of_json) (value_is depth (Token.end_object ∷ ts))

value_at-key : (depth : ℕ) (s : List ℕ) (ts : List Token) → value_at depth (Token.key s ∷ ts) ≡ None
unfolding value_at
value_at-key depth s ts = ap (converted of_json) (value_is depth (Token.key s ∷ ts))

value_at-bad : (depth : ℕ) (ts : List Token) → value_at depth (Token.bad ∷ ts) ≡ None
unfolding value_at
value_at-bad depth ts = ap (converted of_json) (value_is depth (Token.bad ∷ ts))

-- a token that ends something, or a key, begins no value
pub no_value : (depth : ℕ) (t : kit.Token) (ts : List Token) → (t ≡ EndArray) ⊎ ((t ≡ EndObject) ⊎ (((x : Bor (List ℕ)) × (t ≡ Key x)) ⊎ (t ≡ Bad))) → value_at depth (token_of t ∷ ts) ≡ None
no_value depth t ts (inl e) = rw e (value_at-end_array depth ts)
no_value depth t ts (inr (inl e)) = rw e (value_at-end_object depth ts)
no_value depth t ts (inr (inr (inl k))) = rw k.1 (value_at-key depth k.0.now ts)
no_value depth t ts (inr (inr (inr e))) = rw e (value_at-bad depth ts)

-- ---- items

onto_one : (done : List Data) (d : Data) (rest : Items) → onto done (item d rest) ≡ onto (done ++ d ∷ []) rest
onto_one [] d rest = refl
onto_one (e ∷ done) d rest = ap (item e) (onto_one done d rest)

onto_end : (done : List Data) → onto done no_items ≡ items_of done
onto_end [] = refl
onto_end (d ∷ done) = ap (item d) (onto_end done)

with_item : (done : List Data) (j : json.Json) (d : Data) → of_json j ≡ Some d → (o : Option (json.Items × List Token))
    → parse_map (onto done) (converted of_items (parse_map (json.item j) o)) ≡ parse_map (onto (done ++ d ∷ [])) (converted of_items o)
with_item done j d e None = refl
with_item done j d e (Some p) = rw e (by (of_items p.0))
  where
    by : (x : Option Items) → parse_map (onto done) (option_map (λ b. (b, p.1)) (option_map (item d) x)) ≡ parse_map (onto (done ++ d ∷ [])) (option_map (λ b. (b, p.1)) x)
    by None = refl
    by (Some ds) = ap (λ all. Some (all, p.1)) (onto_one done d ds)

without_item : (j : json.Json) → of_json j ≡ None → (o : Option (json.Items × List Token)) → converted of_items (parse_map (json.item j) o) ≡ None
without_item j e None = refl
without_item j e (Some p) = rw e

no_item : (more : Parse json.Items) (o : Option (json.Json × List Token)) → converted of_json o ≡ None → converted of_items (option_and_then (λ q. parse_map (json.item q.0) (more q.1)) o) ≡ None
no_item more None e = refl
no_item more (Some q) e = without_item q.0 (refused q.1 (of_json q.0) e) (more q.1)

item_refused : (p : Parse json.Json) (n : ℕ) (ts : List Token) → after_end_array ts ≡ None → converted of_json (p ts) ≡ None → converted of_items (items p n ts) ≡ None
unfolding items
item_refused p zero ts going e = refl
item_refused p (suc n) ts going e = ap (λ o. converted of_items (items_step p (items p n) ts o)) going ∙ no_item (items p n) (p ts) e

-- a value that was read is one more item
pub items_from-next : (depth : ℕ) (done : List Data) (ts r : List Token) (d : Data) → after_end_array ts ≡ None → value_at depth ts ≡ Some (d, r)
    → items_from depth done ts ≡ items_from depth (done ++ d ∷ []) r
unfolding value_at items_from
items_from-next depth done ts r d going was =
    let p = value depth in
    let j = was_read of_json (p ts) d r was in
    let less : length r < length ts = skip_value-shorter depth ts r (ap left j.1) in
    let some : 0 < length ts = omega arith in
    let same = items_enough p (skip_value-shorter depth) (no_tokens depth) (length ts - 1) (length r) r (omega arith) (omega arith) in
    ap (λ o. parse_map (onto done) (converted of_items o)) (items_more p (length ts) ts r j.0 some going j.1 ∙ ap (parse_map (json.item j.0)) same) ∙ with_item done j.0 d j.2 (items p (length r) r)

pub items_from-stops : (depth : ℕ) (done : List Data) (ts : List Token) → after_end_array ts ≡ None → value_at depth ts ≡ None → items_from depth done ts ≡ None
unfolding value_at items_from
items_from-stops depth done ts going none = ap (parse_map (onto done)) (item_refused (value depth) (length ts) ts going none)

pub items_from-ends : (depth : ℕ) (done : List Data) (ts r : List Token) → after_end_array ts ≡ Some r → items_from depth done ts ≡ Some (items_of done, r)
unfolding items_from
items_from-ends depth done ts r e =
    ap (λ o. parse_map (onto done) (converted of_items o)) (items_end (value depth) (length ts) ts r (omega arith) e) ∙ ap (λ all. Some (all, r)) (onto_end done)

onto_both : (done more : List Data) (rest : Items) → onto (done ++ more) rest ≡ onto done (onto more rest)
onto_both [] more rest = refl
onto_both (d ∷ done) more rest = ap (item d) (onto_both done more rest)

onto_items : (done more : List Data) → onto done (items_of more) ≡ items_of (done ++ more)
onto_items [] more = refl
onto_items (d ∷ done) more = ap (item d) (onto_items done more)

front_by : (done more : List Data) (o : Option (Items × List Token)) → parse_map (onto (done ++ more)) o ≡ parse_map (onto done) (parse_map (onto more) o)
front_by done more None = refl
front_by done more (Some p) = ap (λ all. Some (all, p.1)) (onto_both done more p.0)

-- what is read behind some items is read behind others in front of these
pub items_from-front : (depth : ℕ) (done more all : List Data) (ts r : List Token) → items_from depth more ts ≡ Some (items_of all, r) → items_from depth (done ++ more) ts ≡ Some (items_of (done ++ all), r)
unfolding items_from
items_from-front depth done more all ts r e = front_by done more _ ∙ ap (parse_map (onto done)) e ∙ ap (λ items. Some (items, r)) (onto_items done all)

pub items_from-front_stops : (depth : ℕ) (done more : List Data) (ts : List Token) → items_from depth more ts ≡ None → items_from depth (done ++ more) ts ≡ None
unfolding items_from
items_from-front_stops depth done more ts e = front_by done more _ ∙ ap (parse_map (onto done)) e

-- ---- members

with_member : (k : List ℕ) (j : json.Json) (d : Data) (old : Members) → of_json j ≡ Some d → (o : Option (json.Members × List Token))
    → converted (λ ms. of_members ms old) (parse_map (json.member k j) o) ≡ converted (λ ms. of_members ms (put k d old)) o
with_member k j d old e None = refl
with_member k j d old e (Some p) = rw e

without_member : (k : List ℕ) (j : json.Json) (old : Members) → of_json j ≡ None → (o : Option (json.Members × List Token)) → converted (λ ms. of_members ms old) (parse_map (json.member k j) o) ≡ None
without_member k j old e None = refl
without_member k j old e (Some p) = rw e

no_member : (old : Members) (k : List ℕ) (more : Parse json.Members) (o : Option (json.Json × List Token)) → converted of_json o ≡ None
    → converted (λ ms. of_members ms old) (option_and_then (λ q. parse_map (json.member k q.0) (more q.1)) o) ≡ None
no_member old k more None e = refl
no_member old k more (Some q) e = without_member k q.0 old (refused q.1 (of_json q.0) e) (more q.1)

member_refused : (p : Parse json.Json) (old : Members) (n : ℕ) (k : List ℕ) (ts s : List Token) → read_key ts ≡ Some (Some k, s) → converted of_json (p s) ≡ None → converted (λ ms. of_members ms old) (members p n ts) ≡ None
unfolding members
member_refused p old zero k ts s key e = refl
member_refused p old (suc n) k ts s key e = rw key (no_member old k (members p n) (p s) e)

-- a value that was read is put under its key
pub members_from-next : (depth : ℕ) (old : Members) (k : List ℕ) (ts s r : List Token) (d : Data) → read_key ts ≡ Some (Some k, s) → value_at depth s ≡ Some (d, r)
    → members_from depth old ts ≡ members_from depth (put k d old) r
unfolding value_at members_from
members_from-next depth old k ts s r d key was =
    let p = value depth in
    let j = was_read of_json (p s) d r was in
    let first : length s < length ts = read_key-shorter ts (Some k) s key in
    let less : length r < length s = skip_value-shorter depth s r (ap left j.1) in
    let some : 0 < length ts = omega arith in
    let same = members_enough p (skip_value-shorter depth) (no_tokens depth) (length ts - 1) (length r) r (omega arith) (omega arith) in
    ap (converted (λ ms. of_members ms old)) (members_more p (length ts) k ts s r j.0 some key j.1 ∙ ap (parse_map (json.member k j.0)) same) ∙ with_member k j.0 d old j.2 (members p (length r) r)

pub members_from-stops : (depth : ℕ) (old : Members) (k : List ℕ) (ts s : List Token) → read_key ts ≡ Some (Some k, s) → value_at depth s ≡ None → members_from depth old ts ≡ None
unfolding value_at members_from
members_from-stops depth old k ts s key none = member_refused (value depth) old (length ts) k ts s key none

pub members_from-no_key : (depth : ℕ) (old : Members) (ts : List Token) → read_key ts ≡ None → members_from depth old ts ≡ None
unfolding members_from
members_from-no_key depth old ts e = ap (converted (λ ms. of_members ms old)) (members_no_key (value depth) (length ts) ts e)

pub members_from-ends : (depth : ℕ) (old : Members) (ts r : List Token) → read_key ts ≡ Some (None, r) → members_from depth old ts ≡ Some (old, r)
unfolding members_from
members_from-ends depth old ts r e = ap (converted (λ ms. of_members ms old)) (members_end (value depth) (length ts) ts r (omega arith) e)

-- ---- the whole text

abbrev whole : Option (json.Json × List Token) → Option Data
whole o = option_and_then of_json (option_and_then (λ p. if_last p.0 p.1) o)

read-all : (text : List ℕ) (d : Data) → value_at max_depth (tokens text) ≡ Some (d, []) → read text ≡ Some d
unfolding value_at
read-all text d e = let j = was_read of_json (value max_depth (tokens text)) d [] e in ap whole j.1 ∙ j.2

read-more : (text : List ℕ) (d : Data) (t : Token) (r : List Token) → value_at max_depth (tokens text) ≡ Some (d, t ∷ r) → read text ≡ None
unfolding value_at
read-more text d t r e = let j = was_read of_json (value max_depth (tokens text)) d (t ∷ r) e in ap whole j.1

whole_refused : (o : Option (json.Json × List Token)) → converted of_json o ≡ None → whole o ≡ None
whole_refused None e = refl
whole_refused (Some (j, [])) e = refused [] (of_json j) e
whole_refused (Some (j, t ∷ r)) e = refl

pub read-none : (text : List ℕ) → value_at max_depth (tokens text) ≡ None → read text ≡ None
unfolding value_at
read-none text e = whole_refused (value max_depth (tokens text)) e

-- what follows the value of a text decides whether it is one
pub read-over : (text : List ℕ) (d : Data) (old new : List Token) (o : Option kit.Token) → MatchOption o ((old ≡ []) × (new ≡ [])) (λ t. old ≡ token_of t ∷ new)
    → value_at max_depth (tokens text) ≡ Some (d, old) → is_some o ≡ false → read text ≡ Some d
read-over text d old new None yields e none = read-all text d (e ∙ ap (λ r. Some (d, r)) yields.0)
read-over text d old new (Some t) yields e none = absurd (true≢false none)

pub read-not_over : (text : List ℕ) (d : Data) (old new : List Token) (o : Option kit.Token) → MatchOption o ((old ≡ []) × (new ≡ [])) (λ t. old ≡ token_of t ∷ new)
    → value_at max_depth (tokens text) ≡ Some (d, old) → is_some o ≡ true → read text ≡ None
read-not_over text d old new None yields e some = absurd (true≢false (sym some))
read-not_over text d old new (Some t) yields e some = read-more text d (token_of t) new (e ∙ ap (λ r. Some (d, r)) yields)
