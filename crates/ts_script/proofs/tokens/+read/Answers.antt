use Rattle.std.proofs.Common.{◌≡◌, ◌-◌, ◌∷◌, ◌++◌, [], ◌<◌, length, map, append-nil, Some, None, string_bytes, sym, ap, ◌∙◌, arith, rules}
use Rattle.json.specs.Json.{parse_map, after_end_array, read_key}
use Rattle.json.specs.Reads.{token_of}
use Rattle.serde_json.specs.Data.{array, string, object, put}
use Rattle.json.proofs.Grammar.{read_key-shorter}
use Rattle.serde_json.specs.View.{number_view, items_of}
use Rattle.ts_table.specs.Columns.{val_seen}
use Rattle.ts_script.specs.Readings.{value_at, items_from, members_from}
use Rattle.ts_script.specs.Trees.{data_of, view, members_view}
use Rattle.ts_script.proofs.ReadSteps.{value_at-none, value_at-null, value_at-boolean, value_at-string, value_at-number_read, value_at-no_number, value_at-array, value_at-object, value_at-too_deep_array, value_at-too_deep_object, no_value, items_from-next, items_from-stops, items_from-ends, items_from-front, items_from-front_stops, members_from-next, members_from-stops, members_from-no_key, members_from-ends}
use Rattle.ts_script.proofs.TreeLemmas.{view-Null, view-Bool, view-Number, view-Text, view-Object, members_view-insert, map_one}
use Rattle.ts_script.proofs.tokens.+read.Goals as goal

pub read_from-returns-in_err-read_members-in_default-depth-clause-form :
    goal.read_from-returns-in_err-read_members-in_default-depth-clause-form
read_from-returns-in_err-read_members-in_default-depth-clause-form t c refused =
    ap (λ k. value_at c.args.depth (token_of k ∷ c.args.reader.now)) c.in-BeginObject.is ∙ value_at-object c.args.depth c.args.reader.now (omega arith)
    ∙ ap (parse_map object) (c.read_members.ensures.form (grind arith))

pub read_from-returns-in-0-clause-form : goal.read_from-returns-in-0-clause-form
read_from-returns-in-0-clause-form t c refused =
    ap (λ k. value_at c.args.depth (token_of k ∷ c.args.reader.now)) c.in-BeginArray.is ∙ value_at-too_deep_array c.args.depth c.args.reader.now c.in-0.is

pub read_from-returns-in_default-clause-value : goal.read_from-returns-in_default-clause-value
read_from-returns-in_default-clause-value t c =
    let opened : value_at c.args.depth (token_of c.args.token ∷ c.args.reader.now) ≡ parse_map array (items_from (c.args.depth - 1) [] c.args.reader.now) =
    ap (λ k. value_at c.args.depth (token_of k ∷ c.args.reader.now)) c.in-BeginArray.is ∙ value_at-array c.args.depth c.args.reader.now (omega arith) in
    rw opened c.read_list.ensures.value

pub read_from-returns-in_default-clause-form : goal.read_from-returns-in_default-clause-form
read_from-returns-in_default-clause-form t c refused =
    ap (λ k. value_at c.args.depth (token_of k ∷ c.args.reader.now)) c.in-BeginArray.is ∙ value_at-array c.args.depth c.args.reader.now (omega arith)
    ∙ ap (parse_map array) (c.read_list.ensures.form refused)

pub read_from-returns-in-0-depth-clause-form : goal.read_from-returns-in-0-depth-clause-form
read_from-returns-in-0-depth-clause-form t c refused =
    ap (λ k. value_at c.args.depth (token_of k ∷ c.args.reader.now)) c.in-BeginObject.is ∙ value_at-too_deep_object c.args.depth c.args.reader.now c.in-0-depth.is

pub read_from-returns-in_ok-read_members-in_default-depth-clause-value :
    goal.read_from-returns-in_ok-read_members-in_default-depth-clause-value
read_from-returns-in_ok-read_members-in_default-depth-clause-value t c =
    let found = c.in_ok-read_members-in_default-depth in
    ap (λ k. value_at c.args.depth (token_of k ∷ c.args.reader.now)) c.in-BeginObject.is ∙ value_at-object c.args.depth c.args.reader.now (omega arith)
    ∙ ap (parse_map object) found.ensures.value ∙ ap (λ d. Some (d, c.read_members.new.reader)) (sym (view-Object found.field-0))

pub read_from-returns-in_ok-from_str-in-String-clause-value :
    goal.read_from-returns-in_ok-from_str-in-String-clause-value
read_from-returns-in_ok-from_str-in-String-clause-value t c =
    let text = c.in_ok-from_str-in-String.field-0 in
    let same : string_bytes text ≡ c.in-String.text.now = search rules in
    ap (λ k. value_at c.args.depth (token_of k ∷ c.args.reader.now)) c.in-String.is ∙ value_at-string c.args.depth c.in-String.text.now c.args.reader.now
    ∙ ap (λ d. Some (d, c.args.reader.now)) (sym (view-Text text ∙ ap (λ s. string s) same))

pub read_from-returns-in-Some-clause-value : goal.read_from-returns-in-Some-clause-value
read_from-returns-in-Some-clause-value t c =
    ap (λ k. value_at c.args.depth (token_of k ∷ c.args.reader.now)) c.in-Number.is
    ∙ value_at-number_read c.args.depth c.in-Number.text.now (number_view c.in-Some.number) c.args.reader.now c.in-Some.ensures
    ∙ ap (λ d. Some (d, c.args.reader.now)) (sym (view-Number c.in-Some.number))

pub read_from-returns-in-None-clause-form : goal.read_from-returns-in-None-clause-form
read_from-returns-in-None-clause-form t c refused =
    ap (λ k. value_at c.args.depth (token_of k ∷ c.args.reader.now)) c.in-Number.is ∙ value_at-no_number c.args.depth c.in-Number.text.now c.args.reader.now c.in-None.ensures

pub read_from-returns-in-Bool-clause-value : goal.read_from-returns-in-Bool-clause-value
read_from-returns-in-Bool-clause-value t c =
    ap (λ k. value_at c.args.depth (token_of k ∷ c.args.reader.now)) c.in-Bool.is ∙ value_at-boolean c.args.depth c.in-Bool.is' c.args.reader.now
    ∙ ap (λ d. Some (d, c.args.reader.now)) (sym (view-Bool c.in-Bool.is'))

pub read_from-returns-in-Null-clause-value : goal.read_from-returns-in-Null-clause-value
read_from-returns-in-Null-clause-value t c =
    ap (λ k. value_at c.args.depth (token_of k ∷ c.args.reader.now)) c.in-Null.is ∙ value_at-null c.args.depth c.args.reader.now ∙ ap (λ d. Some (d, c.args.reader.now)) (sym view-Null)

pub read_from-returns-in-EndArray-clause-form : goal.read_from-returns-in-EndArray-clause-form
read_from-returns-in-EndArray-clause-form t c refused = no_value c.args.depth c.args.token c.args.reader.now c.in-EndArray.is

pub read_list-returns-in_default-clause-form : goal.read_list-returns-in_default-clause-form
read_list-returns-in_default-clause-form t c refused =
    let l = c.items in
    let going : (after_end_array l.reader ≡ None) × (c.take_end_array.new.self ≡ l.reader) = grind arith in
    let over : l.reader ≡ [] = grind arith in
    l.invariant.reads ∙ items_from-stops c.args.depth (map data_of l.cells.column) l.reader going.0 (ap (value_at c.args.depth) over ∙ value_at-none c.args.depth)

pub read_list-returns-in_err-first-clause-form : goal.read_list-returns-in_err-first-clause-form
read_list-returns-in_err-first-clause-form t c refused =
    let l = c.items in
    let going : (after_end_array l.reader ≡ None) × (c.take_end_array.new.self ≡ l.reader) = grind arith in
    let first : l.reader ≡ token_of c.in-Some.token ∷ c.next.new.self = grind arith in
    l.invariant.reads ∙ items_from-stops c.args.depth (map data_of l.cells.column) l.reader going.0 (ap (value_at c.args.depth) first ∙ c.read_from.ensures.form (grind arith))

pub read_list-returns-in_err-rest-clause-form : goal.read_list-returns-in_err-rest-clause-form
read_list-returns-in_err-rest-clause-form t c refused =
    let l = c.items in
    let done = map data_of l.cells.column in
    let going : (after_end_array l.reader ≡ None) × (c.take_end_array.new.self ≡ l.reader) = grind arith in
    let first : l.reader ≡ token_of c.in-Some.token ∷ c.next.new.self = grind arith in
    let r = c.read_from.new.reader in
    let v = view c.in_ok-first.first in
    l.invariant.reads ∙ items_from-next c.args.depth done l.reader r v going.0 (ap (value_at c.args.depth) first ∙ c.in_ok-first.ensures.value)
    ∙ items_from-front_stops c.args.depth done (v ∷ []) r (c.read_rest.ensures.form (grind arith))

pub read_list-returns-in_default-seen_in-clause-value :
    goal.read_list-returns-in_default-seen_in-clause-value
read_list-returns-in_default-seen_in-clause-value t c =
    let l = c.items in
    let done = map data_of l.cells.column in
    let going : (after_end_array l.reader ≡ None) × (c.take_end_array.new.self ≡ l.reader) = grind arith in
    let first : l.reader ≡ token_of c.in-Some.token ∷ c.next.new.self = grind arith in
    let r = c.read_from.new.reader in
    let v = view c.in_ok-first.first in
    let all = l.invariant.reads ∙ items_from-next c.args.depth done l.reader r v going.0 (ap (value_at c.args.depth) first ∙ c.in_ok-first.ensures.value)
    ∙ items_from-front c.args.depth done (v ∷ []) (map view c.in_ok-rest.rest.items) r c.read_rest.new.reader c.in_ok-rest.ensures.value in
    ap (parse_map array) all ∙ ap (λ d. Some (d, c.read_rest.new.reader)) (sym c.in_ok-list.ensures)

pub read_list-items-preserved : goal.read_list-items-preserved
read_list-items-preserved t c =
    let l = c.items in
    let done = map data_of l.cells.column in
    let going : (after_end_array l.reader ≡ None) × (c.take_end_array.new.self ≡ l.reader) = grind arith in
    let first : l.reader ≡ token_of c.in-Some.token ∷ c.next.new.self = grind arith in
    let r = c.next.new.self in
    let v = data_of (val_seen c.in-Some-seen_in.seen) in
    let more : map data_of c.push.new.self.column ≡ done ++ v ∷ [] = ap (map data_of) c.in_ok-push.ensures ∙ map_one data_of l.cells.column (val_seen c.in-Some-seen_in.seen) in
    record {
      reads = l.invariant.reads ∙ items_from-next c.args.depth done l.reader r v going.0 (ap (value_at c.args.depth) first ∙ c.in-Some-seen_in.ensures c.args.depth r)
          ∙ ap (λ ds. items_from c.args.depth ds r) (sym more);
      shorter = omega (arith, ap length first);
    }

pub read_list-returns-clause-value : goal.read_list-returns-clause-value
read_list-returns-clause-value t c =
    let l = c.items in
    let ends : after_end_array l.reader ≡ Some c.take_end_array.new.self = grind arith in
    let none : c.new.result.items ≡ [] = c.new.ensures.items in
    ap (parse_map array) (l.invariant.reads ∙ items_from-ends c.args.depth (map data_of l.cells.column) l.reader c.take_end_array.new.self ends)
    ∙ ap (λ d. Some (d, c.take_end_array.new.self)) (sym (c.in_ok-list-2.ensures ∙ ap (λ items. array (items_of (map data_of l.cells.column ++ map view items))) none ∙ ap (λ ds. array (items_of ds)) (append-nil (map data_of l.cells.column))))

pub read_members-returns-in_err-name-clause-form :
    goal.read_members-returns-in_err-name-clause-form
read_members-returns-in_err-name-clause-form t c refused =
    let l = c.members in
    l.invariant.reads ∙ members_from-no_key c.args.depth (members_view l.members.entries) l.reader c.in_err-name.ensures.value

pub read_members-returns-in_err-value-clause-form :
    goal.read_members-returns-in_err-value-clause-form
read_members-returns-in_err-value-clause-form t c refused =
    let l = c.members in
    let k = c.in-Some.name.now in
    let s = c.next_key.new.self in
    let named : read_key l.reader ≡ Some (Some k, s) = grind arith in
    l.invariant.reads ∙ members_from-stops c.args.depth (members_view l.members.entries) k l.reader s named (c.read_value.ensures.form (grind arith))

pub read_members-members-preserved : goal.read_members-members-preserved
read_members-members-preserved t c =
    let l = c.members in
    let old = members_view l.members.entries in
    let k = c.in-Some.name.now in
    let s = c.next_key.new.self in
    let r = c.read_value.new.reader in
    let v = c.in_ok-value.value in
    let named : read_key l.reader ≡ Some (Some k, s) = grind arith in
    let less = read_key-shorter l.reader (Some k) s named in
    let lesser = c.in_ok-value.ensures.shorter in
    let copied : string_bytes c.in_ok-key.key ≡ k = search rules in
    let inserted : members_view c.insert.new.self.entries ≡ put k (view v) old =
    ap members_view c.in_ok-insert.ensures.entries ∙ members_view-insert l.members.entries c.in_ok-key.key v ∙ ap (λ name. put name (view v) old) copied in
    record {
      reads = l.invariant.reads ∙ members_from-next c.args.depth old k l.reader s r (view v) named c.in_ok-value.ensures.value
          ∙ ap (λ found. members_from c.args.depth found r) (sym inserted);
      shorter = omega arith;
    }

pub read_members-returns-clause-value : goal.read_members-returns-clause-value
read_members-returns-clause-value t c =
    let l = c.members in
    l.invariant.reads ∙ members_from-ends c.args.depth (members_view l.members.entries) l.reader c.next_key.new.self (grind arith)

pub read_rest-returns-in_err-item-clause-form : goal.read_rest-returns-in_err-item-clause-form
read_rest-returns-in_err-item-clause-form t c refused =
    let l = c.items in
    let going : (after_end_array l.reader ≡ None) × (c.take_end_array.new.self ≡ l.reader) = grind arith in
    l.invariant.reads ∙ items_from-stops c.args.depth (map view l.list.items) l.reader going.0 (ap (value_at c.args.depth) (sym going.1) ∙ c.read_value.ensures.form (grind arith))

pub read_rest-items-preserved : goal.read_rest-items-preserved
read_rest-items-preserved t c =
    let l = c.items in
    let done = map view l.list.items in
    let going : (after_end_array l.reader ≡ None) × (c.take_end_array.new.self ≡ l.reader) = grind arith in
    let r = c.read_value.new.reader in
    let v = c.in_ok-item.item in
    let less : length r < length l.reader = rw (← going.1) c.in_ok-item.ensures.shorter in
    let more : map view c.push-in-items.new.self.items ≡ done ++ view v ∷ [] = ap (map view) c.in_ok-push-2.ensures.items ∙ map_one view l.list.items v in
    record {
      reads = l.invariant.reads ∙ items_from-next c.args.depth done l.reader r (view v) going.0 (ap (value_at c.args.depth) (sym going.1) ∙ c.in_ok-item.ensures.value)
          ∙ ap (λ ds. items_from c.args.depth ds r) (sym more);
      shorter = omega arith;
    }

pub read_rest-returns-clause-value : goal.read_rest-returns-clause-value
read_rest-returns-clause-value t c =
    let l = c.items in
    l.invariant.reads ∙ items_from-ends c.args.depth (map view l.list.items) l.reader c.take_end_array.new.self (grind arith)

pub read_value-returns-in-None-clause-form : goal.read_value-returns-in-None-clause-form
read_value-returns-in-None-clause-form t c refused =
    let over : c.args.reader.now ≡ [] = grind arith in
    ap (value_at c.args.depth) over ∙ value_at-none c.args.depth
