-- The steps of the loop that lays the objects of slots.
use Rattle.std.proofs.Common.{◌≡◌, ℕ, suc, ◌+◌, ◌<◌, ◌≤◌, Bool, true, List, [], ◌∷◌, ◌++◌, length, get_or, map, drop, refl, sym, ap, ◌∙◌, arith}
use Rattle.std.specs.List.{flat_map}
use Rattle.std.specs.Prelude.{Option, Some, None}
use Rattle.std.proofs.lemmas.List.{drop_more, drop_all}
use Rattle.ts_base.specs.declared.heads.Version.{Version}
use Rattle.ts_base.specs.declared.keys.Key.{Key}
use Rattle.ts_base.specs.declared.names.Part.TheVariants as part
use Rattle.ts_base.specs.declared.values.Val.TheVariants.{Null}
use Rattle.ts_base.specs.Values.{width_of, is_integer}
use Rattle.ts_table.specs.Texts.{joined}
use Rattle.ts_wire.specs.declared.kinds.Kind.TheVariants as kind
use Rattle.ts_wire.specs.Envelope.{wrapped}
use Rattle.ts_wire.specs.Numbers.{number_bytes, int_bytes}
use Rattle.ts_wire.specs.Fields.{bool_bytes}
use Rattle.ts_schema.specs.declared.attrs.Attr.{Attr}
use Rattle.ts_plain.specs.declared.stored.StoredCell.{StoredCell}
use Rattle.ts_column.specs.Spelled.{number_of, text_of}
use Rattle.ts_column.specs.Tiles.{is_there}
use Rattle.ts_sparse.specs.declared.laying.Laid.{Laid}
use Rattle.ts_sparse.specs.Tilings.{tile_starts, starts_in}
use Rattle.ts_sparse.specs.Sparse.{value_column, numbers_object, validity_objects, origin_objects}
use Rattle.ts_sparse.specs.Laying.{with_part, with_objects}
use Rattle.ts_sparse.proofs.LayLaws.{with_both}
use Rattle.ts_dense.specs.declared.slots.Slots.{Slots}
use Rattle.ts_dense.specs.Slots.{tiles_by}
use Rattle.ts_dense.specs.Dense.{starts_object, bytes_object, fixed_objects, attr_objects}
use Rattle.ts_dense.specs.Laying.{held, cell_in, slot_cells, value_in, values_along, origin_in, origins_along}

-- ---- columns of slots are those of their versions

value_same : (origins : List Key) (k : ℕ) (slot : Option Version) → get_or (cell_in origins slot).row k Null ≡ value_in k slot
value_same origins k None = get_or-none k
  where
    get_or-none : (i : ℕ) → get_or [] i Null ≡ Null
    get_or-none i = search arith
value_same origins k (Some v) = refl

values_same : (k : ℕ) (slots : Slots) → value_column k (slot_cells slots) ≡ values_along k (held slots)
values_same k slots = each (held slots)
  where
    each : (os : List (Option Version)) → value_column k (map (cell_in slots.origins.now) os) ≡ values_along k os
    each [] = refl
    each (o ∷ os) = λ i. value_same slots.origins.now k o i ∷ each os i

origin_same : (origins : List Key) (slot : Option Version) → (cell_in origins slot).origin ≡ origin_in origins slot
origin_same origins None = refl
origin_same origins (Some v) = refl

origins_same : (slots : Slots) → map (λ (c : StoredCell). c.origin) (slot_cells slots) ≡ origins_along slots.origins.now (held slots)
origins_same slots = each (held slots)
  where
    each : (os : List (Option Version)) → map (λ (c : StoredCell). c.origin) (map (cell_in slots.origins.now) os) ≡ origins_along slots.origins.now os
    each [] = refl
    each (o ∷ os) = λ i. origin_same slots.origins.now o i ∷ each os i

-- ---- attributes

-- what is laid, and what is left to lay
abbrev pub LayingAttrs : Slots → Laid → List Attr → Laid → ℕ → Type 0
LayingAttrs slots old attrs new k = with_objects new (attr_objects slots.counts k (drop k attrs) (slot_cells slots)) ≡ with_objects old (attr_objects slots.counts 0 attrs (slot_cells slots))

pub attrs_more : (slots : Slots) (old : Laid) (attrs : List Attr) (new other : Laid) (k : ℕ) (a : Attr) → LayingAttrs slots old attrs new k → k < length attrs → a ≡ get_or attrs k a
    → other ≡ with_objects (with_objects new (fixed_objects (is_integer a.ty) slots.counts k a.ty (value_column k (slot_cells slots)))) (validity_objects a.nullable k (value_column k (slot_cells slots))) → LayingAttrs slots old attrs other (k + 1)
attrs_more slots old attrs new other k a laid within is push =
    let cells = slot_cells slots in
    let counts = slots.counts in
    let others = drop (k + 1) attrs in
    let fixed = fixed_objects (is_integer a.ty) counts k a.ty (value_column k cells) in
    let validity = validity_objects a.nullable k (value_column k cells) in
    let next : suc k ≡ k + 1 = omega arith in
    let rest : drop k attrs ≡ a ∷ others = drop_more attrs k a within ∙ ap (λ x. x ∷ others) (sym is) in
    ap (λ l. with_objects l (attr_objects counts (k + 1) others cells)) push
    ∙ sym (with_both (with_objects new fixed) validity (attr_objects counts (k + 1) others cells))
    ∙ sym (with_both new fixed (validity ++ attr_objects counts (k + 1) others cells))
    ∙ ap (λ i. with_objects new (fixed ++ (validity ++ attr_objects counts i others cells))) (sym next)
    ∙ ap (λ rows. with_objects new (attr_objects counts k rows cells)) (sym rest) ∙ laid

pub attrs_all : (slots : Slots) (old : Laid) (attrs : List Attr) (new : Laid) (k : ℕ) → LayingAttrs slots old attrs new k → length attrs ≤ k → new ≡ with_objects old (attr_objects slots.counts 0 attrs (slot_cells slots))
attrs_all slots old attrs new k laid over = ap (λ l. with_objects new (attr_objects slots.counts k l (slot_cells slots))) (sym (drop_all k attrs over)) ∙ laid

-- ---- the objects of an attribute

pub numbers_laid : (old new : Laid) (k : ℕ) (a : Attr) (slots : Slots) (bytes : List ℕ) → bytes ≡ wrapped kind.Column (flat_map (int_bytes (width_of a.ty)) (map number_of (values_along k (held slots))))
    → new ≡ with_part old (record { part = part.Attr k; bytes = bytes }) [] → new ≡ with_objects old (numbers_object k a.ty (value_column k (slot_cells slots)) ∷ [])
numbers_laid old new k a slots bytes spelled push =
    push ∙ ap (λ b. with_part old (record { part = part.Attr k; bytes = b }) []) spelled
    ∙ ap (λ vals. with_objects old (numbers_object k a.ty vals ∷ [])) (sym (values_same k slots))

pub texts_laid : (old mid new : Laid) (k : ℕ) (slots : Slots) (counts : List ℕ) (texts : List (List ℕ)) (inner outer starts : List ℕ) → counts ≡ slots.counts → texts ≡ map text_of (values_along k (held slots))
    → inner ≡ wrapped kind.Column (flat_map (number_bytes 8) (starts_in (tiles_by counts texts))) → mid ≡ with_part old (record { part = part.Attr k; bytes = inner }) []
    → outer ≡ wrapped kind.Column (joined texts) → starts ≡ tile_starts 14 (tiles_by counts texts) → new ≡ with_part mid (record { part = part.Var k; bytes = outer }) starts
    → new ≡ with_objects old (starts_object slots.counts k (value_column k (slot_cells slots)) ∷ bytes_object slots.counts k (value_column k (slot_cells slots)) ∷ [])
texts_laid old mid new k slots counts texts inner outer starts sizes are first push all begun more =
    more
    ∙ ap (λ b. with_part mid (record { part = part.Var k; bytes = b }) starts) all
    ∙ ap (λ s. with_part mid (record { part = part.Var k; bytes = wrapped kind.Column (joined texts) }) s) begun
    ∙ ap (λ l. with_part l (record { part = part.Var k; bytes = wrapped kind.Column (joined texts) }) (tile_starts 14 (tiles_by counts texts))) (push ∙ ap (λ b. with_part old (record { part = part.Attr k; bytes = b }) []) first)
    ∙ ap (λ ts. with_part (with_part old (record { part = part.Attr k; bytes = wrapped kind.Column (flat_map (number_bytes 8) (starts_in (tiles_by counts ts))) }) []) (record { part = part.Var k; bytes = wrapped kind.Column (joined ts) }) (tile_starts 14 (tiles_by counts ts))) are
    ∙ ap (λ ns. with_objects old (starts_object ns k (values_along k (held slots)) ∷ bytes_object ns k (values_along k (held slots)) ∷ [])) sizes
    ∙ ap (λ vals. with_objects old (starts_object slots.counts k vals ∷ bytes_object slots.counts k vals ∷ [])) (sym (values_same k slots))

pub validity_laid : (old new : Laid) (k : ℕ) (nullable : Bool) (slots : Slots) (bytes : List ℕ) → nullable ≡ true → bytes ≡ wrapped kind.Column (flat_map bool_bytes (map is_there (values_along k (held slots))))
    → new ≡ with_part old (record { part = part.Validity k; bytes = bytes }) [] → new ≡ with_objects old (validity_objects nullable k (value_column k (slot_cells slots)))
validity_laid old new k nullable slots bytes may spelled push =
    push ∙ ap (λ b. with_part old (record { part = part.Validity k; bytes = b }) []) spelled
    ∙ ap (λ vals. with_objects old (validity_objects true k vals)) (sym (values_same k slots))
    ∙ ap (λ b. with_objects old (validity_objects b k (value_column k (slot_cells slots)))) (sym may)

-- ---- origins

pub origins_laid : (old new : Laid) (consolidated : Bool) (slots : Slots) (bytes : List ℕ) → consolidated ≡ true → bytes ≡ wrapped kind.Column (flat_map (number_bytes 4) (origins_along slots.origins.now (held slots)))
    → new ≡ with_part old (record { part = part.Origin; bytes = bytes }) [] → new ≡ with_objects old (origin_objects consolidated (slot_cells slots))
origins_laid old new consolidated slots bytes merged spelled push =
    push ∙ ap (λ b. with_part old (record { part = part.Origin; bytes = b }) []) spelled
    ∙ ap (λ is. with_part old (record { part = part.Origin; bytes = wrapped kind.Column (flat_map (number_bytes 4) is) }) []) (sym (origins_same slots))
    ∙ ap (λ b. with_objects old (origin_objects b (slot_cells slots))) (sym merged)
