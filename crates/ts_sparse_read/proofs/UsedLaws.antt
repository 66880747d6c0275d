-- The steps of the loops over all columns.
use Rattle.std.proofs.Common.{◌≡◌, ℕ, zero, suc, ◌+◌, ◌<◌, ◌≤◌, true, false, List, [], ◌∷◌, ◌++◌, length, get_or, drop, refl, sym, ap, ◌∙◌, arith, append_assoc, add-one}
use Rattle.std.specs.Prelude.{min, if◌then◌else◌}
use Rattle.std.proofs.lemmas.List.{drop_more, drop_all, append-nil}
use Rattle.ts_base.specs.declared.names.Part.{Part}
use Rattle.ts_base.specs.declared.names.Part.TheVariants as part
use Rattle.ts_base.specs.Values.{is_integer}
use Rattle.ts_domain.specs.declared.dims.Dim.{Dim}
use Rattle.ts_schema.specs.declared.attrs.Attr.{Attr}
use Rattle.ts_footer.specs.declared.columns.ColumnForm.{ColumnForm}
use Rattle.ts_footer.specs.declared.columns.ColumnSize.{ColumnSize}
use Rattle.ts_sparse_read.specs.declared.opened.UsedColumn.{UsedColumn}
use Rattle.ts_sparse_read.specs.Used.{dim_parts, value_parts, validity_parts, attr_parts, no_size, columns_told, is_used, used_among}

-- ---- parts

-- the parts so far, and those of the dimensions that are left
abbrev pub NamingDims : List Part → List Dim → List Part → ℕ → Type 0
NamingDims old dims new k = new ++ dim_parts k (drop k dims) ≡ old ++ dim_parts 0 dims

pub dims_more : (old : List Part) (dims : List Dim) (new other : List Part) (k : ℕ) → NamingDims old dims new k → k < length dims → other ≡ new ++ part.Dim k ∷ [] → NamingDims old dims other (k + 1)
dims_more old [] new other k named within push = absurd (omega (arith, within))
dims_more old (d ∷ dims) new other k named within push =
    let next : k + 1 ≡ suc k = add-one k in
    ap (λ ps. ps ++ dim_parts (k + 1) (drop (k + 1) (d ∷ dims))) push
    ∙ append_assoc new (part.Dim k ∷ []) (dim_parts (k + 1) (drop (k + 1) (d ∷ dims)))
    ∙ ap (λ i. new ++ (part.Dim k ∷ dim_parts i (drop (k + 1) (d ∷ dims)))) next
    ∙ ap (λ ds. new ++ dim_parts k ds) (sym (drop_more (d ∷ dims) k d within))
    ∙ named

pub dims_all : (old : List Part) (dims : List Dim) (new : List Part) (k : ℕ) → NamingDims old dims new k → length dims ≤ k → new ≡ old ++ dim_parts 0 dims
dims_all old dims new k named over = sym (append-nil new) ∙ ap (λ ds. new ++ dim_parts k ds) (sym (drop_all k dims over)) ∙ named

-- the parts so far, and those of the attributes that are left
abbrev pub NamingAttrs : List Part → List Attr → List Part → ℕ → Type 0
NamingAttrs old attrs new k = new ++ attr_parts k (drop k attrs) ≡ old ++ attr_parts 0 attrs

pub attrs_more : (old : List Part) (attrs : List Attr) (new other : List Part) (k : ℕ) (a : Attr) → NamingAttrs old attrs new k → k < length attrs → a ≡ get_or attrs k a
    → other ≡ new ++ (value_parts (is_integer a.ty) k ++ validity_parts a.nullable k) → NamingAttrs old attrs other (k + 1)
attrs_more old attrs new other k a named within is push =
    let rest = drop (k + 1) attrs in
    let vals = value_parts (is_integer a.ty) k in
    let marks = validity_parts a.nullable k in
    let next : k + 1 ≡ suc k = add-one k in
    let split : drop k attrs ≡ a ∷ rest = drop_more attrs k a within ∙ ap (λ x. x ∷ rest) (sym is) in
    ap (λ ps. ps ++ attr_parts (k + 1) rest) push
    ∙ append_assoc new (vals ++ marks) (attr_parts (k + 1) rest)
    ∙ ap (λ ps. new ++ ps) (append_assoc vals marks (attr_parts (k + 1) rest))
    ∙ ap (λ i. new ++ (vals ++ (marks ++ attr_parts i rest))) next
    ∙ ap (λ l. new ++ attr_parts k l) (sym split)
    ∙ named

pub attrs_all : (old : List Part) (attrs : List Attr) (new : List Part) (k : ℕ) → NamingAttrs old attrs new k → length attrs ≤ k → new ≡ old ++ attr_parts 0 attrs
attrs_all old attrs new k named over = sym (append-nil new) ∙ ap (λ l. new ++ attr_parts k l) (sym (drop_all k attrs over)) ∙ named

-- ---- what is told of them

-- what is told of the parts from the k-th on
abbrev told_from : List Part → List ColumnForm → List ColumnSize → ℕ → List UsedColumn
told_from parts forms sizes k = columns_told (drop k parts) (drop k forms) (drop k sizes)

-- the objects so far, and those that are left
abbrev pub Taking : List ℕ → List Part → List ColumnForm → List ColumnSize → List UsedColumn → ℕ → Type 0
Taking places parts forms sizes used k = used ++ used_among places (told_from parts forms sizes k) ≡ used_among places (columns_told parts forms sizes)

-- what is told of the k-th part
abbrev told_at : Part → ColumnForm → ColumnSize → UsedColumn
told_at p f s = record { part = p; form = f; size = s }

-- what is told of a part, and of those behind it
size_next : (q : Part) (parts : List Part) (g : ColumnForm) (forms : List ColumnForm) (sizes : List ColumnSize) (k : ℕ)
    → columns_told (q ∷ parts) (g ∷ forms) (drop k sizes) ≡ told_at q g (get_or sizes k no_size) ∷ columns_told parts forms (drop (suc k) sizes)
size_next q parts g forms [] zero = refl
size_next q parts g forms [] (suc k) = refl
size_next q parts g forms (s ∷ sizes) zero = refl
size_next q parts g forms (s ∷ sizes) (suc k) = size_next q parts g forms sizes k

told_next : (parts : List Part) (forms : List ColumnForm) (sizes : List ColumnSize) (k : ℕ) (p : Part) (f : ColumnForm) → k < length parts → k < length forms
    → told_from parts forms sizes k ≡ told_at (get_or parts k p) (get_or forms k f) (get_or sizes k no_size) ∷ told_from parts forms sizes (k + 1)
told_next parts forms sizes k p f here there =
    let q = get_or parts k p in
    let g = get_or forms k f in
    ap (λ ps. columns_told ps (drop k forms) (drop k sizes)) (drop_more parts k p here)
    ∙ ap (λ fs. columns_told (q ∷ drop (k + 1) parts) fs (drop k sizes)) (drop_more forms k f there)
    ∙ size_next q (drop (k + 1) parts) g (drop (k + 1) forms) sizes k
    ∙ ap (λ i. told_at q g (get_or sizes k no_size) ∷ columns_told (drop (k + 1) parts) (drop (k + 1) forms) (drop i sizes)) (sym (add-one k))

-- an object that a fetch reads is taken
pub told_taken : (places : List ℕ) (parts : List Part) (forms : List ColumnForm) (sizes : List ColumnSize) (used other : List UsedColumn) (k : ℕ) (p : Part) (f : ColumnForm) (size : ColumnSize)
    → Taking places parts forms sizes used k → k < length parts → k < length forms → is_used places (get_or parts k p) ≡ true → size ≡ get_or sizes k no_size
    → other ≡ used ++ told_at (get_or parts k p) (get_or forms k f) size ∷ [] → Taking places parts forms sizes other (k + 1)
told_taken places parts forms sizes used other k p f size taking here there is sized push =
    let q = get_or parts k p in
    let g = get_or forms k f in
    let rest = told_from parts forms sizes (k + 1) in
    ap (λ l. l ++ used_among places rest) push
    ∙ append_assoc used (told_at q g size ∷ []) (used_among places rest)
    ∙ ap (λ s. used ++ (told_at q g s ∷ used_among places rest)) sized
    ∙ ap (λ b. used ++ (if b then told_at q g (get_or sizes k no_size) ∷ used_among places rest else used_among places rest)) (sym is)
    ∙ ap (λ l. used ++ used_among places l) (sym (told_next parts forms sizes k p f here there))
    ∙ taking

-- another one is left out
pub told_left : (places : List ℕ) (parts : List Part) (forms : List ColumnForm) (sizes : List ColumnSize) (used : List UsedColumn) (k : ℕ) (p : Part) (f : ColumnForm)
    → Taking places parts forms sizes used k → k < length parts → k < length forms → is_used places (get_or parts k p) ≡ false → Taking places parts forms sizes used (k + 1)
told_left places parts forms sizes used k p f taking here there is =
    let q = get_or parts k p in
    let g = get_or forms k f in
    let rest = told_from parts forms sizes (k + 1) in
    ap (λ b. used ++ (if b then told_at q g (get_or sizes k no_size) ∷ used_among places rest else used_among places rest)) (sym is)
    ∙ ap (λ l. used ++ used_among places l) (sym (told_next parts forms sizes k p f here there))
    ∙ taking

told_end : (parts : List Part) (forms : List ColumnForm) (sizes : List ColumnSize) (k : ℕ) → min (length parts) (length forms) ≤ k → told_from parts forms sizes k ≡ []
told_end [] forms sizes k over = ap (λ ps. columns_told ps (drop k forms) (drop k sizes)) (drop_all k [] (omega arith))
told_end (p ∷ parts) [] sizes k over = ap (λ fs. columns_told (drop k (p ∷ parts)) fs (drop k sizes)) (drop_all k [] (omega arith)) ∙ none (drop k (p ∷ parts)) (drop k sizes)
  where
    none : (ps : List Part) (ss : List ColumnSize) → columns_told ps [] ss ≡ []
    none [] ss = refl
    none (q ∷ ps) ss = refl
told_end (p ∷ parts) (f ∷ forms) sizes zero over = absurd (omega (arith, over))
told_end (p ∷ parts) (f ∷ forms) [] (suc k) over = ap (λ ss. columns_told (drop k parts) (drop k forms) ss) (sym (drop_all k [] (omega arith))) ∙ told_end parts forms [] k (omega (arith, over))
told_end (p ∷ parts) (f ∷ forms) (s ∷ sizes) (suc k) over = told_end parts forms sizes k (omega (arith, over))

pub told_all : (places : List ℕ) (parts : List Part) (forms : List ColumnForm) (sizes : List ColumnSize) (used : List UsedColumn) (k : ℕ) → Taking places parts forms sizes used k
    → min (length parts) (length forms) ≤ k → used ≡ used_among places (columns_told parts forms sizes)
told_all places parts forms sizes used k taking over = sym (append-nil used) ∙ ap (λ l. used ++ used_among places l) (sym (told_end parts forms sizes k over)) ∙ taking
