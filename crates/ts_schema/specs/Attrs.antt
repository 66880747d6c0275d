-- Attributes: which names a list has, which attributes agree, and how a row shows through other attributes.
use Rattle.std.specs.Prelude.{◌≡◌, Bool, ◌&&◌, cond, List, ◌∷◌, ℕ, map, nat_eq}
use Rattle.std.specs.Ordering.{nat_cmp}
use Rattle.std.specs.BTreeSet.{BTreeSet, contains}
use Rattle.std.specs.Bool.{beq}
use Rattle.std.specs.List.{list_any}
use Rattle.std.specs.Cmp.Lexicographic.{pointwise, slice_cmp}
use Rattle.ts_base.specs.declared.values.Val.{Val}
use Rattle.ts_schema.specs.declared.attrs.Attr.{Attr}
use Rattle.ts_base.specs.contracts.values.ValTypePartialEq.TheImpl as val_type

-- two texts are one name
abbrev pub same_name : List ℕ → List ℕ → Bool
same_name = pointwise nat_eq

-- one of the names is this one
abbrev pub has_label : List (List ℕ) → List ℕ → Bool
has_label names name = list_any (λ other. same_name other name) names

-- one of the attributes has the name
abbrev pub has_attr : List Attr → List ℕ → Bool
has_attr attrs name = list_any (λ a. same_name a.name name) attrs

-- the set has just the names that pass the test
abbrev pub HasNames : BTreeSet (List ℕ) → (List ℕ → Bool) → Type 0
HasNames set test = (name : List ℕ) → contains (slice_cmp nat_cmp) set name ≡ test name

-- two attributes agree: name, type and nullability are the same, whatever the fills are
abbrev pub agrees : Attr → Attr → Bool
agrees a b = same_name a.name b.name && ((val_type.ghosts).eq a.ty b.ty && beq a.nullable b.nullable)

-- what a row under some attributes shows for an attribute: the value of the first that agrees, or else the attribute's own fill
abbrev pub shown_val : List Attr → List Val → Attr → Val
shown_val (a ∷ attrs) (val ∷ row) wanted = cond (agrees a wanted) val (shown_val attrs row wanted)
shown_val _ _ wanted = wanted.fill

-- a row under some attributes, as it shows through others
abbrev pub shown_row : List Attr → List Val → List Attr → List Val
shown_row attrs row wanted = map (shown_val attrs row) wanted
