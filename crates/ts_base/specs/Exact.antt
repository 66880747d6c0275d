-- The orders of keys and names are total, and only equal ones tie.
use Rattle.std.specs.Prelude.{◌≡◌}
use Rattle.std.proofs.Common.{refl, sym, ap, ◌∙◌}
use Rattle.std.specs.Bool.{Decides}
use Rattle.std.specs.declared.cmp.Ordering.{Ordering}
use Rattle.std.specs.declared.cmp.Ordering.TheVariants.{Less, Equal, Greater}
use Rattle.std.specs.Ordering.{nat_cmp, ordering_then, eq_by_cmp}
use Rattle.std.specs.Cmp.{IsTotalOrder, Equal-is, tied_itself}
use Rattle.std.specs.FinMap.{IsAntisymmetric, nat_cmp-IsAntisymmetric}
use Rattle.ts_base.specs.declared.keys.Key.{Key}
use Rattle.ts_base.specs.declared.keys.FragKey.{FragKey}
use Rattle.ts_base.specs.declared.names.Part.TheVariants as part
use Rattle.ts_base.specs.declared.names.CommitKind.TheVariants as kind
use Rattle.ts_base.specs.declared.names.LeaseMode.TheVariants as mode
use Rattle.ts_base.specs.declared.names.Name.{Name}
use Rattle.ts_base.specs.declared.names.Name.TheVariants as name
use Rattle.ts_base.specs.contracts.keys.KeyOrd.TheImpl.Laws as key_laws
use Rattle.ts_base.specs.contracts.keys.FragKeyOrd.TheImpl.Laws as frag_laws
use Rattle.ts_base.specs.contracts.names.NameOrd.TheImpl.Laws as name_laws
use Rattle.ts_base.specs.contracts.names.PartOrd.TheImpl as part_order
use Rattle.ts_base.specs.contracts.names.CommitKindOrd.TheImpl as kind_order
use Rattle.ts_base.specs.contracts.names.LeaseModeOrd.TheImpl as mode_order
use Rattle.ts_base.specs.Keys.{key_cmp, key_eq, frag_cmp, frag_eq}
use Rattle.ts_base.specs.Names.{name_cmp, name_eq}

pub key_total : IsTotalOrder key_cmp
key_total = key_laws.total-law

pub frag_total : IsTotalOrder frag_cmp
frag_total = frag_laws.total-law

pub name_total : IsTotalOrder name_cmp
name_total = name_laws.total-law

-- two comparisons, one after the other, tie where both do
both_tie : (first second : Ordering) → ordering_then first second ≡ Equal → (first ≡ Equal) × (second ≡ Equal)
both_tie Less second tie = cc
both_tie Equal second tie = (refl, tie)
both_tie Greater second tie = cc

-- a test by an order that only equal things tie in tells which are equal
tie_decides : {K : Type 0} {R : K → K → Ordering} → IsTotalOrder R → IsAntisymmetric R → (x y : K) → Decides (eq_by_cmp R x y) (x ≡ y)
tie_decides {R = R} total exact x y =
    (λ tied. exact x y ((Equal-is (R x y)).0 tied), λ same. (Equal-is (R x y)).1 (ap (R x) (sym same) ∙ tied_itself total x))

pub key_exact : IsAntisymmetric key_cmp
key_exact k l tie =
    let ties = both_tie (nat_cmp k.t l.t) (nat_cmp k.id l.id) tie in
    λ i. record { t = nat_cmp-IsAntisymmetric k.t l.t ties.0 i; id = nat_cmp-IsAntisymmetric k.id l.id ties.1 i }

pub frag_exact : IsAntisymmetric frag_cmp
frag_exact f g tie =
    let first = both_tie (nat_cmp f.t1 g.t1) _ tie in
    let second = both_tie (nat_cmp f.t2 g.t2) _ first.1 in
    let third = both_tie (nat_cmp f.id g.id) (nat_cmp f.v g.v) second.1 in
    λ i. record {
      t1 = nat_cmp-IsAntisymmetric f.t1 g.t1 first.0 i;
      t2 = nat_cmp-IsAntisymmetric f.t2 g.t2 second.0 i;
      id = nat_cmp-IsAntisymmetric f.id g.id third.0 i;
      v = nat_cmp-IsAntisymmetric f.v g.v third.1 i;
    }

part_exact : IsAntisymmetric (part_order.ghosts).cmp
part_exact part.Meta part.Meta tie = refl
part_exact (part.Attr n) (part.Attr m) tie = ap part.Attr (nat_cmp-IsAntisymmetric n m tie)
part_exact (part.Var n) (part.Var m) tie = ap part.Var (nat_cmp-IsAntisymmetric n m tie)
part_exact (part.Validity n) (part.Validity m) tie = ap part.Validity (nat_cmp-IsAntisymmetric n m tie)
part_exact (part.Dim n) (part.Dim m) tie = ap part.Dim (nat_cmp-IsAntisymmetric n m tie)
part_exact part.Origin part.Origin tie = refl
part_exact part.Plain part.Plain tie = refl
part_exact _ _ tie = cc

kind_exact : IsAntisymmetric (kind_order.ghosts).cmp
kind_exact kind.Wrt kind.Wrt tie = refl
kind_exact kind.Del kind.Del tie = refl
kind_exact kind.Vac kind.Vac tie = refl
kind_exact _ _ tie = cc

mode_exact : IsAntisymmetric (mode_order.ghosts).cmp
mode_exact mode.Shr mode.Shr tie = refl
mode_exact mode.Exc mode.Exc tie = refl
mode_exact _ _ tie = cc

pub name_exact : IsAntisymmetric name_cmp
name_exact name.Domain name.Domain tie = refl
name_exact (name.Schema k) (name.Schema l) tie = ap name.Schema (key_exact k l tie)
name_exact (name.Commit f k) (name.Commit g l) tie =
    let ties = both_tie (frag_cmp f g) ((kind_order.ghosts).cmp k l) tie in
    λ i. name.Commit (frag_exact f g ties.0 i) (kind_exact k l ties.1 i)
name_exact (name.Part f p) (name.Part g q) tie =
    let ties = both_tie (frag_cmp f g) ((part_order.ghosts).cmp p q) tie in
    λ i. name.Part (frag_exact f g ties.0 i) (part_exact p q ties.1 i)
name_exact (name.Lease k m) (name.Lease l n) tie =
    let ties = both_tie (key_cmp k l) ((mode_order.ghosts).cmp m n) tie in
    λ i. name.Lease (key_exact k l ties.0 i) (mode_exact m n ties.1 i)
name_exact _ _ tie = cc

-- what the tests of keys and names tell
pub key_decides : (k l : Key) → Decides (key_eq k l) (k ≡ l)
key_decides = tie_decides key_total key_exact

pub frag_decides : (f g : FragKey) → Decides (frag_eq f g) (f ≡ g)
frag_decides = tie_decides frag_total frag_exact

pub name_decides : (n m : Name) → Decides (name_eq n m) (n ≡ m)
name_decides = tie_decides name_total name_exact
