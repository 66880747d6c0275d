-- The columns of tables have the values of their versions.
use Rattle.std.proofs.Common.{◌≡◌, ℕ, ◌<◌, List, length, get_or, sym, ap, ◌∙◌, arith}
use Rattle.std.specs.Prelude.{ℤ}
use Rattle.std.specs.List.{slice_get}
use Rattle.ts_base.specs.declared.values.Val.{Val}
use Rattle.ts_base.specs.declared.heads.Version.{Version}
use Rattle.ts_domain.specs.declared.boxes.SubBox.{SubBox}
use Rattle.ts_domain.specs.declared.orders.Order.{Order}
use Rattle.ts_order.specs.Orders.{coords_in_order}
use Rattle.ts_table.specs.declared.origins.Origin.{Origin}
use Rattle.ts_table.specs.Tables.{HaveRows, HasVals, IsTable, versions_from}
use Rattle.ts_table.specs.BoxTables.{IsBoxTable, versions_over}
use Rattle.ts_table.proofs.BoxTables.{count_is, version_over}
use Rattle.ts_table.proofs.Tables.{across_here, all_row, versions-length}

pub table_rows : (origins : List Origin) (dims : List (List ℤ)) (attrs : List (List Val)) (cells : List ℕ) → IsTable origins dims attrs cells → HaveRows (versions_from origins dims attrs 0 cells) attrs
table_rows origins dims attrs cells table = record {
  long = λ k column h. table.attrs_long k column h ∙ sym (versions-length origins dims attrs 0 cells);
  rows = all_row origins dims attrs cells;
}

pub box_rows : (o : Origin) (attrs : List (List Val)) (order : Order) (sub : SubBox) → IsBoxTable sub attrs → HaveRows (versions_over o attrs 0 (coords_in_order order sub)) attrs
box_rows o attrs order sub table = record {
  long = λ k column h. table.long k column h ∙ sym (count_is o attrs order sub table.valid);
  rows = λ i within. (version_over o attrs order sub i within).2;
}

column_has : (versions : List Version) (columns : List (List Val)) (d : ℕ) (column : List Val) → HaveRows versions columns → d < length columns → column ≡ get_or columns d column → HasVals versions d column
column_has versions columns d column have within this = record {
  long = ap length this ∙ have.long d column within;
  there = λ i few. ap (λ row. slice_get row d) (have.rows i few) ∙ across_here i columns d column (λ k it h. let long = have.long k it h in omega (arith, few, long)) within this;
}

pub table_vals : (origins : List Origin) (dims : List (List ℤ)) (attrs : List (List Val)) (cells : List ℕ) (d : ℕ) (column : List Val) → IsTable origins dims attrs cells
    → d < length attrs → column ≡ get_or attrs d column → HasVals (versions_from origins dims attrs 0 cells) d column
table_vals origins dims attrs cells d column table within this = column_has (versions_from origins dims attrs 0 cells) attrs d column (table_rows origins dims attrs cells table) within this

pub box_vals : (o : Origin) (attrs : List (List Val)) (order : Order) (sub : SubBox) (d : ℕ) (column : List Val) → IsBoxTable sub attrs
    → d < length attrs → column ≡ get_or attrs d column → HasVals (versions_over o attrs 0 (coords_in_order order sub)) d column
box_vals o attrs order sub d column table within this = column_has (versions_over o attrs 0 (coords_in_order order sub)) attrs d column (box_rows o attrs order sub table) within this
