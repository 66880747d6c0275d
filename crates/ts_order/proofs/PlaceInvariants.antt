-- What the loop that finds the coordinates at a place keeps.
use Rattle.std.proofs.Common.{◌≡◌, ℕ, ◌<◌, List, ◌++◌, length, take, drop, ℤ}
use Rattle.ts_domain.specs.declared.orders.Order.{Order}
use Rattle.ts_domain.specs.Bounds.{cells_between}
use Rattle.ts_order.specs.Orders.{turned}
use Rattle.ts_order.specs.Places.{coords_of_place}

-- the numbers from a rank on are written, and the rest of the place gives those before
pub record AreWritten (order : Order) (low high : List ℤ) (position left : ℕ) (numbers : List ℤ) (rest : ℕ) : Type 0 where
  pub long : length numbers ≡ 8
  pub below : rest < cells_between (take left (turned order low)) (take left (turned order high))
  pub digits : coords_of_place (take left (turned order low)) (take left (turned order high)) rest ++ drop left (turned order (take (length low) numbers))
      ≡ coords_of_place (turned order low) (turned order high) position
