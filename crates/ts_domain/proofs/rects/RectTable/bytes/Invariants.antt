use Rattle.std.proofs.Common.{◌≡◌, take}
use Rattle.std.specs.List.{flat_map}
use Rattle.ts_domain.specs.Rects.{rect_bytes}
use Rattle.ts_domain.proofs.rects.RectTable.bytes.Given as goal

abbrev pub invariant-loop-rect : goal.invariant-loop-rect
invariant-loop-rect l = l.bytes ≡ flat_map rect_bytes (take l.rect-index l.rect-items)
