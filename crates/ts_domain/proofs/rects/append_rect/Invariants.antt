use Rattle.std.proofs.Common.{◌≡◌, ◌++◌, drop}
use Rattle.ts_domain.specs.Rects.{sides_bytes}
use Rattle.ts_domain.proofs.rects.append_rect.Given as goal

abbrev pub invariant-loop-dim : goal.invariant-loop-dim
invariant-loop-dim l = l.bytes ++ sides_bytes (drop l.dim l.rect.low) (drop l.dim l.rect.high) ≡ l.fn.bytes ++ sides_bytes l.rect.low l.rect.high
