use Rattle.std.proofs.Common.{◌≡◌, map}
use Rattle.ts_footer.specs.Metas.{starts_of}
use Rattle.ts_footer.proofs.metas.split.Given as goal

-- the lengths and the starts of the objects so far
abbrev pub invariant-loop-size : goal.invariant-loop-size
invariant-loop-size l = record {
  lengths : l.lengths ≡ map (λ size. size.length) l.yielded;
  starts : l.var_starts ≡ starts_of l.yielded;
}
