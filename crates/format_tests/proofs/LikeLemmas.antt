-- Boxes that are like one box.
use Rattle.std.proofs.Common.{◌≡◌, List, [], ◌∷◌, ◌++◌, length, ℕ, sym, ◌∙◌}
use Rattle.std.specs.List.{All}
use Rattle.std.proofs.lemmas.List.Elements.{All-append, All-cons, All-nil}
use Rattle.ts_domain.specs.declared.boxes.SubBox.{SubBox}
use Rattle.ts_domain.specs.Boxes.{IsBox}
use Rattle.ts_domain.specs.Rects.{IsLike}

-- one box more
pub like_more : (like box : SubBox) (boxes : List SubBox) (n : ℕ) → All (IsLike like) boxes → IsBox box → length box.low ≡ n → length like.low ≡ n → All (IsLike like) (boxes ++ box ∷ [])
like_more like box boxes n all valid dims same =
    All-append (IsLike like) boxes (box ∷ []) all (All-cons (IsLike like) box [] (record { valid = valid; dims = dims ∙ sym same }) (All-nil (IsLike like)))
