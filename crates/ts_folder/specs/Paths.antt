-- The path of the folder that a store is kept in.
use Rattle.std.specs.Prelude.{ℕ, List, [], ◌∷◌, codes}

-- the path that a text stands for: an empty one for the folder that the process works in
abbrev pub root_text : List ℕ → List ℕ
root_text [] = codes "."
root_text (c ∷ text) = c ∷ text
