-- How many gets a read may make, on worked rows.
use Rattle.std.proofs.Common.{◌≡◌, ℕ, false, List, [], ◌∷◌, refl}
use Rattle.ts_base.specs.declared.heads.Head.{Head}
use Rattle.ts_base.specs.declared.heads.Piece.{Piece}
use Rattle.ts_base.specs.declared.keys.FragKey.{FragKey}
use Rattle.ts_base.specs.declared.keys.Key.{Key}
use Rattle.ts_base.specs.declared.names.Name.TheVariants as name
use Rattle.ts_model.specs.declared.deeds.Deed.TheVariants.{Declared}
use Rattle.ts_model.specs.declared.states.Reading.{Reading}
use Rattle.ts_model.specs.Deeds.{History}
use Rattle.ts_model.specs.Gets.{MostGets}
use Rattle.ts_model.specs.States.{get_all, list_commits, list_schemas}
use Rattle.ts_law.specs.Bounds.{gets_among, heads_in, most_gets_of, pieces_loaded, schema_count}

-- two of these calls are gets
two_gets : gets_among (list_commits ∷ list_schemas ∷ get_all (name.Schema (record { t = 0; id = 1 })) ∷ get_all name.Domain ∷ []) ≡ 2
two_gets = refl

-- an array whose schema was changed once
abbrev first : Key
first = record { t = 0; id = 1 }

abbrev second : Key
second = record { t = 3; id = 2 }

abbrev declared : History
declared = Declared (record { key = first; attrs = [] }) ∷ Declared (record { key = second; attrs = [] }) ∷ []

-- two fragments of one write each, and one that both were merged into, in the first schema
abbrev one_at : ℕ → FragKey
one_at t = record { t1 = t; t2 = t; id = t; v = 1 }

abbrev merged : FragKey
merged = record { t1 = 1; t2 = 2; id = 7; v = 1 }

abbrev piece : Head → FragKey → Piece
piece any f = record { head = record any { frag = f; schema = first; dense = false }; versions = [] }

abbrev pieces : Head → List Piece
pieces any = piece any (one_at 1) ∷ piece any (one_at 2) ∷ piece any merged ∷ []

-- a read of all of it, through the second schema, with one delete in its interval
abbrev reading : Reading → Reading
reading any = record any {
  from = 0;
  to = 9;
  current = record { key = second; attrs = [] };
  fragments = one_at 1 ∷ one_at 2 ∷ merged ∷ [];
  counting = merged ∷ [];
  vacs = record { frag = merged; names = one_at 1 ∷ one_at 2 ∷ [] } ∷ [];
  delete_names = one_at 4 ∷ [];
}

-- it loads the merged fragment alone
one_loaded : (any : Reading) (head : Head) → pieces_loaded (reading any) (pieces head) ≡ piece head merged ∷ []
one_loaded any head = refl

-- it uses two schemas
two_schemas : (head : Head) → schema_count second (heads_in (pieces head)) ≡ 2
two_schemas head = refl

-- where each fetch makes five gets at the most, it makes 13: the frame, two schemas, a `.vac`, a delete, three heads and one fetch
abbrev five : MostGets
five frame s p want = 5

thirteen : (any : Reading) (head : Head) → most_gets_of five declared (reading any) (pieces head) ≡ 13
thirteen any head = refl
