-- The cells of all tiles that a fetch read.
use Rattle.std.proofs.Common.{◌≡◌, ℕ, ◌^◌, ◌<◌, ◌≤◌, true, List, [], ◌∷◌, ◌++◌, length, map, drop, Option, None, Result, Ok, Err, refl, ap, ◌∙◌, arith}
use Rattle.std.specs.List.{flat_map, All}
use Rattle.std.proofs.lemmas.List.Elements.{All-head, All-tail, All-nil, All-cons, All-weaker, All-drop}
use Rattle.ts_base.specs.declared.heads.Version.{Version}
use Rattle.ts_base.specs.Values.{is_integer}
use Rattle.ts_domain.specs.declared.dims.Dim.{Dim}
use Rattle.ts_wire.specs.Exact.{IsBytes}
use Rattle.ts_schema.specs.declared.attrs.Attr.{Attr}
use Rattle.ts_schema.specs.declared.frames.Frame.{Frame}
use Rattle.ts_schema.specs.Wants.{taken}
use Rattle.ts_plain.specs.declared.stored.StoredHead.{StoredHead}
use Rattle.ts_plain.specs.declared.stored.StoredCell.{StoredCell}
use Rattle.ts_plain.specs.Pieces.{version_in}
use Rattle.ts_fetch.specs.declared.planned.Planned.{Planned}
use Rattle.ts_fetch.specs.declared.planned.Planned.TheVariants.{SizeOf, Range}
use Rattle.ts_fetch.specs.declared.judging.Verdict.TheVariants.{Whole}
use Rattle.ts_fetch.specs.Plans.{AreRanges}
use Rattle.ts_sparse.specs.Cuts.{last_or}
use Rattle.ts_sparse_read.specs.declared.opened.Opened.{Opened}
use Rattle.ts_sparse_read.specs.declared.opened.Span.{Span}
use Rattle.ts_sparse_read.specs.declared.opened.WantedTile.{WantedTile}
use Rattle.ts_sparse_read.specs.Faults.{Fault, and_then, Ranged}
use Rattle.ts_sparse_read.specs.TileReads.{cells_of_tile}
use Rattle.ts_sparse_read.specs.Judges.{ranged, cells_of_tiles, verdict_on, sparse_judge}
use Rattle.ts_sparse_read.specs.ReadTiles.{CanRead, IsReadTile, tile_read}

-- ---- what was got is bytes, and not too long

-- bytes that are not too long
abbrev pub IsGot : List ℕ → Type 0
IsGot bytes = IsBytes bytes × (length bytes < 2 ^ 64)

-- a call asks for bytes that are not too many
abbrev pub IsShortCall : Planned → Type 0
IsShortCall (SizeOf part size) = Unit {0}
IsShortCall (Range part from count) = count < 2 ^ 64

-- the ranges of short calls are such bytes
pub ranges_got : (plan : List Planned) (got : List (List ℕ)) → All IsShortCall plan → AreRanges plan got → All IsGot got
ranges_got [] [] short are = All-nil IsGot
ranges_got [] (bytes ∷ got) short are = absurd are
ranges_got (SizeOf part size ∷ plan) got short are = ranges_got plan got (All-tail IsShortCall (SizeOf part size) plan short) are
ranges_got (Range part from count ∷ plan) [] short are = absurd are
ranges_got (Range part from count ∷ plan) (bytes ∷ got) short are =
    let room : count < 2 ^ 64 = All-head IsShortCall (Range part from count) plan short in
    let few : length bytes ≤ count = are.0.1 in
    All-cons IsGot bytes got (are.0.0, omega (arith, room, few)) (ranges_got plan got (All-tail IsShortCall (Range part from count) plan short) are.1)

-- no bytes are such
none_got : IsGot []
none_got = ((λ i. omega arith), omega arith)

-- so are those of spans
ranged_got : (spans : List Span) (got : List (List ℕ)) → All IsGot got → All (λ (r : Ranged). IsGot r.bytes) (ranged spans got)
ranged_got [] got all = All-nil (λ (r : Ranged). IsGot r.bytes)
ranged_got (s ∷ spans) [] all =
    All-cons (λ (r : Ranged). IsGot r.bytes) (record { part = s.part; from = s.from; bytes = [] }) (ranged spans []) none_got (ranged_got spans [] all)
ranged_got (s ∷ spans) (bytes ∷ got) all =
    All-cons (λ (r : Ranged). IsGot r.bytes) (record { part = s.part; from = s.from; bytes = bytes }) (ranged spans got) (All-head IsGot bytes got all) (ranged_got spans got (All-tail IsGot bytes got all))

-- ---- tile by tile

-- a step that gave a value followed one that did
gone_on : {A B : Type 0} (r : Result A Fault) (next : A → Result B Fault) (y : B) → and_then r next ≡ Ok y → (x : A) × (r ≡ Ok x) × (next x ≡ Ok y)
gone_on (Ok x) next y h = (x, refl, h)
gone_on (Err fault) next y h = absurd (cc)

-- what is known of a tile before its bytes are
pub record MayRead (frame : Frame) (head : StoredHead) (tile : WantedTile) : Type 0 where
  pub some_cell : 1 ≤ tile.cells
  pub some_dim : 1 ≤ length frame.domain
  pub ints : All (λ (d : Dim). is_integer d.ty ≡ true) frame.domain
  pub lows : length (tile.leaf).low ≡ length frame.domain
  pub highs : length (tile.leaf).high ≡ length frame.domain
  pub some_origin : 1 ≤ length head.origins
  pub few_origins : length head.origins < 256 ^ 4

module _ (frame : Frame) (attrs : List Attr) (places : List ℕ) (head : StoredHead) where
  -- the cells of each tile, behind those of the tile before
  abbrev pub AreRead : Option StoredCell → List WantedTile → List (List StoredCell) → Type 0
  AreRead before [] [] = Unit {0}
  AreRead before [] (cells ∷ parts) = ⊥
  AreRead before (t ∷ tiles) [] = ⊥
  AreRead before (t ∷ tiles) (cells ∷ parts) = IsReadTile frame attrs places head before t.leaf t.cells cells × AreRead (last_or before cells) tiles parts

  can_read : (t : WantedTile) (ranges : List Ranged) → MayRead frame head t → All (λ (r : Ranged). IsGot r.bytes) ranges → CanRead frame head t.leaf t.cells ranges
  can_read t ranges may all = record {
    some_cell = may.some_cell;
    some_dim = may.some_dim;
    ints = may.ints;
    lows = may.lows;
    highs = may.highs;
    some_origin = may.some_origin;
    few_origins = may.few_origins;
    bytes = All-weaker (λ (r : Ranged). IsGot r.bytes) (λ (r : Ranged). IsBytes r.bytes) (λ r g. g.0) ranges all;
    short = All-weaker (λ (r : Ranged). IsGot r.bytes) (λ (r : Ranged). length r.bytes < 2 ^ 64) (λ r g. g.1) ranges all;
  }

  -- the cells of all tiles are those of each
  pub tiles_read : (before : Option StoredCell) (tiles : List WantedTile) (got : List (List ℕ)) (cells : List StoredCell) → All (MayRead frame head) tiles → All IsGot got
      → cells_of_tiles frame attrs places head before tiles got ≡ Ok cells → (parts : List (List StoredCell)) × (flat_map (λ (t : List StoredCell). t) parts ≡ cells) × AreRead before tiles parts
  tiles_read before [] got cells may all h = ([], (let same : [] ≡ cells = cc in same), tt)
  tiles_read before (t ∷ tiles) got cells may all h =
      let first = gone_on (cells_of_tile frame attrs places head before t.leaf t.cells (ranged t.spans got))
      (λ own. and_then (cells_of_tiles frame attrs places head (last_or before own) tiles (drop (length t.spans) got)) (λ others. Ok (own ++ others))) cells h in
      let second = gone_on (cells_of_tiles frame attrs places head (last_or before first.0) tiles (drop (length t.spans) got)) (λ others. Ok (first.0 ++ others)) cells first.2 in
      let is = tile_read frame attrs places head before t.leaf t.cells (ranged t.spans got) first.0 (can_read t (ranged t.spans got) (All-head (MayRead frame head) t tiles may) (ranged_got t.spans got all)) first.1 in
      let rest = tiles_read (last_or before first.0) tiles (drop (length t.spans) got) second.0 (All-tail (MayRead frame head) t tiles may) (All-drop IsGot (length t.spans) got all) second.1 in
      let same : first.0 ++ second.0 ≡ cells = cc (second.2) in
      (first.0 ∷ rest.0, ap (λ (more : List StoredCell). first.0 ++ more) rest.1 ∙ same, (is, rest.2))

-- ---- what the judge says

-- where it takes versions, they are those wanted of the cells of all tiles
pub judged_cells : (opened : Opened) (got : List (List ℕ)) (versions : List Version) → sparse_judge opened got ≡ Whole versions
    → (cells : List StoredCell) × (cells_of_tiles opened.frame opened.attrs (opened.want).attrs opened.head None opened.tiles got ≡ Ok cells) × (taken opened.want (map (version_in opened.head) cells) ≡ versions)
unfolding sparse_judge
judged_cells opened got versions h = by (cells_of_tiles opened.frame opened.attrs (opened.want).attrs opened.head None opened.tiles got) refl h
  where
    by : (r : Result (List StoredCell) Fault) → cells_of_tiles opened.frame opened.attrs (opened.want).attrs opened.head None opened.tiles got ≡ r → verdict_on opened r ≡ Whole versions
        → (cells : List StoredCell) × (cells_of_tiles opened.frame opened.attrs (opened.want).attrs opened.head None opened.tiles got ≡ Ok cells) × (taken opened.want (map (version_in opened.head) cells) ≡ versions)
    by (Ok cells) e k = (cells, e, (let same : taken opened.want (map (version_in opened.head) cells) ≡ versions = cc in same))
    by (Err fault) e k = absurd (cc)
