-- The steps of the scribe of byte lists.
use Rattle.std.proofs.Common.{◌≡◌, ℕ, ◌+◌, ◌-◌, ◌≤◌, inl, inr, List, [], ◌∷◌, ◌++◌, length, sym, ap, ◌∙◌, subst, arith, append_assoc, length-append}
use Rattle.std.specs.List.{flat_map}
use Rattle.std.proofs.lemmas.Grind.{flat_map-append}
use Rattle.std.proofs.lemmas.List.{append-nil}
use Rattle.ts_table.specs.Texts.{joined, starts_from}
use Rattle.ts_wire.specs.Numbers.{number_bytes}
use Rattle.ts_sparse.specs.declared.text_objects.TextScribe.{TextScribe}
use Rattle.ts_sparse.specs.Tilings.{tiles_of, tile_starts, starts_in}
use Rattle.ts_sparse.specs.TextObjects.{last_tile, room_left, tile_begun, with_text, HasWritten}
use Rattle.ts_sparse.proofs.Shapes.{all_tiles}
use Rattle.ts_sparse.proofs.StartLaws.{starts_more, joined_more, starts_behind, tile_behind, last_behind, room_behind, Begins, Joins, item_more}

-- one number more is spelled
spelled : (was is more : List ℕ) (i j : ℕ) → was ≡ flat_map (number_bytes 8) is → more ≡ is ++ i ∷ [] → j ≡ i → was ++ number_bytes 8 j ≡ flat_map (number_bytes 8) more
spelled was is more i j so_far grows same =
    ap (λ k. was ++ number_bytes 8 k) same ∙ ap (λ bytes. bytes ++ number_bytes 8 i) so_far
    ∙ ap (λ bytes. flat_map (number_bytes 8) is ++ bytes) (sym (append-nil (number_bytes 8 i))) ∙ sym (flat_map-append (number_bytes 8) is (i ∷ [])) ∙ ap (flat_map (number_bytes 8)) (sym grows)

-- where all end
ends : (texts : List (List ℕ)) (x : List ℕ) (end : ℕ) → end ≡ 14 + length (joined texts) → end + length x ≡ 14 + length (joined (texts ++ x ∷ []))
ends texts x end is =
    let long : length (joined (texts ++ x ∷ [])) ≡ length (joined texts) + length x = ap length (joined_more texts x) ∙ length-append (joined texts) x in
    omega (arith, is, long)

-- a byte list that begins a tile
begins : (n : ℕ) (texts : List (List ℕ)) (x : List ℕ) (s : TextScribe) → HasWritten n texts s → Begins n (tiles_of n texts) (tiles_of n (texts ++ x ∷ [])) x → HasWritten n (texts ++ x ∷ []) (with_text (tile_begun s) x)
begins n texts x s w b =
    let tiles = tiles_of n texts in
    let none : s.end - s.end ≡ 0 = omega arith in
    record {
      tile = w.tile;
      starts = spelled s.starts (starts_in tiles) (starts_in (tiles_of n (texts ++ x ∷ []))) 0 (s.end - s.end) w.starts (ap starts_in b.after ∙ starts_behind tiles (x ∷ [])) none;
      bytes = ap (λ bytes. bytes ++ x) w.bytes ∙ sym (joined_more texts x);
      tiles =
          ap (λ is. is ++ s.end ∷ []) w.tiles ∙ ap (λ i. tile_starts 14 tiles ++ i ∷ []) (w.end ∙ ap (λ ts. 14 + length (joined ts)) (sym (all_tiles n texts)))
          ∙ sym (tile_behind 14 tiles (x ∷ [])) ∙ ap (tile_starts 14) (sym b.after);
      left = ap (λ k. k - 1) w.tile ∙ sym (ap (room_left n) b.after ∙ room_behind n tiles (x ∷ []));
      begun = ap (λ ts. s.end + length (joined (last_tile ts))) b.after ∙ ap (λ t. s.end + length (joined t)) (last_behind tiles (x ∷ [])) ∙ ap (λ t. s.end + length t) (append-nil x);
      end = ends texts x s.end w.end;
    }

-- a byte list that goes into the last tile
joins : (n : ℕ) (texts : List (List ℕ)) (x : List ℕ) (s : TextScribe) → HasWritten n texts s → Joins n (tiles_of n texts) (tiles_of n (texts ++ x ∷ [])) x → HasWritten n (texts ++ x ∷ []) (with_text s x)
joins n texts x s w j =
    let longer = j.last ++ x ∷ [] in
    let size : length (joined (last_tile (tiles_of n texts))) ≡ length (joined j.last) = ap (λ ts. length (joined (last_tile ts))) j.before ∙ ap (λ t. length (joined t)) (last_behind j.full j.last) in
    let more : length (joined (last_tile (tiles_of n (texts ++ x ∷ [])))) ≡ length (joined longer) = ap (λ ts. length (joined (last_tile ts))) j.after ∙ ap (λ t. length (joined t)) (last_behind j.full longer) in
    let long : length (joined longer) ≡ length (joined j.last) + length x = ap length (joined_more j.last x) ∙ length-append (joined j.last) x in
    let room : room_left n (tiles_of n texts) ≡ n - length j.last = ap (room_left n) j.before ∙ room_behind n j.full j.last in
    let fewer : room_left n (tiles_of n (texts ++ x ∷ [])) ≡ n - length longer = ap (room_left n) j.after ∙ room_behind n j.full longer in
    let count : length longer ≡ length j.last + 1 = length-append j.last (x ∷ []) in
    let at = 0 + length (joined j.last) in
    let grows : starts_in (tiles_of n (texts ++ x ∷ [])) ≡ starts_in (tiles_of n texts) ++ at ∷ [] =
    ap starts_in j.after ∙ starts_behind j.full longer ∙ ap (λ is. starts_in j.full ++ is) (starts_more 0 j.last x) ∙ sym (append_assoc (starts_in j.full) (starts_from 0 j.last) (at ∷ []))
    ∙ ap (λ is. is ++ at ∷ []) (sym (ap starts_in j.before ∙ starts_behind j.full j.last)) in
    record {
      tile = w.tile;
      starts = spelled s.starts (starts_in (tiles_of n texts)) (starts_in (tiles_of n (texts ++ x ∷ []))) at (s.end - s.begun) w.starts grows (omega (arith, w.begun, size));
      bytes = ap (λ bytes. bytes ++ x) w.bytes ∙ sym (joined_more texts x);
      tiles = w.tiles ∙ ap (tile_starts 14) j.before ∙ tile_behind 14 j.full j.last ∙ sym (ap (tile_starts 14) j.after ∙ tile_behind 14 j.full longer);
      left = omega (arith, w.left, room, fewer, count);
      begun = omega (arith, w.begun, size, more, long);
      end = ends texts x s.end w.end;
    }

-- where no more go into the last tile, one more begins a tile
pub first_text : (n : ℕ) (texts : List (List ℕ)) (x : List ℕ) (s mid new : TextScribe) → HasWritten n texts s → 1 ≤ s.tile → s.left ≡ 0 → mid ≡ tile_begun s → new ≡ with_text mid x → HasWritten n (texts ++ x ∷ []) new
first_text n texts x s mid new w some none begun push =
    elim (item_more n texts x (omega (arith, some, w.tile))) [
      | inl b ↦ subst (HasWritten n (texts ++ x ∷ [])) (sym (push ∙ ap (λ m. with_text m x) begun)) (begins n texts x s w b)
      | inr j ↦ absurd (omega (arith, none, w.left, j.some))
    ]

-- otherwise it goes into that
pub next_text : (n : ℕ) (texts : List (List ℕ)) (x : List ℕ) (s mid new : TextScribe) → HasWritten n texts s → 1 ≤ s.tile → (s.left ≡ 0 → ⊥) → mid ≡ s → new ≡ with_text mid x → HasWritten n (texts ++ x ∷ []) new
next_text n texts x s mid new w some more same push =
    elim (item_more n texts x (omega (arith, some, w.tile))) [
      | inl b ↦ absurd (more (w.left ∙ b.none))
      | inr j ↦ subst (HasWritten n (texts ++ x ∷ [])) (sym (push ∙ ap (λ m. with_text m x) same)) (joins n texts x s w j)
    ]
