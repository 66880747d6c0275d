-- What was read is what is spelled, by the laws of plain objects.
use Rattle.std.proofs.Common.{◌≡◌, ℕ, ◌<◌, ◌^◌, List, length, Result, Ok, Err, IfOk, arith, rules}
use Rattle.ts_base.specs.declared.keys.FragKey.{FragKey}
use Rattle.ts_base.specs.declared.heads.Piece.{Piece}
use Rattle.ts_wire.specs.declared.faults.ReadFault.{ReadFault}
use Rattle.ts_wire.specs.Exact.{IsBytes}
use Rattle.ts_wire.specs.Reading.{DecodesOr}
use Rattle.ts_schema.specs.declared.attrs.Attr.{Attr}
use Rattle.ts_schema.specs.declared.frames.Frame.{Frame}
use Rattle.ts_plain.specs.Pieces.{plain_piece, IsPlainObject}
use Rattle.ts_plain.specs.Writes.{NamesWrites}
use Rattle.ts_plain.specs.Merges.{IsOrdered}
use Rattle.ts_plain.proofs.OrderedPieces.{plain_ordered}
use Rattle.ts_plain.proofs.WrittenPieces.{names_writes}
use Rattle.ts_plain.proofs.PlainPieces.{piece_found, piece_only}
use Rattle.ts_plain.proofs.reading.read_plain.Goals as goal

found_in : (frame : Frame) (attrs : List Attr) (frag : FragKey) (object : List ℕ) (result : Result Piece ReadFault) → IsBytes object → length object < 2 ^ 64
    → DecodesOr (λ piece. piece) (plain_piece frame attrs frag object) result → IfOk result (λ piece. IsPlainObject frame attrs piece object × (piece.head.frag ≡ frag))
found_in frame attrs frag object (Ok piece) all few h = piece_found frame attrs frag object piece all few h
found_in frame attrs frag object (Err e) all few h = tt

named_in : (frame : Frame) (attrs : List Attr) (frag : FragKey) (object : List ℕ) (result : Result Piece ReadFault) → IsBytes object → length object < 2 ^ 64
    → DecodesOr (λ piece. piece) (plain_piece frame attrs frag object) result → IfOk result NamesWrites
named_in frame attrs frag object (Ok piece) all few h = names_writes frame attrs piece (record { bytes = object; spelled = (piece_found frame attrs frag object piece all few h).0 })
named_in frame attrs frag object (Err e) all few h = tt

ordered_in : (frame : Frame) (attrs : List Attr) (frag : FragKey) (object : List ℕ) (result : Result Piece ReadFault) → IsBytes object → length object < 2 ^ 64
    → DecodesOr (λ piece. piece) (plain_piece frame attrs frag object) result → IfOk result (λ piece. IsOrdered frame piece.versions)
ordered_in frame attrs frag object (Ok piece) all few h = plain_ordered frame attrs piece object (piece_found frame attrs frag object piece all few h).0
ordered_in frame attrs frag object (Err e) all few h = tt

pub returns-clause-ordered : goal.returns-clause-ordered
returns-clause-ordered c =
    let few : length c.args.object.now < 2 ^ 64 = search rules in
    ordered_in c.args.frame.now c.args.schema.now.attrs c.args.frag c.args.object.now _ (λ i. omega (arith, c.type_inv.object i)) few (rw c.as_slice.ensures at c.read_piece.ensures)

pub returns-clause-names : goal.returns-clause-names
returns-clause-names c =
    let few : length c.args.object.now < 2 ^ 64 = search rules in
    named_in c.args.frame.now c.args.schema.now.attrs c.args.frag c.args.object.now _ (λ i. omega (arith, c.type_inv.object i)) few (rw c.as_slice.ensures at c.read_piece.ensures)

pub returns-clause-found : goal.returns-clause-found
returns-clause-found c =
    let few : length c.args.object.now < 2 ^ 64 = search rules in
    found_in c.args.frame.now c.args.schema.now.attrs c.args.frag c.args.object.now _ (λ i. omega (arith, c.type_inv.object i)) few (rw c.as_slice.ensures at c.read_piece.ensures)

pub returns-clause-only : goal.returns-clause-only
returns-clause-only c piece named is =
    piece_only c.args.frame.now c.args.schema.now.attrs piece c.args.frag c.args.object.now _ named is (rw c.as_slice.ensures at c.read_piece.ensures)
