-- The pieces of a checkpoint.
use Rattle.std.proofs.Common.{◌≡◌, ℕ, ◌+◌, ◌-◌, ◌^◌, ◌<◌, List, ◌++◌, length, drop, length-append, Some, refl, sym, ◌∙◌, ap, subst, arith}
use Rattle.std.proofs.lemmas.List.{drop_at}
use Rattle.ct_types.specs.declared.piece.Piece.{Piece}
use Rattle.ct_types.specs.declared.piece.Piece.TheVariants as piece
use Rattle.ct_codec.specs.Readers.{choosing, whole, measured}
use Rattle.ct_codec.specs.EntryReaders.{made_kept, kept, made_head, made_table, made_rows, payload, piece_of}
use Rattle.ct_codec.specs.Spellings.{spell_measured, spell_kept, KeptFits, piece_byte, spell_payload, PayloadFits, spell_piece, PieceFits}
use Rattle.ct_codec.specs.Codes.{IsCode}
use Rattle.ct_codec.proofs.Combined.{law_then, law_choosing, law_making, law_pair, whole_is, whole_of}
use Rattle.ct_codec.proofs.Families.{IsSoundAt, none_here, either, constant, variant, variant_back, law_family}
use Rattle.ct_codec.proofs.Numbers.{law_number}
use Rattle.ct_codec.proofs.Lists.{law_measured, law_counted}
use Rattle.ct_codec.proofs.ValueLaws.{law_row}
use Rattle.ct_codec.proofs.WriteLaws.{law_change}
use Rattle.ct_codec.proofs.EntryLaws.{law_schema, law_keep, law_tracked}

pub law_kept : IsCode kept spell_kept KeptFits
unfolding kept
law_kept =
    law_making made_kept (λ k. (k.version, (k.xdes, (k.time, k.changes)))) (λ x f. (refl, (f.0, f.1.0, f.1.1.0, f.1.1.1))) (λ k f. (refl, (f.0, (f.1, (f.2, f.3)))))
    (law_pair (law_number 8) (λ version. law_pair (law_number 8) (λ xdes. law_pair (law_number 8) (λ time. law_counted 4 law_change))))

payload_sound : (k : ℕ) → IsSoundAt spell_payload piece_byte PayloadFits k (payload k)
unfolding payload
payload_sound k =
    either k 1 (variant made_head (λ h f. (refl, (refl, (f.0, f.1.0, f.1.1.0, f.1.1.1)))) (law_pair (law_number 8) (λ version. law_pair (law_number 8) (λ time. law_pair (law_number 8) (λ xdes. law_keep)))))
    (either k 2 (variant made_table (λ t f. (refl, (refl, f))) (law_pair law_schema (λ schema. law_tracked)))
    (either k 3 (variant made_rows (λ r f. (refl, (refl, f))) (law_pair (law_number 4) (λ table. law_counted 4 law_row)))
    (either k 4 (variant piece.Kept (λ k f. (refl, (refl, f))) law_kept)
    (either k 5 (constant piece.End refl tt) none_here))))

payload_complete : (p : Piece) (rest : List ℕ) → PayloadFits p → payload (piece_byte p) (spell_payload p ++ rest) ≡ Some (p, rest)
unfolding payload
payload_complete (piece.Head version time xdes keep) rest f =
    variant_back made_head (law_pair (law_number 8) (λ version. law_pair (law_number 8) (λ time. law_pair (law_number 8) (λ xdes. law_keep)))) (version, (time, (xdes, keep))) rest (f.0, (f.1, (f.2, f.3)))
payload_complete (piece.Table schema tracked) rest f = variant_back made_table (law_pair law_schema (λ schema. law_tracked)) (schema, tracked) rest f
payload_complete (piece.Rows table rows) rest f = variant_back made_rows (law_pair (law_number 4) (λ table. law_counted 4 law_row)) (table, rows) rest f
payload_complete (piece.Kept kept) rest f = variant_back piece.Kept law_kept kept rest f
payload_complete piece.End rest f = refl

law_framed : (k : ℕ) → IsCode (choosing (whole (payload k)) (measured 4)) (λ p. spell_measured 4 (spell_payload p)) (λ p. (piece_byte p ≡ k) × PieceFits p)
law_framed k =
    let law = law_family payload_sound payload_complete k in
    law_choosing (whole (payload k)) spell_payload
    (λ bytes p small e. let is = whole_is law bytes p e in (sym is.0, (is.1.0, (subst (λ l. length l < 256 ^ 4) is.0 small, is.1.1))))
    (λ p f. (whole_of law p (f.0, f.1.1), f.1.0)) (law_measured 4)

pub law_piece : IsCode piece_of spell_piece PieceFits
unfolding piece_of
law_piece = law_then piece_byte (λ p f. byte p) (law_number 1) (λ k f. law_framed k)
  where
    byte : (p : Piece) → piece_byte p < 256 ^ 1
    byte (piece.Head version time xdes keep) = omega arith
    byte (piece.Table schema tracked) = omega arith
    byte (piece.Rows table rows) = omega arith
    byte (piece.Kept kept) = omega arith
    byte piece.End = omega arith

-- what stands behind a piece is what is left where its own bytes end
pub behind : (bytes rest : List ℕ) (p : Piece) → piece_of bytes ≡ Some (p, rest) → (length bytes ≡ length (spell_piece p) + length rest) × (drop (length bytes - length rest) bytes ≡ rest)
behind bytes rest p e =
    let was = (law_piece.sound bytes rest p e).0 in
    let long : length bytes ≡ length (spell_piece p) + length rest = ap length was ∙ length-append (spell_piece p) rest in
    let front : length (spell_piece p) ≡ length bytes - length rest = omega (arith, long) in
    (long, ap (λ l. drop (length bytes - length rest) l) was ∙ drop_at (spell_piece p) rest (length bytes - length rest) front)
