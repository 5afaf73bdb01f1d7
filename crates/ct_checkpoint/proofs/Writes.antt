-- The writing of a checkpoint, piece by piece.
use Rattle.std.proofs.Common.{◌≡◌, ℕ, ◌<◌, min, List, [], ◌∷◌, ◌++◌, length, map, take, drop, Result, OnOk, ⊎_elim, sym, ap, ◌∙◌, subst, arith, append_assoc}
use Rattle.std.specs.List.{flat_map}
use Rattle.std.proofs.lemmas.Bool.{cases_lt}
use Rattle.std.proofs.lemmas.List.{append-nil, map-append, take_all, drop_all}
use Rattle.std.proofs.lemmas.Result.{IfOk-weaker}
use Rattle.std.proofs.lemmas.List.Concat.{flat_map-append}
use Rattle.ct_types.specs.declared.memory.Memory.{Memory}
use Rattle.ct_types.specs.declared.value.Row.{Row}
use Rattle.ct_types.specs.declared.piece.Piece.{Piece}
use Rattle.ct_types.specs.declared.piece.Piece.TheVariants as piece
use Rattle.ct_types.proofs.Lists.{all_append}
use Rattle.ct_model.specs.declared.db.Db.{Db}
use Rattle.ct_model.specs.Valid.{IsValid}
use Rattle.ct_codec.specs.Spellings.{spell_piece, PieceFits}
use Rattle.ct_found.specs.Checkpoint.{IsCheckpoint}
use Rattle.ct_found.specs.Pieces.{groups, pieces_of, spell_pieces}
use Rattle.ct_checkpoint.specs.Writing.{Appends}
use Rattle.ct_checkpoint.proofs.Groups.{groups_first}

pub appends_none : (bytes : List ℕ) → Appends [] bytes bytes
appends_none bytes = record { spelled = sym (append-nil bytes); fit = tt }

pub appends_then : (first second : List Piece) (old near new : List ℕ) → Appends first old near → Appends second near new → Appends (first ++ second) old new
appends_then first second old near new one two = record {
  spelled =
      two.spelled
      ∙ ap (λ l. l ++ spell_pieces second) one.spelled
      ∙ append_assoc old (spell_pieces first) (spell_pieces second)
      ∙ ap (λ l. old ++ l) (sym (flat_map-append spell_piece first second));
  fit = all_append PieceFits first second one.fit two.fit;
}

-- ---- lists

pub appends_list : {X : Type 0} (pieces : X → List Piece) (before more : List X) (x : X) (old near new : List ℕ) → more ≡ before ++ x ∷ [] → Appends (flat_map pieces before) old near → Appends (pieces x) near new
    → Appends (flat_map pieces more) old new
appends_list pieces before more x old near new is one two =
    let whole : flat_map pieces more ≡ flat_map pieces before ++ pieces x =
    ap (λ l. flat_map pieces l) is ∙ flat_map-append pieces before (x ∷ []) ∙ ap (λ l. flat_map pieces before ++ l) (append-nil (pieces x)) in
    subst (λ l. Appends l old new) (sym whole) (appends_then (flat_map pieces before) (pieces x) old near new one two)

pub appends_map : {X : Type 0} (p : X → Piece) (before more : List X) (x : X) (old near new : List ℕ) → more ≡ before ++ x ∷ [] → Appends (map p before) old near → Appends (p x ∷ []) near new → Appends (map p more) old new
appends_map p before more x old near new is one two =
    let whole : map p more ≡ map p before ++ p x ∷ [] = ap (λ l. map p l) is ∙ map-append p before (x ∷ []) in
    subst (λ l. Appends l old new) (sym whole) (appends_then (map p before) (p x ∷ []) old near new one two)

-- ---- groups of rows

abbrev pub rows_pieces : ℕ → List Row → List Piece
rows_pieces id rows = map (λ r. piece.Rows id r) (groups (length rows) rows)

front_group : (rows : List Row) (n : ℕ) → n ≡ min (length rows) 256 → take n rows ≡ take 256 rows
front_group rows n is = ⊎_elim
    (λ lt. let e : n ≡ 256 = omega (arith, is, lt) in ap (λ k. take k rows) e)
    (λ le. take_all n rows (omega (arith, is, le)) ∙ sym (take_all 256 rows le))
    (cases_lt 256 (length rows))

back_group : (rows : List Row) (n : ℕ) → n ≡ min (length rows) 256 → drop n rows ≡ drop 256 rows
back_group rows n is = ⊎_elim
    (λ lt. let e : n ≡ 256 = omega (arith, is, lt) in ap (λ k. drop k rows) e)
    (λ le. drop_all n rows (omega (arith, is, le)) ∙ sym (drop_all 256 rows le))
    (cases_lt 256 (length rows))

-- what is left of the rows would make the rest, so with one group more it does
pub appends_groups : (id : ℕ) (rows group behind : List Row) (n : ℕ) (old near new : List ℕ) → 0 < length rows → n ≡ min (length rows) 256 → group ≡ take n rows → behind ≡ drop n rows
    → Appends (piece.Rows id group ∷ []) old near → Appends (rows_pieces id behind) near new → Appends (rows_pieces id rows) old new
appends_groups id rows group behind n old near new some is front back one two =
    let first : group ≡ take 256 rows = front ∙ front_group rows n is in
    let rest : behind ≡ drop 256 rows = back ∙ back_group rows n is in
    let whole : piece.Rows id group ∷ rows_pieces id behind ≡ rows_pieces id rows =
    (ap (λ l. piece.Rows id l ∷ rows_pieces id behind) first ∙ ap (λ l. piece.Rows id (take 256 rows) ∷ rows_pieces id l) rest ∙ ap (λ l. map (λ r. piece.Rows id r) l) (sym (groups_first rows some))) in
    subst (λ l. Appends l old new) whole (appends_then (piece.Rows id group ∷ []) (rows_pieces id behind) old near new one two)

-- ---- the whole

-- the last call of several
pub appends_last : (before all second : List Piece) (old near new : List ℕ) (answer : Result (Unit {0}) Memory) → before ++ second ≡ all → Appends before old near → OnOk answer (Appends second near new) → OnOk answer (Appends all old new)
appends_last before all second old near new answer is one two =
    IfOk-weaker answer (λ done. Appends second near new) (λ done. Appends all old new) (λ done more. subst (λ l. Appends l old new) is (appends_then before second old near new one more)) two

pub written_checkpoint : (db : Db) (bytes : List ℕ) → IsValid db → Appends (pieces_of db) [] bytes → IsCheckpoint bytes (length bytes) db
written_checkpoint db bytes valid appends = record {
  ignored = [];
  split = appends.spelled ∙ sym (append-nil (spell_pieces (pieces_of db)));
  size_is = ap length appends.spelled;
  fit = appends.fit;
  valid = valid;
}
