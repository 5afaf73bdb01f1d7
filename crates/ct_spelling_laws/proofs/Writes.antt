-- Writes that apply can be spelled, and how long they are then.
use Rattle.std.proofs.Common.{◌≡◌, ◌≢◌, ℕ, ◌+◌, ◌^◌, ◌≤◌, ◌<◌, Bool, true, false, List, [], ◌∷◌, ◌++◌, length, map, Option, Some, None, is_some, IsSomeAnd, MatchBool, refl, subst, arith, length-append}
use Rattle.std.proofs.Math.Nat.{pow-le-pow_right}
use Rattle.std.proofs.lemmas.List.{length-map}
use Rattle.std.specs.List.{AllByRecursion}
use Rattle.byteorder.specs.Endian.{little_bytes}
use Rattle.ct_types.specs.declared.entry.Keep.{Keep}
use Rattle.ct_types.specs.declared.entry.Op.{Op}
use Rattle.ct_types.specs.declared.entry.Op.TheVariants.{Insert, Update, Delete}
use Rattle.ct_types.specs.declared.entry.Write.{Write}
use Rattle.ct_types.specs.declared.schema.Schema.{Schema}
use Rattle.ct_types.specs.declared.tracked.Tracked.{Tracked}
use Rattle.ct_types.specs.declared.value.Key.{Key}
use Rattle.ct_types.specs.declared.value.Row.{Row}
use Rattle.ct_model.specs.declared.db.Table.{Table}
use Rattle.ct_model.specs.Applies as applies
use Rattle.ct_model.specs.Applies.{RowIsOf, ContextIsOf, WritesApply}
use Rattle.ct_model.specs.Apply.{written, change_of}
use Rattle.ct_model.specs.Schemas as model
use Rattle.ct_model.specs.Schemas.{IsSchema}
use Rattle.ct_model.specs.Tables.{key_of, table_of, has_masks}
use Rattle.ct_model.specs.Valid as valid
use Rattle.ct_model.specs.Valid.{AreNumbered, IsTableValid, MaskFits}
use Rattle.ct_model.proofs.Found.{some_and_weaken, found_has}
use Rattle.ct_model_laws.proofs.Fitting.{write_key_fits}
use Rattle.ct_model_laws.proofs.Following.{numbered_map, written_schema}
use Rattle.ct_model_laws.proofs.Keeping.{write_keeps}
use Rattle.ct_model_laws.proofs.Numbered.{found_within}
use Rattle.ct_codec.specs.Spellings.{spell_flag, spell_row, spell_key, spell_context, ContextFits, spell_target, TargetFits, spell_notes, NotesFit, spell_write, WriteFits, spell_change, bare_key, bare_write}
use Rattle.ct_spelling_laws.proofs.Values.{row_spelled, key_spelled, key_in_row}

-- ---- rows and keys

-- what a write tells of its row or its key can be spelled, in no fewer bytes than its key
record TargetIsSpelled (op : Op) (key : Key) (row : Option Row) : Type 0 where
  pub fits : TargetFits op (bare_key key row) row
  pub short : length (spell_target (bare_key key row) row) ≤ 1024322
  pub holds_key : length (spell_key key) ≤ length (spell_target (bare_key key row) row)

row_target : (schema : Schema) (op : Op) (key : Key) (row : Row) → op ≢ Delete → IsSchema schema → model.RowFits schema row → key_of schema row ≡ key
    → TargetIsSpelled op key (Some row)
row_target schema op key row other is fits same =
    let spelled = row_spelled schema row is fits in
    record { fits = (other, refl, spelled.0); short = spelled.1; holds_key = subst (λ k. length (spell_key k) ≤ length (spell_row row)) same (key_in_row schema row is) }

target_spelled : (schema : Schema) (op : Op) (key : Key) (row : Option Row) → IsSchema schema → model.KeyFits schema key → RowIsOf schema op key row → TargetIsSpelled op key row
target_spelled schema Insert key None is fits given = absurd given
target_spelled schema Insert key (Some row) is fits given = row_target schema Insert key row (λ e. absurd cc) is given.0 given.1
target_spelled schema Update key None is fits given = absurd given
target_spelled schema Update key (Some row) is fits given = row_target schema Update key row (λ e. absurd cc) is given.0 given.1
target_spelled schema Delete key None is fits given =
    let spelled = key_spelled schema key is fits in
    record { fits = (refl, spelled.0); short = omega (arith, spelled.1); holds_key = omega arith }
target_spelled schema Delete key (Some row) is fits given = absurd given

-- ---- masks and contexts

pub mask_small : (table : Table) (op : Op) (mask : ℕ) → length table.schema.columns ≤ 64 → MaskFits table op mask → mask < 2 ^ 64
mask_small table Insert mask few fits = omega (arith, fits)
mask_small table Update mask few fits = by (has_masks table.tracked) fits
  where
    by : (b : Bool) → MatchBool b ((0 < mask) × (mask < 2 ^ length table.schema.columns)) (mask ≡ 0) → mask < 2 ^ 64
    by true given = let most : 2 ^ length table.schema.columns ≤ 2 ^ 64 = pow-le-pow_right (omega arith) few in omega (arith, given.1, most)
    by false given = omega (arith, given)
mask_small table Delete mask few fits = omega (arith, fits)

unmasked : (tracked : Option Tracked) (P : Type 0) (mask : ℕ) → false ≡ is_some tracked → MatchBool (has_masks tracked) P (mask ≡ 0) → mask ≡ 0
unmasked None P mask none given = given
unmasked (Some tracked) P mask none given = absurd cc

untracked_mask : (table : Table) (op : Op) (mask : ℕ) → false ≡ is_some table.tracked → MaskFits table op mask → mask ≡ 0
untracked_mask table Insert mask none fits = fits
untracked_mask table Update mask none fits = unmasked table.tracked _ mask none fits
untracked_mask table Delete mask none fits = fits

pub context_spelled : (context : Option (List ℕ)) → valid.ContextFits context → ContextFits context × (length (spell_context context) ≤ 129)
context_spelled None fits = (tt, omega arith)
context_spelled (Some bytes) fits = (fits, omega (arith, fits))

notes_spelled : (table : Table) (op : Op) (tracked : Bool) (mask : ℕ) (context : Option (List ℕ)) → length table.schema.columns ≤ 64 → tracked ≡ is_some table.tracked
    → ContextIsOf tracked context → MaskFits table op mask → NotesFit tracked mask context × (length (spell_notes tracked mask context) ≤ 137)
notes_spelled table op true mask context few is given fits =
    let spelled = context_spelled context given in
    ((omega (arith, mask_small table op mask few fits), spelled.0), omega (arith, spelled.1))
notes_spelled table op false mask context few is given fits = ((untracked_mask table op mask is fits, given), omega arith)

tracked_notes : (tracked : Bool) (mask : ℕ) (context : Option (List ℕ)) → tracked ≡ true → length (spell_notes tracked mask context) ≡ 8 + length (spell_context context)
tracked_notes true mask context is = omega arith
tracked_notes false mask context is = absurd cc

-- ---- writes

-- a write can be spelled without the key of its row, in at most 2^20 bytes; if it is tracked, in no fewer than its change
pub record IsSpelled (write : Write) : Type 0 where
  pub fits : WriteFits (bare_write write)
  pub short : length (spell_write (bare_write write)) ≤ 1048576
  pub change : write.tracked ≡ true → length (spell_change (change_of write)) ≤ length (spell_write (bare_write write))

write_spelled : (version : ℕ) (keep : Option Keep) (write : Write) (t : Table) → IsTableValid version keep t → write.table ≤ 256 → applies.WriteFits write t → IsSpelled write
write_spelled version keep write t is low given =
    let key = write_key_fits t.schema t.rows write.op write.key write.row is.rows given.present given.row in
    let target = target_spelled t.schema write.op write.key write.row is.schema key given.row in
    let notes = notes_spelled t write.op write.tracked write.mask write.context is.schema.few given.tracked given.context given.mask in
    let bare = bare_key write.key write.row in
    let told : List ℕ = spell_notes write.tracked write.mask write.context in
    let long : length (spell_write (bare_write write)) ≡ 6 + length (spell_target bare write.row) + length told =
    omega (arith, length-append (spell_target bare write.row) (spell_flag write.tracked ++ told)) in
    let change : length (spell_change (change_of write)) ≡ 13 + length (spell_key write.key) + length (spell_context write.context) =
    omega (arith, length-append (spell_key write.key) (little_bytes 8 write.mask ++ spell_context write.context)) in
    record {
      fits = (omega (arith, low), target.fits, notes.0);
      short = omega (arith, long, target.short, notes.1);
      change = λ tracked. omega (arith, long, change, target.holds_key, tracked_notes write.tracked write.mask write.context tracked);
    }

pub constant : {X : Type 0} (C : Type 0) (found : Option X) → IsSomeAnd found (λ x. C) → C
constant C None is = absurd is
constant C (Some x) is = is

pub writes_spelled : (version : ℕ) (keep : Option Keep) (writes : List Write) (tables : List Table) → AreNumbered 1 tables → length tables ≤ 256
    → WritesApply tables writes → AllByRecursion (IsTableValid version keep) tables → AllByRecursion IsSpelled writes
writes_spelled version keep [] tables numbered few apply all = tt
writes_spelled version keep (write ∷ writes) tables numbered few apply all =
    let found : write.table < 1 + length tables = found_within 1 tables write.table numbered (some_and_weaken _ _ (λ t given. tt) _ apply.0) in
    let low : write.table ≤ 256 = omega (arith, found, few) in (
      constant (IsSpelled write) (table_of tables write.table)
          (found_has (IsTableValid version keep) (applies.WriteFits write) (λ t. IsSpelled write) (λ t is given. write_spelled version keep write t is low given) tables write.table all apply.0),
      writes_spelled version keep writes (map (written write) tables) (numbered_map (written write) (written_schema write) 1 tables numbered) (omega (arith, few, length-map tables (written write))) apply.1
          (write_keeps version keep write tables numbered apply.0 all),
    )
