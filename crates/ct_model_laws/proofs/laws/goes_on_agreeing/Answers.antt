use Rattle.std.proofs.Common.{◌≡◌, ◌≤◌, ◌<◌, inl, inr, ℕ, true, List, Option, None, Some, IfSome, refl, sym, ap, ◌∙◌, subst, arith}
use Rattle.ct_types.specs.declared.value.Key.{Key}
use Rattle.ct_types.specs.declared.value.Row.{Row}
use Rattle.ct_types.specs.declared.tracked.Tracked.{Tracked}
use Rattle.ct_types.specs.declared.entry.Entry.{Entry}
use Rattle.ct_model.specs.declared.db.Table.{Table}
use Rattle.ct_model.specs.declared.db.Db.{Db}
use Rattle.ct_model_laws.specs.Agrees.{Agrees, CopyAgrees, Differ}
use Rattle.ct_model.specs.Applies.{Applies}
use Rattle.ct_model.specs.Apply.{apply, kept_of, changes_of}
use Rattle.ct_model.specs.Tables.{row_at, table_of}
use Rattle.ct_model.proofs.Found.{found_id}
use Rattle.ct_model_laws.proofs.Moving.{Moves, FoundMoves, tables_move, changes_draw}
use Rattle.ct_model_laws.proofs.NetKeys.{IsOf, HasAbove, IsWithin, net_has, net_tells}
use Rattle.ct_model_laws.proofs.Rises.{version_rises, drawn_rises}
use Rattle.ct_model_laws.proofs.Somewhere.{Somewhere}
use Rattle.ct_model_laws.proofs.Staying.{trim_has, added_keeps, added_has}
use Rattle.ct_model_laws.proofs.laws.goes_on_agreeing.Goals as goal

if_some_at : {X : Type 0} (P : X → Type 0) (o : Option X) (x : X) → o ≡ Some x → IfSome o P → P x
if_some_at P o x e holds = subst (λ o. IfSome o P) e holds

within_then : (noted : ℕ) (tracked : Option Tracked) (R : Type 0) → IfSome tracked (λ tracked. tracked.min ≤ noted → R)
    → IsWithin noted tracked → R
within_then noted None R holds within = elim within [ ]
within_then noted (Some tracked) R holds within = holds within

then_within : (noted : ℕ) (tracked : Option Tracked) (R : Type 0) → (IsWithin noted tracked → R)
    → IfSome tracked (λ tracked. tracked.min ≤ noted → R)
then_within noted None R holds = tt
then_within noted (Some tracked) R holds = holds

-- a key at which the copy and the rows differed has a kept change above the noted version
old_change : (db : Db) (id noted : ℕ) (copied : List Row) (table : Table) (key : Key) → Agrees db id noted copied
    → table_of db.tables id ≡ Some table → IsWithin noted table.tracked → Differ table copied key
    → Somewhere (HasAbove id noted key) db.kept
old_change db id noted copied table key agrees is within differ =
    let same = found_id db.tables id table is in
    let here : table_of db.tables table.schema.id ≡ Some table = ap (λ n. table_of db.tables n) same ∙ is in
    let contains = within_then noted table.tracked _ (if_some_at (CopyAgrees db noted copied) _ table is agrees.rows_agree) within key differ in
    subst (λ n. Somewhere (HasAbove n noted key) db.kept) same (net_tells db table.schema.id noted table key here within contains)

-- a key at which the copy and the rows differ after the entry has one too
new_change : (db : Db) (entry : Entry) (id noted : ℕ) (copied : List Row) (before after : Table) (key : Key) → Applies db entry
    → Agrees db id noted copied → table_of db.tables id ≡ Some before → table_of (apply db entry).tables id ≡ Some after
    → IsWithin noted after.tracked → Moves noted (changes_of entry.act) before after → Differ after copied key
    → Somewhere (HasAbove id noted key) (apply db entry).kept
unfolding apply
new_change db entry id noted copied before after key applies agrees was is within moves differ =
    trim_has (apply db entry).tables id noted key after _ is within
    (elim (moves.rows key) [
      | inl stays ↦ added_keeps (HasAbove id noted key) entry.draws db.kept (kept_of entry)
          (old_change db id noted copied before key agrees was moves.tracked
          (λ same. differ (subst (λ s. row_at s copied key ≡ row_at s after.rows key) (sym moves.schema) (same ∙ sym stays))))
      | inr changed ↦
          (let change = subst (λ n. Somewhere (IsOf n key) (changes_of entry.act)) (found_id db.tables id before was) changed in
          let drawn = changes_draw db entry.version id key entry.draws entry.act applies.act change in
          let rises : db.version < entry.version = drawn_rises entry.draws db.version entry.version applies.version drawn in
          added_has (HasAbove id noted key) entry.draws db.kept (kept_of entry) drawn (omega (arith, agrees.not_ahead), change))
    ])

pub returns : goal.returns
unfolding apply
returns c = λ db entry id noted copied valid applies agrees.
    let rises : db.version ≤ entry.version = version_rises entry.draws db.version entry.version applies.version in
    let above : entry.draws ≡ true → noted < entry.version = (λ drawn. let lt : db.version < entry.version = drawn_rises entry.draws db.version entry.version applies.version drawn in omega (arith, agrees.not_ahead)) in
    let now : Db = apply db entry in
    let moves : FoundMoves noted (changes_of entry.act) (table_of db.tables id) (table_of now.tables id) = tables_move db entry.version noted id entry.draws entry.act above applies.act valid.numbered in
    let each : (after : Table) → table_of now.tables id ≡ Some after → CopyAgrees now noted copied after =
    (λ after is. then_within noted after.tracked _ (λ within key differ.
    let moved = moves after is within in
    let same = found_id now.tables id after is in
    net_has now after.schema.id noted after key (ap (λ n. table_of now.tables n) same ∙ is) within
    (subst (λ n. Somewhere (HasAbove n noted key) now.kept) (sym same) (new_change db entry id noted copied moved.0 after key applies agrees moved.1 is within moved.2 differ)))) in
    let step : (o : Option Table) → table_of now.tables id ≡ o → IfSome o (CopyAgrees now noted copied) =
    elim [ None ↦ (λ e. tt) | Some after ↦ (λ e. each after e) ] in
    record { not_ahead = omega (arith, agrees.not_ahead); rows_agree = step (table_of now.tables id) refl }
