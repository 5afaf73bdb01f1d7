-- An act that neither alters a table nor writes a key of it leaves the tables alike at that key; so do entries, one after the other.
use Rattle.std.proofs.Common.{◌≡◌, ℕ, Bool, true, false, cond, eqb, eqb-true, eq-eqb, ◌==◌, ◌&&◌, ◌||◌, List, [], ◌∷◌, ◌++◌, Option, None, Some, is_some, refl, sym, ap, ◌∙◌, subst}
use Rattle.std.specs.List.{AllByRecursion, list_any}
use Rattle.std.specs.Option.{IsSomeAnd}
use Rattle.std.specs.Ordering.{is_eq}
use Rattle.std.proofs.lemmas.Cmp.{tied_itself}
use Rattle.ct_types.specs.Order.{key_cmp}
use Rattle.ct_types.proofs.Orders.{key_cmp_total, key_cmp_exact}
use Rattle.ct_types.proofs.Lists.{all_found}
use Rattle.ct_types.specs.declared.entry.Act.{Act}
use Rattle.ct_types.specs.declared.entry.Act.TheVariants.{Commit, Define, Truncate, Enable, Disable, Database, Raise}
use Rattle.ct_types.specs.declared.entry.Entry.{Entry}
use Rattle.ct_types.specs.declared.entry.Min.{Min}
use Rattle.ct_types.specs.declared.entry.Write.{Write}
use Rattle.ct_types.specs.declared.schema.Schema.{Schema}
use Rattle.ct_types.specs.declared.tracked.Tracked.{Tracked}
use Rattle.ct_types.specs.declared.value.Key.{Key}
use Rattle.ct_model.specs.declared.db.Db.{Db}
use Rattle.ct_model.specs.declared.db.Table.{Table}
use Rattle.ct_model.specs.Applies.{ActApplies, ApplyInTurn, WriteFits}
use Rattle.ct_model.specs.Apply.{apply, raised, replay, tables_after, tracked_as, truncated, with_min, written}
use Rattle.ct_model.specs.Tables.{has_masks, has_row, key_of, table_of}
use Rattle.ct_model.specs.Valid.{AreNumbered, IsValid}
use Rattle.ct_model.proofs.Found.{found_append, found_id, some_and_weaken}
use Rattle.ct_model.proofs.Members.{all_weaken}
use Rattle.ct_model.proofs.Rising.{IsAt, equal_of}
use Rattle.ct_model_laws.proofs.Fitting.{written_row}
use Rattle.ct_model_laws.proofs.Following.{after_raises, after_raises_schema, after_writes, after_writes_schema, after_writes_tracked, fold_of_maps, tracked_as_schema, truncation_keeps, with_min_masks, written_schema}
use Rattle.ct_model_laws.proofs.Moving.{WritesOn, writes_on}
use Rattle.ct_model_laws.proofs.Validity.{stays_valid}
use Rattle.ct_conflicts.specs.Conflicts.{alters, is_on, writes_key}
use Rattle.ct_write.proofs.Accepting.{presence_stays}
use Rattle.ct_machine_laws.specs.Transactions.{Spares}
use Rattle.ct_model_laws.proofs.Alike.{Alike, AlikeAt, FoundAlike, alike_itself, alike_through, alike_trans, left_alike, rewritten, same_alike}

-- ---- whether a write is on a key

pub neither : (a b : Bool) → (a || b) ≡ false → (a ≡ false) × (b ≡ false)
neither true b e = absurd cc
neither false b e = (refl, e)

pub on_it : (table : ℕ) (key : Key) (w : Write) → w.table ≡ table → w.key ≡ key → is_on table key w ≡ true
on_it table key w of same =
    ap (λ (b : Bool). b && is_eq (key_cmp w.key key)) (eq-eqb w.table table of)
    ∙ (ap (λ (k : Key). is_eq (key_cmp k key)) same ∙ ap is_eq (tied_itself key_cmp_total key))

pub of_on : (table : ℕ) (key : Key) (w : Write) → is_on table key w ≡ true → (w.table ≡ table) × (w.key ≡ key)
of_on table key w on =
    let step : (b : Bool) → b ≡ eqb w.table table → (b && is_eq (key_cmp w.key key)) ≡ true → (w.table ≡ table) × (w.key ≡ key) =
    elim [ true ↦ (λ e same. (eqb-true _ _ (sym e), key_cmp_exact w.key key (equal_of _ same))) | false ↦ (λ e same. absurd cc) ] in
    step (eqb w.table table) refl on

-- ---- a commit

pub written_at : (w : Write) (t : Table) → WriteFits w t → IsAt t.schema w.key w.row
written_at w t fits = all_weaken _ (λ r. key_of t.schema r ≡ w.key) (λ r is. is.1) _ (written_row t.schema w.op w.key w.row fits.row)

one_untouched : (w : Write) (t : Table) (key : Key) → (t.schema.id ≡ w.table → WriteFits w t) → is_on t.schema.id key w ≡ false
    → has_row t.schema (written w t).rows key ≡ has_row t.schema t.rows key
one_untouched w t key fits off =
    let step : (b : Bool) → b ≡ eqb t.schema.id w.table → has_row t.schema (cond b (rewritten w t) t).rows key ≡ has_row t.schema t.rows key =
    elim [
      | true ↦ (λ e. let here : t.schema.id ≡ w.table = eqb-true _ _ (sym e) in
          presence_stays t.schema t.rows w.key key w.row (written_at w t (fits here)) (λ same. let on = on_it t.schema.id key w (sym here) same in absurd cc))
      | false ↦ (λ e. refl)
    ] in
    step (eqb t.schema.id w.table) refl

untouched : (writes : List Write) (t : Table) (key : Key) → WritesOn writes t → list_any (is_on t.schema.id key) writes ≡ false
    → has_row t.schema (after_writes writes t).rows key ≡ has_row t.schema t.rows key
untouched [] t key on off = refl
untouched (w ∷ writes) t key on off =
    let none = neither (is_on t.schema.id key w) (list_any (is_on t.schema.id key) writes) off in
    let same : (written w t).schema ≡ t.schema = written_schema w t in
    subst (λ (s : Schema). has_row s (after_writes writes (written w t)).rows key ≡ has_row s (written w t).rows key) same
    (untouched writes (written w t) key on.1 (subst (λ (s : Schema). list_any (is_on s.id key) writes ≡ false) (sym same) none.1))
    ∙ one_untouched w t key on.0 none.0

commit_alike : (writes : List Write) (key : Key) (t : Table) → WritesOn writes t → list_any (is_on t.schema.id key) writes ≡ false → Alike key t (after_writes writes t)
commit_alike writes key t on off = record {
  schema = after_writes_schema writes t;
  tracked = ap (λ (o : Option Tracked). is_some o) (after_writes_tracked writes t);
  masks = ap has_masks (after_writes_tracked writes t);
  present = untouched writes t key on off;
}

-- ---- minima

min_tracked : (min : ℕ) (tracked : Option Tracked) → is_some (with_min min tracked) ≡ is_some tracked
min_tracked min None = refl
min_tracked min (Some tracked) = refl

raised_alike : (listed : Min) (key : Key) (t : Table) → Alike key t (raised listed t)
raised_alike listed key t =
    elim (eqb t.schema.id listed.table) as (λ b. Alike key t (cond b (record t { tracked = with_min listed.min t.tracked }) t)) [
      | true ↦ record { schema = refl; tracked = min_tracked listed.min t.tracked; masks = with_min_masks listed.min t.tracked; present = refl }
      | false ↦ alike_itself key t
    ]

raises_alike : (minima : List Min) (key : Key) (t : Table) → Alike key t (after_raises minima t)
raises_alike [] key t = alike_itself key t
raises_alike (listed ∷ minima) key t = alike_trans key t (raised listed t) (after_raises minima (raised listed t)) (raised_alike listed key t) (raises_alike minima key (raised listed t))

-- ---- an act

-- what is done to the table of another id leaves this one
other_alike : (key : Key) (id other : ℕ) (t x : Table) → t.schema.id ≡ id → (other == id) ≡ false → Alike key t (cond (eqb t.schema.id other) x t)
other_alike key id other t x is differs =
    let step : (b : Bool) → b ≡ eqb t.schema.id other → Alike key t (cond b x t) =
    elim [
      | true ↦ (λ e. let same : t.schema.id ≡ other = eqb-true _ _ (sym e) in let equal : (other == id) ≡ true = eq-eqb other id (sym same ∙ is) in absurd cc)
      | false ↦ (λ e. alike_itself key t)
    ] in
    step (eqb t.schema.id other) refl

added_alike : (key : Key) (tables more : List Table) (id : ℕ) → AlikeAt tables (tables ++ more) id key
added_alike key tables more id = by (table_of tables id) refl
  where
    by : (o : Option Table) → o ≡ table_of tables id → FoundAlike key o (table_of (tables ++ more) id)
    by None e = tt
    by (Some t) e =
        some_and_weaken (λ u. t ≡ u) (Alike key t) (λ u same. subst (Alike key t) same (alike_itself key t)) (table_of (tables ++ more) id)
        (found_append (λ u. t ≡ u) tables more id (subst (λ (o : Option Table). IsSomeAnd o (λ u. t ≡ u)) e refl))

pub act_alike : (db : Db) (version : ℕ) (draws : Bool) (act : Act) (id : ℕ) (key : Key) → ActApplies db version draws act → AreNumbered 1 db.tables
    → alters id act ≡ false → writes_key id key act ≡ false → AlikeAt db.tables (tables_after act version draws db.tables) id key
act_alike db version draws (Commit writes) id key applies numbered table off =
    subst (λ (tables : List Table). AlikeAt db.tables tables id key) (sym (fold_of_maps written writes db.tables))
    (left_alike (after_writes writes) (after_writes_schema writes) key db.tables id
    (λ t is. commit_alike writes key t (all_found (WritesOn writes) (λ (table : Table). table.schema.id == id) db.tables t (writes_on writes db.tables numbered applies.1) is)
    (subst (λ (n : ℕ). list_any (is_on n key) writes ≡ false) (sym (found_id db.tables id t is)) off)))
act_alike db version draws (Define schema) id key applies numbered table off = added_alike key db.tables _ id
act_alike db version draws (Truncate other) id key applies numbered table off =
    left_alike (truncated other version draws) (truncation_keeps other version draws).schema key db.tables id (λ t is. other_alike key id other t _ (found_id db.tables id t is) table)
act_alike db version draws (Enable other masks) id key applies numbered table off =
    left_alike (tracked_as other (Some (record { min = version; masks = masks }))) (tracked_as_schema other (Some (record { min = version; masks = masks }))) key db.tables id
    (λ t is. other_alike key id other t _ (found_id db.tables id t is) table)
act_alike db version draws (Disable other) id key applies numbered table off =
    left_alike (tracked_as other None) (tracked_as_schema other None) key db.tables id (λ t is. other_alike key id other t _ (found_id db.tables id t is) table)
act_alike db version draws (Database keep) id key applies numbered table off = same_alike key (table_of db.tables id)
act_alike db version draws (Raise minima) id key applies numbered table off =
    subst (λ (tables : List Table). AlikeAt db.tables tables id key) (sym (fold_of_maps raised minima db.tables))
    (left_alike (after_raises minima) (after_raises_schema minima) key db.tables id (λ t is. raises_alike minima key t))

-- ---- entries

pub entries_alike : (db : Db) (entries : List Entry) (write : Write) → IsValid db → ApplyInTurn db entries → AllByRecursion (λ entry. Spares entry.act write) entries
    → AlikeAt db.tables (replay db entries).tables write.table write.key
unfolding apply
entries_alike db [] write valid in_turn spared = same_alike write.key (table_of db.tables write.table)
entries_alike db (entry ∷ entries) write valid in_turn spared =
    alike_through db.tables (apply db entry).tables (replay (apply db entry) entries).tables write.table write.key
    (act_alike db entry.version entry.draws entry.act write.table write.key in_turn.0.act valid.numbered spared.0.table spared.0.key)
    (entries_alike (apply db entry) entries write (stays_valid db entry valid in_turn.0) in_turn.1 spared.1)
