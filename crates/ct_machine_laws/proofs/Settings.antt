-- The settings that ALTER DATABASE comes to apply.
use Rattle.std.proofs.Common.{◌≡◌, ◌≤◌, ℕ, ◌*◌, true, false, cond, ◌==◌, List, [], ◌∷◌, length, map, filter, Option, Some, None, is_some, Ok, refl, sym, subst, arith, eqb-true}
use Rattle.std.specs.List.{AllByRecursion}
use Rattle.ct_types.specs.declared.bound.Bound.{Bound}
use Rattle.ct_types.specs.declared.bound.Bound.TheVariants.{AcceptOption, AlterDatabase}
use Rattle.ct_types.specs.declared.catalogue.Catalogued.{Catalogued}
use Rattle.ct_types.specs.declared.entry.Act.TheVariants.{Database}
use Rattle.ct_types.specs.declared.entry.Keep.{Keep}
use Rattle.ct_types.specs.declared.refusal.Refusal.TheVariants.{BadRetention, TablesTracked, TrackingOff}
use Rattle.ct_types.specs.declared.stmt.DatabaseOption.{DatabaseOption}
use Rattle.ct_types.specs.declared.stmt.DatabaseOption.TheVariants.{TrackingOn, TrackingOff as tracking_off, Tracking, AllowSnapshotIsolation, ReadCommittedSnapshot}
use Rattle.ct_types.specs.declared.stmt.Retention.{Retention}
use Rattle.ct_types.specs.declared.stmt.TimeUnit.{TimeUnit}
use Rattle.ct_types.specs.declared.stmt.TimeUnit.TheVariants.{Days, Hours, Minutes}
use Rattle.ct_types.specs.declared.stmt.TrackingOptions.{TrackingOptions}
use Rattle.ct_types.specs.declared.tracked.Tracked.{Tracked}
use Rattle.ct_types.specs.Answers.{◌>>=◌, demand}
use Rattle.ct_model.specs.declared.db.Db.{Db}
use Rattle.ct_model.specs.declared.db.Table.{Table}
use Rattle.ct_model.specs.Applies.{ActApplies}
use Rattle.ct_model.specs.Tables.{catalogued}
use Rattle.ct_model.specs.Valid.{IsKeepValid, IsRetention}
use Rattle.ct_bind_names.specs.Numbers.{within, seconds_in, retention_of}
use Rattle.ct_bind_definition.specs.Definitions.{alter_database, cleanup_or, defaults, retention_or, settings, tracked_count}
use Rattle.ct_machine_laws.specs.Acts.{SettingsApply}
use Rattle.ct_machine_laws.proofs.Columns.{within_range}
use Rattle.ct_types.proofs.AnswersKept.{Kept, ok_kept, err_kept, then_kept, met_kept, found_kept}

-- ---- retentions

seconds_fit : (unit : TimeUnit) (n : ℕ) → 1 ≤ n → n ≤ 2147483647 → IsRetention (n * seconds_in unit)
seconds_fit Days n least most = (omega arith, omega arith)
seconds_fit Hours n least most = (omega arith, omega arith)
seconds_fit Minutes n least most = (omega arith, omega arith)

retention_kept : (retention : Retention) → Kept IsRetention (retention_of retention)
unfolding retention_of
retention_kept retention =
    then_kept (λ n. (1 ≤ n) × (n ≤ 2147483647)) IsRetention _ _
    (found_kept (λ n. (1 ≤ n) × (n ≤ 2147483647)) (within 1 2147483647 retention.amount) BadRetention (within_range 1 2147483647 retention.amount))
    (λ n fits. ok_kept IsRetention (n * seconds_in retention.unit) (seconds_fit retention.unit n fits.0 fits.1))

retention_or_kept : (old : ℕ) (retention : Option Retention) → IsRetention old → Kept IsRetention (retention_or old retention)
retention_or_kept old None valid = ok_kept IsRetention old valid
retention_or_kept old (Some retention) valid = retention_kept retention

settings_kept : (old : Keep) (options : TrackingOptions) → IsRetention old.retention → Kept (λ keep. IsRetention keep.retention) (settings old options)
unfolding settings
settings_kept old options valid =
    then_kept IsRetention (λ keep. IsRetention keep.retention) (retention_or old.retention options.retention) _ (retention_or_kept old.retention options.retention valid)
    (λ retention fits. ok_kept (λ (keep : Keep). IsRetention keep.retention) (record { retention = retention; auto = cleanup_or old.auto options.cleanup }) fits)

-- ---- tables that are not tracked

none_tracked : (tables : List Table) → length (filter (λ table. is_some table.tracked) (map catalogued tables)) ≡ 0 → AllByRecursion (λ table. table.tracked ≡ None) tables
none_tracked [] none = tt
none_tracked (t ∷ ts) none =
    let rest = filter (λ (table : Catalogued). is_some table.tracked) (map catalogued ts) in
    let step : (o : Option Tracked) → o ≡ t.tracked → length (cond (is_some o) (catalogued t ∷ rest) rest) ≡ 0 → AllByRecursion (λ table. table.tracked ≡ None) (t ∷ ts) =
    elim [ None ↦ (λ is n. (sym is, none_tracked ts n)) | Some tracked ↦ (λ is n. absurd (omega arith)) ] in
    step t.tracked refl none

not_counted : (tables : List Table) → (tracked_count (map catalogued tables) == 0) ≡ true → AllByRecursion (λ table. table.tracked ≡ None) tables
unfolding tracked_count
not_counted tables none = none_tracked tables (eqb-true (length (filter (λ (table : Catalogued). is_some table.tracked) (map catalogued tables))) 0 none)

-- ---- ALTER DATABASE

-- what is bound changes nothing, or sets the database so that the act applies
abbrev pub Sets : Db → ℕ → Bound → Type 0
Sets db version AcceptOption = Unit {0}
Sets db version (AlterDatabase keep) = ActApplies db version false (Database keep)
Sets db version bound = ⊥

set_to : (db : Db) (version : ℕ) (old : Keep) (options : TrackingOptions) → IsRetention old.retention
    → Kept (Sets db version) (settings old options >>= (λ keep. Ok (AlterDatabase (Some keep))))
set_to db version old options valid =
    then_kept (λ keep. IsRetention keep.retention) (Sets db version) (settings old options) _ (settings_kept old options valid)
    (λ keep fits. ok_kept (Sets db version) (AlterDatabase (Some keep)) (fits, refl))

pub settings_apply_by : (db : Db) (version : ℕ) (keep : Option Keep) (option : DatabaseOption) → keep ≡ db.keep → IsKeepValid keep
    → Kept (Sets db version) (alter_database (map catalogued db.tables) keep option)
unfolding alter_database
settings_apply_by db version None (TrackingOn options) is valid = set_to db version defaults options (omega arith, omega arith)
settings_apply_by db version (Some old) (TrackingOn options) is valid = err_kept (Sets db version) _
settings_apply_by db version None tracking_off is valid = err_kept (Sets db version) TrackingOff
settings_apply_by db version (Some old) tracking_off is valid =
    let tables = map catalogued db.tables in
    then_kept (λ _. (tracked_count tables == 0) ≡ true) (Sets db version) (demand (tracked_count tables == 0) (TablesTracked (tracked_count tables))) _
    (met_kept (tracked_count tables == 0) (TablesTracked (tracked_count tables)))
    (λ _ none. ok_kept (Sets db version) (AlterDatabase None) (subst (λ (o : Option Keep). is_some o ≡ true) is refl, not_counted db.tables none, refl))
settings_apply_by db version None (Tracking options) is valid = err_kept (Sets db version) TrackingOff
settings_apply_by db version (Some old) (Tracking options) is valid = set_to db version old options valid
settings_apply_by db version keep AllowSnapshotIsolation is valid = ok_kept (Sets db version) AcceptOption tt
settings_apply_by db version keep ReadCommittedSnapshot is valid = ok_kept (Sets db version) AcceptOption tt

pub settings_apply : SettingsApply
settings_apply db version option keep valid made = (settings_apply_by db version db.keep option refl valid).holds (AlterDatabase keep) made
