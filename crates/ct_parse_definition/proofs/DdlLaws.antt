-- The laws of the rules of data definition.
use Rattle.std.proofs.Common.{ℕ, false, [], ◌∷◌, refl}
use Rattle.ct_grammar.specs.declared.kind.Kind.TheVariants as k
use Rattle.ct_grammar.specs.Kinds.{same, Set, has, apart, within, names}
use Rattle.ct_grammar.proofs.Outcomes.{ReadsRule, HasSpelling}
use Rattle.ct_grammar.proofs.Sequences.{some_of, some_then, law_of, law_then, law_weaken}
use Rattle.ct_grammar.proofs.Choices.{some_left, some_right, some_maybe, law_pick, law_option}
use Rattle.ct_grammar.proofs.Repetitions.{some_many, law_repeat}
use Rattle.ct_grammar.proofs.EndedLists.{some_until, law_until}
use Rattle.ct_parse_definition.specs.Grammar as g
use Rattle.ct_parse_definition.specs.Grammar.{switches, units}
use Rattle.ct_parse_definition.specs.ReadDdl as p
use Rattle.ct_grammar.proofs.NameLaws.{some_one, some_kind, some_name, some_number, some_table_name, law_one, law_kind, law_name, law_number, law_table_name}
use Rattle.ct_parse_expr.proofs.NameLaws.{some_name_list, law_name_list}

-- ---- ALTER DATABASE

some_retention : {d : ℕ} → HasSpelling d (λ n. g.retention)
unfolding g.retention has same
some_retention = some_of (some_then (some_one k.ChangeRetention refl) (some_then (some_one k.Equal refl) (some_then some_number (some_kind units k.Days refl))))

law_retention : {d : ℕ} → ReadsRule (λ n. g.retention) d p.retention (k.ChangeRetention ∷ []) false []
unfolding g.retention p.retention apart has same
law_retention =
    let one = some_kind units k.Days refl in
    let two = some_then some_number one in
    law_of (law_then refl (some_then (some_one k.Equal refl) two) (law_one k.ChangeRetention) (law_then refl two (law_one k.Equal) (law_then refl one law_number (law_kind units))))

some_cleanup : {d : ℕ} → HasSpelling d (λ n. g.cleanup)
unfolding g.cleanup has same
some_cleanup = some_of (some_then (some_one k.AutoCleanup refl) (some_then (some_one k.Equal refl) (some_kind switches k.On refl)))

law_cleanup : {d : ℕ} → ReadsRule (λ n. g.cleanup) d p.cleanup (k.AutoCleanup ∷ []) false []
unfolding g.cleanup p.cleanup apart has same
law_cleanup =
    let one = some_kind switches k.On refl in
    law_of (law_then refl (some_then (some_one k.Equal refl) one) (law_one k.AutoCleanup) (law_then refl one (law_one k.Equal) (law_kind switches)))

some_options : {d : ℕ} → HasSpelling d (λ n. g.options)
unfolding g.options has same
some_options = some_of (some_then (some_one k.Open refl) (some_then (some_left _ (some_of (some_then some_retention (some_maybe _)))) (some_one k.Close refl)))

law_options : {d : ℕ} → ReadsRule (λ n. g.options) d p.options (k.Open ∷ []) false []
unfolding g.options p.options p.listed_options p.retention_first p.cleanup_first p.next_cleanup p.next_retention apart has same
law_options = law_of (law_then refl (some_then (some_left _ (some_of (some_then some_retention (some_maybe _)))) (some_one k.Close refl)) (law_one k.Open)
    (law_then refl (some_one k.Close refl) (law_pick refl
    (law_of (law_then refl (some_maybe _) law_retention (law_option (law_of (law_then refl some_cleanup (law_one k.Comma) law_cleanup)))))
    (law_of (law_then refl (some_maybe _) law_cleanup (law_option (law_of (law_then refl some_retention (law_one k.Comma) law_retention))))))
    (law_one k.Close)))

some_switched : {d : ℕ} → HasSpelling d (λ n. g.switched)
unfolding g.switched has same
some_switched = some_left _ (some_of (some_then (some_one k.On refl) (some_maybe _)))

law_switched : {d : ℕ} → ReadsRule (λ n. g.switched) d p.switched (k.On ∷ k.Off ∷ []) false (k.Open ∷ [])
unfolding g.switched p.switched p.switched_on apart has same within
law_switched = law_weaken (k.Open ∷ []) refl (law_pick refl (law_of (law_then refl (some_maybe _) (law_one k.On) (law_option law_options))) (law_of (law_one k.Off)))

law_database_option : {d : ℕ} → ReadsRule (λ n. g.database_option) d p.database_option (k.ChangeTracking ∷ k.AllowSnapshotIsolation ∷ k.ReadCommittedSnapshot ∷ []) false (k.Open ∷ [])
unfolding g.database_option p.database_option p.tracking_option p.tracking_tail p.equal_switched p.snapshot_option p.read_option apart has same within
law_database_option = law_weaken (k.Open ∷ []) refl (law_pick refl
    (law_of (law_then refl (some_right _ (some_of some_options)) (law_one k.ChangeTracking) (law_pick refl (law_of (law_then refl some_switched (law_one k.Equal) law_switched)) (law_of law_options))))
    (law_pick refl (law_of (law_then refl (some_one k.On refl) (law_one k.AllowSnapshotIsolation) (law_one k.On)))
    (law_of (law_then refl (some_one k.On refl) (law_one k.ReadCommittedSnapshot) (law_one k.On)))))

some_database_option : {d : ℕ} → HasSpelling d (λ n. g.database_option)
unfolding g.database_option has same
some_database_option = some_right _ (some_left _ (some_of (some_then (some_one k.AllowSnapshotIsolation refl) (some_one k.On refl))))

some_database : {d : ℕ} → HasSpelling d (λ n. g.database)
unfolding g.database has same
some_database = some_of (some_then (some_one k.Database refl) (some_then some_name (some_then (some_one k.Set refl) some_database_option)))

law_database : {d : ℕ} → ReadsRule (λ n. g.database) d p.database (k.Database ∷ []) false (k.Open ∷ [])
unfolding g.database p.database apart has same
law_database =
    let one = some_then (some_one k.Set refl) some_database_option in
    law_of (law_then refl (some_then some_name one) (law_one k.Database) (law_then refl one law_name (law_then refl some_database_option (law_one k.Set) law_database_option)))

-- ---- ALTER TABLE, CREATE TABLE, TRUNCATE TABLE

law_columns_updated : {d : ℕ} → ReadsRule (λ n. g.columns_updated) d p.columns_updated (k.With ∷ []) false []
unfolding g.columns_updated p.columns_updated apart has same
law_columns_updated =
    let one = some_then (some_kind switches k.On refl) (some_one k.Close refl) in
    let two = some_then (some_one k.Equal refl) one in
    let three = some_then (some_one k.TrackColumnsUpdated refl) two in
    law_of (law_then refl (some_then (some_one k.Open refl) three) (law_one k.With) (law_then refl three (law_one k.Open) (law_then refl two (law_one k.TrackColumnsUpdated)
    (law_then refl one (law_one k.Equal) (law_then refl (some_one k.Close refl) (law_kind switches) (law_one k.Close))))))

law_tracking : {d : ℕ} → ReadsRule (λ n. g.tracking) d p.tracking (k.Table ∷ []) false (k.With ∷ [])
unfolding g.tracking p.tracking p.enabled_or_not p.enabled p.disabled apart has same within
law_tracking =
    let change = some_right _ (some_of (some_then (some_one k.Disable refl) (some_one k.ChangeTracking refl))) in
    law_weaken (k.With ∷ []) refl (law_of (law_then refl (some_then some_table_name change) (law_one k.Table) (law_then refl change law_table_name (law_pick refl
    (law_of (law_then refl (some_then (some_one k.ChangeTracking refl) (some_maybe _)) (law_one k.Enable) (law_then refl (some_maybe _) (law_one k.ChangeTracking) (law_option law_columns_updated))))
    (law_of (law_then refl (some_one k.ChangeTracking refl) (law_one k.Disable) (law_one k.ChangeTracking)))))))

pub law_alter : {d : ℕ} → ReadsRule (λ n. g.alter) d p.alter (k.Alter ∷ []) false (k.Open ∷ k.With ∷ [])
unfolding g.alter p.alter p.altered apart has same
law_alter = law_of (law_then refl (some_left _ some_database) (law_one k.Alter) (law_pick refl law_database law_tracking))

some_size : {d : ℕ} → HasSpelling d (λ n. g.size)
unfolding g.size has same
some_size = some_of (some_then (some_one k.Open refl) (some_then some_number (some_one k.Close refl)))

law_size : {d : ℕ} → ReadsRule (λ n. g.size) d p.size (k.Open ∷ []) false []
unfolding g.size p.size apart has same
law_size = law_of (law_then refl (some_then some_number (some_one k.Close refl)) (law_one k.Open) (law_then refl (some_one k.Close refl) law_number (law_one k.Close)))

pub some_type_name : {d : ℕ} → HasSpelling d (λ n. g.type_name)
unfolding g.type_name has same
some_type_name = some_left _ (some_of (some_one k.Int refl))

pub law_type_name : {d : ℕ} → ReadsRule (λ n. g.type_name) d p.type_name (k.Int ∷ k.BigInt ∷ k.NVarChar ∷ k.VarBinary ∷ []) false []
unfolding g.type_name p.type_name p.nvarchar p.varbinary apart has same
law_type_name = law_pick refl (law_of (law_one k.Int)) (law_pick refl (law_of (law_one k.BigInt)) (law_pick refl
    (law_of (law_then refl some_size (law_one k.NVarChar) law_size)) (law_of (law_then refl some_size (law_one k.VarBinary) law_size))))

some_primary_key : {d : ℕ} → HasSpelling d (λ n. g.primary_key)
unfolding g.primary_key has same
some_primary_key = some_of (some_then (some_maybe _) (some_then (some_one k.Primary refl) (some_one k.Key refl)))

law_primary_key : {d : ℕ} → ReadsRule (λ n. g.primary_key) d p.primary_key (k.Constraint ∷ k.Primary ∷ []) false []
unfolding g.primary_key p.primary_key p.constraint apart has same
law_primary_key = law_of (law_then refl (some_then (some_one k.Primary refl) (some_one k.Key refl)) (law_option (law_then refl some_name (law_one k.Constraint) law_name))
    (law_then refl (some_one k.Key refl) (law_one k.Primary) (law_one k.Key)))

law_column_rule : {d : ℕ} → ReadsRule (λ n. g.column_rule) d p.column_rule (k.Null ∷ k.Not ∷ k.Constraint ∷ k.Primary ∷ []) false []
unfolding g.column_rule p.column_rule p.not_null apart has same
law_column_rule = law_pick refl (law_of (law_one k.Null)) (law_pick refl (law_of (law_then refl (some_one k.Null refl) (law_one k.Not) (law_one k.Null))) (law_of law_primary_key))

abbrev rules_go : Set
rules_go = k.Null ∷ k.Not ∷ k.Constraint ∷ k.Primary ∷ []

some_column : {d : ℕ} → HasSpelling d (λ n. g.column)
unfolding g.column
some_column = some_of (some_then some_name (some_then some_type_name (some_many _)))

law_column : {d : ℕ} → ReadsRule (λ n. g.column) d p.column names false rules_go
unfolding g.column p.column p.column_rules apart has same
law_column = law_of (law_then refl (some_then some_type_name (some_many _)) law_name (law_then refl (some_many _) law_type_name (law_repeat refl law_column_rule)))

law_table_part : {d : ℕ} → ReadsRule (λ n. g.table_part) d p.table_part (k.Comma ∷ []) false rules_go
unfolding g.table_part g.table_key p.table_part p.column_or_key p.table_key apart has same within
law_table_part = law_weaken rules_go refl (law_of (law_then refl (some_left _ (some_of some_column)) (law_one k.Comma)
    (law_pick refl (law_of law_column) (law_of (law_of (law_then refl some_name_list law_primary_key law_name_list))))))

pub law_create : {d : ℕ} → ReadsRule (λ n. g.create) d p.create (k.Create ∷ []) false []
unfolding g.create p.create p.table_parts apart has same
law_create =
    let one = some_then (some_until (λ n. g.table_part)) (some_one k.Close refl) in
    let two = some_then some_column one in
    let three = some_then (some_one k.Open refl) two in
    let four = some_then some_table_name three in
    law_of (law_then refl (some_then (some_one k.Table refl) four) (law_one k.Create) (law_then refl four (law_one k.Table) (law_then refl three law_table_name
    (law_then refl two (law_one k.Open) (law_then refl one law_column (law_then refl (some_one k.Close refl) (law_until refl law_table_part) (law_one k.Close)))))))

pub law_truncate : {d : ℕ} → ReadsRule (λ n. g.truncate) d p.truncate (k.Truncate ∷ []) false (k.Dot ∷ [])
unfolding g.truncate p.truncate apart has same
law_truncate = law_of (law_then refl (some_then (some_one k.Table refl) some_table_name) (law_one k.Truncate) (law_then refl some_table_name (law_one k.Table) law_table_name))

pub some_truncate : {d : ℕ} → HasSpelling d (λ n. g.truncate)
unfolding g.truncate has same
some_truncate = some_of (some_then (some_one k.Truncate refl) (some_then (some_one k.Table refl) some_table_name))
