-- A definition that is taken is of a table that may be defined, and new.
use Rattle.std.proofs.Common.{◌≡◌, ◌≢◌, ◌≤◌, ℕ, ◌+◌, Bool, true, false, not, ◌&&◌, nat_le, nat_lt, List, [], ◌∷◌, length, Option, is_some, refl, sym, subst, leb-true, ltb-true}
use Rattle.std.specs.List.{AllByRecursion, list_all}
use Rattle.ct_types.specs.declared.bound.Bound.{Bound}
use Rattle.ct_types.specs.declared.bound.Bound.TheVariants.{CreateTable}
use Rattle.ct_types.specs.declared.catalogue.Catalogued.{Catalogued}
use Rattle.ct_types.specs.declared.expr.ObjectName.{ObjectName}
use Rattle.ct_types.specs.declared.refusal.Refusal.{Refusal}
use Rattle.ct_types.specs.declared.refusal.Refusal.TheVariants.{BadTable, Exists, TooMany}
use Rattle.ct_types.specs.declared.schema.Column.{Column}
use Rattle.ct_types.specs.declared.schema.Schema.{Schema}
use Rattle.ct_types.specs.declared.stmt.ColumnDef.{ColumnDef}
use Rattle.ct_types.specs.Answers.{demand, each}
use Rattle.ct_model.specs.Lists.{EachToLater}
use Rattle.ct_model.specs.Names.{folded, IsName, IsTableName}
use Rattle.ct_model.specs.Schemas.{IsSchema}
use Rattle.ct_bind_names.specs.Catalogue.{table_named}
use Rattle.ct_bind_names.specs.Names.{table_name}
use Rattle.ct_bind_definition.specs.Definitions.{is_there, is_repeated, keys_written, key_names, has_clear_nulls, are_different, is_free_name, defined_column, key_id, is_in_sys, first_rules, schema_of, create}
use Rattle.ct_machine_laws.specs.Schemas.{AreNames, IsNewTable, CreatesDefinable}
use Rattle.ct_machine_laws.proofs.Columns.{AreDefined, distinct, columns_kept, same_names, are_columns, as_many}
use Rattle.ct_machine_laws.proofs.Keys.{HasKey, key_kept, is_key}
use Rattle.ct_types.proofs.AnswersKept.{Kept, ok_kept, err_kept, then_kept, after_kept, met_kept}
use Rattle.ct_machine_laws.proofs.Sameness.{new_name, not_in_sys, is_table_name}

demand_both : (a b : Bool) (refusal : Refusal) → Kept (λ _. (a ≡ true) × (b ≡ true)) (demand (a && b) refusal)
demand_both true true refusal = ok_kept (λ _. (true ≡ true) × (true ≡ true)) tt (refl, refl)
demand_both true false refusal = err_kept (λ _. (true ≡ true) × (false ≡ true)) refusal
demand_both false b refusal = err_kept (λ _. (false ≡ true) × (b ≡ true)) refusal

-- the third rule, which is the last of the first three
abbrev AreFree : List ColumnDef → List (List ℕ) → Type 0
AreFree columns names = (are_different columns ≡ true) × (list_all is_free_name names ≡ true)

rules_kept : (columns : List ColumnDef) (key : Option (List (List ℕ))) (names : List (List ℕ)) → Kept (λ _. AreFree columns names) (first_rules columns key names)
unfolding first_rules
rules_kept columns key names =
    after_kept (λ _. AreFree columns names) (demand (is_there (keys_written columns key)) (BadTable 1)) _
    (λ _. after_kept (λ _. AreFree columns names) (demand (not (is_repeated (keys_written columns key)) && list_all (has_clear_nulls key) columns) (BadTable 2)) _
    (λ _. demand_both (are_different columns) (list_all is_free_name names) (BadTable 3)))

is_schema : (id : ℕ) (name : List ℕ) (columns : List ColumnDef) (key : Option (List (List ℕ))) (made : List Column) (own : ℕ)
    → IsTableName name → length columns ≤ 64 → AllByRecursion (λ column. IsName column.name) columns → AreFree columns (key_names columns key) → AreDefined key columns made
    → HasKey (key_names columns key) columns own → not (is_in_sys name) ≡ true → IsSchema (record { id = id; name = name; columns = made; key = own ∷ [] })
is_schema id name columns key made own named few names free are has sys = record {
  name = named;
  not_sys = not_in_sys name sys;
  few = subst (λ n. n ≤ 64) (sym (as_many key columns made are)) few;
  columns = are_columns key columns made are names;
  distinct = subst (EachToLater (λ a b. a ≢ b)) (same_names key columns made are) (distinct columns free.0);
  key = is_key columns key made own free.0 free.1 are has;
}

-- the schema of this id and name
record IsOf (id : ℕ) (name : List ℕ) (schema : Schema) : Type 0 where
  id_is : schema.id ≡ id
  name_is : schema.name ≡ name
  definable : IsSchema schema

schema_kept : (id : ℕ) (name : List ℕ) (columns : List ColumnDef) (key : Option (List (List ℕ)))
    → IsTableName name → length columns ≤ 64 → AllByRecursion (λ column. IsName column.name) columns → Kept (IsOf id name) (schema_of id name columns key)
unfolding schema_of
schema_kept id name columns key named few names =
    then_kept (λ _. AreFree columns (key_names columns key)) (IsOf id name) (first_rules columns key (key_names columns key)) _ (rules_kept columns key (key_names columns key))
    (λ _ free. then_kept (AreDefined key columns) (IsOf id name) (each (defined_column key) columns) _ (columns_kept key columns)
    (λ made are. then_kept (HasKey (key_names columns key) columns) (IsOf id name) (key_id columns (key_names columns key)) _ (key_kept columns (key_names columns key))
    (λ own has. then_kept (λ _. not (is_in_sys name) ≡ true) (IsOf id name) (demand (not (is_in_sys name)) (BadTable 6)) _ (met_kept (not (is_in_sys name)) (BadTable 6))
    (λ _ sys. ok_kept (IsOf id name) _ (record { id_is = refl; name_is = refl; definable = is_schema id name columns key made own named few names free are has sys })))))

-- what is bound is a table that is new
abbrev pub Creates : List Catalogued → Bound → Type 0
Creates tables (CreateTable schema) = IsNewTable tables schema
Creates tables bound = ⊥

is_new : (tables : List Catalogued) (name : List ℕ) (schema : Schema) → nat_lt (length tables) 256 ≡ true → not (is_some (table_named tables name)) ≡ true
    → IsOf (length tables + 1) name schema → IsNewTable tables schema
is_new tables name schema room new is = record {
  id = is.id_is;
  room = ltb-true (length tables) 256 room;
  name = subst (λ n. AllByRecursion (λ table. folded table.schema.name ≢ folded n) tables) (sym is.name_is) (new_name tables name new);
  definable = is.definable;
}

pub create_kept : (tables : List Catalogued) (name : ObjectName) (columns : List ColumnDef) (key : Option (List (List ℕ))) → AreNames name columns
    → Kept (Creates tables) (create tables name columns key)
unfolding create
create_kept tables name columns key names =
    then_kept (λ _. nat_le (length columns) 64 ≡ true) (Creates tables) (demand (nat_le (length columns) 64) (TooMany 64)) _ (met_kept (nat_le (length columns) 64) (TooMany 64))
    (λ _ few. then_kept (λ _. nat_lt (length tables) 256 ≡ true) (Creates tables) (demand (nat_lt (length tables) 256) (TooMany 256)) _ (met_kept (nat_lt (length tables) 256) (TooMany 256))
    (λ _ room. then_kept (λ _. not (is_some (table_named tables (table_name name))) ≡ true) (Creates tables) (demand (not (is_some (table_named tables (table_name name)))) (Exists (table_name name))) _
    (met_kept (not (is_some (table_named tables (table_name name)))) (Exists (table_name name)))
    (λ _ new. then_kept (IsOf (length tables + 1) (table_name name)) (Creates tables) (schema_of (length tables + 1) (table_name name) columns key) _
    (schema_kept (length tables + 1) (table_name name) columns key (is_table_name name names.first names.second) (leb-true (length columns) 64 few) names.columns)
    (λ schema is. ok_kept (Creates tables) (CreateTable schema) (is_new tables (table_name name) schema room new is)))))

pub creates_definable : CreatesDefinable
creates_definable tables name columns key schema names made = (create_kept tables name columns key names).holds (CreateTable schema) made
