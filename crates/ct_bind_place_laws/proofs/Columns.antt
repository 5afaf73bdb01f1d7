-- What the look-ups of columns refuse.
use Rattle.std.proofs.Common.{◌≡◌, ℕ, suc, ◌+◌, ◌<◌, Bool, true, false, cond, codes, List, [], ◌∷◌, ◌++◌, length, find, Option, Some, None, IsNone, is_some, Ok, Err, inl, inr, refl, sym, ap, ◌∙◌, subst, arith, length-append}
use Rattle.std.specs.Option.{IsSomeAnd}
use Rattle.std.proofs.lemmas.List.Elements.{filter-append}
use Rattle.ct_types.specs.declared.expr.ColumnName.{ColumnName}
use Rattle.ct_types.specs.declared.refusal.Refusal.{Refusal}
use Rattle.ct_types.specs.declared.refusal.Refusal.TheVariants.{NoColumn, Ambiguous, TypeClash}
use Rattle.ct_types.specs.declared.schema.Column.{Column}
use Rattle.ct_types.specs.declared.schema.Schema.{Schema}
use Rattle.ct_types.specs.Answers.{Answer, ◌>>=◌}
use Rattle.ct_types.proofs.AnswersCaused.{Caused, ok_caused, err_caused}
use Rattle.ct_bind_names.specs.Names.{same}
use Rattle.ct_bind_expr.specs.declared.place.Output.{Output}
use Rattle.ct_bind_expr.specs.declared.place.Place.{Place}
use Rattle.ct_bind_expr.specs.declared.place.Shape.{Shape}
use Rattle.ct_bind_expr.specs.declared.place.Shown.{Shown}
use Rattle.ct_bind_expr.specs.declared.place.Spot.{Spot}
use Rattle.ct_bind_expr.specs.Places.{spot, named, named_in, named_of, only, plain_by, plain_column, column_of_source, column_in, column}
use Rattle.ct_bind_expr.specs.Versions.{key_column, key_columns, key_column_from, version_column}
use Rattle.ct_bind_place_laws.specs.Columns.{of_name, row_columns, source_named, IsNoColumn, IsAmbiguous, IsNotShown}

-- ---- how many columns have a name

named_length : (name : List ℕ) (at : ℕ) (columns : List Shown) → length (named name at columns) ≡ length (of_name name columns)
unfolding named
named_length name at [] = refl
named_length name at (column ∷ columns) =
    let more : length (named name (at + 1) columns) ≡ length (of_name name columns) = named_length name (at + 1) columns in
    let by : (b : Bool) → length (cond b (spot at column.kind ∷ named name (at + 1) columns) (named name (at + 1) columns)) ≡ length (cond b (column ∷ of_name name columns) (of_name name columns)) =
    elim [ true ↦ ap suc more | false ↦ more ] in
    by (same column.name name)

named_in_length : (name : List ℕ) (at : ℕ) (sources : List Shape) → length (named_in name at sources) ≡ length (of_name name (row_columns sources))
unfolding named_in
named_in_length name at [] = refl
named_in_length name at (source ∷ sources) =
    let first = named_length name at source.columns in
    let more = named_in_length name (at + length source.columns) sources in
    let cut : of_name name (row_columns (source ∷ sources)) ≡ of_name name source.columns ++ of_name name (row_columns sources) = filter-append (λ (c : Shown). same c.name name) source.columns (row_columns sources) in
    omega (
      arith,
      length-append (named name at source.columns) (named_in name (at + length source.columns) sources),
      ap length cut,
      length-append (of_name name source.columns) (of_name name (row_columns sources)),
      first,
      more,
    )

none_of : {X : Type 0} (xs : List X) → length xs ≡ 0 → xs ≡ []
none_of [] e = refl
none_of (x ∷ xs) e = absurd (omega arith)

-- ---- the one column that is meant

only_by : {Cause : Refusal → Type 0} (name : List ℕ) (spots : List Spot) (columns : List Shown) → length spots ≡ length columns → (columns ≡ [] → Cause (NoColumn name)) → (1 < length columns → Cause (Ambiguous name))
    → Caused Cause (only name spots)
unfolding only
only_by name [] columns long none several = err_caused (NoColumn name) (none (none_of columns (sym long)))
only_by name (one ∷ []) columns long none several = ok_caused _
only_by name (one ∷ other ∷ more) columns long none several = err_caused (Ambiguous name) (several (omega arith))

-- the source that a name before the full stop means
named_of_by : {Cause : Refusal → Type 0} (wanted name : List ℕ) (at : ℕ) (sources : List Shape) → (source_named wanted sources ≡ None → Cause (NoColumn wanted))
    → ((found : Shape) → source_named wanted sources ≡ Some found → (of_name name found.columns ≡ [] → Cause (NoColumn name)) × (1 < length (of_name name found.columns) → Cause (Ambiguous name)))
    → Caused Cause (named_of wanted name at sources >>= only name)
unfolding named_of
named_of_by wanted name at [] none several = err_caused (NoColumn wanted) (none refl)
named_of_by {Cause = Cause} wanted name at (source ∷ sources) none several =
    let by : (b : Bool)
    → (cond b (Some source) (source_named wanted sources) ≡ None → Cause (NoColumn wanted))
    → ((found : Shape) → cond b (Some source) (source_named wanted sources) ≡ Some found → (of_name name found.columns ≡ [] → Cause (NoColumn name)) × (1 < length (of_name name found.columns) → Cause (Ambiguous name)))
    → Caused Cause (cond b (Ok (named name at source.columns)) (named_of wanted name (at + length source.columns) sources) >>= only name) =
    elim [
      | true ↦ (λ none several. let both = several source refl in only_by name (named name at source.columns) (of_name name source.columns) (named_length name at source.columns) both.0 both.1)
      | false ↦ (λ none several. named_of_by wanted name (at + length source.columns) sources none several)
    ] in
    by (same source.name wanted) none several

plain_by_by : {Cause : Refusal → Type 0} (place : Place) (name : List ℕ) (output : Option Output) → (of_name name (row_columns place.sources) ≡ [] → Cause (NoColumn name))
    → (1 < length (of_name name (row_columns place.sources)) → Cause (Ambiguous name)) → Caused Cause (plain_by place name output)
plain_by_by place name (Some output) none several = ok_caused _
plain_by_by place name None none several = only_by name (named_in name 0 place.sources) (of_name name (row_columns place.sources)) (named_in_length name 0 place.sources) none several

some_and : {X : Type 0} (o : Option X) (x : X) (P : X → Type 0) → o ≡ Some x → P x → IsSomeAnd o P
some_and o x P e p = subst (λ o. IsSomeAnd o P) (sym e) p

column_in_by : {Cause : Refusal → Type 0} (place : Place) (source : Option (List ℕ)) (name : List ℕ) → ((wanted : List ℕ) → IsNoColumn place source name wanted → Cause (NoColumn wanted))
    → ((wanted : List ℕ) → IsAmbiguous place source name wanted → Cause (Ambiguous wanted)) → Caused Cause (column_in place source name)
unfolding plain_column column_of_source
column_in_by place None name none several = plain_by_by place name _ (λ e. none name (refl, e)) (λ h. several name (refl, h))
column_in_by place (Some source) name none several =
    named_of_by source name 0 place.sources (λ e. none source (inl (refl, ap (λ o. is_some o) e)))
    (λ found is. (λ e. none name (inr (refl, some_and (source_named source place.sources) found _ is e)), λ h. several name (refl, some_and (source_named source place.sources) found _ is h)))

pub column_by : {Cause : Refusal → Type 0} (place : Place) (name : ColumnName) → (place.is_closed ≡ true → Cause TypeClash)
    → ((wanted : List ℕ) → place.is_closed ≡ false → IsNoColumn place name.source name.column wanted → Cause (NoColumn wanted))
    → ((wanted : List ℕ) → place.is_closed ≡ false → IsAmbiguous place name.source name.column wanted → Cause (Ambiguous wanted)) → Caused Cause (column place name)
unfolding column
column_by {Cause = Cause} place name closed none several =
    let by : (b : Bool) → place.is_closed ≡ b → Caused Cause (cond b (Err TypeClash) (column_in place name.source name.column)) =
    elim [
      | true ↦ (λ e. err_caused TypeClash (closed e))
      | false ↦ (λ e. column_in_by place name.source name.column (λ wanted. none wanted e) (λ wanted. several wanted e))
    ] in
    by place.is_closed refl

-- ---- the columns that CHANGETABLE(VERSION ..) shows

pub chosen_by : {A : Type 0} {Cause : Refusal → Type 0} (test : Bool) (here : A) (other : Answer A) → (test ≡ false → Caused Cause other) → Caused Cause (cond test (Ok here) other)
chosen_by true here other go = ok_caused here
chosen_by false here other go = go refl

key_from_by : {Cause : Refusal → Type 0} (name : List ℕ) (at : ℕ) (key : List Column) → (IsNone (key_column key name) → Cause (NoColumn name)) → Caused Cause (key_column_from name at key)
unfolding key_column_from key_column
key_from_by name at [] none = err_caused (NoColumn name) (none refl)
key_from_by name at (first ∷ key) none =
    chosen_by (same first.name name) _ _
    (λ e. key_from_by name (at + 1) key (λ no. none (ap (λ (b : Bool). is_some (cond b (Some first) (find (λ (c : Column). same c.name name) key))) e ∙ no)))

pub version_column_by : {Cause : Refusal → Type 0} (table : Schema) (name : List ℕ) → (IsNotShown table name → Cause (NoColumn name)) → Caused Cause (version_column table name)
unfolding version_column
version_column_by table name none =
    chosen_by (same name (codes "SYS_CHANGE_VERSION")) _ _
    (λ e. chosen_by (same name (codes "SYS_CHANGE_CONTEXT")) _ _ (λ f. key_from_by name 0 (key_columns table) (λ no. none (e, f, no))))
