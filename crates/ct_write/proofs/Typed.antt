-- Values of their columns' kinds that fit are ones that the columns hold; of which kinds the values of a changed row are;
-- and which values an update leaves.
use Rattle.std.proofs.Common.{◌≡◌, ◌≢◌, ℕ, zero, suc, ◌-◌, ◌≤◌, List, [], ◌∷◌, true, Option, Some, None, IfSome, Ok, IfOk, refl, ap, ◌∙◌, subst, arith}
use Rattle.std.proofs.Math.ListN.{set}
use Rattle.std.specs.List.{AllByRecursion, filter_map, cons_option, slice_get}
use Rattle.ct_types.specs.ColumnFit.{has_kind}
use Rattle.ct_types.specs.declared.bound.BoundExpr.{BoundExpr}
use Rattle.ct_types.specs.declared.bound.BoundSet.{BoundSet}
use Rattle.ct_types.specs.declared.schema.ColType.{ColType}
use Rattle.ct_types.specs.declared.schema.ColType.TheVariants as kind
use Rattle.ct_types.specs.declared.schema.Column.{Column}
use Rattle.ct_types.specs.declared.schema.Schema.{Schema}
use Rattle.ct_types.specs.declared.value.Key.{Key}
use Rattle.ct_types.specs.declared.value.Row.{Row}
use Rattle.ct_types.specs.declared.value.Value.{Value}
use Rattle.ct_types.specs.declared.value.Value.TheVariants.{Null}
use Rattle.ct_model.specs.Schemas.{AllHold}
use Rattle.ct_model.specs.Tables.{key_of}
use Rattle.ct_expr.specs.Meaning.{World, on, value}
use Rattle.ct_types.specs.Answers.{Answer, each}
use Rattle.ct_write.specs.Fitting.{AreFit}
use Rattle.ct_write.specs.Laws.{Suits, EachSuits}
use Rattle.ct_write.specs.Rows.{assigned, nulls, set_columns}
use Rattle.ct_write.proofs.Parts.{came, same_ok}

-- a value for each column, of the column's kind
abbrev pub AreOfKinds : List Column → List Value → Type 0
AreOfKinds [] [] = Unit {0}
AreOfKinds [] (v ∷ values) = ⊥
AreOfKinds (column ∷ columns) [] = ⊥
AreOfKinds (column ∷ columns) (v ∷ values) = (has_kind column.kind v ≡ true) × AreOfKinds columns values

pub all_hold : (columns : List Column) (values : List Value) → AreOfKinds columns values → AreFit columns values → AllHold columns values
all_hold [] [] kinds fit = tt
all_hold [] (v ∷ values) kinds fit = absurd kinds
all_hold (column ∷ columns) [] kinds fit = absurd kinds
all_hold (column ∷ columns) (v ∷ values) kinds fit = ((kinds.0, fit.0), all_hold columns values kinds.1 fit.1)

pub held_kinds : (columns : List Column) (values : List Value) → AllHold columns values → AreOfKinds columns values
held_kinds [] [] held = tt
held_kinds [] (v ∷ values) held = absurd held
held_kinds (column ∷ columns) [] held = absurd held
held_kinds (column ∷ columns) (v ∷ values) held = (held.0.0, held_kinds columns values held.1)

null_kind : (type : ColType) → has_kind type Null ≡ true
null_kind kind.Int = refl
null_kind kind.BigInt = refl
null_kind (kind.NVarChar most) = refl
null_kind (kind.VarBinary most) = refl

pub null_kinds : (columns : List Column) → AreOfKinds columns (nulls columns)
null_kinds [] = tt
null_kinds (column ∷ columns) = (null_kind column.kind, null_kinds columns)

-- ---- the kinds of a changed row

-- the column at this place, if there is one, may have the value
abbrev Takes : List Column → ℕ → Value → Type 0
Takes columns place v = IfSome (slice_get columns place) (λ column. has_kind column.kind v ≡ true)

abbrev pub AllTake : List Column → List ℕ → List Value → Type 0
AllTake columns (id ∷ ids) (v ∷ values) = Takes columns (id - 1) v × AllTake columns ids values
AllTake columns ids values = Unit {0}

kinds_set : (columns : List Column) (row : List Value) (place : ℕ) (v : Value) → AreOfKinds columns row → Takes columns place v → AreOfKinds columns (set row place v)
kinds_set [] [] place v kinds takes = tt
kinds_set [] (x ∷ row) place v kinds takes = absurd kinds
kinds_set (column ∷ columns) [] place v kinds takes = absurd kinds
kinds_set (column ∷ columns) (x ∷ row) zero v kinds takes = (takes, kinds.1)
kinds_set (column ∷ columns) (x ∷ row) (suc place) v kinds takes = (kinds.0, kinds_set columns row place v kinds.1 takes)

pub kinds_assigned : (columns : List Column) (ids : List ℕ) (values row : List Value) → AreOfKinds columns row → AllTake columns ids values
    → AreOfKinds columns (assigned ids values row)
kinds_assigned columns [] values row kinds take = kinds
kinds_assigned columns (id ∷ ids) [] row kinds take = kinds
kinds_assigned columns (id ∷ ids) (v ∷ values) row kinds take =
    kinds_assigned columns ids values (set row (id - 1) v) (kinds_set columns row (id - 1) v kinds take.0) take.1

suited : (found : Option Column) (r : Answer Value) (v : Value) → r ≡ Ok v → IfSome found (λ column. IfOk r (λ x. has_kind column.kind x ≡ true))
    → IfSome found (λ column. has_kind column.kind v ≡ true)
suited None r v is suits = tt
suited (Some column) r v is suits = subst (λ (r : Answer Value). IfOk r (λ x. has_kind column.kind x ≡ true)) is suits

pub tuple_takes : (w : World) (columns : List Column) (row : Row) (ids : List ℕ) (exprs : List BoundExpr) (values : List Value)
    → EachSuits w columns row ids exprs → each (value (on w row)) exprs ≡ Ok values → AllTake columns ids values
tuple_takes w columns row [] exprs values suit e = tt
tuple_takes w columns row (id ∷ ids) [] values suit e =
    let none : [] ≡ values = same_ok _ _ e in subst (AllTake columns (id ∷ ids)) none tt
tuple_takes w columns row (id ∷ ids) (expr ∷ exprs) values suit e =
    let c = came (value (on w row) expr) _ values e in
    let d = came (each (value (on w row)) exprs) _ values c.next in
    let are : c.first ∷ d.first ≡ values = same_ok _ _ d.next in
    subst (AllTake columns (id ∷ ids)) are
    (suited (slice_get columns (id - 1)) (value (on w row) expr) c.first c.was suit.0, tuple_takes w columns row ids exprs d.first suit.1 d.was)

pub sets_take : (w : World) (columns : List Column) (row : Row) (sets : List BoundSet) (values : List Value)
    → AllByRecursion (λ set. Suits w columns row set.column set.value) sets → each (λ set. value (on w row) set.value) sets ≡ Ok values
    → AllTake columns (set_columns sets) values
sets_take w columns row [] values suit e = tt
sets_take w columns row (it ∷ sets) values suit e =
    let c = came (value (on w row) it.value) _ values e in
    let d = came (each (λ set. value (on w row) set.value) sets) _ values c.next in
    let are : c.first ∷ d.first ≡ values = same_ok _ _ d.next in
    subst (AllTake columns (it.column ∷ set_columns sets)) are
    (suited (slice_get columns (it.column - 1)) (value (on w row) it.value) c.first c.was suit.0, sets_take w columns row sets d.first suit.1 d.was)

-- ---- the key of an updated row

other_stays : (row : List Value) (i j : ℕ) (v : Value) → j ≢ i → slice_get (set row i v) j ≡ slice_get row j
other_stays [] i j v other = refl
other_stays (x ∷ row) zero zero v other = absurd (other refl)
other_stays (x ∷ row) zero (suc j) v other = refl
other_stays (x ∷ row) (suc i) zero v other = refl
other_stays (x ∷ row) (suc i) (suc j) v other = other_stays row i j v (λ same. other (ap suc same))

same_values : (f g : ℕ → Option Value) (ids : List ℕ) → AllByRecursion (λ id. f id ≡ g id) ids → filter_map f ids ≡ filter_map g ids
same_values f g [] all = refl
same_values f g (id ∷ ids) all = ap (λ (o : Option Value). cons_option o (filter_map f ids)) all.0 ∙ ap (λ (vs : List Value). cons_option (g id) vs) (same_values f g ids all.1)

places : (keys : List ℕ) (id : ℕ) (row : List Value) (v : Value) → 1 ≤ id → AllByRecursion (λ key. 1 ≤ key) keys → AllByRecursion (λ key. key ≢ id) keys
    → AllByRecursion (λ key. slice_get (set row (id - 1) v) (key - 1) ≡ slice_get row (key - 1)) keys
places [] id row v one ones others = tt
places (key ∷ keys) id row v one ones others =
    (other_stays row (id - 1) (key - 1) v (λ same. others.0 (omega (arith, ones.0))), places keys id row v one ones.1 others.1)

abbrev as_key : List Value → Key
as_key vs = record { 0 = vs }

pub key_kept : (schema : Schema) (ids : List ℕ) (values row : List Value) → AllByRecursion (λ key. 1 ≤ key) schema.key
    → AllByRecursion (λ id. 1 ≤ id) ids → AllByRecursion (λ id. AllByRecursion (λ key. key ≢ id) schema.key) ids
    → key_of schema (record { 0 = assigned ids values row }) ≡ key_of schema (record { 0 = row })
key_kept schema [] values row keys ones others = refl
key_kept schema (id ∷ ids) [] row keys ones others = refl
key_kept schema (id ∷ ids) (v ∷ values) row keys ones others =
    key_kept schema ids values (set row (id - 1) v) keys ones.1 others.1
    ∙ ap as_key (same_values _ _ schema.key (places schema.key id row v ones.0 keys others.0))
