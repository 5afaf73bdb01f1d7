-- What does not fit is refused by its first value.
use Rattle.std.proofs.Common.{◌≡◌, ℕ, zero, suc, ◌<◌, ◌≤◌, ◌^◌, ℤ, pos, negsuc, Bool, true, false, nat_lt, nat_le, List, [], ◌∷◌, length, map, slice_get, Option, Some, None, Ok, Err, inl, inr, refl, sym, ap, ◌∙◌, subst, arith}
use Rattle.std.proofs.lemmas.Bool.Decides.{nat_tests}
use Rattle.std.proofs.lemmas.Int.{ints}
use Rattle.std.proofs.lemmas.Option.{same_Some}
use Rattle.ct_types.specs.ColumnFit.{code_points, IsInt, IsMissing, IsOutOfRange, IsTooLong}
use Rattle.ct_types.specs.declared.refusal.Refusal.{Refusal}
use Rattle.ct_types.specs.declared.refusal.Refusal.TheVariants.{NotNull, Overflow, TooLong}
use Rattle.ct_types.specs.declared.schema.ColType.{ColType}
use Rattle.ct_types.specs.declared.schema.ColType.TheVariants as kind
use Rattle.ct_types.specs.declared.schema.Column.{Column}
use Rattle.ct_types.specs.declared.value.Row.{Row}
use Rattle.ct_types.specs.declared.value.Value.{Value}
use Rattle.ct_types.specs.declared.value.Value.TheVariants.{Null, Int, Text, Bytes}
use Rattle.ct_types.specs.Answers.{Answer, ◌>>=◌}
use Rattle.ct_write.specs.Fitting.{is_int, is_within, passes, fit, fit_values, fit_row}
use Rattle.ct_write.specs.Steps.{in_turn}
use Rattle.ct_refusal_laws.specs.Misfits.{Misfits, FitBelow, AllFit, FirstOfRow, FirstMisfit}

-- ---- what a fit answers, by the column and the value

-- what is known of the answer of a fit: no misfit where it is Ok, and else the misfit of its refusal
abbrev Fitted : Column → Value → Answer (Unit {0}) → Type 0
Fitted column value (Ok passed) = (refusal : Refusal) → ¬ Misfits column value refusal
Fitted column value (Err refusal) = Misfits column value refusal

by_test : (column : Column) (value : Value) (b : Bool) (refusal : Refusal) → (b ≡ true → (other : Refusal) → ¬ Misfits column value other) → (b ≡ false → Misfits column value refusal)
    → Fitted column value (passes b (Err refusal))
by_test column value true refusal fine bad = fine refl
by_test column value false refusal fine bad = bad refl

lt_of : (a b : ℕ) → nat_lt a b ≡ true → a < b
lt_of a b e = grind (arith, nat_tests)

ge_of : (a b : ℕ) → nat_lt a b ≡ false → b ≤ a
ge_of a b e = grind (arith, nat_tests)

le_of : (a b : ℕ) → nat_le a b ≡ true → a ≤ b
le_of a b e = grind (arith, nat_tests)

gt_of : (a b : ℕ) → nat_le a b ≡ false → b < a
gt_of a b e = grind (arith, nat_tests)

int_within : (n : ℤ) → is_int n ≡ true → IsInt n
int_within (pos n) e = let small : n < 2 ^ 31 = lt_of n (2 ^ 31) e in (omega (arith, ints, small), omega (arith, ints, small))
int_within (negsuc n) e = let small : n < 2 ^ 31 = lt_of n (2 ^ 31) e in (omega (arith, ints, small), omega (arith, ints, small))

int_outside : (n : ℤ) → is_int n ≡ false → ¬ IsInt n
int_outside (pos n) e is = let far : 2 ^ 31 ≤ n = ge_of n (2 ^ 31) e in absurd (omega (arith, ints, is.1, far))
int_outside (negsuc n) e is = let far : 2 ^ 31 ≤ n = ge_of n (2 ^ 31) e in absurd (omega (arith, ints, is.0, far))

-- of a value of each kind only its own misfit can be
null_only : (type : ColType) → (IsOutOfRange type Null → ⊥) × (IsTooLong type Null → ⊥)
null_only kind.Int = (λ h. h, λ h. h)
null_only kind.BigInt = (λ h. h, λ h. h)
null_only (kind.NVarChar most) = (λ h. h, λ h. h)
null_only (kind.VarBinary most) = (λ h. h, λ h. h)

int_only : (type : ColType) (n : ℤ) → IsTooLong type (Int n) → ⊥
int_only kind.Int n h = h
int_only kind.BigInt n h = h
int_only (kind.NVarChar most) n h = h
int_only (kind.VarBinary most) n h = h

text_only : (type : ColType) (t : List ℕ) → IsOutOfRange type (Text t) → ⊥
text_only kind.Int t h = h
text_only kind.BigInt t h = h
text_only (kind.NVarChar most) t h = h
text_only (kind.VarBinary most) t h = h

bytes_only : (type : ColType) (b : List ℕ) → IsOutOfRange type (Bytes b) → ⊥
bytes_only kind.Int b h = h
bytes_only kind.BigInt b h = h
bytes_only (kind.NVarChar most) b h = h
bytes_only (kind.VarBinary most) b h = h

record Range (type : ColType) (n : ℤ) (b : Bool) : Type 0 where
  fine : b ≡ true → ¬ IsOutOfRange type (Int n)
  bad : b ≡ false → IsOutOfRange type (Int n)

range : (type : ColType) (n : ℤ) → Range type n (is_within type (Int n))
range kind.Int n = record { fine = λ e out. out (int_within n e); bad = λ e. int_outside n e }
range kind.BigInt n = record { fine = λ e out. out; bad = λ e. absurd cc }
range (kind.NVarChar most) n = record { fine = λ e out. out; bad = λ e. absurd cc }
range (kind.VarBinary most) n = record { fine = λ e out. out; bad = λ e. absurd cc }

record Length (type : ColType) (value : Value) (b : Bool) : Type 0 where
  fine : b ≡ true → ¬ IsTooLong type value
  bad : b ≡ false → IsTooLong type value

text_length : (type : ColType) (t : List ℕ) → Length type (Text t) (is_within type (Text t))
text_length kind.Int t = record { fine = λ e long. long; bad = λ e. absurd cc }
text_length kind.BigInt t = record { fine = λ e long. long; bad = λ e. absurd cc }
text_length (kind.NVarChar most) t = record { fine = λ e long. let short = le_of (code_points t) most e in absurd (omega (arith, long, short)); bad = λ e. gt_of (code_points t) most e }
text_length (kind.VarBinary most) t = record { fine = λ e long. long; bad = λ e. absurd cc }

bytes_length : (type : ColType) (b : List ℕ) → Length type (Bytes b) (is_within type (Bytes b))
bytes_length kind.Int b = record { fine = λ e long. long; bad = λ e. absurd cc }
bytes_length kind.BigInt b = record { fine = λ e long. long; bad = λ e. absurd cc }
bytes_length (kind.NVarChar most) b = record { fine = λ e long. long; bad = λ e. absurd cc }
bytes_length (kind.VarBinary most) b = record { fine = λ e long. let short = le_of (length b) most e in absurd (omega (arith, long, short)); bad = λ e. gt_of (length b) most e }

-- none of three
neither : (column : Column) (value : Value) (refusal : Refusal) → ¬ IsMissing column value → ¬ IsOutOfRange column.kind value → ¬ IsTooLong column.kind value → ¬ Misfits column value refusal
neither column value refusal a b c (inl m) = a m.0
neither column value refusal a b c (inr (inl m)) = b m.0
neither column value refusal a b c (inr (inr m)) = c m.0

fitted : (column : Column) (value : Value) → Fitted column value (fit column value)
fitted column Null =
    by_test column Null column.nullable (NotNull column.name)
    (λ e other. neither column Null other (λ missing. let clash : true ≡ false = sym e ∙ missing in absurd cc) (null_only column.kind).0 (null_only column.kind).1) (λ e. inl (e, refl))
fitted column (Int n) =
    let r = range column.kind n in
    by_test column (Int n) (is_within column.kind (Int n)) Overflow (λ e other. neither column (Int n) other (λ h. h) (r.fine e) (int_only column.kind n)) (λ e. inr (inl (r.bad e, refl)))
fitted column (Text t) =
    let l = text_length column.kind t in
    by_test column (Text t) (is_within column.kind (Text t)) (TooLong column.name) (λ e other. neither column (Text t) other (λ h. h) (text_only column.kind t) (l.fine e)) (λ e. inr (inr (l.bad e, refl)))
fitted column (Bytes b) =
    let l = bytes_length column.kind b in
    by_test column (Bytes b) (is_within column.kind (Bytes b)) (TooLong column.name) (λ e other. neither column (Bytes b) other (λ h. h) (bytes_only column.kind b) (l.fine e)) (λ e. inr (inr (l.bad e, refl)))

-- ---- a row

-- what is known of the answer of a row
abbrev RowFitted : List Column → List Value → Answer (Unit {0}) → Type 0
RowFitted columns values (Ok passed) = AllFit columns values
RowFitted columns values (Err refusal) = FirstOfRow columns values refusal

fit_none : (columns : List Column) → AllFit columns []
fit_none columns end place column value refusal below here there = absurd cc

fit_no_column : (values : List Value) → AllFit [] values
fit_no_column values end place column value refusal below here there = absurd cc

-- one value more, that fits
fit_more : (column : Column) (columns : List Column) (value : Value) (values : List Value) (end : ℕ) → ((refusal : Refusal) → ¬ Misfits column value refusal) → FitBelow end columns values
    → FitBelow (suc end) (column ∷ columns) (value ∷ values)
fit_more column columns value values end fine more zero c v refusal below here there bad =
    let same : column ≡ c = same_Some column c here in
    let is : value ≡ v = same_Some value v there in
    fine refusal (subst (λ (x : Value). Misfits column x refusal) (sym is) (subst (λ (k : Column). Misfits k v refusal) (sym same) bad))
fit_more column columns value values end fine more (suc place) c v refusal below here there bad = more place c v refusal (omega arith) here there bad

fit_lower : (columns : List Column) (values : List Value) (end : ℕ) → FitBelow (suc end) columns values → FitBelow end columns values
fit_lower columns values end fit place column value refusal below = fit place column value refusal (omega arith)

row_step : (column : Column) (columns : List Column) (value : Value) (values : List Value) (here rest : Answer (Unit {0})) → Fitted column value here → RowFitted columns values rest
    → RowFitted (column ∷ columns) (value ∷ values) (here >>= (λ passed. rest))
row_step column columns value values (Err refusal) rest bad more = record {
  place = 0;
  column = column;
  value = value;
  column_is = refl;
  value_is = refl;
  misfits = bad;
  before = λ place c v other below here there. absurd (omega arith);
}
row_step column columns value values (Ok passed) (Err refusal) fine more = record {
  place = suc more.place;
  column = more.column;
  value = more.value;
  column_is = more.column_is;
  value_is = more.value_is;
  misfits = more.misfits;
  before = fit_more column columns value values more.place fine more.before;
}
row_step column columns value values (Ok passed) (Ok all) fine more = λ end. fit_lower (column ∷ columns) (value ∷ values) end (fit_more column columns value values end fine (more end))

row_fitted : (columns : List Column) (values : List Value) → RowFitted columns values (fit_values columns values)
row_fitted [] values = fit_no_column values
row_fitted (column ∷ columns) [] = fit_none (column ∷ columns)
row_fitted (column ∷ columns) (value ∷ values) = row_step column columns value values (fit column value) (fit_values columns values) (fitted column value) (row_fitted columns values)

-- ---- rows

abbrev OneFitted : List Column → Option Row → Answer (Unit {0}) → Type 0
OneFitted columns None answer = answer ≡ Ok tt
OneFitted columns (Some row) answer = RowFitted columns row.0 answer

one_fitted : (columns : List Column) (row : Option Row) → OneFitted columns row (fit_row columns row)
one_fitted columns None = refl
one_fitted columns (Some row) = row_fitted columns row.0

-- each row fits
abbrev RowsFit : List Column → List (Option Row) → Type 0
RowsFit columns rows = (place : ℕ) (row : Row) → slice_get rows place ≡ Some (Some row) → AllFit columns row.0

abbrev RowsFitted : List Column → List (Option Row) → Answer (Unit {0}) → Type 0
RowsFitted columns rows (Ok passed) = RowsFit columns rows
RowsFitted columns rows (Err refusal) = FirstMisfit columns rows refusal

-- a row more, which is fitted first
rows_go : (columns : List Column) (first : Option Row) (rows : List (Option Row)) (rest : Answer (Unit {0})) → ((row : Row) → first ≡ Some row → AllFit columns row.0) → RowsFitted columns rows rest
    → RowsFitted columns (first ∷ rows) rest
rows_go columns first rows (Ok passed) fine more = λ place row is. at place row is
  where
    at : (place : ℕ) (row : Row) → slice_get (first ∷ rows) place ≡ Some (Some row) → AllFit columns row.0
    at zero row is = fine row (same_Some first (Some row) is)
    at (suc place) row is = more place row is
rows_go columns first rows (Err refusal) fine more = record {
  place = suc more.place;
  row = more.row;
  is = more.is;
  misfit = more.misfit;
  before = at;
}
  where
    at : (earlier : ℕ) (other : Row) → earlier < suc more.place → slice_get (first ∷ rows) earlier ≡ Some (Some other) → AllFit columns other.0
    at zero other below is = fine other (same_Some first (Some other) is)
    at (suc earlier) other below is = more.before earlier other (omega arith) is

rows_step : (columns : List Column) (first : Option Row) (rows : List (Option Row)) (here rest : Answer (Unit {0})) → OneFitted columns first here → RowsFitted columns rows rest
    → RowsFitted columns (first ∷ rows) (here >>= (λ passed. rest))
rows_step columns None rows (Ok passed) rest fine more = rows_go columns None rows rest (λ row is. absurd cc) more
rows_step columns None rows (Err refusal) rest bad more = absurd cc
rows_step columns (Some row) rows (Ok passed) rest fine more =
    rows_go columns (Some row) rows rest (λ other is. subst (λ (r : Row). AllFit columns r.0) (same_Some row other is) fine) more
rows_step columns (Some row) rows (Err refusal) rest bad more = record {
  place = 0;
  row = row;
  is = refl;
  misfit = bad;
  before = λ earlier other below is. absurd (omega arith);
}

rows_fitted : (columns : List Column) (rows : List (Option Row)) → RowsFitted columns rows (in_turn (fit_row columns) rows)
rows_fitted columns [] = λ place row is. absurd cc
rows_fitted columns (row ∷ rows) = rows_step columns row rows (fit_row columns row) (in_turn (fit_row columns) rows) (one_fitted columns row) (rows_fitted columns rows)

-- of rows that are part of something else
in_turn_made : {A : Type 0} (step : Option Row → Answer (Unit {0})) (f : A → Option Row) (xs : List A) → in_turn (λ x. step (f x)) xs ≡ in_turn step (map f xs)
in_turn_made step f [] = refl
in_turn_made step f (x ∷ xs) = ap (λ (rest : Answer (Unit {0})). step (f x) >>= (λ passed. rest)) (in_turn_made step f xs)

pub first_misfit : {A : Type 0} (columns : List Column) (f : A → Option Row) (xs : List A) (refusal : Refusal) → in_turn (λ x. fit_row columns (f x)) xs ≡ Err refusal → FirstMisfit columns (map f xs) refusal
first_misfit columns f xs refusal e = subst (RowsFitted columns (map f xs)) (sym (in_turn_made (fit_row columns) f xs) ∙ e) (rows_fitted columns (map f xs))
