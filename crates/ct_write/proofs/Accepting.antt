-- Writes of different keys, of which each fits the table as it stands, apply one after the other.
use Rattle.std.proofs.Common.{◌≡◌, ◌≢◌, ℕ, Bool, true, false, cond, ◌==◌, ◌||◌, List, [], ◌∷◌, map, find, Option, Some, None, is_some, refl, sym, ap, ◌∙◌, subst, if◌then◌else◌, eq-eqb}
use Rattle.std.specs.List.{AllByRecursion, list_any}
use Rattle.std.specs.Option.{IsSomeAnd}
use Rattle.ct_types.specs.declared.entry.Op.{Op}
use Rattle.ct_types.specs.declared.entry.Op.TheVariants.{Insert, Update, Delete}
use Rattle.ct_types.specs.declared.entry.Write.{Write}
use Rattle.ct_types.specs.declared.schema.Schema.{Schema}
use Rattle.ct_types.specs.declared.value.Key.{Key}
use Rattle.ct_types.specs.declared.value.Row.{Row}
use Rattle.ct_model.specs.declared.db.Table.{Table}
use Rattle.ct_model.specs.Applies.{RowIsOf, WriteFits, WritesApply}
use Rattle.ct_model.specs.Apply.{written}
use Rattle.ct_model.specs.Lists.{EachToLater}
use Rattle.ct_model.specs.Tables.{has_that_key, has_row, rows_with, table_of}
use Rattle.ct_model.proofs.Found.{some_and_weaken, found_map}
use Rattle.ct_types.proofs.Lists.{all_join}
use Rattle.ct_model.proofs.Rising.{IsAt}
use Rattle.ct_model.proofs.RowAt.{row_stays}
use Rattle.ct_write.specs.Laws.{rows_after}
use Rattle.ct_write.proofs.Keys.{rows_put}

any_found : {X : Type 0} (p : X → Bool) (xs : List X) → list_any p xs ≡ is_some (find p xs)
any_found p [] = refl
any_found p (x ∷ xs) = elim (p x) as (λ b. (b || list_any p xs) ≡ is_some (cond b (Some x) (find p xs))) [ true ↦ refl | false ↦ any_found p xs ]

-- whether a key has a row stays where a row or none is put at another key
pub presence_stays : (schema : Schema) (rows : List Row) (k key : Key) (row : Option Row) → IsAt schema k row → k ≢ key
    → has_row schema (rows_with schema rows k row) key ≡ has_row schema rows key
presence_stays schema rows k key row at other =
    any_found (has_that_key schema key) (rows_with schema rows k row) ∙ (ap (λ (o : Option Row). is_some o) (row_stays schema rows k key row at other) ∙ sym (any_found (has_that_key schema key) rows))

at_of : (schema : Schema) (op : Op) (key : Key) (row : Option Row) → RowIsOf schema op key row → IsAt schema key row
at_of schema Delete key None h = tt
at_of schema Delete key (Some row) h = absurd h
at_of schema Insert key None h = absurd h
at_of schema Insert key (Some row) h = (h.1, tt)
at_of schema Update key None h = absurd h
at_of schema Update key (Some row) h = (h.1, tt)

abbrev after : Write → Table → Table
after w t = record t { rows = rows_with t.schema t.rows w.key w.row }

fits_later : (w later : Write) (t : Table) → w.key ≢ later.key → WriteFits w t → WriteFits later t → WriteFits later (after w t)
fits_later w later t other fits more = record {
  present = presence_stays t.schema t.rows w.key later.key w.row (at_of t.schema w.op w.key w.row fits.row) other ∙ more.present;
  row = more.row;
  tracked = more.tracked;
  context = more.context;
  mask = more.mask;
}

written_here : (w : Write) (t : Table) → t.schema.id ≡ w.table → after w t ≡ written w t
written_here w t same = sym (ap (λ (b : Bool). if b then after w t else t) (eq-eqb _ _ same))

-- writes of this table put their rows into it
pub rows_are_put : (t : Table) (writes : List Write) → AllByRecursion (λ w. w.table ≡ t.schema.id) writes → rows_after t writes ≡ rows_put t.schema t.rows writes
rows_are_put t [] of = refl
rows_are_put t (w ∷ writes) of =
    ap (λ (next : Table). rows_after next writes) (sym (written_here w t (sym of.0))) ∙ rows_are_put (after w t) writes of.1

written_schema : (w : Write) (t : Table) → (written w t).schema ≡ t.schema
written_schema w t = elim (t.schema.id == w.table) as (λ b. (if b then after w t else t).schema ≡ t.schema) [ true ↦ refl | false ↦ refl ]

-- a table of this id, which these writes fit
pub record Takes (id : ℕ) (writes : List Write) (t : Table) : Type 0 where
  pub is : t.schema.id ≡ id
  pub fit : AllByRecursion (λ w. WriteFits w t) writes

takes_later : (id : ℕ) (w : Write) (writes : List Write) (t : Table) → w.table ≡ id → AllByRecursion (λ later. w.key ≢ later.key) writes → Takes id (w ∷ writes) t
    → Takes id writes (written w t)
takes_later id w writes t of others takes =
    subst (Takes id writes) (written_here w t (takes.is ∙ sym of))
    (record { is = takes.is; fit = all_join (λ later. w.key ≢ later.key) (λ later. WriteFits later t) _ (λ later other fits. fits_later w later t other takes.fit.0 fits) writes others takes.fit.1 })

pub all_apply : (id : ℕ) (writes : List Write) (tables : List Table) → AllByRecursion (λ w. w.table ≡ id) writes
    → EachToLater (λ a b. a.key ≢ b.key) writes → IsSomeAnd (table_of tables id) (Takes id writes) → WritesApply tables writes
all_apply id [] tables of apart found = tt
all_apply id (w ∷ writes) tables of apart found = (
  subst (λ (n : ℕ). IsSomeAnd (table_of tables n) (WriteFits w)) (sym of.0) (some_and_weaken _ _ (λ t takes. takes.fit.0) (table_of tables id) found),
  all_apply id writes (map (written w) tables) of.1 apart.1
      (found_map _ _ (written w) (written_schema w) (λ t takes. takes_later id w writes t of.0 apart.0 takes) tables id found),
)
