-- The keys of the net changes are those of the kept changes of a table above a version.
use Rattle.std.proofs.Common.{◌≡◌, ◌≤◌, ◌<◌, inl, inr, ℕ, pos, max, Bool, true, false, cond, List, [], ◌∷◌, map, filter, fold, Contains, Option, None, Some, IsSomeAnd, option_map, refl, sym, ap, ◌∙◌, subst, arith, lt-ltb, ltb-true, eq-eqb, eqb-true, nat_lt, ◌==◌}
use Rattle.std.specs.List.{AllByRecursion}
use Rattle.std.specs.declared.cmp.Ordering.{Ordering}
use Rattle.std.specs.declared.cmp.Ordering.TheVariants.{Less, Equal, Greater}
use Rattle.std.specs.Ordering.{is_lt, is_eq, is_gt}
use Rattle.std.proofs.lemmas.Cmp.{tied_itself}
use Rattle.ct_types.specs.Order.{key_cmp}
use Rattle.ct_types.proofs.Orders.{key_cmp_total, key_cmp_exact}
use Rattle.ct_types.specs.declared.value.Key.{Key}
use Rattle.ct_types.specs.declared.schema.Schema.{Schema}
use Rattle.ct_types.specs.declared.tracked.Tracked.{Tracked}
use Rattle.ct_types.specs.declared.entry.Change.{Change}
use Rattle.ct_types.specs.declared.entry.Kept.{Kept}
use Rattle.ct_model.specs.declared.db.Dated.{Dated}
use Rattle.ct_model.specs.declared.db.Db.{Db}
use Rattle.ct_model.specs.declared.db.Table.{Table}
use Rattle.ct_model.specs.Net.{dated_in, window, with_key, keys_of, last_of, row_of, net_rows, net_tracked, net}
use Rattle.ct_model.specs.Tables.{table_of}
use Rattle.ct_types.proofs.Lists.{all_everywhere}
use Rattle.ct_model.proofs.Members.{all_filter}
use Rattle.ct_model.proofs.Rising.{equal_of}
use Rattle.ct_model_laws.proofs.Somewhere.{Somewhere, some_constant, some_append_left, some_append_right, some_map, some_from_map, some_filter, some_from_filter, some_flat_map, some_from_flat_map, some_filter_map, some_from_filter_map, contains_from_some, some_from_contains}

-- a change of this table and key
abbrev pub IsOf : ℕ → Key → Change → Type 0
IsOf id key change = (change.table ≡ id) × (change.key ≡ key)

-- a commit above this version with such a change
abbrev pub HasAbove : ℕ → ℕ → Key → Kept → Type 0
HasAbove id floor key kept = (floor < kept.version) × Somewhere (IsOf id key) kept.changes

abbrev pub HasKey : Key → Dated → Type 0
HasKey key dated = dated.change.key ≡ key

pub dated_has : (id floor : ℕ) (key : Key) (kept : Kept) → HasAbove id floor key kept → Somewhere (HasKey key) (dated_in id floor kept)
dated_has id floor key kept has =
    rw (lt-ltb floor kept.version has.0)
    (some_map (IsOf id key) _ _ (λ change is. is.1) _ (some_filter (IsOf id key) _ (λ change is. eq-eqb change.table id is.0) kept.changes has.1))

pub dated_tells : (id floor : ℕ) (key : Key) (kept : Kept) → Somewhere (HasKey key) (dated_in id floor kept) → HasAbove id floor key kept
dated_tells id floor key kept some =
    let dated : List Change → List Dated = (λ changes. map (λ change. record { version = kept.version; change = change }) (filter (λ change. change.table == id) changes)) in
    let step : (b : Bool) → b ≡ nat_lt floor kept.version → Somewhere (HasKey key) (cond b (dated kept.changes) []) → HasAbove id floor key kept =
    elim [
      | true ↦
          (λ e s. (
            ltb-true floor kept.version (sym e),
            some_from_filter (λ change. change.key ≡ key) (IsOf id key) _ (λ change same is. (eqb-true change.table id same, is)) kept.changes
                (some_from_map (λ change. change.key ≡ key) (HasKey key) (λ change. record { version = kept.version; change = change }) (λ change is. is) _ s),
          ))
      | false ↦ (λ e s. elim s [ ])
    ] in
    step (nat_lt floor kept.version) refl some

-- the last change

last_all : (P : Dated → Type 0) (dated : Dated) (more : List Dated) → AllByRecursion P (dated ∷ more) → IsSomeAnd (last_of (dated ∷ more)) P
last_all P dated [] all = all.0
last_all P dated (next ∷ more) all = last_all P next more all.1

last_is : (P Q : Dated → Type 0) (changes : List Dated) → Somewhere P changes → AllByRecursion Q changes → IsSomeAnd (last_of changes) Q
last_is P Q [] some all = elim some [ ]
last_is P Q (dated ∷ more) some all = last_all Q dated more all

pub last_in : (P : Dated → Type 0) (changes : List Dated) → IsSomeAnd (last_of changes) P → Somewhere P changes
last_in P [] last = elim last [ ]
last_in P (dated ∷ []) last = inl last
last_in P (dated ∷ next ∷ more) last = inr (last_in P (next ∷ more) last)

-- the keys

with_key_itself : (keys : List Key) (key other : Key) → key ≡ other → Somewhere (λ k. k ≡ other) (with_key keys key)
with_key_itself keys key other e = some_append_right _ (filter (λ k. is_lt (key_cmp k key)) keys) _ (inl e)

with_key_keeps : (keys : List Key) (key other : Key) → Somewhere (λ k. k ≡ other) keys → Somewhere (λ k. k ≡ other) (with_key keys key)
with_key_keeps keys key other some =
    let lows : List Key = filter (λ k. is_lt (key_cmp k key)) keys in
    let step : (o : Ordering) → o ≡ key_cmp other key → Somewhere (λ k. k ≡ other) (with_key keys key) =
    elim [
      | Less ↦ (λ e. some_append_left _ lows _ (some_filter _ (λ k. is_lt (key_cmp k key)) (λ k is. ap (λ x. is_lt (key_cmp x key)) is ∙ ap is_lt (sym e)) keys some))
      | Equal ↦ (λ e. with_key_itself keys key other (sym (key_cmp_exact other key (sym e))))
      | Greater ↦ (λ e. some_append_right _ lows _ (inr (some_filter _ (λ k. is_gt (key_cmp k key)) (λ k is. ap (λ x. is_gt (key_cmp x key)) is ∙ ap is_gt (sym e)) keys some)))
    ] in
    step (key_cmp other key) refl

keys_keep : (changes : List Dated) (keys : List Key) (other : Key) → Somewhere (λ k. k ≡ other) keys
    → Somewhere (λ k. k ≡ other) (fold (λ keys dated. with_key keys dated.change.key) keys changes)
keys_keep [] keys other some = some
keys_keep (dated ∷ changes) keys other some = keys_keep changes (with_key keys dated.change.key) other (with_key_keeps keys dated.change.key other some)

keys_have : (changes : List Dated) (keys : List Key) (key : Key) → Somewhere (HasKey key) changes
    → Somewhere (λ k. k ≡ key) (fold (λ keys dated. with_key keys dated.change.key) keys changes)
keys_have [] keys key some = elim some [ ]
keys_have (dated ∷ changes) keys key (inl is) = keys_keep changes (with_key keys dated.change.key) key (with_key_itself keys dated.change.key key is)
keys_have (dated ∷ changes) keys key (inr some) = keys_have changes (with_key keys dated.change.key) key some

-- the net rows

mapped_is : {X Y : Type 0} (Q : Y → Type 0) (f : X → Y) (o : Option X) → IsSomeAnd o (λ x. Q (f x)) → IsSomeAnd (option_map f o) Q
mapped_is Q f None h = h
mapped_is Q f (Some x) h = h

mapped_was : {X Y : Type 0} (Q : Y → Type 0) (f : X → Y) (o : Option X) → IsSomeAnd (option_map f o) Q → IsSomeAnd o (λ x. Q (f x))
mapped_was Q f None h = h
mapped_was Q f (Some x) h = h

last_of_window : (changes : List Dated) (key : Key) → Somewhere (HasKey key) changes → IsSomeAnd (last_of (window changes key)) (HasKey key)
last_of_window changes key some =
    last_is (HasKey key) (HasKey key) (window changes key)
    (some_filter (HasKey key) _ (λ dated is. ap (λ k. is_eq (key_cmp k key)) is ∙ ap is_eq (tied_itself key_cmp_total key)) changes some)
    (all_filter (λ dated. Unit {0}) (HasKey key) _ (λ dated e u. key_cmp_exact dated.change.key key (equal_of _ e)) changes (all_everywhere _ (λ dated. tt) changes))

pub rows_have : (schema : Schema) (masks : Bool) (changes : List Dated) (key : Key) → Somewhere (HasKey key) changes
    → Somewhere (λ row. row.key ≡ key) (net_rows schema masks changes)
rows_have schema masks changes key some =
    some_filter_map (λ k. k ≡ key) (λ row. row.key ≡ key) (λ k. option_map (row_of schema masks (window changes k)) (last_of (window changes k)))
    (λ k is. subst (λ k. IsSomeAnd (option_map (row_of schema masks (window changes k)) (last_of (window changes k))) (λ row. row.key ≡ key)) (sym is)
    (mapped_is (λ row. row.key ≡ key) (row_of schema masks (window changes key)) (last_of (window changes key)) (last_of_window changes key some)))
    (keys_of changes) (keys_have changes [] key some)

pub rows_tell : (schema : Schema) (masks : Bool) (changes : List Dated) (key : Key)
    → Somewhere (λ row. row.key ≡ key) (net_rows schema masks changes) → Somewhere (HasKey key) changes
rows_tell schema masks changes key some =
    some_constant _ (keys_of changes)
    (some_from_filter_map (λ k. Somewhere (HasKey key) changes) (λ row. row.key ≡ key) (λ k. option_map (row_of schema masks (window changes k)) (last_of (window changes k)))
    (λ k is. some_from_filter (HasKey key) (HasKey key) _ (λ dated e is. is) changes
    (last_in (HasKey key) (window changes k) (mapped_was (λ row. row.key ≡ key) (row_of schema masks (window changes k)) (last_of (window changes k)) is)))
    (keys_of changes) some)

-- a table is tracked with a minimum up to this version
abbrev pub IsWithin : ℕ → Option Tracked → Type 0
IsWithin noted tracked = IsSomeAnd tracked (λ tracked. tracked.min ≤ noted)

floor_is : (min noted : ℕ) → min ≤ noted → max min noted ≡ noted
floor_is min noted le = omega arith

tracked_has : (schema : Schema) (tracked : Option Tracked) (kept : List Kept) (noted : ℕ) (key : Key) → IsWithin noted tracked
    → Somewhere (HasAbove schema.id noted key) kept
    → Contains (map (λ row. row.key) (net_tracked schema tracked kept (Some (pos noted)))) key
tracked_has schema None kept noted key within has = elim within [ ]
tracked_has schema (Some tracked) kept noted key within has =
    rw (floor_is tracked.min noted within)
    (contains_from_some key _
    (some_map (λ row. row.key ≡ key) (λ k. k ≡ key) (λ row. row.key) (λ row is. is) _
    (rows_have schema tracked.masks _ key (some_flat_map (HasAbove schema.id noted key) (HasKey key) (dated_in schema.id noted) (dated_has schema.id noted key) kept has))))

tracked_tells : (schema : Schema) (tracked : Option Tracked) (kept : List Kept) (noted : ℕ) (key : Key) → IsWithin noted tracked
    → Contains (map (λ row. row.key) (net_tracked schema tracked kept (Some (pos noted)))) key
    → Somewhere (HasAbove schema.id noted key) kept
tracked_tells schema None kept noted key within contains = elim within [ ]
tracked_tells schema (Some tracked) kept noted key within contains =
    let at = rw (floor_is tracked.min noted within) at contains in
    some_from_flat_map (HasAbove schema.id noted key) (HasKey key) (dated_in schema.id noted) (dated_tells schema.id noted key) kept
    (rows_tell schema tracked.masks _ key (some_from_map (λ row. row.key ≡ key) (λ k. k ≡ key) (λ row. row.key) (λ row is. is) _ (some_from_contains key _ at)))

-- a tracked table's net changes since a version up from its minimum have exactly the keys of the kept changes above it

pub net_has : (db : Db) (id noted : ℕ) (table : Table) (key : Key) → table_of db.tables id ≡ Some table → IsWithin noted table.tracked
    → Somewhere (HasAbove table.schema.id noted key) db.kept → Contains (map (λ row. row.key) (net db id (Some (pos noted)))) key
unfolding net
net_has db id noted table key is within has = rw is (tracked_has table.schema table.tracked db.kept noted key within has)

pub net_tells : (db : Db) (id noted : ℕ) (table : Table) (key : Key) → table_of db.tables id ≡ Some table → IsWithin noted table.tracked
    → Contains (map (λ row. row.key) (net db id (Some (pos noted)))) key → Somewhere (HasAbove table.schema.id noted key) db.kept
unfolding net
net_tells db id noted table key is within contains = tracked_tells table.schema table.tracked db.kept noted key within (rw is at contains)
