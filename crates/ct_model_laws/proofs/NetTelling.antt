-- What the net changes of a table tell.
use Rattle.std.proofs.Common.{◌≡◌, ◌≢◌, ◌↔◌, ◌<◌, inl, inr, ℕ, zero, suc, ℤ, Bool, true, false, length, get_or, List, [], ◌∷◌, map, filter, fold, filter_map, Contains, Option, None, Some, IfSome, IsSomeAnd, option_map, refl, sym, subst, arith}
use Rattle.std.specs.List.{AllByRecursion, Any, cons_option}
use Rattle.std.proofs.lemmas.List.Folds.{Any-from_list_any, list_any-from_Any}
use Rattle.std.specs.declared.cmp.Ordering.TheVariants.{Less}
use Rattle.std.specs.Ordering.{is_lt, is_gt}
use Rattle.ct_types.specs.Order.{key_cmp}
use Rattle.ct_types.proofs.Orders.{key_cmp_total, key_cmp_exact}
use Rattle.ct_types.specs.declared.value.Key.{Key}
use Rattle.ct_types.specs.declared.schema.Schema.{Schema}
use Rattle.ct_types.specs.declared.tracked.Tracked.{Tracked}
use Rattle.ct_types.specs.declared.tracked.NetRow.{NetRow}
use Rattle.ct_types.specs.declared.entry.Op.{Op}
use Rattle.ct_types.specs.declared.entry.Op.TheVariants.{Insert, Update, Delete}
use Rattle.ct_types.specs.declared.entry.Kept.{Kept}
use Rattle.ct_model.specs.declared.db.Dated.{Dated}
use Rattle.ct_model.specs.declared.db.Db.{Db}
use Rattle.ct_model.specs.declared.db.Table.{Table}
use Rattle.ct_model.specs.Lists.{EachToLater}
use Rattle.ct_model.specs.Net.{changes_above, dated_in, floor_of, has_insert, is_insert, keys_of, last_of, net, net_rows, op_after, row_of, window, with_key}
use Rattle.ct_model.specs.Tables.{table_of}
use Rattle.ct_model_laws.specs.Tells.{NamesAbove, HasInsert, IsToldBy, Tells, AreTold}
use Rattle.ct_model.proofs.Found.{found_id}
use Rattle.ct_types.proofs.Lists.{all_everywhere}
use Rattle.ct_model.proofs.Members.{all_weaken, all_filter, each_filter, each_append}
use Rattle.ct_model_laws.proofs.NetKeys.{HasAbove, IsOf, HasKey, dated_has, dated_tells, rows_have, rows_tell}
use Rattle.ct_model.proofs.Rising.{less_of, equal_of, greater_of, turned}
use Rattle.ct_model_laws.proofs.Somewhere.{Somewhere, some_weaken, some_map, some_from_map, some_flat_map, some_from_flat_map, contains_from_some, some_from_contains}

-- ---- some member, by its place and by recursion

pub any_from_some : {X : Type 0} (P : X → Type 0) (xs : List X) → Somewhere P xs → Any P xs
any_from_some P [] some = elim some [ ]
any_from_some P (x ∷ xs) (inl holds) = (zero, x, omega arith, refl, holds)
any_from_some P (x ∷ xs) (inr some) = let found : Any P xs = any_from_some P xs some in (suc found.0, found.1, omega (arith, found.2), found.3, found.4)

some_at : {X : Type 0} (P : X → Type 0) (xs : List X) (k : ℕ) (x : X) → k < length xs → get_or xs k x ≡ x → P x → Somewhere P xs
some_at P [] k x lt e holds = absurd (omega arith)
some_at P (y ∷ ys) zero x lt e holds = inl (subst P (sym e) holds)
some_at P (y ∷ ys) (suc k) x lt e holds = inr (some_at P ys k x (omega arith) e holds)

pub some_from_any : {X : Type 0} (P : X → Type 0) (xs : List X) → Any P xs → Somewhere P xs
some_from_any P xs any = some_at P xs any.0 any.1 any.2 any.3 any.4

-- ---- the keys rise

abbrev KeysRise : List Key → Type 0
KeysRise keys = EachToLater (λ key later. key_cmp key later ≡ Less) keys

with_key_rises : (keys : List Key) (key : Key) → KeysRise keys → KeysRise (with_key keys key)
with_key_rises keys key rising =
    let R : Key → Key → Type 0 = (λ a b. key_cmp a b ≡ Less) in
    let is_low : Key → Bool = (λ k. is_lt (key_cmp k key)) in
    let is_high : Key → Bool = (λ k. is_gt (key_cmp k key)) in
    let below : AllByRecursion (λ k. key_cmp k key ≡ Less) (filter is_low keys) =
    all_filter (λ k. Unit {0}) _ is_low (λ k e u. less_of _ e) keys (all_everywhere _ (λ k. tt) keys) in
    let above : AllByRecursion (λ k. key_cmp key k ≡ Less) (filter is_high keys) =
    all_filter (λ k. Unit {0}) _ is_high (λ k e u. turned k key (greater_of _ e)) keys (all_everywhere _ (λ k. tt) keys) in
    each_append R (filter is_low keys) (key ∷ filter is_high keys) (each_filter R is_low keys rising) (above, each_filter R is_high keys rising)
    (all_weaken _ _ (λ a low. (low, all_weaken _ _ (λ b high. key_cmp_total.trans a key b low high) (filter is_high keys) above)) (filter is_low keys) below)

keys_rise : (changes : List Dated) (keys : List Key) → KeysRise keys → KeysRise (fold (λ keys dated. with_key keys dated.change.key) keys changes)
keys_rise [] keys rising = rising
keys_rise (dated ∷ changes) keys rising = keys_rise changes (with_key keys dated.change.key) (with_key_rises keys dated.change.key rising)

-- ---- what is made of the members of a list

one_made : {Y : Type 0} (Q : Y → Type 0) (o : Option Y) (ys : List Y) → IfSome o Q → AllByRecursion Q ys → AllByRecursion Q (cons_option o ys)
one_made Q None ys holds all = all
one_made Q (Some y) ys holds all = (holds, all)

pub all_made : {X Y : Type 0} (P : X → Type 0) (Q : Y → Type 0) (f : X → Option Y) → ((x : X) → P x → IfSome (f x) Q) → (xs : List X)
    → AllByRecursion P xs → AllByRecursion Q (filter_map f xs)
all_made P Q f makes [] all = tt
all_made P Q f makes (x ∷ xs) all = one_made Q (f x) (filter_map f xs) (makes x all.0) (all_made P Q f makes xs all.1)

pub both_made : {Y : Type 0} (P Q : Y → Type 0) → ((y : Y) → P y → Q y) → (o : Option Y) → IfSome o P → IfSome o Q
both_made P Q weaken None holds = tt
both_made P Q weaken (Some y) holds = weaken y holds

next_made : {Y : Type 0} (S : Y → Y → Type 0) (o : Option Y) (ys : List Y) → IfSome o (λ y. AllByRecursion (S y) ys) → EachToLater S ys
    → EachToLater S (cons_option o ys)
next_made S None ys all each = each
next_made S (Some y) ys all each = (all, each)

pub each_made : {X Y : Type 0} (R : X → X → Type 0) (S : Y → Y → Type 0) (Of : X → Y → Type 0) (f : X → Option Y) → ((x : X) → IfSome (f x) (Of x))
    → ((x z : X) (y w : Y) → Of x y → Of z w → R x z → S y w) → (xs : List X) → EachToLater R xs → EachToLater S (filter_map f xs)
each_made R S Of f made keeps [] each = tt
each_made R S Of f made keeps (x ∷ xs) each =
    next_made S (f x) (filter_map f xs)
    (both_made (Of x) (λ y. AllByRecursion (S y) (filter_map f xs))
    (λ y here. all_made (R x) (S y) f (λ z r. both_made (Of z) (S y) (λ w there. keeps x z y w here there r) (f z) (made z)) xs each.0) (f x) (made x))
    (each_made R S Of f made keeps xs each.1)

-- ---- a row

pub inserts_are : (op : Op) → (is_insert op ≡ true) ↔ (op ≡ Insert)
inserts_are Insert = (λ e. refl, λ e. refl)
inserts_are Update = (λ e. cc, λ e. cc)
inserts_are Delete = (λ e. cc, λ e. cc)

pub has_insert_is : (changes : List Dated) → (has_insert changes ≡ true) ↔ HasInsert changes
has_insert_is changes = (
  λ e. let any = Any-from_list_any (λ (dated : Dated). is_insert dated.change.op) changes e in (any.0, any.1, any.2, any.3, (inserts_are any.1.change.op).0 any.4),
  λ any. list_any-from_Any (λ (dated : Dated). is_insert dated.change.op) changes (any.0, any.1, any.2, any.3, (inserts_are any.1.change.op).1 any.4),
)

record OpIs (op last : Op) (Inserts : Type 0) : Type 0 where
  deletes : (op ≡ Delete) ↔ (last ≡ Delete)
  inserts : (op ≡ Insert) ↔ ((last ≢ Delete) × Inserts)
  updates : (op ≡ Update) ↔ ((last ≢ Delete) × (¬ Inserts))

op_is : (last : Op) (b : Bool) (Inserts : Type 0) → (b ≡ true) ↔ Inserts → OpIs (op_after last b) last Inserts
op_is Delete b Inserts is = record {
  deletes = (λ e. refl, λ e. refl);
  inserts = (λ e. cc, λ both. absurd (both.0 refl));
  updates = (λ e. cc, λ both. absurd (both.0 refl));
}
op_is Insert true Inserts is = record {
  deletes = (λ e. cc, λ e. cc);
  inserts = (λ e. ((λ d. cc), is.0 refl), λ both. refl);
  updates = (λ e. cc, λ both. absurd (both.1 (is.0 refl)));
}
op_is Insert false Inserts is = record {
  deletes = (λ e. cc, λ e. cc);
  inserts = (λ e. cc, λ both. let wrong : false ≡ true = is.1 both.1 in cc);
  updates = (λ e. ((λ d. cc), (λ i. let wrong : false ≡ true = is.1 i in cc)), λ both. refl);
}
op_is Update true Inserts is = record {
  deletes = (λ e. cc, λ e. cc);
  inserts = (λ e. ((λ d. cc), is.0 refl), λ both. refl);
  updates = (λ e. cc, λ both. absurd (both.1 (is.0 refl)));
}
op_is Update false Inserts is = record {
  deletes = (λ e. cc, λ e. cc);
  inserts = (λ e. cc, λ both. let wrong : false ≡ true = is.1 both.1 in cc);
  updates = (λ e. ((λ d. cc), (λ i. let wrong : false ≡ true = is.1 i in cc)), λ both. refl);
}

row_told : (schema : Schema) (masks : Bool) (changes : List Dated) (last : Dated) → IsToldBy changes (row_of schema masks changes last) last
row_told schema masks changes last =
    let op = op_is last.change.op (has_insert changes) (HasInsert changes) (has_insert_is changes) in
    record { version = refl; context = refl; deletes = op.deletes; inserts = op.inserts; updates = op.updates }

-- a row of a key, made of its changes
record IsRowOf (changes : List Dated) (key : Key) (row : NetRow) : Type 0 where
  same : row.key ≡ key
  tells : Tells changes row

pub last_has : (P : Dated → Type 0) (changes : List Dated) → AllByRecursion P changes → IfSome (last_of changes) P
last_has P [] all = tt
last_has P (dated ∷ []) all = all.0
last_has P (dated ∷ next ∷ more) all = last_has P (next ∷ more) all.1

made_row : (schema : Schema) (masks : Bool) (changes : List Dated) (key : Key)
    → IfSome (option_map (row_of schema masks (window changes key)) (last_of (window changes key))) (IsRowOf changes key)
made_row schema masks changes key =
    step (last_of (window changes key)) refl
    (last_has (HasKey key) (window changes key)
    (all_filter (λ dated. Unit {0}) (HasKey key) _ (λ dated e u. key_cmp_exact dated.change.key key (equal_of _ e)) changes (all_everywhere _ (λ dated. tt) changes)))
  where
    step : (o : Option Dated) → o ≡ last_of (window changes key) → IfSome o (HasKey key)
        → IfSome (option_map (row_of schema masks (window changes key)) o) (IsRowOf changes key)
    step None is has = tt
    step (Some last) is has = record {
      same = has;
      tells = let row : NetRow = row_of schema masks (window changes key) last in
          subst (λ k. IsSomeAnd (last_of (window changes k)) (IsToldBy (window changes k) row)) (sym has)
          (subst (λ o. IsSomeAnd o (IsToldBy (window changes key) row)) is (row_told schema masks (window changes key) last));
    }

rows_rise : (schema : Schema) (masks : Bool) (changes : List Dated) → EachToLater (λ row later. key_cmp row.key later.key ≡ Less) (net_rows schema masks changes)
rows_rise schema masks changes =
    each_made (λ key later. key_cmp key later ≡ Less) (λ row later. key_cmp row.key later.key ≡ Less) (IsRowOf changes)
    (λ key. option_map (row_of schema masks (window changes key)) (last_of (window changes key))) (made_row schema masks changes)
    (λ key later row other here there less. rw (here.same, there.same) less) (keys_of changes) (keys_rise changes [] tt)

rows_tell_all : (schema : Schema) (masks : Bool) (changes : List Dated) → AllByRecursion (Tells changes) (net_rows schema masks changes)
rows_tell_all schema masks changes =
    all_made (λ key. Unit {0}) (Tells changes) (λ key. option_map (row_of schema masks (window changes key)) (last_of (window changes key)))
    (λ key u. both_made (IsRowOf changes key) (Tells changes) (λ row is. is.tells) _ (made_row schema masks changes key))
    (keys_of changes) (all_everywhere _ (λ key. tt) (keys_of changes))

-- ---- the net changes

names_above : (id start : ℕ) (key : Key) (kept : Kept) → NamesAbove id start key kept → HasAbove id start key kept
names_above id start key kept names = (names.0, some_from_any (IsOf id key) kept.changes names.1)

above_names : (id start : ℕ) (key : Key) (kept : Kept) → HasAbove id start key kept → NamesAbove id start key kept
above_names id start key kept has = (has.0, any_from_some (IsOf id key) kept.changes has.1)

keys_told : (schema : Schema) (masks : Bool) (id start : ℕ) (kept : List Kept) (key : Key)
    → Contains (map (λ row. row.key) (net_rows schema masks (changes_above id start kept))) key ↔ Any (NamesAbove id start key) kept
keys_told schema masks id start kept key = (
  λ contains.
      any_from_some (NamesAbove id start key) kept
      (some_weaken (HasAbove id start key) (NamesAbove id start key) (above_names id start key) kept
      (some_from_flat_map (HasAbove id start key) (HasKey key) (dated_in id start) (dated_tells id start key) kept
      (rows_tell schema masks _ key (some_from_map (λ row. row.key ≡ key) (λ k. k ≡ key) (λ row. row.key) (λ row is. is) _ (some_from_contains key _ contains))))),
  λ any.
      contains_from_some key _
      (some_map (λ row. row.key ≡ key) (λ k. k ≡ key) (λ row. row.key) (λ row is. is) _
      (rows_have schema masks _ key (some_flat_map (HasAbove id start key) (HasKey key) (dated_in id start) (dated_has id start key) kept
      (some_weaken (NamesAbove id start key) (HasAbove id start key) (names_above id start key) kept (some_from_any (NamesAbove id start key) kept any))))),
)

pub net_tells : (db : Db) (id : ℕ) (last : Option ℤ) (table : Table) (tracked : Tracked) → table_of db.tables id ≡ Some table → table.tracked ≡ Some tracked
    → AreTold db id (floor_of tracked.min last) (net db id last)
unfolding net
net_tells db id last table tracked is on =
    let start : ℕ = floor_of tracked.min last in
    let changes : List Dated = changes_above table.schema.id start db.kept in
    let told : AreTold db table.schema.id start (net_rows table.schema tracked.masks changes) =
    record {
      keys = keys_told table.schema tracked.masks table.schema.id start db.kept;
      rising = rows_rise table.schema tracked.masks changes;
      each = rows_tell_all table.schema tracked.masks changes;
    } in
    subst (λ n. AreTold db n start (net db id last)) (found_id db.tables id table is) (rw (is, on) told)
