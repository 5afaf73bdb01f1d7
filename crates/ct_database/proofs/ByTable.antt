-- The chunks of each table: what stands at its id, as chunks are put and taken, and the commits that they have.
use Rattle.std.proofs.Common.{◌≡◌, ℕ, ◌<◌, pos, Bool, true, false, cond, ◌==◌, inr, List, [], ◌∷◌, ◌++◌, map, filter, Option, Some, Ordering, Less, Equal, Greater, int_cmp, if◌then◌else◌, refl, sym, ap, ap₂, ◌∙◌, subst, append-nil, eqb-true, arith}
use Rattle.std.specs.List.{AllByRecursion, list_any}
use Rattle.std.specs.Ordering.{is_eq, ordering_then}
use Rattle.std.specs.declared.sync.Arc.{Arc}
use Rattle.std.proofs.lemmas.Bool.Decides.{nat_tests}
use Rattle.std.proofs.lemmas.Cmp.{tied_itself}
use Rattle.std.proofs.lemmas.List.{map-append}
use Rattle.std.proofs.lemmas.List.Elements.{filter-append}
use Rattle.std.proofs.lemmas.List.Folds.{flat_map-map}
use Rattle.ct_types.specs.Order.{key_cmp}
use Rattle.ct_types.proofs.Lists.{all_append, all_front, all_back, all_mapped}
use Rattle.ct_types.proofs.Orders.{key_cmp_total}
use Rattle.ct_types.specs.declared.value.Key.{Key}
use Rattle.ct_types.specs.declared.entry.Kept.{Kept}
use Rattle.ct_model.specs.declared.db.Table.{Table}
use Rattle.ct_model.proofs.Members.{all_filter, all_map}
use Rattle.ct_ptree.specs.declared.pair.Pair.{Pair}
use Rattle.ct_ptree.specs.Pairs.{Ascends, AllAbove, AllBelow, is_above, is_below, set_pair, value_at, without}
use Rattle.ct_ptree.proofs.Around.{lows_of_low, highs_of_low}
use Rattle.ct_ptree.proofs.Rising.{above_rest}
use Rattle.ct_database.specs.Commits.{has_change_of, commits_on}
use Rattle.ct_database.specs.Steps.{AreAtLasts, AreByTable, BeginsUnneeded, EndsAt, Rise, StandAtLasts, chunks_of, chunks_on, commits_in, commits_of, found_chunks, is_later, is_on, older_of, table_key, with_chunk}
use Rattle.ct_database.proofs.Chunks.{all_below, put_last}
use Rattle.ct_database.proofs.Notes.{value_put}
use Rattle.ct_database.proofs.OwnCommits.{none_kept}
use Rattle.ct_database.proofs.Rising.{rise_front, rise_back}
use Rattle.ct_database.proofs.Swept.{without_first, without_head}

filter_mapped : {X Y : Type 0} (p : Y → Bool) (f : X → Y) (xs : List X) → filter p (map f xs) ≡ map f (filter (λ x. p (f x)) xs)
filter_mapped p f [] = refl
filter_mapped p f (x ∷ xs) =
    let more = filter_mapped p f xs in
    let step : (b : Bool) → cond b (f x ∷ filter p (map f xs)) (filter p (map f xs)) ≡ map f (cond b (x ∷ filter (λ x. p (f x)) xs) (filter (λ x. p (f x)) xs)) =
    elim [ true ↦ ap (λ rest. f x ∷ rest) more | false ↦ more ] in
    step (p (f x))

-- ---- keys of tables

then_equal : (o : Ordering) → is_eq (ordering_then o Equal) ≡ is_eq o
then_equal Less = refl
then_equal Equal = refl
then_equal Greater = refl

same_number : (a b : ℕ) → is_eq (int_cmp (pos a) (pos b)) ≡ (a == b)
same_number a b = grind (arith, nat_tests)

-- keys are the same where the tables are
table_is : (a b : ℕ) → is_eq (key_cmp (table_key a) (table_key b)) ≡ (a == b)
unfolding table_key
table_is a b = then_equal (int_cmp (pos a) (pos b)) ∙ same_number a b

-- ---- chunks that are put and taken

module _ {Z : Type 0} where
  -- a chunk with its key, without the pointer
  abbrev plain : Pair (Arc (List Kept) Z) → Pair (List Kept)
  plain pair = record { key = pair.key; value = pair.value.value }

  pub chunks_put : (pairs : List (Pair (Arc (List Kept) Z))) (key : Key) (it : Arc (List Kept) Z) → chunks_of (set_pair pairs key it) ≡ set_pair (chunks_of pairs) key it.value
  chunks_put pairs key it =
      map-append plain (filter (is_below key) pairs) (record { key = key; value = it } ∷ filter (is_above key) pairs)
      ∙ ap₂ (λ (lows highs : List (Pair (List Kept))). lows ++ record { key = key; value = it.value } ∷ highs) (sym (filter_mapped (is_below key) plain pairs)) (sym (filter_mapped (is_above key) plain pairs))

  pub chunks_taken : (pairs : List (Pair (Arc (List Kept) Z))) (key : Key) → chunks_of (without pairs key) ≡ without (chunks_of pairs) key
  chunks_taken pairs key =
      map-append plain (filter (is_below key) pairs) (filter (is_above key) pairs)
      ∙ ap₂ (λ (lows highs : List (Pair (List Kept))). lows ++ highs) (sym (filter_mapped (is_below key) plain pairs)) (sym (filter_mapped (is_above key) plain pairs))

  -- the chunks of one table are put
  pub table_put : (by_table : List (Pair (List (Pair (Arc (List Kept) Z))))) (table other : ℕ) (chunks : List (Pair (Arc (List Kept) Z)))
      → chunks_on other (set_pair by_table (table_key table) chunks) ≡ (if table == other then chunks_of chunks else chunks_on other by_table)
  table_put by_table table other chunks =
      let old : Option (List (Pair (Arc (List Kept) Z))) = value_at by_table (table_key other) in
      let step : (b : Bool) → found_chunks (if b then Some chunks else old) ≡ (if b then chunks_of chunks else found_chunks old) = elim [ true ↦ refl | false ↦ refl ] in
      ap found_chunks (value_put by_table (table_key table) chunks (table_key other) ∙ ap (λ (b : Bool). if b then Some chunks else old) (table_is table other))
      ∙ step (table == other)

  -- so are those of one table with a chunk at a key, or with none at it
  pub table_changed : (made by_table : List (Pair (List (Pair (Arc (List Kept) Z))))) (table other : ℕ) (key : Key) (chunk : Option (Arc (List Kept) Z)) (chunks : List (Pair (Arc (List Kept) Z)))
      → chunks_of chunks ≡ with_chunk chunk key (chunks_on table by_table)
      → chunks_on other (set_pair made (table_key table) chunks) ≡ (if table == other then with_chunk chunk key (chunks_on other by_table) else chunks_on other made)
  table_changed made by_table table other key chunk chunks is =
      let step : (b : Bool) → b ≡ (table == other) → (if b then chunks_of chunks else chunks_on other made) ≡ (if b then with_chunk chunk key (chunks_on other by_table) else chunks_on other made) =
      elim [ true ↦ (λ e. is ∙ ap (λ (id : ℕ). with_chunk chunk key (chunks_on id by_table)) (eqb-true table other (sym e))) | false ↦ (λ e. refl) ] in
      table_put made table other chunks ∙ step (table == other) refl

  -- a chunk is made, and put to those of the tables that it changes
  pub sealed_by_table : (sealed : List (Pair (Arc (List Kept) Z))) (by_table own : List (Pair (List (Pair (Arc (List Kept) Z))))) (chunk : List Kept) (key : Key) (it : Arc (List Kept) Z)
      → AreAtLasts sealed → EndsAt key chunk → Rise (older_of sealed chunk) → it.value ≡ chunk → AreByTable sealed by_table
      → ((table : ℕ) → chunks_on table own ≡ (if list_any (has_change_of table) chunk then set_pair (chunks_on table by_table) key it.value else chunks_on table by_table))
      → AreByTable (set_pair sealed key it) own
  sealed_by_table sealed by_table own chunk key it keyed at rising is listed put =
      λ table.
      let pair : Pair (List Kept) = record { key = key; value = it.value } in
      let old : List (Pair (List Kept)) = filter (is_on table) (chunks_of sealed) in
      let below : AllBelow key sealed = subst (λ (k : Key). AllBelow k sealed) (sym at.2) (all_below sealed chunk at.0 keyed at.1 rising) in
      let low : AllBelow key (chunks_of sealed) =
      all_map (λ (pair : Pair (Arc (List Kept) Z)). key_cmp pair.key key ≡ Less) (λ (pair : Pair (List Kept)). key_cmp pair.key key ≡ Less) plain (λ pair e. e) sealed below in
      let own_low : AllBelow key (filter (is_on table) (chunks_of sealed)) =
      all_filter (λ (pair : Pair (List Kept)). key_cmp pair.key key ≡ Less) (λ (pair : Pair (List Kept)). key_cmp pair.key key ≡ Less) (is_on table) (λ pair on e. e) (chunks_of sealed) low in
      let last : set_pair old key it.value ≡ old ++ pair ∷ [] =
      ap₂ (λ (lows highs : List (Pair (List Kept))). lows ++ pair ∷ highs) (lows_of_low key old own_low) (highs_of_low key old own_low) in
      let all : chunks_of (set_pair sealed key it) ≡ chunks_of sealed ++ pair ∷ [] =
      ap chunks_of (put_last sealed chunk key it keyed at rising) ∙ map-append plain sealed (record { key = key; value = it } ∷ []) in
      let parts : filter (is_on table) (chunks_of (set_pair sealed key it)) ≡ old ++ cond (list_any (has_change_of table) it.value) (pair ∷ []) [] =
      ap (filter (is_on table)) all ∙ filter-append (is_on table) (chunks_of sealed) (pair ∷ []) in
      let step : (b : Bool) → (if b then set_pair old key it.value else old) ≡ old ++ cond b (pair ∷ []) [] = elim [ true ↦ last | false ↦ sym (append-nil old) ] in
      put table
      ∙ ap₂ (λ (commits : List Kept) (chunks : List (Pair (List Kept))). if list_any (has_change_of table) commits then set_pair chunks key it.value else chunks) (sym is) (listed table)
      ∙ step (list_any (has_change_of table) it.value)
      ∙ sym parts

  -- the first chunk is taken away, also from those of the tables that it changes
  pub taken_by_table : (tables : List Table) (made : Pair (Arc (List Kept) Z)) (sealed : List (Pair (Arc (List Kept) Z))) (by_table own : List (Pair (List (Pair (Arc (List Kept) Z)))))
      → Ascends sealed → BeginsUnneeded tables sealed made → AreByTable sealed by_table
      → ((table : ℕ) → chunks_on table own ≡ (if list_any (has_change_of table) made.value.value then without (chunks_on table by_table) made.key else chunks_on table by_table))
      → AreByTable (without sealed made.key) own
  taken_by_table tables made [] by_table own rising begins listed put = absurd begins
  taken_by_table tables made (first ∷ rest) by_table own rising begins listed put =
      λ table.
      let pair : Pair (List Kept) = record { key = first.key; value = first.value.value } in
      let left : List (Pair (List Kept)) = filter (is_on table) (chunks_of rest) in
      let at : key_cmp first.key made.key ≡ Equal = ap (key_cmp first.key) (sym begins.0) ∙ tied_itself key_cmp_total first.key in
      let above : AllAbove made.key rest = above_rest made.key first rest rising (inr at) in
      let high : AllAbove made.key (chunks_of rest) =
      all_map (λ (pair : Pair (Arc (List Kept) Z)). key_cmp pair.key made.key ≡ Greater) (λ (pair : Pair (List Kept)). key_cmp pair.key made.key ≡ Greater) plain (λ pair e. e) rest above in
      let own_high : AllAbove made.key (filter (is_on table) (chunks_of rest)) =
      all_filter (λ (pair : Pair (List Kept)). key_cmp pair.key made.key ≡ Greater) (λ (pair : Pair (List Kept)). key_cmp pair.key made.key ≡ Greater) (is_on table) (λ pair on e. e) (chunks_of rest) high in
      let gone : without (pair ∷ left) made.key ≡ left = without_head made.key pair left at own_high in
      let step : (b : Bool) → (if b then without (cond b (pair ∷ left) left) made.key else cond b (pair ∷ left) left) ≡ left = elim [ true ↦ gone | false ↦ refl ] in
      put table
      ∙ ap₂ (λ (commits : List Kept) (chunks : List (Pair (List Kept))). if list_any (has_change_of table) commits then without chunks made.key else chunks) (sym begins.1) (listed table)
      ∙ step (is_on table pair)
      ∙ ap (λ (pairs : List (Pair (Arc (List Kept) Z))). filter (is_on table) (chunks_of pairs)) (sym (without_first made.key first rest begins.0 rising))

-- ---- the commits of some of the chunks

-- what holds of all commits holds of those of some of the chunks
all_on : (P : Kept → Type 0) (p : Pair (List Kept) → Bool) (chunks : List (Pair (List Kept))) → AllByRecursion P (commits_in chunks) → AllByRecursion P (commits_in (filter p chunks))
all_on P p [] all = all
all_on P p (chunk ∷ chunks) all =
    let more : AllByRecursion P (commits_in (filter p chunks)) = all_on P p chunks (all_back P chunk.value (commits_in chunks) all) in
    let step : (b : Bool) → AllByRecursion P (commits_in (cond b (chunk ∷ filter p chunks) (filter p chunks))) =
    elim [ true ↦ all_append P chunk.value (commits_in (filter p chunks)) (all_front P chunk.value (commits_in chunks) all) more | false ↦ more ] in
    step (p chunk)

-- commits rise with others behind them that hold no more
rise_fewer : (front back fewer : List Kept) → ((P : Kept → Type 0) → AllByRecursion P back → AllByRecursion P fewer) → Rise fewer → Rise (front ++ back) → Rise (front ++ fewer)
rise_fewer [] back fewer less rises rising = rises
rise_fewer (one ∷ front) back fewer less rises rising = (
  all_append (λ (later : Kept). one.version < later.version) front fewer (all_front (λ (later : Kept). one.version < later.version) front back rising.0) (less (λ (later : Kept). one.version < later.version) (all_back (λ (later : Kept). one.version < later.version) front back rising.0)),
  rise_fewer front back fewer less rises rising.1,
)

rise_on : (p : Pair (List Kept) → Bool) (chunks : List (Pair (List Kept))) → Rise (commits_in chunks) → Rise (commits_in (filter p chunks))
rise_on p [] rising = rising
rise_on p (chunk ∷ chunks) rising =
    let more : Rise (commits_in (filter p chunks)) = rise_on p chunks (rise_back chunk.value (commits_in chunks) rising) in
    let step : (b : Bool) → Rise (commits_in (cond b (chunk ∷ filter p chunks) (filter p chunks))) =
    elim [ true ↦ rise_fewer chunk.value (commits_in chunks) (commits_in (filter p chunks)) (λ P all. all_on P p chunks all) more rising | false ↦ more ] in
    step (p chunk)

-- the chunks with a change of a table have all of its commits
own_on : (table : ℕ) (chunks : List (Pair (List Kept))) → commits_on table (commits_in (filter (is_on table) chunks)) ≡ commits_on table (commits_in chunks)
own_on table [] = refl
own_on table (chunk ∷ chunks) =
    let more : commits_on table (commits_in (filter (is_on table) chunks)) ≡ commits_on table (commits_in chunks) = own_on table chunks in
    let step : (b : Bool) → b ≡ is_on table chunk
    → commits_on table (commits_in (cond b (chunk ∷ filter (is_on table) chunks) (filter (is_on table) chunks))) ≡ commits_on table chunk.value ++ commits_on table (commits_in chunks) =
    elim [
      | true ↦ (λ e. filter-append (has_change_of table) chunk.value (commits_in (filter (is_on table) chunks)) ∙ ap (λ (rest : List Kept). commits_on table chunk.value ++ rest) more)
      | false ↦ (λ e. more ∙ sym (ap (λ (own : List Kept). own ++ commits_on table (commits_in chunks)) (none_kept (has_change_of table) chunk.value e)))
    ] in
    step (is_on table chunk) refl ∙ sym (filter-append (has_change_of table) chunk.value (commits_in chunks))

filter_swap : {X : Type 0} (p q : X → Bool) (xs : List X) → filter p (filter q xs) ≡ filter q (filter p xs)
filter_swap p q [] = refl
filter_swap p q (x ∷ xs) =
    let more : filter p (filter q xs) ≡ filter q (filter p xs) = filter_swap p q xs in
    let step : (a b : Bool) → p x ≡ a → q x ≡ b → filter p (cond b (x ∷ filter q xs) (filter q xs)) ≡ filter q (cond a (x ∷ filter p xs) (filter p xs)) =
    (λ a b. elim a as (λ (a : Bool). p x ≡ a → q x ≡ b → filter p (cond b (x ∷ filter q xs) (filter q xs)) ≡ filter q (cond a (x ∷ filter p xs) (filter p xs))) [
      | true ↦ elim b as (λ (b : Bool). p x ≡ true → q x ≡ b → filter p (cond b (x ∷ filter q xs) (filter q xs)) ≡ filter q (x ∷ filter p xs)) [
        | true ↦ (λ e f. rw (e, f, more) refl)
        | false ↦ (λ e f. rw (f, more) refl)
      ]
      | false ↦ elim b as (λ (b : Bool). p x ≡ false → q x ≡ b → filter p (cond b (x ∷ filter q xs) (filter q xs)) ≡ filter q (filter p xs)) [
        | true ↦ (λ e f. rw (e, more) refl)
        | false ↦ (λ e f. more)
      ]
    ]) in
    step (p x) (q x) refl refl

module _ {Z : Type 0} where
  commits_same : (pairs : List (Pair (Arc (List Kept) Z))) → commits_in (chunks_of pairs) ≡ commits_of pairs
  commits_same pairs = flat_map-map (λ (chunk : Pair (List Kept)). chunk.value) plain pairs

  -- ---- the commits of a table above a version

  -- the chunks of a table stand at their last versions, and rise
  pub stand_on : (sealed : List (Pair (Arc (List Kept) Z))) (by_table : List (Pair (List (Pair (Arc (List Kept) Z))))) (table : ℕ) → AreAtLasts sealed → AreByTable sealed by_table → StandAtLasts (chunks_on table by_table)
  stand_on sealed by_table table keyed listed =
      let all : StandAtLasts (chunks_of sealed) =
      all_map (λ (pair : Pair (Arc (List Kept) Z)). EndsAt pair.key pair.value.value) (λ (chunk : Pair (List Kept)). EndsAt chunk.key chunk.value) plain (λ pair at. at) sealed keyed in
      subst StandAtLasts (sym (listed table))
      (all_filter (λ (chunk : Pair (List Kept)). EndsAt chunk.key chunk.value) (λ (chunk : Pair (List Kept)). EndsAt chunk.key chunk.value) (is_on table) (λ chunk on at. at) (chunks_of sealed) all)

  pub rises_on : (sealed : List (Pair (Arc (List Kept) Z))) (by_table : List (Pair (List (Pair (Arc (List Kept) Z))))) (recent : List Kept) (table : ℕ) → Rise (older_of sealed recent) → AreByTable sealed by_table
      → Rise (commits_in (chunks_on table by_table))
  rises_on sealed by_table recent table rising listed =
      subst (λ (chunks : List (Pair (List Kept))). Rise (commits_in chunks)) (sym (listed table))
      (rise_on (is_on table) (chunks_of sealed) (subst Rise (sym (commits_same sealed)) (rise_front (commits_of sealed) recent rising)))

  -- so these are those of the tree at its id
  pub found_stand : (pairs : List (Pair (Arc (List Kept) Z))) → StandAtLasts (chunks_of pairs) → AreAtLasts pairs
  found_stand pairs keyed = all_mapped plain (λ (chunk : Pair (List Kept)). EndsAt chunk.key chunk.value) pairs keyed

  pub found_rise : (pairs : List (Pair (Arc (List Kept) Z))) → Rise (commits_in (chunks_of pairs)) → Rise (commits_of pairs)
  found_rise pairs rising = subst Rise (commits_same pairs) rising

  pub found_later : (pairs : List (Pair (Arc (List Kept) Z))) (version : ℕ) → filter (is_later version) (commits_of pairs) ≡ filter (is_later version) (commits_in (chunks_of pairs))
  found_later pairs version = ap (filter (is_later version)) (sym (commits_same pairs))

  -- those of its chunks and the recent ones have all of its commits
  pub own_later : (sealed : List (Pair (Arc (List Kept) Z))) (by_table : List (Pair (List (Pair (Arc (List Kept) Z))))) (recent : List Kept) (table version : ℕ) → AreByTable sealed by_table
      → commits_on table (filter (is_later version) (commits_in (chunks_on table by_table)) ++ filter (is_later version) recent) ≡ commits_on table (filter (is_later version) (older_of sealed recent))
  own_later sealed by_table recent table version listed =
      let chunks : List (Pair (List Kept)) = chunks_of sealed in
      let own : commits_on table (commits_in (chunks_on table by_table)) ≡ commits_on table (commits_of sealed) =
      ap (λ (chunks : List (Pair (List Kept))). commits_on table (commits_in chunks)) (listed table) ∙ own_on table chunks ∙ ap (commits_on table) (commits_same sealed) in
      let front : commits_on table (filter (is_later version) (commits_in (chunks_on table by_table))) ≡ commits_on table (filter (is_later version) (commits_of sealed)) =
      filter_swap (has_change_of table) (is_later version) (commits_in (chunks_on table by_table))
      ∙ ap (filter (is_later version)) own
      ∙ filter_swap (is_later version) (has_change_of table) (commits_of sealed) in
      filter-append (has_change_of table) (filter (is_later version) (commits_in (chunks_on table by_table))) (filter (is_later version) recent)
      ∙ ap (λ (front : List Kept). front ++ commits_on table (filter (is_later version) recent)) front
      ∙ sym (filter-append (has_change_of table) (filter (is_later version) (commits_of sealed)) (filter (is_later version) recent))
      ∙ ap (commits_on table) (sym (filter-append (is_later version) (commits_of sealed) recent))
