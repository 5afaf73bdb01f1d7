-- The changes of a table that count, told of all that is stored.
use Rattle.std.proofs.Common.{◌≡◌, ℕ, ℤ, pos, negsuc, ◌≤◌, nat_lt, Bool, true, false, cond, ◌==◌, ◌&&◌, List, [], ◌∷◌, ◌++◌, map, filter, flat_map, Option, None, Some, if◌then◌else◌, refl, sym, ap, ap₂, ◌∙◌, subst, eqb-true, arith}
use mathlib.Core.Path.{fun_ext}
use Rattle.std.proofs.lemmas.Bool.Decides.{nat_tests}
use Rattle.ct_types.specs.declared.entry.Change.{Change}
use Rattle.ct_types.specs.declared.entry.Kept.{Kept}
use Rattle.ct_types.specs.declared.tracked.Tracked.{Tracked}
use Rattle.ct_model.specs.declared.db.Table.{Table}
use Rattle.ct_model.specs.declared.db.Dated.{Dated}
use Rattle.ct_model.specs.Apply.{change_stays, commit_stays, trim_one, trim}
use Rattle.ct_model.specs.Net.{floor_of, dated_in, changes_above, net_rows, net_tracked, net_of}
use Rattle.ct_model.specs.Tables.{table_of, is_above}
use Rattle.ct_model.specs.Valid.{AreNumbered}
use Rattle.ct_database.specs.Steps.{counted_of, counted_since, dated}
use Rattle.ct_database.proofs.Needs.{needed, needed_own, needed_some, above_of}
use Rattle.ct_database.proofs.Trimmed.{fails_too, trim_first}

-- ---- the changes that one commit keeps of a table

own_step : (above stays own : Bool) (test : Change → Bool) (change : Change) (left all : List Change) → test change ≡ own → (own ≡ true → stays ≡ above)
    → filter test left ≡ cond above all [] → filter test (cond stays (change ∷ left) left) ≡ cond above (cond own (change ∷ all) all) []
own_step true true true test change left all is same more = rw is (ap (λ (rest : List Change). change ∷ rest) more)
own_step true false true test change left all is same more = absurd (let bad : false ≡ true = same refl in cc)
own_step true true false test change left all is same more = rw is more
own_step true false false test change left all is same more = more
own_step false true true test change left all is same more = absurd (let bad : true ≡ false = same refl in cc)
own_step false false true test change left all is same more = more
own_step false true false test change left all is same more = rw is more
own_step false false false test change left all is same more = more

own_changes : (tables : List Table) (id version : ℕ) (above : Bool) → needed (λ it. it == id) version tables ≡ above → (changes : List Change)
    → filter (λ change. change.table == id) (filter (change_stays tables version) changes) ≡ cond above (filter (λ change. change.table == id) changes) []
own_changes tables id version true is [] = refl
own_changes tables id version false is [] = refl
own_changes tables id version above is (change ∷ changes) =
    own_step above (change_stays tables version change) (change.table == id) (λ (change : Change). change.table == id) change (filter (change_stays tables version) changes) (filter (λ change. change.table == id) changes) refl
    (λ e. ap (λ (table : ℕ). needed (λ it. it == table) version tables) (eqb-true change.table id e) ∙ is)
    (own_changes tables id version above is changes)

-- ---- all commits

-- the changes of a table in a commit above a version, where its own table needs them
abbrev counting : Option Table → ℕ → ℕ → Kept → List Dated
counting found id floor one = if nat_lt floor one.version && above_of found one.version then map (dated one.version) (filter (λ change. change.table == id) one.changes) else []

left_of : (later above : Bool) (version : ℕ) (own left : List Change) → left ≡ cond above own [] → (if later then map (dated version) left else []) ≡ (if later && above then map (dated version) own else [])
left_of true true version own left is = ap (map (dated version)) is
left_of true false version own left is = ap (map (dated version)) is
left_of false above version own left is = refl

none_left : (later above : Bool) (changes : List Dated) → above ≡ false → [] ≡ (if later && above then changes else [])
none_left true true changes e = absurd (let bad : true ≡ false = e in cc)
none_left true false changes e = refl
none_left false above changes e = refl

counted : (tables : List Table) (id floor : ℕ) → AreNumbered 1 tables → (kept : List Kept) → changes_above id floor (trim tables kept) ≡ flat_map (counting (table_of tables id) id floor) kept
counted tables id floor numbered [] = refl
counted tables id floor numbered (one ∷ kept) =
    let found : Option Table = table_of tables id in
    let own : needed (λ it. it == id) one.version tables ≡ above_of (table_of tables id) one.version = needed_own 1 id one.version tables numbered in
    let left : List Change = filter (λ change. change.table == id) (filter (change_stays tables one.version) one.changes) in
    let more : changes_above id floor (trim tables kept) ≡ flat_map (counting (table_of tables id) id floor) kept = counted tables id floor numbered kept in
    let some : above_of (table_of tables id) one.version ≡ true → commit_stays tables one ≡ true = (λ e. needed_some (λ it. it == id) one.version tables (own ∙ e)) in
    let step : (b : Bool) → b ≡ commit_stays tables one
    → changes_above id floor (cond b (trim_one tables one ∷ trim tables kept) (trim tables kept)) ≡ counting (table_of tables id) id floor one ++ flat_map (counting (table_of tables id) id floor) kept =
    elim [
      | true ↦
          (λ e. ap₂ (λ (here : List Dated) (rest : List Dated). here ++ rest)
          (left_of (nat_lt floor one.version) (above_of found one.version) one.version (filter (λ change. change.table == id) one.changes) left (own_changes tables id one.version (above_of found one.version) own one.changes)) more)
      | false ↦
          (λ e. more ∙ ap (λ (here : List Dated). here ++ flat_map (counting (table_of tables id) id floor) kept)
          (none_left (nat_lt floor one.version) (above_of found one.version) (map (dated one.version) (filter (λ change. change.table == id) one.changes)) (fails_too (commit_stays tables one) (above_of found one.version) some e)))
    ] in
    ap (changes_above id floor) (trim_first tables one kept) ∙ step (commit_stays tables one) refl

none_of : {X Y : Type 0} (f : X → List Y) → ((x : X) → f x ≡ []) → (xs : List X) → flat_map f xs ≡ []
none_of f none [] = refl
none_of f none (x ∷ xs) = rw (none x) (none_of f none xs)

same_of : {X Y : Type 0} (f g : X → List Y) → ((x : X) → f x ≡ g x) → (xs : List X) → flat_map f xs ≡ flat_map g xs
same_of f g same xs = ap (λ (h : _ → List _). flat_map h xs) (fun_ext same)

found_id : (tables : List Table) (id : ℕ) (table : Table) → table_of tables id ≡ Some table → table.schema.id ≡ id
found_id [] id table found = absurd cc
found_id (first ∷ tables) id table found =
    let step : (b : Bool) → b ≡ (first.schema.id == id) → cond b (Some first) (table_of tables id) ≡ Some table → table.schema.id ≡ id =
    elim [
      | true ↦ (λ e is. let same : first ≡ table = cc in subst (λ (it : Table). it.schema.id ≡ id) same (eqb-true first.schema.id id (sym e)))
      | false ↦ (λ e is. found_id tables id table is)
    ] in
    step (first.schema.id == id) refl found

-- ---- net changes

above_both : (floor min version : ℕ) → min ≤ floor → (nat_lt floor version && nat_lt min version) ≡ nat_lt floor version
above_both floor min version le = grind (arith, nat_tests)

floor_above : (min : ℕ) (since : Option ℤ) → min ≤ floor_of min since
floor_above min None = omega arith
floor_above min (Some (pos last)) = omega arith
floor_above min (Some (negsuc n)) = omega arith

with_test : (b c : Bool) (changes : List Dated) → b ≡ c → (if b then changes else []) ≡ (if c then changes else [])
with_test b c changes e = ap (λ (b : Bool). if b then changes else []) e

-- of a tracked table the changes above a version that is not below its minimum all count
counted_tracked : (tables : List Table) (table : Table) (tracked : Tracked) (floor : ℕ) → AreNumbered 1 tables → table_of tables table.schema.id ≡ Some table → table.tracked ≡ Some tracked → tracked.min ≤ floor
    → (kept : List Kept) → changes_above table.schema.id floor (trim tables kept) ≡ changes_above table.schema.id floor kept
counted_tracked tables table tracked floor numbered found is le kept =
    let id : ℕ = table.schema.id in
    let above : (version : ℕ) → above_of (table_of tables table.schema.id) version ≡ nat_lt tracked.min version =
    (λ version. ap (λ (it : Option Table). above_of it version) found ∙ ap (λ (it : Option Tracked). is_above version it) is) in
    counted tables table.schema.id floor numbered kept
    ∙ same_of (counting (table_of tables table.schema.id) table.schema.id floor) (dated_in table.schema.id floor)
    (λ one. with_test (nat_lt floor one.version && above_of (table_of tables table.schema.id) one.version) (nat_lt floor one.version) (map (dated one.version) (filter (λ change. change.table == id) one.changes))
    (ap (λ (b : Bool). nat_lt floor one.version && b) (above one.version) ∙ above_both floor tracked.min one.version le)) kept

own_found : (tables : List Table) (id : ℕ) (table : Table) → table_of tables id ≡ Some table → table_of tables table.schema.id ≡ Some table
own_found tables id table found = ap (table_of tables) (found_id tables id table found) ∙ found

-- the net changes of what counts are those of all that is stored
pub net_counted : (tables : List Table) (id : ℕ) (since : Option ℤ) → AreNumbered 1 tables → (kept : List Kept)
    → net_of (table_of tables id) kept since ≡ net_of (table_of tables id) (trim tables kept) since
net_counted tables id since numbered kept =
    let tracked_step : (table : Table) → table_of tables table.schema.id ≡ Some table → (tracked : Option Tracked) → table.tracked ≡ tracked
    → net_tracked table.schema tracked kept since ≡ net_tracked table.schema tracked (trim tables kept) since =
    (λ table found. elim [
      | None ↦ (λ is. refl)
      | Some tracked ↦
          (λ is. ap (net_rows table.schema tracked.masks) (sym (counted_tracked tables table tracked (floor_of tracked.min since) numbered found is (floor_above tracked.min since) kept)))
    ]) in
    let step : (found : Option Table) → table_of tables id ≡ found → net_of found kept since ≡ net_of found (trim tables kept) since =
    elim [ None ↦ (λ e. refl) | Some table ↦ (λ e. tracked_step table (own_found tables id table e) table.tracked refl) ] in
    step (table_of tables id) refl

-- ---- the last change of a key

above_minimum : (min version : ℕ) → (nat_lt 0 version && nat_lt min version) ≡ nat_lt min version
above_minimum min version = grind (arith, nat_tests)

nothing : (b : Bool) (changes : List Dated) → (if b && false then changes else []) ≡ []
nothing true changes = refl
nothing false changes = refl

-- the changes of a table in what counts
pub all_counted : (tables : List Table) (id : ℕ) → AreNumbered 1 tables → (kept : List Kept) → changes_above id 0 (trim tables kept) ≡ counted_of (table_of tables id) kept
all_counted tables id numbered kept =
    let shown : Kept → List Dated = (λ one. map (dated one.version) (filter (λ change. change.table == id) one.changes)) in
    let tracked_step : (table : Table) → table.schema.id ≡ id → (tracked : Option Tracked) → table.tracked ≡ tracked
    → flat_map (counting (Some table) id 0) kept ≡ counted_since table.schema.id tracked kept =
    (λ table own. elim [
      | None ↦
          (λ is. none_of (counting (Some table) id 0)
          (λ one. ap (λ (b : Bool). if nat_lt 0 one.version && b then shown one else []) (ap (is_above one.version) is) ∙ nothing (nat_lt 0 one.version) (shown one)) kept)
      | Some tracked ↦
          (λ is. same_of (counting (Some table) id 0) (dated_in id tracked.min)
          (λ one. with_test (nat_lt 0 one.version && is_above one.version table.tracked) (nat_lt tracked.min one.version) (shown one)
          (ap (λ (it : Option Tracked). nat_lt 0 one.version && is_above one.version it) is ∙ above_minimum tracked.min one.version)) kept
          ∙ ap (λ (it : ℕ). changes_above it tracked.min kept) (sym own))
    ]) in
    let step : (found : Option Table) → table_of tables id ≡ found → flat_map (counting found id 0) kept ≡ counted_of found kept =
    elim [
      | None ↦ (λ e. none_of (counting None id 0) (λ one. nothing (nat_lt 0 one.version) (shown one)) kept)
      | Some table ↦ (λ e. tracked_step table (found_id tables id table e) table.tracked refl)
    ] in
    counted tables id 0 numbered kept ∙ step (table_of tables id) refl
