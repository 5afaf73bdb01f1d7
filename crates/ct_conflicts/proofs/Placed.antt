-- The stamps that are kept, after those of a table were changed at their place.
use Rattle.std.proofs.Common.{◌≡◌, ℕ, ◌+◌, ◌-◌, ◌<◌, ◌≤◌, ◌==◌, ◌&&◌, Bool, true, false, cond, if◌then◌else◌, List, [], ◌∷◌, ◌++◌, length, get_or, set, find, slice_get, Option, Some, None, option_and_then, refl, sym, ap, ◌∙◌, length-append, arith, not, nat_lt}
use Rattle.std.specs.List.{position, position_or_len}
use Rattle.std.specs.Option.{option_or}
use Rattle.std.specs.Ordering.{is_eq}
use Rattle.std.proofs.lemmas.Bool.{eqb-true, eq-eqb, ltb-false}
use Rattle.std.proofs.lemmas.List.Folds.{find_at, find-set, find_past, find-append, position_or_len_push}
use Rattle.std.proofs.lemmas.List.Sums.{prefix_len-le-length}
use Rattle.std.proofs.lemmas.Option.{slice_get-get_or}
use Rattle.ct_types.specs.Order.{key_cmp}
use Rattle.ct_types.specs.declared.entry.Write.{Write}
use Rattle.ct_types.specs.declared.value.Key.{Key}
use Rattle.ct_ptree.specs.Pairs.{value_at, set_pair}
use Rattle.ct_conflicts.specs.Conflicts.{is_on}
use Rattle.ct_conflicts.specs.Later.{is_of, last_alter, last_write}
use Rattle.ct_conflicts.specs.Stamped.{IsStamped}
use Rattle.ct_conflicts.specs.declared.stamps.Stamp.{Stamp}
use Rattle.ct_conflicts.specs.declared.stamps.TableStamps.{TableStamps}
use Rattle.ct_conflicts.proofs.Found.{value_set}

-- what is found passes the test
passes : {X : Type 0} (test : X → Bool) (xs : List X) (x : X) → find test xs ≡ Some x → test x ≡ true
passes test [] x e = cc
passes test (y ∷ ys) x e =
    let step : (b : Bool) → test y ≡ b → cond b (Some y) (find test ys) ≡ Some x → test x ≡ true =
    elim [ true ↦ (λ h s. cc) | false ↦ (λ h s. passes test ys x s) ] in
    step (test y) refl e

-- ---- the first place at which a test passes

pub first_place : {X : Type 0} (test : X → Bool) (xs : List X) (place : ℕ) → position test xs ≡ Some place → place ≡ position_or_len test xs
first_place test xs place e =
    let step : (b : Bool) → cond b (Some (position_or_len test xs)) None ≡ Some place → place ≡ position_or_len test xs =
    elim [ true ↦ (λ s. cc) | false ↦ (λ s. cc) ] in
    step (nat_lt (position_or_len test xs) (length xs)) e

-- where there was none, it is that of one more that passes
pub pushed_place : {X : Type 0} (test : X → Bool) (xs made : List X) (x : X) → position test xs ≡ None → test x ≡ true → made ≡ xs ++ x ∷ [] → length made - 1 ≡ position_or_len test made
pushed_place test xs made x e here is =
    let n = position_or_len test xs in
    let step : (b : Bool) → nat_lt n (length xs) ≡ b → cond b (Some n) None ≡ None → length xs ≤ n =
    elim [ true ↦ (λ h s. cc) | false ↦ (λ h s. ltb-false n (length xs) h) ] in
    let over : length xs ≤ n = step (nat_lt n (length xs)) refl e in
    let within : n ≤ length xs = prefix_len-le-length (λ y. not (test y)) xs in
    let all : n ≡ length xs = omega arith in
    let last : position_or_len test (xs ++ x ∷ []) ≡ length xs + 0 = position_or_len_push test xs x ∙ rw (eq-eqb n (length xs) all, here) refl in
    let one : length (xs ++ x ∷ []) ≡ length xs + 1 = length-append xs (x ∷ []) in
    rw is (omega (arith, one, last))

-- ---- the stamps of a table, at their place

-- the stamps at a place are the first ones of a table
pub record IsPlace (later : List TableStamps) (place table : ℕ) (first : TableStamps) : Type 0 where
  pub within : place < length later
  pub at : place ≡ position_or_len (is_of table) later
  pub is : first ≡ get_or later place first

found : (later : List TableStamps) (place table : ℕ) (first : TableStamps) → IsPlace later place table first → find (is_of table) later ≡ Some first
found later place table first there =
    find_at (is_of table) later ∙ ap (slice_get later) (sym there.at) ∙ slice_get-get_or later place first there.within ∙ ap Some (sym there.is)

-- the first ones of a table after others were put in their place
found_set : (later : List TableStamps) (place table other : ℕ) (first made : TableStamps) → IsPlace later place table first → made.table ≡ first.table
    → find (is_of other) (set later place made) ≡ (if table == other then Some made else find (is_of other) later)
found_set later place table other first made there same =
    let own : (first.table == table) ≡ true = passes (is_of table) later first (found later place table first there) in
    let named : first.table ≡ table = eqb-true first.table table own in
    let step : (b : Bool) → (table == other) ≡ b → find (is_of other) (set later place made) ≡ (if b then Some made else find (is_of other) later) =
    elim [
      | true ↦ (λ e.
          let at : place ≡ position_or_len (is_of other) later = there.at ∙ ap (λ t. position_or_len (is_of t) later) (eqb-true table other e) in
          let here : is_of other made ≡ true = ap (λ t. t == other) (same ∙ named) ∙ e in
          find-set (is_of other) later place made at there.within here)
      | false ↦ (λ e.
          let before : is_of other (get_or later place first) ≡ false = ap (is_of other) (sym there.is) ∙ ap (λ t. t == other) named ∙ e in
          let here : is_of other made ≡ false = ap (λ t. t == other) (same ∙ named) ∙ e in
          find_past (is_of other) later place made first before here)
    ] in
    step (table == other) refl

chosen : {X Y : Type 0} (b : Bool) (f : X → Option Y) (x : X) (o : Option X) → option_and_then f (if b then Some x else o) ≡ (if b then f x else option_and_then f o)
chosen true f x o = refl
chosen false f x o = refl

-- the same of what is read of them
read_set : (later : List TableStamps) (place table : ℕ) (first made : TableStamps) → IsPlace later place table first → made.table ≡ first.table
    → (f : TableStamps → Option Stamp) (other : ℕ) → option_and_then f (find (is_of other) (set later place made)) ≡ (if table == other then f made else option_and_then f (find (is_of other) later))
read_set later place table first made there same f other =
    ap (option_and_then f) (found_set later place table other first made there same) ∙ chosen (table == other) f made (find (is_of other) later)

read_here : (later : List TableStamps) (place table : ℕ) (first : TableStamps) → IsPlace later place table first
    → (f : TableStamps → Option Stamp) (other : ℕ) → (table == other) ≡ true → f first ≡ option_and_then f (find (is_of other) later)
read_here later place table first there f other e =
    sym (ap (option_and_then f) (found later place table first there)) ∙ ap (λ t. option_and_then f (find (is_of t) later)) (eqb-true table other e)

-- where nothing that is read changed, it is read as before
read_kept : (later : List TableStamps) (place table : ℕ) (first made : TableStamps) → IsPlace later place table first → made.table ≡ first.table
    → (f : TableStamps → Option Stamp) → f made ≡ f first → (other : ℕ) → option_and_then f (find (is_of other) (set later place made)) ≡ option_and_then f (find (is_of other) later)
read_kept later place table first made there same f kept other =
    let step : (b : Bool) → (table == other) ≡ b → (if b then f made else option_and_then f (find (is_of other) later)) ≡ option_and_then f (find (is_of other) later) =
    elim [ true ↦ (λ e. kept ∙ read_here later place table first there f other e) | false ↦ (λ e. refl) ] in
    read_set later place table first made there same f other ∙ step (table == other) refl

-- ---- a stamp more

pub stamped_key : (old later : List TableStamps) (place : ℕ) (write : Write) (stamp : Stamp) (first made : TableStamps)
    → ((table : ℕ) (key : Key) → last_write later table key ≡ last_write old table key) → ((table : ℕ) → last_alter later table ≡ last_alter old table)
    → IsPlace later place write.table first → made.table ≡ first.table → made.altered ≡ first.altered → made.written ≡ set_pair first.written write.key stamp
    → IsStamped (set later place made) old stamp (λ table key. is_on table key write) (λ table. false)
stamped_key old later place write stamp first made written altered there table_is altered_is written_is = record {
  keys = λ table key.
      let f : TableStamps → Option Stamp = λ (stamps : TableStamps). value_at stamps.written key in
      let put : f made ≡ (if is_eq (key_cmp write.key key) then Some stamp else f first) = ap (λ pairs. value_at pairs key) written_is ∙ value_set first.written write.key stamp key in
      let step : (b : Bool) → (write.table == table) ≡ b → (if b then f made else last_write later table key) ≡ (if (b && is_eq (key_cmp write.key key)) then Some stamp else last_write old table key) =
      elim [
        | true ↦ (λ e.
            let before : f first ≡ last_write old table key = read_here later place write.table first there f table e ∙ written table key in
            put ∙ ap (λ o. if is_eq (key_cmp write.key key) then Some stamp else o) before)
        | false ↦ (λ e. written table key)
      ] in
      read_set later place write.table first made there table_is f table ∙ step (write.table == table) refl;
  tables = λ table. read_kept later place write.table first made there table_is (λ (stamps : TableStamps). stamps.altered) altered_is table ∙ altered table;
}

pub stamped_table : (old later : List TableStamps) (place table : ℕ) (stamp : Stamp) (first made : TableStamps)
    → ((other : ℕ) (key : Key) → last_write later other key ≡ last_write old other key) → ((other : ℕ) → last_alter later other ≡ last_alter old other)
    → IsPlace later place table first → made.table ≡ first.table → made.altered ≡ Some stamp → made.written ≡ first.written
    → IsStamped (set later place made) old stamp (λ other key. false) (λ other. table == other)
stamped_table old later place table stamp first made written altered there table_is altered_is written_is = record {
  keys = λ other key. read_kept later place table first made there table_is (λ (stamps : TableStamps). value_at stamps.written key) (ap (λ pairs. value_at pairs key) written_is) other ∙ written other key;
  tables = λ other.
      read_set later place table first made there table_is (λ (stamps : TableStamps). stamps.altered) other
      ∙ ap (λ o. if table == other then o else last_alter later other) altered_is
      ∙ ap (λ o. if table == other then Some stamp else o) (altered other);
}

-- ---- a table without stamps more

pub none_placed : (later made : List TableStamps) (added : TableStamps) → made ≡ later ++ added ∷ [] → (f : TableStamps → Option Stamp) → f added ≡ None
    → (table : ℕ) → option_and_then f (find (is_of table) made) ≡ option_and_then f (find (is_of table) later)
none_placed later made added is f none table =
    let step : (o : Option TableStamps) (b : Bool) → option_and_then f (option_or o (cond b (Some added) None)) ≡ option_and_then f o =
    elim [
      | None ↦ elim [ true ↦ none | false ↦ refl ]
      | Some x ↦ (λ b. refl)
    ] in
    ap (λ xs. option_and_then f (find (is_of table) xs)) is
    ∙ ap (option_and_then f) (find-append (is_of table) later (added ∷ []))
    ∙ step (find (is_of table) later) (is_of table added)
