-- What the locks answer, where they are those of the sessions, is what the machine says.
use Rattle.std.proofs.Common.{◌≡◌, ℕ, zero, suc, cond, arith, ◌+◌, ◌<◌, ◌≤◌, ◌==◌, ◌&&◌, Bool, true, false, List, [], ◌∷◌, length, get_or, drop, find, Option, None, Some, is_some, option_map, option_and_then, refl, sym, ap, ◌∙◌, nat_lt}
use Rattle.std.specs.Prelude.{slice_get}
use Rattle.std.specs.List.{list_any, position, position_or_len}
use Rattle.std.specs.Option.{option_or}
use Rattle.std.proofs.lemmas.Bool.{ltb-false, ltb-true}
use Rattle.std.proofs.lemmas.List.{drop_all}
use Rattle.std.proofs.lemmas.List.Folds.{find_at}
use Rattle.std.proofs.lemmas.Option.{slice_get-map, slice_get_past}
use Rattle.std.specs.Ordering.{is_eq}
use Rattle.ct_types.specs.Order.{key_cmp}
use Rattle.ct_types.specs.declared.refusal.Refusal.TheVariants.{Blocked}
use Rattle.ct_types.specs.declared.entry.Write.{Write}
use Rattle.ct_types.specs.declared.value.Key.{Key}
use Rattle.ct_ptree.proofs.Lists.{drop_at}
use Rattle.ct_conflicts.proofs.Placed.{first_place}
use Rattle.ct_locks.specs.Changes.{lock_of_write}
use Rattle.ct_locks.specs.Holders.{Lock, holds, locks_of, place_in, IsFree, IsLeastHolder, IsFreeTable, IsHolder}
use Rattle.ct_locks.specs.declared.answers.Holder.{Holder}
use Rattle.ct_locks.proofs.Kept.{any_map, position_map}
use Rattle.ct_session.specs.Sessions.{SessionState}
use Rattle.ct_state.specs.Holding.{blocked_keys, blocked_table, first_key, holds_key, least_other}
use Rattle.ct_blocking.specs.Locked.{AreLocked, refusal_at}
use Rattle.ct_blocking.proofs.Least.{no_other, one_other}

some_within : {X : Type 0} (xs : List X) (i : ℕ) → i < length xs → is_some (slice_get xs i) ≡ true
some_within [] i within = absurd (omega arith)
some_within (x ∷ xs) zero within = refl
some_within (x ∷ xs) (suc i) within = some_within xs i (omega arith)

-- a test that some item passes, as the first that does and at its place
some_place : {X : Type 0} (test : X → Bool) (xs : List X) → is_some (find test xs) ≡ is_some (position test xs)
some_place test xs =
    let n = position_or_len test xs in
    let step : (b : Bool) → nat_lt n (length xs) ≡ b → is_some (slice_get xs n) ≡ is_some (cond b (Some n) None) =
    elim [
      | true ↦ (λ e. some_within xs n (ltb-true n (length xs) e))
      | false ↦ (λ e. ap is_some (slice_get_past xs n (ltb-false n (length xs) e)))
    ] in
    ap is_some (find_at test xs) ∙ step (nat_lt n (length xs)) refl

some_mapped : {X Y : Type 0} (f : X → Y) (o : Option X) → is_some (option_map f o) ≡ is_some o
some_mapped f None = refl
some_mapped f (Some x) = refl

mapped_twice : {X Y Z : Type 0} (f : X → Y) (g : Y → Z) (o : Option X) → option_map g (option_map f o) ≡ option_map (λ x. g (f x)) o
mapped_twice f g None = refl
mapped_twice f g (Some x) = refl

module _ (locks : List Lock) (sessions : ℕ → SessionState) (are : AreLocked locks sessions) where
  held : (number table : ℕ) (key : Key) → holds_key table key (sessions number) ≡ holds locks number table key
  held number table key =
      let test : Lock → Bool = λ lock. (lock.table == table) && is_eq (key_cmp lock.key key) in
      sym (ap (list_any test) (are number) ∙ any_map test (lock_of_write number) (sessions number).pending)

  -- the place of the first write on the table is that of the first lock on it
  placed : (number table : ℕ) → position (λ (write : Write). write.table == table) (sessions number).pending ≡ place_in locks number table
  placed number table =
      sym (ap (position (λ (lock : Lock). lock.table == table)) (are number) ∙ position_map (λ (lock : Lock). lock.table == table) (lock_of_write number) (sessions number).pending)

  wrote : (number table : ℕ) → is_some (first_key table (sessions number)) ≡ is_some (place_in locks number table)
  wrote number table =
      let test : Write → Bool = λ write. write.table == table in
      some_mapped (λ (write : Write). write.key) (find test (sessions number).pending) ∙ some_place test (sessions number).pending ∙ ap is_some (placed number table)

  -- the key of the first write on the table is that of the lock at its place
  first_at : (number table place : ℕ) → place_in locks number table ≡ Some place → first_key table (sessions number) ≡ option_map (λ lock. lock.key) (slice_get (locks_of locks number) place)
  first_at number table place at =
      let test : Write → Bool = λ write. write.table == table in
      let pending = (sessions number).pending in
      let same : place ≡ position_or_len test pending = first_place test pending place (placed number table ∙ at) in
      ap (option_map (λ (write : Write). write.key)) (find_at test pending ∙ ap (slice_get pending) (sym same))
      ∙ sym (ap (λ xs. option_map (λ (lock : Lock). lock.key) (slice_get xs place)) (are number)
      ∙ ap (option_map (λ (lock : Lock). lock.key)) (slice_get-map (lock_of_write number) pending place)
      ∙ mapped_twice (lock_of_write number) (λ (lock : Lock). lock.key) (slice_get pending place))

  module _ (session : ℕ) where
    no_holder : (table : ℕ) (key : Key) → IsFree locks session table key → least_other sessions session (holds_key table key) ≡ None
    no_holder table key free = no_other sessions session (holds_key table key) (λ other ne. held other table key ∙ free other ne)

    one_holder : (table : ℕ) (key : Key) (holder : ℕ) → holder < 256 → IsLeastHolder locks session table key holder → least_other sessions session (holds_key table key) ≡ Some holder
    one_holder table key holder within is =
        one_other sessions session (holds_key table key) holder within is.other (held holder table key ∙ is.holds_it) (λ lower below ne. held lower table key ∙ is.least lower below ne)

    -- a write further: its key is free, or the one that is told
    pub write_free : (name : List ℕ) (writes : List Write) (i : ℕ) (write : Write) → i < length writes → write ≡ get_or writes i write → IsFree locks session write.table write.key
        → blocked_keys sessions session name (drop i writes) ≡ blocked_keys sessions session name (drop (i + 1) writes)
    write_free name writes i write within is free =
        ap (blocked_keys sessions session name) (drop_at writes i write within is)
        ∙ ap (λ o. option_or (option_map (λ holder. Blocked name write.key holder) o) (blocked_keys sessions session name (drop (i + 1) writes))) (no_holder write.table write.key free)

    pub write_blocked : (name : List ℕ) (writes : List Write) (i : ℕ) (write : Write) (holder : ℕ) → i < length writes → write ≡ get_or writes i write → holder < 256
        → IsLeastHolder locks session write.table write.key holder → blocked_keys sessions session name (drop i writes) ≡ Some (Blocked name write.key holder)
    write_blocked name writes i write holder within is byte least =
        ap (blocked_keys sessions session name) (drop_at writes i write within is)
        ∙ ap (λ o. option_or (option_map (λ number. Blocked name write.key number) o) (blocked_keys sessions session name (drop (i + 1) writes))) (one_holder write.table write.key holder byte least)

    pub none_left : (name : List ℕ) (writes : List Write) (i : ℕ) → length writes ≤ i → blocked_keys sessions session name (drop i writes) ≡ None
    none_left name writes i over = ap (blocked_keys sessions session name) (drop_all i writes over)

    pub table_free : (name : List ℕ) (table : ℕ) → IsFreeTable locks session table → None ≡ blocked_table sessions session name table
    table_free name table free =
        sym (ap (option_and_then (λ holder. option_map (λ key. Blocked name key holder) (first_key table (sessions holder))))
        (no_other sessions session (λ other. is_some (first_key table other)) (λ other ne. wrote other table ∙ ap is_some (free other ne))))

    pub table_held : (name : List ℕ) (table : ℕ) (holder : Holder) → holder.session < 256 → IsHolder locks session table holder → refusal_at locks name holder ≡ blocked_table sessions session name table
    table_held name table holder byte is =
        let least : least_other sessions session (λ other. is_some (first_key table other)) ≡ Some holder.session =
        one_other sessions session (λ other. is_some (first_key table other)) holder.session byte is.other (wrote holder.session table ∙ ap is_some is.first)
        (λ lower below ne. wrote lower table ∙ ap is_some (is.least lower below ne)) in
        sym (ap (option_and_then (λ number. option_map (λ key. Blocked name key number) (first_key table (sessions number)))) least
        ∙ ap (option_map (λ key. Blocked name key holder.session)) (first_at holder.session table holder.place is.first)
        ∙ mapped_twice (λ (lock : Lock). lock.key) (λ key. Blocked name key holder.session) (slice_get (locks_of locks holder.session) holder.place))
