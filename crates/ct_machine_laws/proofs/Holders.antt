-- Who holds a key: what a request that is not blocked tells of the other sessions, and that writes which name different keys leave each
-- other alone.
use Rattle.std.proofs.Common.{◌≡◌, ◌≢◌, ◌≤◌, ◌<◌, ◌⊎◌, ⊎_elim, eq-or-lt_of_le, ℕ, zero, suc, ◌+◌, ◌==◌, ◌&&◌, ◌||◌, Bool, true, false, not, cond, ne_eqb, List, [], ◌∷◌, Option, None, Some, is_some, option_map, option_and_then, refl, sym, ap, ◌∙◌, subst, arith}
use Rattle.std.specs.List.{AllByRecursion, list_any}
use Rattle.std.specs.Option.{option_or}
use Rattle.ct_types.proofs.Lists.{all_everywhere, all_join}
use Rattle.ct_types.specs.declared.entry.Act.TheVariants.{Commit}
use Rattle.ct_types.specs.declared.entry.Write.{Write}
use Rattle.ct_types.specs.declared.refusal.Refusal.TheVariants.{Blocked}
use Rattle.ct_types.specs.declared.value.Key.{Key}
use Rattle.ct_model.proofs.Members.{all_weaken}
use Rattle.ct_conflicts.specs.Conflicts.{is_on}
use Rattle.ct_session.specs.Sessions.{SessionState}
use Rattle.ct_state.specs.Holding.{blocked_keys, blocked_table, first_key, holds_key, least_from, least_other}
use Rattle.ct_machine_laws.specs.Transactions.{NameOthers, NamesOther, Spares}
use Rattle.ct_machine_laws.proofs.Sparing.{neither, of_on, on_it}

-- ---- nothing is found

pub or_none : {X : Type 0} (o p : Option X) → option_or o p ≡ None → (o ≡ None) × (p ≡ None)
or_none None p e = (refl, e)
or_none (Some x) p e = absurd cc

pub mapped_none : {X Y : Type 0} (f : X → Y) (o : Option X) → option_map f o ≡ None → o ≡ None
mapped_none f None e = refl
mapped_none f (Some x) e = absurd cc

pub byte_or_above : (number : ℕ) → (number < 256) ⊎ (256 ≤ number)
byte_or_above number = grind arith

-- ---- the least session of which a test is true

none_from : (test : ℕ → Bool) (number count : ℕ) → least_from test number count ≡ None → (other : ℕ) → number ≤ other → other < number + count → test other ≡ false
none_from test number zero none other least below = absurd (omega (arith, least, below))
none_from test number (suc count) none other least below =
    step (test number) refl none (λ rest above. none_from test (number + 1) count rest other above (omega (arith, below)))
  where
    step : (b : Bool) → b ≡ test number → cond b (Some number) (least_from test (number + 1) count) ≡ None
        → (least_from test (number + 1) count ≡ None → number + 1 ≤ other → test other ≡ false) → test other ≡ false
    step true e none later = absurd cc
    step false e none later =
        ⊎_elim (λ (same : number ≡ other). subst (λ (n : ℕ). test n ≡ false) same (sym e)) (λ (above : number < other). later none (omega (arith, above))) (eq-or-lt_of_le least)

some_from : (test : ℕ → Bool) (number count found : ℕ) → least_from test number count ≡ Some found → test found ≡ true
some_from test number zero found e = absurd cc
some_from test number (suc count) found e = step (test number) refl e (λ rest. some_from test (number + 1) count found rest)
  where
    step : (b : Bool) → b ≡ test number → cond b (Some number) (least_from test (number + 1) count) ≡ Some found
        → (least_from test (number + 1) count ≡ Some found → test found ≡ true) → test found ≡ true
    step true is e later = let same : number ≡ found = cc in subst (λ (n : ℕ). test n ≡ true) same (sym is)
    step false is e later = later e

both_true : (a b : Bool) → (a && b) ≡ true → b ≡ true
both_true true b e = e
both_true false b e = absurd cc

module _ (sessions : ℕ → SessionState) (s : ℕ) where
  none_other : (test : SessionState → Bool) → least_other sessions s test ≡ None → (other : ℕ) → other ≢ s → other < 256 → test (sessions other) ≡ false
  unfolding least_other
  none_other test none other apart within =
      let fails : (not (other == s) && test (sessions other)) ≡ false = none_from (λ n. not (n == s) && test (sessions n)) 0 256 none other (omega arith) (omega (arith, within)) in
      let differs : not (other == s) ≡ true = ap not (ne_eqb other s apart) in
      ap (λ (b : Bool). b && test (sessions other)) (sym differs) ∙ fails

  least_passes : (test : SessionState → Bool) (holder : ℕ) → least_other sessions s test ≡ Some holder → test (sessions holder) ≡ true
  unfolding least_other
  least_passes test holder e =
      both_true (not (holder == s)) (test (sessions holder)) (some_from (λ n. not (n == s) && test (sessions n)) 0 256 holder e)

  -- ---- what is not blocked

  -- no other session holds the key of a write
  abbrev pub IsFreeKey : Write → Type 0
  IsFreeKey write = (other : ℕ) → other ≢ s → other < 256 → holds_key write.table write.key (sessions other) ≡ false

  pub keys_free : (name : List ℕ) (writes : List Write) → blocked_keys sessions s name writes ≡ None → AllByRecursion IsFreeKey writes
  keys_free name [] none = tt
  keys_free name (write ∷ more) none =
      let parts = or_none (option_map (λ holder. Blocked name write.key holder) (least_other sessions s (holds_key write.table write.key))) (blocked_keys sessions s name more) none in
      (none_other (holds_key write.table write.key) (mapped_none _ (least_other sessions s (holds_key write.table write.key)) parts.0), keys_free name more parts.1)

  pub table_free : (name : List ℕ) (table : ℕ) → blocked_table sessions s name table ≡ None → (other : ℕ) → other ≢ s → other < 256 → is_some (first_key table (sessions other)) ≡ false
  table_free name table none = step (least_other sessions s (λ other. is_some (first_key table other))) refl none
    where
      step : (o : Option ℕ) → o ≡ least_other sessions s (λ other. is_some (first_key table other))
          → option_and_then (λ holder. option_map (λ key. Blocked name key holder) (first_key table (sessions holder))) o ≡ None
          → (other : ℕ) → other ≢ s → other < 256 → is_some (first_key table (sessions other)) ≡ false
      step None e none = none_other (λ other. is_some (first_key table other)) (sym e)
      step (Some holder) e none =
          let gone : first_key table (sessions holder) ≡ None = mapped_none (λ key. Blocked name key holder) (first_key table (sessions holder)) none in
          let there : is_some (first_key table (sessions holder)) ≡ true = least_passes (λ other. is_some (first_key table other)) holder (sym e) in
          absurd (clash (sym (ap (λ (o : Option Key). is_some o) gone) ∙ there))
        where
          clash : ◌≡◌ {A = Bool} false true → ⊥
          clash e = cc

-- ---- writes that name different keys

all_swapped : {X Y : Type 0} (R : X → Y → Type 0) (xs : List X) (ys : List Y) → AllByRecursion (λ x. AllByRecursion (R x) ys) xs → AllByRecursion (λ y. AllByRecursion (λ x. R x y) xs) ys
all_swapped R [] ys all = all_everywhere _ (λ y. tt) ys
all_swapped R (x ∷ xs) ys all = all_join (R x) (λ y. AllByRecursion (λ x. R x y) xs) _ (λ y here there. (here, there)) ys all.0 (all_swapped R xs ys all.1)

pub others_back : (writes others : List Write) → NameOthers writes others → NameOthers others writes
others_back writes others names =
    all_weaken (λ (other : Write). AllByRecursion (λ write. NamesOther write other) writes) (λ (other : Write). AllByRecursion (NamesOther other) writes)
    (λ (other : Write) all. all_weaken (λ write. NamesOther write other) (NamesOther other) (λ (write : Write) differ same. differ (sym same.0, sym same.1)) writes all) others
    (all_swapped NamesOther writes others names)

-- a key that is not held is named by no write of the holder
pub off_all : (write : Write) (others : List Write) → list_any (is_on write.table write.key) others ≡ false → AllByRecursion (NamesOther write) others
off_all write [] off = tt
off_all write (other ∷ others) off =
    let none = neither (is_on write.table write.key other) (list_any (is_on write.table write.key) others) off in
    ((λ same. let on = on_it write.table write.key other (sym same.0) (sym same.1) in let fails = none.0 in absurd cc), off_all write others none.1)

all_off : (write : Write) (others : List Write) → AllByRecursion (NamesOther write) others → list_any (is_on write.table write.key) others ≡ false
all_off write [] names = refl
all_off write (other ∷ others) names =
    let step : (b : Bool) → b ≡ is_on write.table write.key other → (b || list_any (is_on write.table write.key) others) ≡ false =
    elim [
      | true ↦ (λ e. let same = of_on write.table write.key other (sym e) in absurd (names.0 (sym same.0, sym same.1)))
      | false ↦ (λ e. all_off write others names.1)
    ] in
    step (is_on write.table write.key other) refl

-- a commit of writes that name other keys spares what waits
pub commit_spares : (writes others : List Write) → NameOthers others writes → AllByRecursion (Spares (Commit writes)) others
commit_spares writes others names =
    all_weaken (λ (other : Write). AllByRecursion (NamesOther other) writes) (Spares (Commit writes)) (λ (other : Write) apart. record { table = refl; key = all_off other writes apart }) others names

-- a key that one list names is named by none that names other keys
pub held_apart : (table : ℕ) (key : Key) (writes others : List Write) → NameOthers writes others → list_any (is_on table key) writes ≡ true → list_any (is_on table key) others ≡ false
held_apart table key [] others names on = absurd cc
held_apart table key (write ∷ writes) others names on =
    let step : (b : Bool) → b ≡ is_on table key write → (b || list_any (is_on table key) writes) ≡ true → list_any (is_on table key) others ≡ false =
    elim [
      | true ↦ (λ e on. let same = of_on table key write (sym e) in
          subst (λ (k : Key). list_any (is_on table k) others ≡ false) same.1 (subst (λ (n : ℕ). list_any (is_on n write.key) others ≡ false) same.0 (all_off write others names.0)))
      | false ↦ (λ e on. held_apart table key writes others names.1 on)
    ] in
    step (is_on table key write) refl on
