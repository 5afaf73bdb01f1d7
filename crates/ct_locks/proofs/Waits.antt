-- What a walk over the sessions found, of the list of all locks.
use Rattle.std.proofs.Common.{◌≡◌, ◌≢◌, ℕ, zero, suc, ◌<◌, ◌≤◌, ◌==◌, not, Bool, true, false, is_some, List, [], ◌∷◌, length, get_or, take, take_all, Option, Some, None, position, refl, sym, ap, ◌∙◌, subst, arith}
use Rattle.std.specs.Prelude.{slice_get, IsSomeAnd}
use Rattle.std.specs.List.{list_any}
use Rattle.ct_types.specs.declared.value.Key.{Key}
use Rattle.ct_locks.specs.declared.taken.Taken.{Taken}
use Rattle.ct_locks.specs.Holders.{IsFree, IsLeastHolder, IsFreeTable, IsHolder}
use Rattle.ct_locks.specs.Holdings.{Holding, all_locks, Rises, is_on, is_of_table, has_table, blocks}
use Rattle.ct_locks.proofs.Kept.{taken_by, IsFound, none_by, found_at, holds_by, place_by}

none_of_option : (o : Option ℕ) → is_some o ≡ false → o ≡ None
none_of_option None e = refl
none_of_option (Some n) e = absurd cc

-- an item of a list, by its place
pub some_at : {X : Type 0} (P : X → Type 0) (xs : List X) (i : ℕ) (x : X) → i < length xs → x ≡ get_or xs i x → P x → IsSomeAnd (slice_get xs i) P
some_at P [] i x within is here = absurd (omega arith)
some_at P (y ∷ ys) zero x within is here = subst P is here
some_at P (y ∷ ys) (suc i) x within is here = some_at P ys i x (omega arith) is here

module _ (test : List Taken → Bool) (empty : test [] ≡ false) (session : ℕ) (hs : List Holding) (rises : Rises hs) (i : ℕ) where
  all_free : length hs ≤ i → list_any (blocks session test) (take i hs) ≡ false → (other : ℕ) → other ≢ session → test (taken_by hs other) ≡ false
  all_free over none =
      let whole : take i hs ≡ hs = take_all i hs over in
      none_by test empty session hs (subst (λ xs. list_any (blocks session test) xs ≡ false) whole none)

  found_here : (h : Holding) → i < length hs → h ≡ get_or hs i h → list_any (blocks session test) (take i hs) ≡ false → blocks session test h ≡ true → IsFound test hs session h
  found_here h within is none here =
      subst (λ x. IsFound test hs session x) (sym is) (found_at test empty session hs i h rises within none (ap (blocks session test) (sym is) ∙ here))

pub free_key : (hs : List Holding) (session table : ℕ) (key : Key) (i : ℕ) → Rises hs → length hs ≤ i → list_any (blocks session (list_any (is_on table key))) (take i hs) ≡ false
    → IsFree (all_locks hs) session table key
free_key hs session table key i rises over none = λ other ne.
    holds_by hs rises other table key ∙ all_free (list_any (is_on table key)) refl session hs rises i over none other ne

pub least_key : (hs : List Holding) (session table : ℕ) (key : Key) (i : ℕ) (h : Holding) → Rises hs → i < length hs → h ≡ get_or hs i h → list_any (blocks session (list_any (is_on table key))) (take i hs) ≡ false
    → blocks session (list_any (is_on table key)) h ≡ true → IsLeastHolder (all_locks hs) session table key h.session
least_key hs session table key i h rises within is none here =
    let test : List Taken → Bool = list_any (is_on table key) in
    let found : IsFound test hs session h = found_here test refl session hs rises i h within is none here in
    record {
      other = found.other;
      holds_it = holds_by hs rises h.session table key ∙ ap test found.own ∙ found.has;
      least = λ lower below ne. holds_by hs rises lower table key ∙ found.least lower below ne;
    }

pub free_table : (hs : List Holding) (session table : ℕ) (i : ℕ) → Rises hs → length hs ≤ i → list_any (blocks session (has_table table)) (take i hs) ≡ false → IsFreeTable (all_locks hs) session table
free_table hs session table i rises over none = λ other ne.
    place_by hs rises other table ∙ none_of_option (position (is_of_table table) (taken_by hs other)) (all_free (has_table table) refl session hs rises i over none other ne)

pub least_table : (hs : List Holding) (session table : ℕ) (i : ℕ) (h : Holding) (place : ℕ) → Rises hs → i < length hs → h ≡ get_or hs i h → list_any (blocks session (has_table table)) (take i hs) ≡ false
    → not (h.session == session) ≡ true → position (is_of_table table) h.taken ≡ Some place → IsHolder (all_locks hs) session table (record { session = h.session; place = place })
least_table hs session table i h place rises within is none other at =
    let has : has_table table h.taken ≡ true = ap is_some at in
    let here : blocks session (has_table table) h ≡ true = rw (other, has) refl in
    let found : IsFound (has_table table) hs session h = found_here (has_table table) refl session hs rises i h within is none here in
    record {
      other = found.other;
      first = place_by hs rises h.session table ∙ ap (position (is_of_table table)) found.own ∙ at;
      least = λ lower below ne. place_by hs rises lower table ∙ none_of_option (position (is_of_table table) (taken_by hs lower)) (found.least lower below ne);
    }
