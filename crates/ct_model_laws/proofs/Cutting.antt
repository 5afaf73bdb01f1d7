-- The cutoff of cleanup is the greatest version of a past commit.
use Rattle.std.proofs.Common.{◌≡◌, ◌⊎◌, inl, inr, ◌≤◌, ◌<◌, ◌+◌, ℕ, max, Bool, true, false, cond, List, [], ◌∷◌, map, filter, fold, Some, IsSomeAnd, refl, sym, arith, nat_le}
use Rattle.std.specs.List.{AllByRecursion, Any, list_any}
use Rattle.std.proofs.lemmas.Bool.{cases_lt, leb-true, le-leb}
use Rattle.std.proofs.lemmas.List.Folds.{Any-from_list_any, list_any-from_Any}
use Rattle.ct_types.specs.declared.entry.Keep.{Keep}
use Rattle.ct_types.specs.declared.entry.Kept.{Kept}
use Rattle.ct_model.specs.declared.db.Db.{Db}
use Rattle.ct_model.specs.Versions.{cutoff, cutoff_of}
use Rattle.ct_model_laws.specs.Cleanup.{IsPast, IsGreatestPast}
use Rattle.ct_model_laws.proofs.NetTelling.{any_from_some, some_from_any}
use Rattle.ct_model_laws.proofs.Somewhere.{Somewhere, some_join}

-- the greatest of a version and those of the past commits
abbrev greatest : ℕ → ℕ → ℕ → List Kept → ℕ
greatest retention now least kept = fold max least (map (λ one. one.version) (filter (λ one. nat_le (one.time + retention) now) kept))

abbrev IsOne : ℕ → ℕ → ℕ → Kept → Type 0
IsOne retention now version one = IsPast retention now one × (one.version ≡ version)

record IsGreatest (retention now least : ℕ) (kept : List Kept) (version : ℕ) : Type 0 where
  least_below : least ≤ version
  above : AllByRecursion (λ one. IsPast retention now one → one.version ≤ version) kept
  reached : (version ≡ least) ⊎ Somewhere (IsOne retention now version) kept

greatest_is : (retention now least : ℕ) (kept : List Kept) → IsGreatest retention now least kept (greatest retention now least kept)
greatest_is retention now least [] = record { least_below = omega arith; above = tt; reached = inl refl }
greatest_is retention now least (one ∷ more) =
    step (nat_le (one.time + retention) now) refl (greatest_is retention now (max least one.version) more) (greatest_is retention now least more)
  where
    here : (version : ℕ) → IsPast retention now one → IsGreatest retention now (max least one.version) more version → IsGreatest retention now least (one ∷ more) version
    here version past is = record {
      least_below = omega (arith, is.least_below);
      above = ((λ p. omega (arith, is.least_below)), is.above);
      reached = choose is.reached (cases_lt least one.version);
    }
      where
        choose : (version ≡ max least one.version) ⊎ Somewhere (IsOne retention now version) more → (least < one.version) ⊎ (one.version ≤ least)
            → (version ≡ least) ⊎ (IsOne retention now version one ⊎ Somewhere (IsOne retention now version) more)
        choose (inr some) which = inr (inr some)
        choose (inl same) (inl lt) = inr (inl (past, omega (arith, same)))
        choose (inl same) (inr le) = inl (omega (arith, same))

    there : (version : ℕ) → (IsPast retention now one → ⊥) → IsGreatest retention now least more version → IsGreatest retention now least (one ∷ more) version
    there version not is = record {
      least_below = is.least_below;
      above = ((λ p. absurd (not p)), is.above);
      reached = elim is.reached [ inl same ↦ inl same | inr some ↦ inr (inr some) ];
    }

    step : (b : Bool) → b ≡ nat_le (one.time + retention) now
        → IsGreatest retention now (max least one.version) more (greatest retention now (max least one.version) more)
        → IsGreatest retention now least more (greatest retention now least more)
        → IsGreatest retention now least (one ∷ more)
        (fold max least (map (λ one. one.version) (cond b (one ∷ filter (λ one. nat_le (one.time + retention) now) more) (filter (λ one. nat_le (one.time + retention) now) more))))
    step true e taken left = here _ (leb-true (one.time + retention) now (sym e)) taken
    step false e taken left = there _ (λ past. cc (e, le-leb (one.time + retention) now past)) left

-- where none is above 0, a past one has version 0
pub cutoff_greatest : (retention now : ℕ) (kept : List Kept) → IsGreatestPast retention now kept (cutoff_of retention kept now)
cutoff_greatest retention now kept =
    let is = greatest_is retention now 0 kept in
    record { above = is.above; reached = reach (list_any (λ one. nat_le (one.time + retention) now) kept) refl is.reached is.above }
  where
    reach : (b : Bool) → b ≡ list_any (λ one. nat_le (one.time + retention) now) kept
        → (greatest retention now 0 kept ≡ 0) ⊎ Somewhere (IsOne retention now (greatest retention now 0 kept)) kept
        → AllByRecursion (λ one. IsPast retention now one → one.version ≤ greatest retention now 0 kept) kept
        → Any (IsOne retention now (greatest retention now 0 kept)) kept ⊎ ((greatest retention now 0 kept ≡ 0) × (¬ Any (IsPast retention now) kept))
    reach b e (inr some) above = inl (any_from_some (IsOne retention now (greatest retention now 0 kept)) kept some)
    reach true e (inl none) above =
        let any = Any-from_list_any (λ (one : Kept). nat_le (one.time + retention) now) kept (sym e) in
        let past : Somewhere (IsPast retention now) kept = some_from_any (IsPast retention now) kept (any.0, any.1, any.2, any.3, leb-true (any.1.time + retention) now any.4) in
        inl (any_from_some (IsOne retention now (greatest retention now 0 kept)) kept
        (some_join (IsPast retention now) _ (IsOne retention now (greatest retention now 0 kept))
        (λ one is below. let le : one.version ≤ greatest retention now 0 kept = below is in (is, omega (arith, none))) kept past above))
    reach false e (inl none) above =
        inr (none, λ any. cc (e, list_any-from_Any (λ (one : Kept). nat_le (one.time + retention) now) kept (any.0, any.1, any.2, any.3, le-leb (any.1.time + retention) now any.4)))

pub cutoff_is_greatest : (db : Db) (now : ℕ) (keep : Keep) → db.keep ≡ Some keep → keep.auto ≡ true → IsSomeAnd (cutoff db now) (IsGreatestPast keep.retention now db.kept)
cutoff_is_greatest db now keep is auto = rw (is, auto) (cutoff_greatest keep.retention now db.kept)
