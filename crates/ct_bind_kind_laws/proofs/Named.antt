-- The columns of a table by their names: a list in which each is named otherwise than those before it has each once.
use Rattle.std.proofs.Common.{◌≡◌, ℕ, Bool, true, false, not, nat_eq, List, [], ◌∷◌, ◌++◌, map, Option, Some, None, refl, subst, ◌∙◌, arith}
use Rattle.std.specs.List.{AllByRecursion, IsDistinct, list_any}
use Rattle.std.specs.Option.{IsSomeAnd}
use Rattle.std.proofs.lemmas.Bool.Decides.{nat_tests}
use Rattle.ct_types.specs.declared.schema.Column.{Column}
use Rattle.ct_types.specs.declared.schema.Schema.{Schema}
use Rattle.ct_types.specs.Answers.{Answer, each_after}
use Rattle.ct_model.proofs.Members.{all_weaken, all_map}
use Rattle.ct_bind_kinds.specs.WellFormed.{column_of}
use Rattle.ct_bind_names.specs.Names.{same}
use Rattle.ct_types.proofs.Lists.{all_front, all_back, none_passes}
use Rattle.ct_bind_names.proofs.Same.{same_first}
use Rattle.ct_types.proofs.AnswersKept.{Kept, ok_kept, then_kept}

-- the table has a column of this id, and this is its name, or is not
abbrev pub IsNamed : Schema → List ℕ → Bool → ℕ → Type 0
IsNamed table name is id = IsSomeAnd (column_of table.columns id) (λ column. same column.name name ≡ is)

clash : (found : Option Column) (name : List ℕ) → IsSomeAnd found (λ column. same column.name name ≡ true) → IsSomeAnd found (λ column. same column.name name ≡ false) → ⊥
clash None name named other = named
clash (Some column) name named other = cc

apart_by : (table : Schema) (name : List ℕ) (a b : ℕ) (test : Bool) → nat_eq a b ≡ test → IsNamed table name true a → IsNamed table name false b → test ≡ false
apart_by table name a b false is named other = refl
apart_by table name a b true is named other =
    let one : a ≡ b = grind (arith, nat_tests) in
    absurd (clash (column_of table.columns b) name (subst (IsNamed table name true) one named) other)

-- of two columns of which one alone has the name, the ids are different
ids_apart : (table : Schema) (name : List ℕ) (a b : ℕ) → IsNamed table name true a → IsNamed table name false b → nat_eq a b ≡ false
ids_apart table name a b named other = apart_by table name a b (nat_eq a b) refl named other

other_name : (found : Option Column) (own name : List ℕ) → IsSomeAnd found (λ column. same column.name own ≡ true) → same own name ≡ false → IsSomeAnd found (λ column. same column.name name ≡ false)
other_name None own name named apart = named
other_name (Some column) own name named apart = same_first column.name own name named ∙ apart

module _ {A : Type 0} (table : Schema) (name : A → List ℕ) where
  -- the column with this id has none of these names
  abbrev IsOther : List A → ℕ → Type 0
  IsOther before id = AllByRecursion (λ a. IsNamed table (name a) false id) before

  -- it has this name, and none of those before it
  abbrev pub IsNext : List A → A → ℕ → Type 0
  IsNext before a id = IsNamed table (name a) true id × IsOther before id

  pub is_next : (before : List A) (a : A) (id : ℕ) → IsNamed table (name a) true id → not (list_any (λ other. same (name a) (name other)) before) ≡ true → IsNext before a id
  is_next before a id named new = (
    named,
    all_weaken (λ other. same (name a) (name other) ≡ false) (λ other. IsNamed table (name other) false id) (λ other apart. other_name (column_of table.columns id) (name a) (name other) named apart) before
        (none_passes (λ other. same (name a) (name other)) before new),
  )

  module _ {B : Type 0} (id : B → ℕ) where
    abbrev pub AreOnce : List A → List B → Type 0
    AreOnce before made = AllByRecursion (λ b. IsOther before (id b)) made × IsDistinct nat_eq (map id made)

    one_more : (before : List A) (a : A) (b : B) (made : List B) → IsNext before a (id b) → AreOnce (before ++ a ∷ []) made → AreOnce before (b ∷ made)
    unfolding IsDistinct
    one_more before a b made next once = (
      (
        next.1,
        all_weaken (λ it. IsOther (before ++ a ∷ []) (id it)) (λ it. IsOther before (id it)) (λ it others. all_front (λ a. IsNamed table (name a) false (id it)) before (a ∷ []) others) made once.0,
      ),
      (
        all_map (λ it. IsOther (before ++ a ∷ []) (id it)) (λ other. nat_eq (id b) other ≡ false) id
            (λ it others. ids_apart table (name a) (id b) (id it) next.0 (all_back (λ a. IsNamed table (name a) false (id it)) before (a ∷ []) others).0) made once.0,
        once.1,
      ),
    )

    pub each_once : (step : List A → A → Answer B) → ((before : List A) (a : A) → Kept (λ b. IsNext before a (id b)) (step before a)) → (before all : List A) → Kept (AreOnce before) (each_after step before all)
    unfolding IsDistinct
    each_once step go before [] = ok_kept (AreOnce before) [] (tt, tt)
    each_once step go before (a ∷ more) =
        then_kept (λ b. IsNext before a (id b)) (AreOnce before) (step before a) _ (go before a)
        (λ b next. then_kept (AreOnce (before ++ a ∷ [])) (AreOnce before) (each_after step (before ++ a ∷ []) more) _ (each_once step go (before ++ a ∷ []) more)
        (λ made once. ok_kept (AreOnce before) (b ∷ made) (one_more before a b made next once)))
