-- Rows rise where each stands above the one before it.
use Rattle.std.proofs.Common.{◌≡◌, ◌↔◌, ◌-◌, Bool, IsTrue, IfOk, Result, List, [], ◌∷◌, ◌++◌, length, Some, None, refl, sym, ap, ◌∙◌, subst, append_assoc}
use Rattle.std.specs.List.{AllByRecursion, slice_get}
use Rattle.std.specs.Option.{IsSomeAnd}
use Rattle.std.specs.declared.cmp.Ordering.TheVariants.{Less}
use Rattle.std.proofs.lemmas.List.{append-nil}
use Rattle.std.proofs.lemmas.Result.{IfOk-weaker}
use Rattle.ct_types.specs.declared.memory.Memory.{Memory}
use Rattle.ct_types.specs.Order.{key_cmp}
use Rattle.ct_types.specs.declared.value.Row.{Row}
use Rattle.ct_types.specs.declared.schema.Schema.{Schema}
use Rattle.ct_types.proofs.Lists.{all_append, all_back}
use Rattle.ct_types.proofs.Orders.{key_cmp_total}
use Rattle.ct_model.specs.Tables.{key_of}
use Rattle.ct_model.specs.Valid.{AreRising}
use Rattle.ct_model.proofs.Members.{all_weaken, each_append}
use Rattle.ct_applies.specs.Climbs.{ClimbsFrom}
use Rattle.ct_applies.proofs.Each.{each_before, behind_first, ends_in}

abbrev Below : Schema → Row → Row → Type 0
Below schema row later = key_cmp (key_of schema row) (key_of schema later) ≡ Less

-- rows that rise up to the last one rise up to a row above that
one_more : (schema : Schema) (before : List Row) (last row : Row) → AreRising schema (before ++ last ∷ []) → Below schema last row → AreRising schema ((before ++ last ∷ []) ++ row ∷ [])
one_more schema before last row rising below =
    let R : Row → Row → Type 0 = (λ a b. Below schema a b) in
    let each : AllByRecursion (λ a. R a row) (before ++ last ∷ []) =
    all_append (λ a. R a row) before (last ∷ [])
    (all_weaken (λ a. R a last) (λ a. R a row) (λ a low. key_cmp_total.trans (key_of schema a) (key_of schema last) (key_of schema row) low below) before (each_before R before last [] rising))
    (below, tt) in
    each_append R (before ++ last ∷ []) (row ∷ []) rising (tt, tt) (all_weaken (λ a. R a row) (λ a. AllByRecursion (R a) (row ∷ [])) (λ a low. (low, tt)) (before ++ last ∷ []) each)

rises_of_climbs : (schema : Schema) (before : List Row) (last : Row) (rows : List Row) → AreRising schema (before ++ last ∷ []) → ClimbsFrom schema last rows → AreRising schema ((before ++ last ∷ []) ++ rows)
rises_of_climbs schema before last [] rising climbs = subst (AreRising schema) (sym (append-nil (before ++ last ∷ []))) rising
rises_of_climbs schema before last (row ∷ rows) rising climbs =
    subst (AreRising schema) (append_assoc (before ++ last ∷ []) (row ∷ []) rows)
    (rises_of_climbs schema (before ++ last ∷ []) row rows (one_more schema before last row rising climbs.0) climbs.1)

climbs_of_rises : (schema : Schema) (before : List Row) (last : Row) (rows : List Row) → AreRising schema ((before ++ last ∷ []) ++ rows) → ClimbsFrom schema last rows
climbs_of_rises schema before last [] rising = tt
climbs_of_rises schema before last (row ∷ rows) rising =
    let R : Row → Row → Type 0 = (λ a b. Below schema a b) in
    let each : AllByRecursion (λ a. R a row) (before ++ last ∷ []) = each_before R (before ++ last ∷ []) row rows rising in (
      (all_back (λ a. R a row) before (last ∷ []) each).0,
      climbs_of_rises schema (before ++ last ∷ []) row rows (subst (AreRising schema) (sym (append_assoc (before ++ last ∷ []) (row ∷ []) rows)) rising),
    )

-- ---- answers of the test

told_as : (answer : Result Bool Memory) (P Q : Type 0) → (P → Q) → (Q → P) → IfOk answer (λ b. IsTrue b ↔ P) → IfOk answer (λ b. IsTrue b ↔ Q)
told_as answer P Q to from told = IfOk-weaker answer (λ b. IsTrue b ↔ P) (λ b. IsTrue b ↔ Q) (λ b is. (λ e. to (is.0 e), λ q. is.1 (from q))) told

-- behind a last row
pub told_behind : (schema : Schema) (before : List Row) (last : Row) (rows : List Row) (answer : Result Bool Memory) → AreRising schema before → Some last ≡ slice_get before (length before - 1)
    → IfOk answer (λ b. IsTrue b ↔ ClimbsFrom schema last rows) → IfOk answer (λ b. IsTrue b ↔ AreRising schema (before ++ rows))
told_behind schema before last rows answer rising is told =
    let ends = ends_in (λ row. row ≡ last) before (subst (λ o. IsSomeAnd o (λ row. row ≡ last)) is refl) in
    let whole : before ≡ ends.front ++ last ∷ [] = ends.is ∙ ap (λ row. ends.front ++ row ∷ []) ends.holds in
    let rises = subst (AreRising schema) whole rising in
    told_as answer (ClimbsFrom schema last rows) (AreRising schema (before ++ rows))
    (λ climbs. subst (λ l. AreRising schema (l ++ rows)) (sym whole) (rises_of_climbs schema ends.front last rows rises climbs))
    (λ rises. climbs_of_rises schema ends.front last rows (subst (λ l. AreRising schema (l ++ rows)) whole rises)) told

-- behind none
pub told_first : (schema : Schema) (row : Row) (rows : List Row) (answer : Result Bool Memory) → IfOk answer (λ b. IsTrue b ↔ ClimbsFrom schema row rows) → IfOk answer (λ b. IsTrue b ↔ AreRising schema (row ∷ rows))
told_first schema row rows answer told =
    told_as answer (ClimbsFrom schema row rows) (AreRising schema (row ∷ rows)) (λ climbs. rises_of_climbs schema [] row rows (tt, tt) climbs) (λ rises. climbs_of_rises schema [] row rows rises) told

pub none_before : {X : Type 0} (xs : List X) → None ≡ slice_get xs (length xs - 1) → xs ≡ []
none_before [] e = refl
none_before (x ∷ xs) e =
    let some = last_there x xs in absurd (cc (e, some.1))
  where
    last_there : {X : Type 0} (x : X) (xs : List X) → (y : X) × (slice_get (x ∷ xs) (length (x ∷ xs) - 1) ≡ Some y)
    last_there x [] = (x, refl)
    last_there x (y ∷ xs) = let more = last_there y xs in (more.0, behind_first x y xs ∙ more.1)
