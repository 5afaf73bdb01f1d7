-- What parts come to at a place, walked one by one.
use Rattle.std.proofs.Common.{◌≡◌, ◌==◌, ℕ, List, [], ◌∷◌, map, length, Ok, Err, refl, ap, sym, ◌∙◌}
use Rattle.std.proofs.lemmas.List.{length-map}
use Rattle.ct_types.specs.declared.catalogue.Catalogued.{Catalogued}
use Rattle.ct_types.specs.declared.catalogue.Variable.{Variable}
use Rattle.ct_types.specs.declared.expr.Expr.{Expr}
use Rattle.ct_types.specs.declared.expr.Scalar.{Scalar}
use Rattle.ct_types.specs.declared.bound.BoundExpr.{BoundExpr}
use Rattle.ct_types.specs.declared.bound.BoundRowVersion.{BoundRowVersion, roll-BoundRowVersion}
use Rattle.ct_types.specs.declared.refusal.Refusal.TheVariants.{CountClash}
use Rattle.ct_types.specs.declared.schema.Schema.{Schema}
use Rattle.ct_bind_kinds.specs.declared.kind.Kind.{Kind}
use Rattle.ct_types.specs.Answers.{Answer, ◌>>=◌, ◌>>◌, demand, each}
use Rattle.ct_bind_names.specs.Catalogue.{tracked_table}
use Rattle.ct_bind_expr.specs.declared.place.Typed.{Typed}
use Rattle.ct_bind_expr.specs.declared.place.Place.{Place}
use Rattle.ct_bind_expr.specs.Places.{closed, of_kind}
use Rattle.ct_bind_expr.specs.Versions.{Walk, operand, values, tuple, key_columns, listed_kinds, in_key_order, version_of}
use Rattle.ct_bind_expr.specs.Walk.{two, both_of_kind, chain, scalar_column, walk, scalar_walk}
use Rattle.ct_bind_expr.specs.Walked.{walked, both, scalar_with}
use Rattle.ct_bind_expr.proofs.Opened.{opened_version, opened_scalar}

-- ---- lists of operands

pub each_at : (walk : Expr → Walk) (wanted : Kind) (place : Place) (all : List Expr)
    → each (operand wanted place) (map walk all) ≡ each (operand wanted closed) (map walked (map (λ e. walk e place) all))
unfolding operand
each_at walk wanted place [] = refl
each_at walk wanted place (e ∷ more) = ap (λ rest. (walk e place >>= of_kind wanted) >>= (λ b. rest >>= (λ made. Ok (b ∷ made)))) (each_at walk wanted place more)

abbrev with_two : BoundExpr → BoundExpr → Answer (List BoundExpr) → Answer (List BoundExpr)
with_two first second more = do
  more ← more
  Ok (first ∷ second ∷ more)

pub chain_at : (walk : Expr → Walk) (wanted : Kind) (place : Place) (all : List Expr)
    → chain wanted place (map walk all) ≡ chain wanted closed (map walked (map (λ e. walk e place) all))
unfolding chain two operand
chain_at walk wanted place [] = refl
chain_at walk wanted place (only ∷ []) = refl
chain_at walk wanted place (left ∷ right ∷ more) =
    ap (λ rest. both (walk left place) (walk right place) >>= (λ it. both_of_kind wanted it.0 it.1 >>= (λ made. with_two made.0 made.1 rest))) (each_at walk wanted place more)

pub values_at : (walk : Expr → Walk) (place : Place) (kinds : List Kind) (all : List Expr)
    → values place kinds (map walk all) ≡ values closed kinds (map walked (map (λ e. walk e place) all))
unfolding values operand
values_at walk place [] all = refl
values_at walk place (kind ∷ kinds) [] = refl
values_at walk place (kind ∷ kinds) (e ∷ more) = ap (λ rest. (walk e place >>= of_kind kind) >>= (λ b. rest >>= (λ made. Ok (b ∷ made)))) (values_at walk place kinds more)

pub tuple_at : (walk : Expr → Walk) (place : Place) (kinds : List Kind) (all : List Expr)
    → tuple place kinds (map walk all) ≡ tuple closed kinds (map walked (map (λ e. walk e place) all))
unfolding tuple
tuple_at walk place kinds all =
    let many : length (map walk all) ≡ length (map walked (map (λ e. walk e place) all)) = length-map all walk ∙ sym (length-map all (λ e. walk e place)) ∙ sym (length-map (map (λ e. walk e place) all) walked) in
    ap (λ n. demand (n == length kinds) (CountClash (length kinds) n) >> values place kinds (map walk all)) many
    ∙ ap (λ rest. demand (length (map walked (map (λ e. walk e place) all)) == length kinds) (CountClash (length kinds) (length (map walked (map (λ e. walk e place) all)))) >> rest) (values_at walk place kinds all)

under : {A B : Type 0} (a : Answer A) (f g : A → Answer B) → ((x : A) → f x ≡ g x) → (a >>= f) ≡ (a >>= g)
under (Ok x) f g same = same x
under (Err refusal) f g same = refl

pub version_at : (walk : Expr → Walk) (place : Place) (table : Schema) (names : List (List ℕ)) (all : List Expr)
    → version_of table names (map walk all) place ≡ version_of table names (map walked (map (λ e. walk e place) all)) closed
unfolding version_of
version_at walk place table names all =
    let made : List BoundExpr → Answer BoundRowVersion = λ bound. Ok (roll-BoundRowVersion (record { table = table.id; values = in_key_order (key_columns table) names bound })) in
    under (listed_kinds (key_columns table) names)
    (λ kinds. tuple place kinds (map walk all) >>= made)
    (λ kinds. tuple closed kinds (map walked (map (λ e. walk e place) all)) >>= made)
    (λ kinds. ap (λ it. it >>= made) (tuple_at walk place kinds all))

-- ---- scalar forms

module _ (tables : List Catalogued) (variables : List Variable) where
  abbrev with_schema : Catalogued → Answer BoundRowVersion → Answer (Schema × BoundRowVersion)
  with_schema it version = do
    bound ← version
    Ok (it.schema, bound)

  joined_one : (it : Catalogued) (version : Answer BoundRowVersion) (last : Schema → BoundRowVersion → Answer Typed)
      → (with_schema it version >>= (λ it. last it.0 it.1)) ≡ (version >>= (λ bound. last it.schema bound))
  joined_one it (Ok bound) last = refl
  joined_one it (Err refusal) last = refl

  joined : (table : Answer Catalogued) (version : Catalogued → Answer BoundRowVersion) (last : Schema → BoundRowVersion → Answer Typed)
      → ((table >>= (λ it. with_schema it (version it))) >>= (λ it. last it.0 it.1)) ≡ (table >>= (λ it. version it >>= (λ bound. last it.schema bound)))
  joined (Err refusal) version last = refl
  joined (Ok it) version last = joined_one it (version it) last

  pub scalar_opens : (place : Place) (s : Scalar)
      → scalar_walk tables variables s place
      ≡ (tracked_table tables s.version.table >>= (λ it. version_of it.schema s.version.columns (map (walk tables variables) s.version.values) place >>= scalar_column it.schema s.source s.alias s.column))
  scalar_opens place s =
      let last = λ (table : Schema) (bound : BoundRowVersion). scalar_column table s.source s.alias s.column bound in
      ap (λ w. w place) (opened_scalar tables variables s)
      ∙ ap (λ w. w place >>= (λ it. last it.0 it.1)) (opened_version tables variables s.version)
      ∙ joined (tracked_table tables s.version.table) (λ it. version_of it.schema s.version.columns (map (walk tables variables) s.version.values) place) last

  pub scalar_at : (place : Place) (s : Scalar)
      → scalar_walk tables variables s place ≡ scalar_with tables s (map (λ e. walk tables variables e place) s.version.values)
  unfolding scalar_with
  scalar_at place s =
      let last = λ (table : Schema) (bound : BoundRowVersion). scalar_column table s.source s.alias s.column bound in
      let before = λ (it : Catalogued). version_of it.schema s.version.columns (map (walk tables variables) s.version.values) place in
      let after = λ (it : Catalogued). version_of it.schema s.version.columns (map walked (map (λ e. walk tables variables e place) s.version.values)) closed in
      scalar_opens place s
      ∙ under (tracked_table tables s.version.table) (λ it. before it >>= (λ bound. last it.schema bound)) (λ it. after it >>= (λ bound. last it.schema bound))
      (λ it. ap (λ v. v >>= (λ bound. last it.schema bound)) (version_at (walk tables variables) place it.schema s.version.columns s.version.values))
