-- One layer of an expression: what it mentions, by its parts.
use Rattle.std.proofs.Common.{◌≡◌, List, [], ◌∷◌, ◌++◌, length, map, Some, refl, ap}
use Rattle.ct_types.specs.declared.expr.Expr.{Expr, roll-Expr, map-Expr}
use Rattle.ct_types.specs.declared.expr.Expr.TheOpen.{Expr-F, RowVersion-F, Scalar-F, Term-F}
use Rattle.ct_types.specs.declared.expr.Expr.TheFolds.{fold-roll-Expr, fold-roll-RowVersion, fold-roll-Scalar, fold-roll-Term, fold_out-RowVersion}
use Rattle.ct_types.specs.declared.expr.RowVersion.{RowVersion, roll-RowVersion, map-RowVersion}
use Rattle.ct_types.specs.declared.expr.Scalar.{Scalar, roll-Scalar, map-Scalar}
use Rattle.ct_types.specs.declared.expr.Term.{Term, roll-Term, map-Term}
use Rattle.ct_bind_refusal_laws.specs.Mentions.{Mention, OfTuple, of_tracked, of_each, of_expr, of_version, of_scalar, of_term, mentions, version_mentions, scalar_mentions, term_mentions, of_values}

abbrev pub form_mentions : Expr-F Expr RowVersion Scalar Term → List Mention
form_mentions x =
    of_expr (map-Expr Expr RowVersion Scalar Term (List Mention) (List Mention) (List Mention) (List Mention) mentions version_mentions scalar_mentions term_mentions x)

abbrev pub version_form_mentions : RowVersion-F Expr RowVersion Scalar Term → List Mention
version_form_mentions x =
    of_version (map-RowVersion Expr RowVersion Scalar Term (List Mention) (List Mention) (List Mention) (List Mention) mentions version_mentions scalar_mentions term_mentions x)

abbrev pub scalar_form_mentions : Scalar-F Expr RowVersion Scalar Term → List Mention
scalar_form_mentions x =
    of_scalar (map-Scalar Expr RowVersion Scalar Term (List Mention) (List Mention) (List Mention) (List Mention) mentions version_mentions scalar_mentions term_mentions x)

abbrev pub term_form_mentions : Term-F Expr RowVersion Scalar Term → List Mention
term_form_mentions x =
    of_term (map-Term Expr RowVersion Scalar Term (List Mention) (List Mention) (List Mention) (List Mention) mentions version_mentions scalar_mentions term_mentions x)

pub said : (x : Expr-F Expr RowVersion Scalar Term) → mentions (roll-Expr x) ≡ form_mentions x
unfolding mentions version_mentions scalar_mentions term_mentions
said x = fold-roll-Expr (List Mention) (List Mention) (List Mention) (List Mention) of_expr of_version of_scalar of_term x

pub version_said : (x : RowVersion-F Expr RowVersion Scalar Term) → version_mentions (roll-RowVersion x) ≡ version_form_mentions x
unfolding mentions version_mentions scalar_mentions term_mentions
version_said x = fold-roll-RowVersion (List Mention) (List Mention) (List Mention) (List Mention) of_expr of_version of_scalar of_term x

pub scalar_said : (x : Scalar-F Expr RowVersion Scalar Term) → scalar_mentions (roll-Scalar x) ≡ scalar_form_mentions x
unfolding mentions version_mentions scalar_mentions term_mentions
scalar_said x = fold-roll-Scalar (List Mention) (List Mention) (List Mention) (List Mention) of_expr of_version of_scalar of_term x

pub term_said : (x : Term-F Expr RowVersion Scalar Term) → term_mentions (roll-Term x) ≡ term_form_mentions x
unfolding mentions version_mentions scalar_mentions term_mentions
term_said x = fold-roll-Term (List Mention) (List Mention) (List Mention) (List Mention) of_expr of_version of_scalar of_term x

-- those of all values, where each stands in its place
pub each_is : (values : List Expr) → of_each (map mentions values) ≡ of_values values
each_is [] = refl
each_is (value ∷ more) = ap (λ others. mentions value ++ others) (each_is more)

-- what CHANGETABLE(VERSION ..) mentions
pub opened_version : (v : RowVersion) → version_mentions v ≡ of_tracked v.table ∷ OfTuple (Some (length v.columns)) (length (map mentions v.values)) ∷ of_each (map mentions v.values)
unfolding mentions version_mentions scalar_mentions term_mentions
opened_version v = fold_out-RowVersion (List Mention) (List Mention) (List Mention) (List Mention) of_expr of_version of_scalar of_term v
