-- Induction over an expression: what each form keeps of its parts holds of every expression; and what a form comes to, by what its parts do.
use Rattle.std.proofs.Common.{◌≡◌, List, subst}
use Rattle.ct_types.specs.declared.catalogue.Catalogued.{Catalogued}
use Rattle.ct_types.specs.declared.catalogue.Variable.{Variable}
use Rattle.ct_types.specs.declared.expr.Expr.{Expr, roll-Expr, map-Expr}
use Rattle.ct_types.specs.declared.expr.Expr.TheOpen.{Expr-F, RowVersion-F, Scalar-F, Term-F}
use Rattle.ct_types.specs.declared.expr.Expr.TheFolds.{fold-roll-Expr, fold-roll-RowVersion, fold-roll-Scalar, fold-roll-Term, ind-Expr}
use Rattle.ct_types.specs.declared.expr.RowVersion.{RowVersion, roll-RowVersion, map-RowVersion}
use Rattle.ct_types.specs.declared.expr.Scalar.{Scalar, roll-Scalar, map-Scalar}
use Rattle.ct_types.specs.declared.expr.Term.{Term, roll-Term, map-Term}
use Rattle.ct_bind_expr.specs.Versions.{Walk}
use Rattle.ct_bind_expr.specs.Walk.{VersionWalk, TermWalk, expr_rule, version_rule, scalar_rule, term_rule, walk, version_walk, scalar_walk, term_walk}

-- a part, with what is known of it
abbrev pub Known : {X : Type 0} → (X → Type 0) → Type 0
Known {X} P = (x : X) × P x

-- ---- forms whose parts stand in their places, each with what is known of it

module _ (P : Expr → Type 0) (Q : RowVersion → Type 0) (R : Scalar → Type 0) (S : Term → Type 0) where
  abbrev pub Form : Type 0
  Form = Expr-F (Known P) (Known Q) (Known R) (Known S)

  abbrev pub VersionForm : Type 0
  VersionForm = RowVersion-F (Known P) (Known Q) (Known R) (Known S)

  abbrev pub ScalarForm : Type 0
  ScalarForm = Scalar-F (Known P) (Known Q) (Known R) (Known S)

  abbrev pub TermForm : Type 0
  TermForm = Term-F (Known P) (Known Q) (Known R) (Known S)

  -- the forms alone
  abbrev pub parts : Form → Expr-F Expr RowVersion Scalar Term
  parts y = map-Expr (Known P) (Known Q) (Known R) (Known S) Expr RowVersion Scalar Term (λ p. p.0) (λ p. p.0) (λ p. p.0) (λ p. p.0) y

  abbrev pub version_parts : VersionForm → RowVersion-F Expr RowVersion Scalar Term
  version_parts y = map-RowVersion (Known P) (Known Q) (Known R) (Known S) Expr RowVersion Scalar Term (λ p. p.0) (λ p. p.0) (λ p. p.0) (λ p. p.0) y

  abbrev pub scalar_parts : ScalarForm → Scalar-F Expr RowVersion Scalar Term
  scalar_parts y = map-Scalar (Known P) (Known Q) (Known R) (Known S) Expr RowVersion Scalar Term (λ p. p.0) (λ p. p.0) (λ p. p.0) (λ p. p.0) y

  abbrev pub term_parts : TermForm → Term-F Expr RowVersion Scalar Term
  term_parts y = map-Term (Known P) (Known Q) (Known R) (Known S) Expr RowVersion Scalar Term (λ p. p.0) (λ p. p.0) (λ p. p.0) (λ p. p.0) y

  pub by_forms : ((y : Form) → P (roll-Expr (parts y))) → ((y : VersionForm) → Q (roll-RowVersion (version_parts y))) → ((y : ScalarForm) → R (roll-Scalar (scalar_parts y)))
      → ((y : TermForm) → S (roll-Term (term_parts y))) → (x : Expr) → P x
  by_forms form version scalar term = ind-Expr P Q R S
      (λ x y is. subst (λ x. P (roll-Expr x)) is (form y))
      (λ x y is. subst (λ x. Q (roll-RowVersion x)) is (version y))
      (λ x y is. subst (λ x. R (roll-Scalar x)) is (scalar y))
      (λ x y is. subst (λ x. S (roll-Term x)) is (term y))

-- ---- what a form comes to, by what its parts do

module _ (tables : List Catalogued) (variables : List Variable) where
  abbrev pub form_walk : Expr-F Expr RowVersion Scalar Term → Walk
  form_walk x = expr_rule tables variables (map-Expr Expr RowVersion Scalar Term Walk VersionWalk Walk TermWalk (walk tables variables) (version_walk tables variables) (scalar_walk tables variables) (term_walk tables variables) x)

  abbrev pub version_form_walk : RowVersion-F Expr RowVersion Scalar Term → VersionWalk
  version_form_walk x = version_rule tables variables (map-RowVersion Expr RowVersion Scalar Term Walk VersionWalk Walk TermWalk (walk tables variables) (version_walk tables variables) (scalar_walk tables variables) (term_walk tables variables) x)

  abbrev pub scalar_form_walk : Scalar-F Expr RowVersion Scalar Term → Walk
  scalar_form_walk x = scalar_rule tables variables (map-Scalar Expr RowVersion Scalar Term Walk VersionWalk Walk TermWalk (walk tables variables) (version_walk tables variables) (scalar_walk tables variables) (term_walk tables variables) x)

  abbrev pub term_form_walk : Term-F Expr RowVersion Scalar Term → TermWalk
  term_form_walk x = term_rule tables variables (map-Term Expr RowVersion Scalar Term Walk VersionWalk Walk TermWalk (walk tables variables) (version_walk tables variables) (scalar_walk tables variables) (term_walk tables variables) x)

  pub walked : (x : Expr-F Expr RowVersion Scalar Term) → walk tables variables (roll-Expr x) ≡ form_walk x
  unfolding walk version_walk scalar_walk term_walk
  walked x = fold-roll-Expr Walk VersionWalk Walk TermWalk (expr_rule tables variables) (version_rule tables variables) (scalar_rule tables variables) (term_rule tables variables) x

  pub version_walked : (x : RowVersion-F Expr RowVersion Scalar Term) → version_walk tables variables (roll-RowVersion x) ≡ version_form_walk x
  unfolding walk version_walk scalar_walk term_walk
  version_walked x = fold-roll-RowVersion Walk VersionWalk Walk TermWalk (expr_rule tables variables) (version_rule tables variables) (scalar_rule tables variables) (term_rule tables variables) x

  pub scalar_walked : (x : Scalar-F Expr RowVersion Scalar Term) → scalar_walk tables variables (roll-Scalar x) ≡ scalar_form_walk x
  unfolding walk version_walk scalar_walk term_walk
  scalar_walked x = fold-roll-Scalar Walk VersionWalk Walk TermWalk (expr_rule tables variables) (version_rule tables variables) (scalar_rule tables variables) (term_rule tables variables) x

  pub term_walked : (x : Term-F Expr RowVersion Scalar Term) → term_walk tables variables (roll-Term x) ≡ term_form_walk x
  unfolding walk version_walk scalar_walk term_walk
  term_walked x = fold-roll-Term Walk VersionWalk Walk TermWalk (expr_rule tables variables) (version_rule tables variables) (scalar_rule tables variables) (term_rule tables variables) x
