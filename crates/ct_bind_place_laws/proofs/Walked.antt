-- Each refusal of NoColumn, Ambiguous and TypeClash has its cause at a part: by induction over the expression, one case for each form.
use Rattle.std.proofs.Common.{◌≡◌, ◌⊎◌, ℕ, false, List, map, Ok, inl, inr, refl, sym, ap, ◌∙◌, subst}
use Rattle.std.specs.List.{AllByRecursion, Contains}
use Rattle.ct_types.specs.declared.bound.BoundRowVersion.{BoundRowVersion}
use Rattle.ct_types.specs.declared.catalogue.Catalogued.{Catalogued}
use Rattle.ct_types.specs.declared.catalogue.Variable.{Variable}
use Rattle.ct_types.specs.declared.expr.Expr.{Expr, roll-Expr}
use Rattle.ct_types.specs.declared.expr.Expr.TheOpen as e
use Rattle.ct_types.specs.declared.expr.Expr.TheOpen.{RowVersion-F, Scalar-F, Term-F}
use Rattle.ct_types.specs.declared.expr.RowVersion.{RowVersion, roll-RowVersion}
use Rattle.ct_types.specs.declared.expr.Scalar.{Scalar, roll-Scalar}
use Rattle.ct_types.specs.declared.expr.Term.{Term, roll-Term}
use Rattle.ct_types.specs.declared.refusal.Refusal.{Refusal}
use Rattle.ct_types.specs.declared.refusal.Refusal.TheVariants.{NoColumn, Ambiguous, TypeClash, Overflow, NoVariable}
use Rattle.ct_types.specs.declared.schema.Schema.{Schema}
use Rattle.ct_bind_kinds.specs.declared.kind.Kind.{Kind}
use Rattle.ct_bind_kinds.specs.declared.kind.Kind.TheVariants.{Number, Condition}
use Rattle.ct_types.specs.Answers.{Answer, ◌>>=◌}
use Rattle.ct_types.proofs.AnswersCaused.{Caused, ok_caused, weaker, then_caused, after_caused, met_caused, or_caused}
use Rattle.ct_types.proofs.AnswersTaken.{steps, same_Ok}
use Rattle.ct_model.proofs.Members.{all_map}
use Rattle.ct_bind_names.specs.Catalogue.{tracked_table, variable_from, declared_variable}
use Rattle.ct_bind_names.specs.Names.{same}
use Rattle.ct_bind_names.specs.Numbers.{literal, within}
use Rattle.ct_bind_expr.specs.declared.place.Place.{Place}
use Rattle.ct_bind_expr.specs.Versions.{Walk, version_of}
use Rattle.ct_bind_expr.specs.Walk.{TermWalk, walk, version_walk, scalar_walk, term_walk, number_literal, variable, scalar_column}
use Rattle.ct_bind_expr.proofs.Forms.{Known, Form, VersionForm, ScalarForm, TermForm, parts, version_parts, scalar_parts, term_parts, by_forms, form_walk, version_form_walk, scalar_form_walk, walked, version_walked, scalar_walked, term_walked}
use Rattle.ct_bind_place_laws.specs.Causes.{IsTable, OfVersion, OfScalar, OfForm, HasCause}
use Rattle.ct_bind_place_laws.specs.Columns.{IsNotShown}
use Rattle.ct_bind_place_laws.specs.Laws.{ExpressionsHaveCauses}
use Rattle.ct_bind_place_laws.specs.Parts as of
use Rattle.ct_bind_place_laws.specs.Parts.{IsOperand, HasPart, itself, inside}
use Rattle.ct_bind_place_laws.proofs.Columns.{column_by, version_column_by}
use Rattle.ct_bind_place_laws.proofs.Members.{each_is_in}
use Rattle.ct_bind_place_laws.proofs.Operands.{NoOperand, IsFine, IsFineTerm, min_valid_version_by, object_id_by, negative_by, negated_by, is_null_by, is_not_null_by, column_in_mask_by, if_null_by, compare_by, property_by, chain_by, sum_by}
use Rattle.ct_bind_place_laws.proofs.Versions.{tracked_by, tracked_is, version_of_by}

module _ (tables : List Catalogued) (variables : List Variable) where
  abbrev OfExpr : Expr → Type 0
  OfExpr x = (place : Place) → Caused (HasCause tables variables place x) (walk tables variables x place)

  -- what CHANGETABLE(VERSION ..) refuses is its own, or that of a value
  abbrev CauseOfVersion : Place → RowVersion → Refusal → Type 0
  CauseOfVersion place version refusal = OfVersion tables variables place version refusal ⊎ ((y : Expr) × Contains version.values y × HasCause tables variables place y refusal)

  -- the table whose schema it comes to is one of the name
  abbrev TableIs : RowVersion → Schema → Type 0
  TableIs version schema = (table : Catalogued) × IsTable tables version table × (table.schema ≡ schema)

  record OfRowVersion (version : RowVersion) : Type 0 where
    caused : (place : Place) → Caused (CauseOfVersion place version) (version_walk tables variables version place)
    table : (place : Place) (schema : Schema) (bound : BoundRowVersion) → version_walk tables variables version place ≡ Ok (schema, bound) → TableIs version schema

  abbrev CauseOfScalar : Place → Scalar → Refusal → Type 0
  CauseOfScalar place scalar refusal = OfScalar tables variables place scalar refusal ⊎ ((y : Expr) × Contains scalar.version.values y × HasCause tables variables place y refusal)

  abbrev OfSelect : Scalar → Type 0
  OfSelect scalar = (place : Place) → Caused (CauseOfScalar place scalar) (scalar_walk tables variables scalar place)

  record OfTerm (term : Term) : Type 0 where
    walks : (term_walk tables variables term).1 ≡ walk tables variables term.value
    known : OfExpr term.value

  -- ---- what an operand refuses, its form does

  inherit : {A : Type 0} (x : of.Form) (place : Place) (y : Expr) (answer : Answer A) → IsOperand x y → Caused (HasCause tables variables place y) answer → Caused (HasCause tables variables place (roll-Expr x)) answer
  inherit x place y answer is known = weaker answer (λ refusal cause. (cause.0, inside x is cause.1, cause.2)) known

  own : (x : of.Form) (place : Place) (refusal : Refusal) → OfForm tables variables place x refusal → HasCause tables variables place (roll-Expr x) refusal
  own x place refusal cause = (roll-Expr x, itself, (x, refl, cause))

  fine : (x : of.Form) (place : Place) (wanted : Kind) (p : Known OfExpr) → IsOperand x p.0 → (NoOperand tables variables place wanted p.0 → OfForm tables variables place x TypeClash)
      → IsFine tables variables place (HasCause tables variables place (roll-Expr x)) wanted p.0
  fine x place wanted p is bad = (inherit x place p.0 _ is (p.1 place), λ no. own x place TypeClash (bad no))

  all_fine : (x : of.Form) (place : Place) (wanted : Kind) (ps : List (Known OfExpr)) → ((y : Expr) → Contains (map (λ p. p.0) ps) y → IsOperand x y)
      → ((y : Expr) → Contains (map (λ p. p.0) ps) y → NoOperand tables variables place wanted y → OfForm tables variables place x TypeClash)
      → AllByRecursion (IsFine tables variables place (HasCause tables variables place (roll-Expr x)) wanted) (map (λ p. p.0) ps)
  all_fine x place wanted ps operands bad =
      all_map (λ p. Contains (map (λ (q : Known OfExpr). q.0) ps) p.0) (IsFine tables variables place (HasCause tables variables place (roll-Expr x)) wanted) (λ p. p.0)
      (λ p is. fine x place wanted p (operands p.0 is) (bad p.0 is)) ps (each_is_in (λ (p : Known OfExpr). p.0) ps)

  -- ---- what has no operand

  number_by : {Cause : Refusal → Type 0} (digits : List ℕ) → Cause Overflow → Caused Cause (number_literal digits)
  unfolding number_literal literal
  number_by digits cause = then_caused _ _ (then_caused _ _ (or_caused (within 0 9223372036854775807 digits) Overflow (λ _. cause)) (λ n. ok_caused _)) (λ n. ok_caused _)

  variable_by : {Cause : Refusal → Type 0} (name : List ℕ) → Cause (NoVariable name) → Caused Cause (variable tables variables name)
  unfolding variable declared_variable
  variable_by name cause = then_caused _ _ (or_caused (variable_from name 0 variables) (NoVariable name) (λ _. cause)) (λ at. ok_caused _)

  scalar_column_by : {Cause : Refusal → Type 0} (table : Schema) (source alias column : List ℕ) (version : BoundRowVersion) → (same source alias ≡ false → Cause (NoColumn source)) → (IsNotShown table column → Cause (NoColumn column))
      → Caused Cause (scalar_column table source alias column version)
  unfolding scalar_column
  scalar_column_by table source alias column version other none =
      met_caused (same source alias) (NoColumn source) _ other (λ _. then_caused _ _ (version_column_by table column none) (λ shown. ok_caused _))

  -- ---- the forms

  scalar_own : (scalar : Scalar) (place : Place) (refusal : Refusal) → OfScalar tables variables place scalar refusal → OfForm tables variables place (e.Scalar scalar) refusal
  scalar_own scalar place (NoColumn name) cause = cause
  scalar_own scalar place (Ambiguous name) cause = absurd cause
  scalar_own scalar place TypeClash cause = cause
  scalar_own scalar place _ cause = tt

  scalar_by : (place : Place) (s : Known OfSelect) → Caused (HasCause tables variables place (roll-Expr (e.Scalar s.0))) (scalar_walk tables variables s.0 place)
  scalar_by place s =
      weaker (scalar_walk tables variables s.0 place)
      (λ refusal cause. elim cause [
        | inl here ↦ own (e.Scalar s.0) place refusal (scalar_own s.0 place refusal here)
        | inr under ↦ (under.2.0, inside (e.Scalar s.0) under.1 under.2.1, under.2.2)
      ]) (s.1 place)

  all_terms : (first : Expr) (place : Place) (ps : List (Known OfTerm))
      → AllByRecursion (IsFineTerm tables variables place (HasCause tables variables place (roll-Expr (e.Sum first (map (λ p. p.0) ps))))) (map (term_walk tables variables) (map (λ p. p.0) ps))
  all_terms first place ps =
      let terms : List Term = map (λ (p : Known OfTerm). p.0) ps in
      let x : of.Form = e.Sum first terms in
      let Fine : TermWalk → Type 0 = IsFineTerm tables variables place (HasCause tables variables place (roll-Expr x)) in
      all_map (λ t. Fine (term_walk tables variables t)) Fine (term_walk tables variables) (λ t it. it) terms
      (all_map (λ p. Contains terms p.0) (λ t. Fine (term_walk tables variables t)) (λ p. p.0)
      (λ p is. record {
        value = p.0.value;
        is = p.1.walks;
        fine = (inherit x place p.0.value _ (inr (p.0, is, refl)) (p.1.known place), λ no. own x place TypeClash (inr (p.0, is, no)));
      }) ps (each_is_in (λ (p : Known OfTerm). p.0) ps))

  form_by : (y : Form OfExpr OfRowVersion OfSelect OfTerm) (place : Place)
      → Caused (HasCause tables variables place (roll-Expr (parts OfExpr OfRowVersion OfSelect OfTerm y))) (form_walk tables variables (parts OfExpr OfRowVersion OfSelect OfTerm y) place)
  form_by e.Null place = ok_caused _
  form_by (e.Number digits) place = number_by digits (own (e.Number digits) place Overflow tt)
  form_by (e.Text text) place = ok_caused _
  form_by (e.Bytes bytes) place = ok_caused _
  form_by (e.Variable name) place = variable_by name (own (e.Variable name) place (NoVariable name) tt)
  form_by (e.Column name) place =
      column_by place name (λ closed. own (e.Column name) place TypeClash closed) (λ wanted free none. own (e.Column name) place (NoColumn wanted) (free, none))
      (λ wanted free several. own (e.Column name) place (Ambiguous wanted) (free, several))
  form_by e.CurrentVersion place = ok_caused _
  form_by (e.MinValidVersion a) place =
      let x : of.Form = e.MinValidVersion a.0 in
      min_valid_version_by tables variables place a.0 (inherit x place a.0 _ refl (a.1 place)) (λ no. own x place TypeClash no)
  form_by (e.IsColumnInMask a b) place =
      let x : of.Form = e.IsColumnInMask a.0 b.0 in
      column_in_mask_by tables variables place a.0 b.0 (inherit x place a.0 _ (inl refl) (a.1 place)) (inherit x place b.0 _ (inr refl) (b.1 place))
      (λ no. own x place TypeClash (inl no)) (λ no. own x place TypeClash (inr no))
  form_by (e.ObjectId a) place =
      let x : of.Form = e.ObjectId a.0 in
      object_id_by tables variables place a.0 (inherit x place a.0 _ refl (a.1 place)) (λ no. own x place TypeClash no)
  form_by (e.ColumnProperty a b c) place =
      let x : of.Form = e.ColumnProperty a.0 b.0 c.0 in
      property_by tables variables place a.0 b.0 c.0 (inherit x place a.0 _ (inl refl) (a.1 place)) (inherit x place b.0 _ (inr (inl refl)) (b.1 place)) (inherit x place c.0 _ (inr (inr refl)) (c.1 place))
      (λ no. own x place TypeClash (inl no)) (λ no. own x place TypeClash (inr (inl no))) (λ no. own x place TypeClash (inr (inr no)))
  form_by (e.IfNull a b) place =
      let x : of.Form = e.IfNull a.0 b.0 in
      if_null_by tables variables place a.0 b.0 (inherit x place a.0 _ (inl refl) (a.1 place)) (inherit x place b.0 _ (inr refl) (b.1 place)) (λ differ. own x place TypeClash differ)
  form_by (e.Scalar s) place = scalar_by place s
  form_by (e.Negative a) place =
      let x : of.Form = e.Negative a.0 in
      negative_by tables variables place a.0 (inherit x place a.0 _ refl (a.1 place)) (λ no. own x place TypeClash no)
  form_by (e.Product ps) place =
      let x : of.Form = e.Product (map (λ (p : Known OfExpr). p.0) ps) in
      then_caused _ _ (chain_by tables variables place Number _ (all_fine x place Number ps (λ y is. is) (λ y is no. (y, is, no)))) (λ made. ok_caused _)
  form_by (e.Sum first ps) place =
      let x : of.Form = e.Sum first.0 (map (λ (p : Known OfTerm). p.0) ps) in
      then_caused _ _ (sum_by tables variables place first.0 _ (fine x place Number first (inl refl) (λ no. inl no)) (all_terms first.0 place ps)) (λ made. ok_caused _)
  form_by (e.Compare operator a b) place =
      let x : of.Form = e.Compare operator a.0 b.0 in
      compare_by tables variables place operator a.0 b.0 (inherit x place a.0 _ (inl refl) (a.1 place)) (inherit x place b.0 _ (inr refl) (b.1 place)) (λ differ. own x place TypeClash differ)
  form_by (e.IsNull a) place =
      let x : of.Form = e.IsNull a.0 in
      is_null_by tables variables place a.0 (inherit x place a.0 _ refl (a.1 place)) (λ no. own x place TypeClash no)
  form_by (e.IsNotNull a) place =
      let x : of.Form = e.IsNotNull a.0 in
      is_not_null_by tables variables place a.0 (inherit x place a.0 _ refl (a.1 place)) (λ no. own x place TypeClash no)
  form_by (e.Not a) place =
      let x : of.Form = e.Not a.0 in
      negated_by tables variables place a.0 (inherit x place a.0 _ refl (a.1 place)) (λ no. own x place TypeClash no)
  form_by (e.And ps) place =
      let x : of.Form = e.And (map (λ (p : Known OfExpr). p.0) ps) in
      then_caused _ _ (chain_by tables variables place Condition _ (all_fine x place Condition ps (λ y is. is) (λ y is no. (y, is, no)))) (λ made. ok_caused _)
  form_by (e.Or ps) place =
      let x : of.Form = e.Or (map (λ (p : Known OfExpr). p.0) ps) in
      then_caused _ _ (chain_by tables variables place Condition _ (all_fine x place Condition ps (λ y is. is) (λ y is no. (y, is, no)))) (λ made. ok_caused _)

  -- ---- CHANGETABLE(VERSION ..)

  version_by : (y : VersionForm OfExpr OfRowVersion OfSelect OfTerm) (place : Place)
      → Caused (CauseOfVersion place (roll-RowVersion (version_parts OfExpr OfRowVersion OfSelect OfTerm y))) (version_form_walk tables variables (version_parts OfExpr OfRowVersion OfSelect OfTerm y) place)
  version_by y place =
      let x : RowVersion-F Expr RowVersion Scalar Term = version_parts OfExpr OfRowVersion OfSelect OfTerm y in
      let Cause : Refusal → Type 0 = CauseOfVersion place (roll-RowVersion x) in
      let values : List Expr = map (λ (p : Known OfExpr). p.0) y.values in
      let known : AllByRecursion (λ z. Caused Cause (walk tables variables z place)) values =
      all_map (λ p. Contains values p.0) (λ z. Caused Cause (walk tables variables z place)) (λ p. p.0)
      (λ p is. weaker (walk tables variables p.0 place) (λ refusal cause. inr (p.0, is, cause)) (p.1 place)) y.values (each_is_in (λ (p : Known OfExpr). p.0) y.values) in
      after_caused (tracked_table tables y.table) _ (tracked_by tables y.table (inl tt) (inl tt))
      (λ table found. then_caused _ _ (version_of_by tables variables place table.schema y.columns values known (λ wanted got. inl tt)
      (λ name no. inl (table, tracked_is tables y.table table found, no))
      (λ at z name column stands name_is column_is no. inl (table, tracked_is tables y.table table found, (at, z, name, column, stands, name_is, column_is, no)))) (λ bound. ok_caused _))

  -- the schema to which it comes is that of the table
  version_table : (y : VersionForm OfExpr OfRowVersion OfSelect OfTerm) (place : Place) (schema : Schema) (bound : BoundRowVersion)
      → version_form_walk tables variables (version_parts OfExpr OfRowVersion OfSelect OfTerm y) place ≡ Ok (schema, bound) → TableIs (roll-RowVersion (version_parts OfExpr OfRowVersion OfSelect OfTerm y)) schema
  version_table y place schema bound e =
      let x : RowVersion-F Expr RowVersion Scalar Term = version_parts OfExpr OfRowVersion OfSelect OfTerm y in
      let values : List Walk = map (walk tables variables) (map (λ (p : Known OfExpr). p.0) y.values) in
      let first = steps (tracked_table tables y.table) (λ table. version_of table.schema y.columns values place >>= (λ bound. Ok (table.schema, bound))) (schema, bound) e in
      let second = steps (version_of first.came.schema y.columns values place) (λ bound. Ok (first.came.schema, bound)) (schema, bound) first.goes in
      let same : first.came.schema ≡ schema = ap (λ (p : Schema × BoundRowVersion). p.0) (same_Ok (first.came.schema, second.came) (schema, bound) second.goes) in
      (first.came, tracked_is tables y.table first.came first.is, same)

  -- ---- a SELECT in brackets

  version_own : (x : Scalar-F Expr RowVersion Scalar Term) (place : Place) (refusal : Refusal) → OfVersion tables variables place x.version refusal → OfScalar tables variables place (roll-Scalar x) refusal
  version_own x place (NoColumn name) cause = inr cause
  version_own x place (Ambiguous name) cause = absurd cause
  version_own x place TypeClash cause = cause
  version_own x place _ cause = tt

  select_by : (y : ScalarForm OfExpr OfRowVersion OfSelect OfTerm) (place : Place)
      → Caused (CauseOfScalar place (roll-Scalar (scalar_parts OfExpr OfRowVersion OfSelect OfTerm y))) (scalar_form_walk tables variables (scalar_parts OfExpr OfRowVersion OfSelect OfTerm y) place)
  select_by y place =
      let x : Scalar-F Expr RowVersion Scalar Term = scalar_parts OfExpr OfRowVersion OfSelect OfTerm y in
      after_caused (version_walk tables variables y.version.0 place) _
      (weaker (version_walk tables variables y.version.0 place) (λ refusal cause. elim cause [
        | inl here ↦ inl (version_own x place refusal here)
        | inr under ↦ inr under
      ]) (y.version.1.caused place))
      (λ version comes.
      let is : TableIs y.version.0 version.0 = y.version.1.table place version.0 version.1 comes in
      scalar_column_by version.0 y.source y.alias y.column version.1 (λ other. inl (inl (inl (refl, other))))
      (λ none. inl (inl (inr (refl, (is.0, is.1, subst (λ (s : Schema). IsNotShown s y.column) (sym is.2) none))))))

  -- ---- one layer, and the whole

  expr_case : (y : Form OfExpr OfRowVersion OfSelect OfTerm) → OfExpr (roll-Expr (parts OfExpr OfRowVersion OfSelect OfTerm y))
  expr_case y place =
      let x : of.Form = parts OfExpr OfRowVersion OfSelect OfTerm y in
      subst (λ (w : Walk). Caused (HasCause tables variables place (roll-Expr x)) (w place)) (sym (walked tables variables x)) (form_by y place)

  version_case : (y : VersionForm OfExpr OfRowVersion OfSelect OfTerm) → OfRowVersion (roll-RowVersion (version_parts OfExpr OfRowVersion OfSelect OfTerm y))
  version_case y =
      let x : RowVersion-F Expr RowVersion Scalar Term = version_parts OfExpr OfRowVersion OfSelect OfTerm y in
      record {
        caused = λ place. subst (λ w. Caused (CauseOfVersion place (roll-RowVersion x)) (w place)) (sym (version_walked tables variables x)) (version_by y place);
        table = λ place schema bound e. version_table y place schema bound (sym (ap (λ w. w place) (version_walked tables variables x)) ∙ e);
      }

  scalar_case : (y : ScalarForm OfExpr OfRowVersion OfSelect OfTerm) → OfSelect (roll-Scalar (scalar_parts OfExpr OfRowVersion OfSelect OfTerm y))
  scalar_case y place =
      let x : Scalar-F Expr RowVersion Scalar Term = scalar_parts OfExpr OfRowVersion OfSelect OfTerm y in
      subst (λ (w : Walk). Caused (CauseOfScalar place (roll-Scalar x)) (w place)) (sym (scalar_walked tables variables x)) (select_by y place)

  term_case : (y : TermForm OfExpr OfRowVersion OfSelect OfTerm) → OfTerm (roll-Term (term_parts OfExpr OfRowVersion OfSelect OfTerm y))
  term_case y =
      let x : Term-F Expr RowVersion Scalar Term = term_parts OfExpr OfRowVersion OfSelect OfTerm y in
      record { walks = ap (λ (w : TermWalk). w.1) (term_walked tables variables x); known = y.value.1 }

  every : (x : Expr) → OfExpr x
  every = by_forms OfExpr OfRowVersion OfSelect OfTerm expr_case version_case scalar_case term_case

pub expressions_have_causes : ExpressionsHaveCauses
expressions_have_causes tables variables place x refusal e = (every tables variables x place).holds refusal e
