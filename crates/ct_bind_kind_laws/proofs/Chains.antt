-- That the operands of a chain and of a sum have the kind that is wanted.
use Rattle.std.proofs.Common.{◌≡◌, Bool, true, ◌&&◌, List, [], ◌∷◌, map, Option, Ok, refl, sym, ap, subst, ◌∙◌}
use Rattle.std.specs.List.{list_all}
use Rattle.ct_types.specs.declared.bound.BoundExpr.{BoundExpr}
use Rattle.ct_types.specs.declared.bound.BoundExpr.TheFolds.{fold-roll-BoundTerm}
use Rattle.ct_types.specs.declared.bound.BoundTerm.{BoundTerm}
use Rattle.ct_types.specs.declared.schema.Schema.{Schema}
use Rattle.ct_bind_kinds.specs.declared.kind.Kind.{Kind}
use Rattle.ct_bind_kinds.specs.declared.kind.Kind.TheVariants.{Number}
use Rattle.ct_bind_kinds.specs.WellFormed.{Scope, kind_of, expr_kind, row_version_table, scalar_kind, term_kind, is_of}
use Rattle.ct_types.specs.Answers.{Answer, ◌>>=◌, each}
use Rattle.ct_bind_expr.specs.declared.place.Typed.{Typed}
use Rattle.ct_bind_expr.specs.declared.place.Place.{Place}
use Rattle.ct_bind_expr.specs.Places.{of_kind, closed}
use Rattle.ct_bind_expr.specs.Versions.{Walk, operand}
use Rattle.ct_bind_expr.specs.Walk.{TermWalk, two, both_of_kind, chain, term, further_term, sum}
use Rattle.ct_bind_expr.specs.Walked.{walked, first_two}
use Rattle.ct_bind_expr.proofs.Parts.{chain_walked}
use Rattle.ct_types.proofs.AnswersTaken.{steps, same_Ok}
use Rattle.ct_bind_kind_laws.proofs.Operators.{Kinded, Answered, AllAnswered, term_of, fits, fits_operand}

module _ (s : Scope) where
  pub each_fits : (wanted : Kind) (answers : List (Answer Typed)) (made : List BoundExpr) → AllAnswered s answers
      → each (operand wanted closed) (map walked answers) ≡ Ok made → list_all (fits wanted) (map (kind_of s) made) ≡ true
  unfolding operand
  each_fits wanted [] made all e = let none : [] ≡ made = cc in ap (λ m. list_all (fits wanted) (map (kind_of s) m)) (sym none)
  each_fits wanted (answer ∷ more) made all e =
      let p = steps (answer >>= of_kind wanted) (λ x. each (operand wanted closed) (map walked more) >>= (λ rest. Ok (x ∷ rest))) made e in
      let q = steps answer (of_kind wanted) p.came p.is in
      let r = steps (each (operand wanted closed) (map walked more)) (λ rest. Ok (p.came ∷ rest)) made p.goes in
      let is : p.came ∷ r.came ≡ made = let g = r.goes in cc in
      ap (λ m. list_all (fits wanted) (map (kind_of s) m)) (sym is)
      ∙ ap (λ t. t && list_all (fits wanted) (map (kind_of s) r.came)) (fits_operand s wanted q.came p.came (all.0 q.came q.is) q.goes)
      ∙ each_fits wanted more r.came all.1 r.is

  pub chain_fits : (wanted : Kind) (answers : List (Answer Typed)) (made : List BoundExpr) → AllAnswered s answers
      → chain wanted closed (map walked answers) ≡ Ok made → list_all (fits wanted) (map (kind_of s) made) ≡ true
  chain_fits wanted answers made all e =
      let p = steps (first_two answers) (λ _. each (operand wanted closed) (map walked answers)) made (sym (chain_walked wanted answers) ∙ e) in
      each_fits wanted answers made all p.goes

  -- ---- sums

  abbrev pub AllTerms : Place → List TermWalk → Type 0
  AllTerms place [] = Unit {0}
  AllTerms place (it ∷ more) = Answered s (it.1 place) × AllTerms place more

  pub term_is : (subtracts : Bool) (value : BoundExpr) → term_of s (term subtracts value) ≡ kind_of s value
  term_is subtracts value =
      fold-roll-BoundTerm (Option Kind) (Option Schema) (Option Kind) (Option Kind) (expr_kind s) (row_version_table s) scalar_kind term_kind (record { subtracts = subtracts; value = value })

  abbrev pub TermsFit : List BoundTerm → Type 0
  TermsFit made = list_all (is_of Number) (map (term_of s) made) ≡ true

  one_fits : (subtracts : Bool) (value : BoundExpr) (more : List BoundTerm) → fits Number (kind_of s value) ≡ true → TermsFit more → TermsFit (term subtracts value ∷ more)
  one_fits subtracts value more here rest =
      ap (λ k. is_of Number k && list_all (is_of Number) (map (term_of s) more)) (term_is subtracts value) ∙ ap (λ t. t && list_all (is_of Number) (map (term_of s) more)) here ∙ rest

  terms_fit : (place : Place) (more : List TermWalk) (made : List BoundTerm) → AllTerms place more → each (further_term place) more ≡ Ok made → TermsFit made
  unfolding further_term operand
  terms_fit place [] made all e = subst TermsFit (same_Ok [] made e) refl
  terms_fit place (it ∷ more) made all e =
      let p = steps (further_term place it) (λ x. each (further_term place) more >>= (λ rest. Ok (x ∷ rest))) made e in
      let q = steps (it.1 place >>= of_kind Number) (λ value. Ok (term it.0 value)) p.came p.is in
      let o = steps (it.1 place) (of_kind Number) q.came q.is in
      let r = steps (each (further_term place) more) (λ rest. Ok (p.came ∷ rest)) made p.goes in
      let here : TermsFit (term it.0 q.came ∷ r.came) = one_fits it.0 q.came r.came (fits_operand s Number o.came q.came (all.0 o.came o.is) o.goes) (terms_fit place more r.came all.1 r.is) in
      subst TermsFit (same_Ok (p.came ∷ r.came) made r.goes) (subst (λ (t : BoundTerm). TermsFit (t ∷ r.came)) (same_Ok (term it.0 q.came) p.came q.goes) here)

  abbrev pub SumFits : BoundExpr × List BoundTerm → Type 0
  SumFits made = (fits Number (kind_of s made.0) ≡ true) × TermsFit made.1

  pub sum_fits : (place : Place) (first : Walk) (more : List TermWalk) (made : BoundExpr × List BoundTerm) → Answered s (first place) → AllTerms place more
      → sum place first more ≡ Ok made → SumFits made
  unfolding sum two both_of_kind operand
  sum_fits place first [] made one all e =
      let p = steps (first place >>= of_kind Number) (λ value. Ok (value, [])) made e in
      let q = steps (first place) (of_kind Number) p.came p.is in
      subst SumFits (same_Ok (p.came, []) made p.goes) (fits_operand s Number q.came p.came (one q.came q.is) q.goes, refl)
  sum_fits place first (second ∷ more) made one all e =
      let rest : BoundExpr × BoundExpr → Answer (BoundExpr × List BoundTerm) = λ it. each (further_term place) more >>= (λ terms. Ok (it.0, term second.0 it.1 ∷ terms)) in
      let p = steps (two place first second.1) (λ it. both_of_kind Number it.0 it.1 >>= rest) made e in
      let left = steps (first place) (λ l. second.1 place >>= (λ r. Ok (l, r))) p.came p.is in
      let right = steps (second.1 place) (λ r. Ok (left.came, r)) p.came left.goes in
      let q = steps (both_of_kind Number p.came.0 p.came.1) rest made p.goes in
      let l = steps (of_kind Number p.came.0) (λ l. of_kind Number p.came.1 >>= (λ r. Ok (l, r))) q.came q.is in
      let r = steps (of_kind Number p.came.1) (λ r. Ok (l.came, r)) q.came l.goes in
      let t = steps (each (further_term place) more) (λ terms. Ok (q.came.0, term second.0 q.came.1 ∷ terms)) made q.goes in
      let walked : (left.came, right.came) ≡ p.came = same_Ok (left.came, right.came) p.came right.goes in
      let are : (l.came, r.came) ≡ q.came = same_Ok (l.came, r.came) q.came r.goes in
      let kinded_left : Kinded s p.came.0 = subst (λ (it : Typed × Typed). Kinded s it.0) walked (one left.came left.is) in
      let kinded_right : Kinded s p.came.1 = subst (λ (it : Typed × Typed). Kinded s it.1) walked (all.0 right.came right.is) in
      let fits_left : fits Number (kind_of s q.came.0) ≡ true = subst (λ (it : BoundExpr × BoundExpr). fits Number (kind_of s it.0) ≡ true) are (fits_operand s Number p.came.0 l.came kinded_left l.is) in
      let fits_right : fits Number (kind_of s q.came.1) ≡ true = subst (λ (it : BoundExpr × BoundExpr). fits Number (kind_of s it.1) ≡ true) are (fits_operand s Number p.came.1 r.came kinded_right r.is) in
      subst SumFits (same_Ok (q.came.0, term second.0 q.came.1 ∷ t.came) made t.goes) (fits_left, one_fits second.0 q.came.1 t.came fits_right (terms_fit place more t.came all.1 t.is))
