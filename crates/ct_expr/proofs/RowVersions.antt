-- CHANGETABLE(VERSION ..) by the key that its values make.
use Rattle.std.proofs.Common.{◌≡◌, ◌≢◌, List, Ok, Err, sym, ap, ◌∙◌}
use Rattle.ct_types.specs.declared.bound.BoundExpr.{BoundExpr}
use Rattle.ct_types.specs.declared.bound.BoundExpr.TheFolds.{fold_out-BoundRowVersion}
use Rattle.ct_types.specs.declared.bound.BoundRowVersion.{BoundRowVersion, out-BoundRowVersion}
use Rattle.ct_types.specs.declared.refusal.Refusal.{Refusal}
use Rattle.ct_types.specs.declared.refusal.Refusal.TheVariants.{Memory}
use Rattle.ct_types.specs.declared.tracked.VersionRow.{VersionRow}
use Rattle.ct_types.specs.declared.value.Key.{Key}
use Rattle.ct_types.specs.declared.value.Value.{Value}
use Rattle.ct_types.specs.Answers.{Answer, ◌>>=◌}
use Rattle.ct_expr.specs.Meaning.{Scene, Meaning, Operand, meaning_rule, row_version_rule, scalar_rule, operand_rule, row_version, key}

pub row_version_is : (s : Scene) (x : BoundRowVersion)
    → row_version s x ≡ (key s (out-BoundRowVersion x).values >>= (λ made. Ok (made, s.versions (out-BoundRowVersion x).table made)))
row_version_is s x = fold_out-BoundRowVersion Meaning (Answer (Key × VersionRow)) (Answer Value) Operand (meaning_rule s) (row_version_rule s) scalar_rule operand_rule x

pub found : (s : Scene) (x : BoundRowVersion) (parts : List BoundExpr) (made : Key) (row : VersionRow)
    → parts ≡ (out-BoundRowVersion x).values → key s parts ≡ Ok made → row ≡ s.versions (out-BoundRowVersion x).table made → row_version s x ≡ Ok (made, row)
found s x parts made row are gave is =
    row_version_is s x ∙ ap (λ o. o >>= (λ k. Ok (k, s.versions (out-BoundRowVersion x).table k))) (ap (key s) (sym are) ∙ gave) ∙ ap (λ r. Ok (made, r)) (sym is)

pub refused : (s : Scene) (x : BoundRowVersion) (parts : List BoundExpr) (refusal : Refusal)
    → parts ≡ (out-BoundRowVersion x).values → (refusal ≢ Memory → key s parts ≡ Err refusal) → refusal ≢ Memory → row_version s x ≡ Err refusal
refused s x parts refusal are gave other =
    row_version_is s x ∙ ap (λ o. o >>= (λ k. Ok (k, s.versions (out-BoundRowVersion x).table k))) (ap (key s) (sym are) ∙ gave other)

pub ruleset row_versions = (row_version_is, found, refused)
