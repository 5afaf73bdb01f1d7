-- What code asks with an environment that it made is what the world of the database answers.
use Rattle.std.proofs.Common.{◌≡◌, ℕ, [], List, map, Result, Ok, Err, ap, subst, ◌∙◌, sym}
use Rattle.ct_types.specs.Answers.{Gives, ◌>>=◌}
use Rattle.ct_types.specs.declared.bound.BoundExpr.{BoundExpr}
use Rattle.ct_types.specs.declared.bound.BoundRowVersion.{BoundRowVersion}
use Rattle.ct_types.specs.declared.bound.BoundWrite.{BoundWrite}
use Rattle.ct_types.specs.declared.entry.Write.{Write}
use Rattle.ct_types.specs.declared.refusal.Refusal.{Refusal}
use Rattle.ct_types.specs.declared.tracked.VersionRow.{VersionRow}
use Rattle.ct_types.specs.declared.value.Key.{Key}
use Rattle.ct_types.specs.declared.value.Row.{Row}
use Rattle.ct_types.specs.declared.value.Value.{Value}
use Rattle.ct_model.specs.declared.db.Table.{Table}
use Rattle.ct_model.specs.Tables.{catalogued}
use Rattle.ct_model.specs.Net.{net}
use Rattle.ct_model.specs.Versions.{row_version as last_version}
use Rattle.ct_expr.specs.Environment.{Environment}
use Rattle.ct_expr.specs.Meaning.{on, row_version, scene, value}
use Rattle.ct_write.specs.Rows.{no_row}
use Rattle.ct_write.specs.Writes.{writes_of}
use Rattle.ct_machine.specs.Reads.{changes_rows, env_of, shown, shown_version, since_of, version_on, world_of}
use Rattle.ct_state.specs.Seen.{Seen}

pub value_of_none : (seen : Seen) (env : Environment) (row : Row) (e : BoundExpr) → env ≡ env_of seen → row ≡ record { 0 = [] }
    → value (scene row env (last_version seen.db)) e ≡ value (on (world_of seen) no_row) e
value_of_none seen env row e is none = ap (λ it. value (scene row it (last_version seen.db)) e) is ∙ ap (λ r. value (scene r (env_of seen) (last_version seen.db)) e) none

pub changes_refused : (seen : Seen) (table : ℕ) (last : BoundExpr) (refusal : Refusal)
    → Gives (value (on (world_of seen) no_row) last) (Err refusal) → Gives (changes_rows seen table last) (Err refusal)
changes_refused seen table last refusal gives = λ told.
    ap (λ answer. answer >>= (λ found. Ok (map shown (net seen.db table (since_of found))))) (gives told)

pub changes_made : (seen : Seen) (table : ℕ) (last : BoundExpr) (found : Value) (made : List Row)
    → value (on (world_of seen) no_row) last ≡ Ok found → made ≡ map shown (net seen.db table (since_of found)) → changes_rows seen table last ≡ Ok made
changes_made seen table last found made gives shows =
    ap (λ answer. answer >>= (λ found. Ok (map shown (net seen.db table (since_of found))))) gives ∙ ap (λ rows. Ok rows) (sym shows)

pub version_refused : (seen : Seen) (env : Environment) (row : Row) (version : BoundRowVersion) (refusal : Refusal) → env ≡ env_of seen
    → Gives (row_version (scene row env (last_version seen.db)) version) (Err refusal) → Gives (version_on seen version row) (Err refusal)
version_refused seen env row version refusal is gives = λ told.
    ap (λ answer. answer >>= (λ found. Ok (shown_version found))) (ap (λ e. row_version (scene row e (last_version seen.db)) version) (sym is) ∙ gives told)

pub version_made : (seen : Seen) (env : Environment) (row : Row) (version : BoundRowVersion) (found : Key × VersionRow) (made : Row) → env ≡ env_of seen
    → row_version (scene row env (last_version seen.db)) version ≡ Ok found → made ≡ shown_version found → version_on seen version row ≡ Ok made
version_made seen env row version found made is gives shows =
    ap (λ answer. answer >>= (λ found. Ok (shown_version found))) (ap (λ e. row_version (scene row e (last_version seen.db)) version) (sym is) ∙ gives) ∙ ap (λ row. Ok row) (sym shows)

pub writes_given : (seen : Seen) (env : Environment) (table : Table) (write : BoundWrite) (result : Result (List Write) Refusal) → env ≡ env_of seen
    → Gives (writes_of (record { env = env; versions = last_version seen.db }) (catalogued table) write table.rows) result → Gives (writes_of (world_of seen) (catalogued table) write table.rows) result
writes_given seen env table write result is gives =
    subst (λ (it : Environment). Gives (writes_of (record { env = it; versions = last_version seen.db }) (catalogued table) write table.rows) result) is gives
