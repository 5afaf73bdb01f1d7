use Rattle.std.proofs.Common.{◌≡◌, ℕ, Option, None, Some, IfSome, refl, le_refl}
use Rattle.ct_model.specs.declared.db.Table.{Table}
use Rattle.ct_model.specs.declared.db.Db.{Db}
use Rattle.ct_model_laws.specs.Agrees.{Agrees, CopyAgrees}
use Rattle.ct_model.specs.Tables.{table_of}
use Rattle.ct_model_laws.proofs.laws.rows_agree.Goals as goal

if_some_each : {X : Type 0} (P : X → Type 0) → ((x : X) → P x) → (o : Option X) → IfSome o P
if_some_each P each None = tt
if_some_each P each (Some x) = each x

own_rows : (db : Db) (version : ℕ) (table : Table) → CopyAgrees db version table.rows table
own_rows db version table = if_some_each _ (λ tracked le key differ. absurd (differ refl)) table.tracked

pub returns : goal.returns
returns c = λ db id.
    let step : (o : Option Table) → o ≡ table_of db.tables id → IfSome o (λ table. Agrees db id db.version table.rows) =
    elim [
      | None ↦ (λ e. tt)
      | Some table ↦ (λ e. record { not_ahead = le_refl db.version; rows_agree = rw (← e) (own_rows db db.version table) })
    ] in
    step (table_of db.tables id) refl
