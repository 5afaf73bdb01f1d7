use Rattle.std.proofs.Common.{[], refl, sym, subst, arith}
use Rattle.ct_database.specs.Waiting.{AreStoredIn}
use Rattle.ct_model.specs.Apply.{no_db}
use Rattle.ct_model.specs.declared.db.Db.{Db}
use Rattle.ct_session.specs.Sessions.{SessionState}
use Rattle.ct_state.specs.Machine.{opening}
use Rattle.ct_core.specs.Range.{IsInRange}
use Rattle.ct_core.proofs.core_state.Core.fresh.Goals as goal

pub invariant_of-result : goal.invariant_of-result
invariant_of-result g c = (
  subst (λ (db : Db). IsInRange db 1 c.new.result) (sym c.empty.ensures) (record {
    version = omega arith;
    number = omega arith;
    tables = record { narrow = tt; numbered = tt };
    stored = λ n. subst (λ (session : SessionState). AreStoredIn [] session.pending) (sym (c.new.ensures.fresh n)) tt;
  }),
  (opening no_db, record { db = c.empty.ensures; now = refl; next = refl; sessions = c.new.ensures.holds no_db }),
)

pub returns-clause-stands : goal.returns-clause-stands
returns-clause-stands g c = record { db = c.empty.ensures; now = refl; next = refl; sessions = c.new.ensures.holds no_db }
