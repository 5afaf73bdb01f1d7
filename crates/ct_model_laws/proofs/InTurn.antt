-- Entries that apply in turn, and what they make of a database.
use Rattle.std.proofs.Common.{◌≡◌, ℕ, List, [], ◌∷◌, ◌++◌, refl, arith}
use Rattle.std.specs.Option.{IsSomeAnd}
use Rattle.ct_types.specs.declared.entry.Entry.{Entry}
use Rattle.ct_types.specs.declared.schema.Schema.{Schema}
use Rattle.ct_model.specs.declared.db.Db.{Db}
use Rattle.ct_model.specs.Applies.{Applies, ApplyInTurn}
use Rattle.ct_model.specs.Apply.{apply, no_db, replay}
use Rattle.ct_model.specs.Tables.{table_of}
use Rattle.ct_model.specs.Valid.{IsValid}
use Rattle.ct_model_laws.proofs.Following.{act_schema}
use Rattle.ct_model_laws.proofs.Validity.{stays_valid}

pub no_db_valid : IsValid no_db
no_db_valid = record {
  version = omega arith;
  time = omega arith;
  last_xdes = omega arith;
  keep = tt;
  few = omega arith;
  numbered = tt;
  names = tt;
  tables = tt;
  kept = tt;
  ordered = tt;
}

-- one entry more

pub replay-push : (db : Db) (entries : List Entry) (entry : Entry) → replay db (entries ++ entry ∷ []) ≡ apply (replay db entries) entry
replay-push db [] entry = refl
replay-push db (first ∷ more) entry = replay-push (apply db first) more entry

pub ApplyInTurn-push : (db : Db) (entries : List Entry) (entry : Entry) → ApplyInTurn db entries → Applies (replay db entries) entry
    → ApplyInTurn db (entries ++ entry ∷ [])
ApplyInTurn-push db [] entry in_turn applies = (applies, tt)
ApplyInTurn-push db (first ∷ more) entry in_turn applies = (in_turn.0, ApplyInTurn-push (apply db first) more entry in_turn.1 applies)

pub replay-valid : (db : Db) (entries : List Entry) → IsValid db → ApplyInTurn db entries → IsValid (replay db entries)
replay-valid db [] valid in_turn = valid
replay-valid db (first ∷ more) valid in_turn = replay-valid (apply db first) more (stays_valid db first valid in_turn.0) in_turn.1

-- some entries behind others

pub ApplyInTurn-parts : (db : Db) (entries more : List Entry) → ApplyInTurn db (entries ++ more) → ApplyInTurn db entries × ApplyInTurn (replay db entries) more
ApplyInTurn-parts db [] more in_turn = (tt, in_turn)
ApplyInTurn-parts db (entry ∷ entries) more in_turn = let rest = ApplyInTurn-parts (apply db entry) entries more in_turn.1 in ((in_turn.0, rest.0), rest.1)

pub replay-append : (db : Db) (entries more : List Entry) → replay db (entries ++ more) ≡ replay (replay db entries) more
replay-append db [] more = refl
replay-append db (entry ∷ entries) more = replay-append (apply db entry) entries more

-- a table that is there is there later, with its schema
pub schema_stays : (schema : Schema) (db : Db) (entries : List Entry) (id : ℕ) → IsSomeAnd (table_of db.tables id) (λ t. t.schema ≡ schema)
    → IsSomeAnd (table_of (replay db entries).tables id) (λ t. t.schema ≡ schema)
unfolding apply
schema_stays schema db [] id found = found
schema_stays schema db (entry ∷ entries) id found =
    schema_stays schema (apply db entry) entries id (act_schema schema entry.version entry.draws entry.act db.tables id found)
