use Rattle.std.proofs.Common.{sym, subst}
use Rattle.ct_database.specs.Waiting.{AreStoredIn}
use Rattle.ct_sessions.specs.Seats.{state_in}
use Rattle.ct_core.proofs.Storing.{spares_of}
use Rattle.ct_core.proofs.decide.decide_bound.Goals as goal

pub write_once-requires-clause-spares : goal.write_once-requires-clause-spares
write_once-requires-clause-spares c = spares_of c.args.db.now c.args.bound c.in-Write.write c.in-Write.is c.requires.stores

pub returns-in-EnableTracking-clause-kept : goal.returns-in-EnableTracking-clause-kept
returns-in-EnableTracking-clause-kept c =
    λ newest reaches. c.altered.ensures.kept newest c.args.db.now (state_in c.args.sessions.now.seats c.args.number) (record { narrow = tt; storable = tt })

pub returns-in-DisableTracking-clause-kept : goal.returns-in-DisableTracking-clause-kept
returns-in-DisableTracking-clause-kept c =
    λ newest reaches. c.altered-in-DisableTracking.ensures.kept newest c.args.db.now (state_in c.args.sessions.now.seats c.args.number) (record { narrow = tt; storable = tt })

pub returns-in-TruncateTable-clause-kept : goal.returns-in-TruncateTable-clause-kept
returns-in-TruncateTable-clause-kept c =
    λ newest reaches. c.altered-in-TruncateTable.ensures.kept newest c.args.db.now (state_in c.args.sessions.now.seats c.args.number) (record { narrow = tt; storable = tt })

pub returns-in-Commit-clause-kept : goal.returns-in-Commit-clause-kept
returns-in-Commit-clause-kept c =
    λ newest reaches.
    c.commits.ensures.kept newest c.args.db.now (state_in c.args.sessions.now.seats c.args.number) (subst (AreStoredIn newest.tables) (sym c.pending.ensures) reaches.pending)

pub returns-in-Declare-clause-kept : goal.returns-in-Declare-clause-kept
returns-in-Declare-clause-kept c =
    λ newest reaches. c.decide_declare.ensures.kept newest c.args.db.now (state_in c.args.sessions.now.seats c.args.number) (sym c.requires.variables)
