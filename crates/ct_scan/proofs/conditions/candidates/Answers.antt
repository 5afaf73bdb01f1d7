use Rattle.ct_scan.proofs.conditions.candidates.Goals as goal

pub returns-in-Some-Stored : goal.returns-in-Some-Stored
returns-in-Some-Stored c = rw (c.in-Some-Stored.is-0, c.in-Some-Stored.is-1) c.stored_candidates.ensures
