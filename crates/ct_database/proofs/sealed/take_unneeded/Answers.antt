use Rattle.std.proofs.Common.{sym, ap, ◌∙◌, if◌then◌else◌, subst}
use Rattle.std.specs.List.{list_any}
use Rattle.ct_ptree.specs.Pairs.{without}
use Rattle.ct_database.specs.Commits.{has_change_of}
use Rattle.ct_database.specs.Steps.{AreByTable, chunks_on}
use Rattle.ct_database.proofs.ByTable.{taken_by_table}
use Rattle.ct_database.proofs.Swept.{taken_keyed, taken_parts}
use Rattle.ct_database.proofs.sealed.take_unneeded.Goals as goal

pub returns-in_ok-take-in-Some-clause-keyed : goal.returns-in_ok-take-in-Some-clause-keyed
returns-in_ok-take-in-Some-clause-keyed c =
    rw c.in_ok-take-in-Some.ensures.ok
    (taken_keyed c.args.tables.now c.in-Some.first c.args.sealed.now c.first_unneeded.ensures.rising (rw c.in-Some.is at c.in_ok-first_unneeded.ensures.first) c.requires.keyed)

pub returns-in_ok-take-in-Some-clause-listed : goal.returns-in_ok-take-in-Some-clause-listed
returns-in_ok-take-in-Some-clause-listed c =
    let first = c.in-Some.first in
    let old = c.args.by_table.now in
    let own = c.in_ok-own-in-Some.own in
    subst (λ sealed. AreByTable sealed own) (sym c.in_ok-take-in-Some.ensures.ok)
    (taken_by_table c.args.tables.now first c.args.sealed.now old own c.first_unneeded.ensures.rising (rw c.in-Some.is at c.in_ok-first_unneeded.ensures.first) c.requires.listed
    (λ table.
    c.in_ok-own-in-Some.ensures table
    ∙ ap (λ commits. if list_any (has_change_of table) commits then without (chunks_on table old) first.key else chunks_on table old) c.deref.ensures))

pub returns-in_ok-take-in-Some-clause-parts : goal.returns-in_ok-take-in-Some-clause-parts
returns-in_ok-take-in-Some-clause-parts c =
    rw c.in_ok-take-in-Some.ensures.ok (taken_parts c.args.tables.now c.in-Some.first c.args.sealed.now c.first_unneeded.ensures.rising (rw c.in-Some.is at c.in_ok-first_unneeded.ensures.first))
