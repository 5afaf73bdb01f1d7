use Rattle.std.proofs.Common.{◌≡◌, ◌++◌, [], map, filter, sym, ap, ◌∙◌, append-nil}
use Rattle.ct_model.specs.Apply.{commit_stays}
use Rattle.ct_database.specs.Commits.{committed}
use Rattle.ct_database.specs.Steps.{commits_of}
use Rattle.ct_database.proofs.Trimmed.{told_trimmed}
use Rattle.ct_database.proofs.told.told.Goals as goal

pub returns : goal.returns
returns c =
    let tables = c.args.tables.now in
    let none : c.loop-pair.pair-iterator ≡ [] = c.in-None.ensures.steps.0 in
    let all : c.into_iter-pair-iterator.result ≡ c.args.sealed.now = c.into_iter-pair-iterator.ensures.into_iter_gives ∙ c.pairs-pair-items.ensures.all in
    sym (append-nil c.loop-pair.made)
    ∙ sym (ap (λ pairs. c.loop-pair.made ++ map committed (filter (commit_stays tables) (commits_of pairs))) none)
    ∙ c.loop-pair.invariant
    ∙ ap (λ pairs. map committed (filter (commit_stays tables) (commits_of pairs))) all
    ∙ told_trimmed tables (commits_of c.args.sealed.now)
