use Rattle.std.proofs.Common.{◌≡◌, ◌++◌, [], filter, sym, ap, ◌∙◌, append-nil}
use Rattle.ct_ptree.specs.Pairs.{from_key}
use Rattle.ct_source.specs.Rows.{lent}
use Rattle.ct_database.specs.Steps.{is_later, commits_of}
use Rattle.ct_database.proofs.Chunks.{later_in_range}
use Rattle.ct_database.proofs.sealed.later.Goals as goal

pub returns : goal.returns
returns c =
    let none : c.loop-pair.pair-iterator ≡ [] = c.in-None.ensures.steps.0 in
    let all : c.into_iter-pair-iterator.result ≡ from_key c.args.sealed.now c.in_ok-from.from = c.into_iter-pair-iterator.ensures.into_iter_gives ∙ c.range-pair-items.ensures in
    sym (append-nil (lent c.loop-pair.made))
    ∙ sym (ap (λ pairs. lent c.loop-pair.made ++ filter (is_later c.args.version) (commits_of pairs)) none)
    ∙ c.loop-pair.invariant
    ∙ ap (λ pairs. filter (is_later c.args.version) (commits_of pairs)) all
    ∙ later_in_range c.args.sealed.now c.args.version c.in_ok-from.from c.requires.keyed c.requires.rising c.in_ok-from.ensures
