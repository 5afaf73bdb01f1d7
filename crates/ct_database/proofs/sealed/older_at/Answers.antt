use Rattle.std.proofs.Common.{◌≡◌, ◌∷◌, [], find, sym, ap, ◌∙◌}
use Rattle.ct_ptree.specs.Pairs.{from_key}
use Rattle.ct_database.specs.Steps.{is_version}
use Rattle.ct_database.proofs.Chunks.{first_chunk, found_in_first}
use Rattle.ct_database.proofs.sealed.older_at.Goals as goal

pub returns-in-None : goal.returns-in-None
returns-in-None c =
    let none : from_key c.args.sealed.now c.in_ok-from.from ≡ [] = sym c.range-chunks.ensures ∙ c.in-None.ensures.steps.0 in
    c.at.ensures
    ∙ ap (λ pairs. find (is_version c.args.version) (first_chunk pairs c.args.recent.now)) (sym none)
    ∙ sym (found_in_first c.args.sealed.now c.args.recent.now c.args.version c.in_ok-from.from c.requires.keyed c.requires.rising c.in_ok-from.ensures)

pub returns : goal.returns
returns c =
    let some : from_key c.args.sealed.now c.in_ok-from.from ≡ c.in-Some.pair.now ∷ c.next.new.self = sym c.range-chunks.ensures ∙ c.in-Some.ensures.steps in
    c.at-in-Some.ensures
    ∙ ap (find (is_version c.args.version)) c.deref.ensures
    ∙ ap (λ pairs. find (is_version c.args.version) (first_chunk pairs c.args.recent.now)) (sym some)
    ∙ sym (found_in_first c.args.sealed.now c.args.recent.now c.args.version c.in_ok-from.from c.requires.keyed c.requires.rising c.in_ok-from.ensures)
