use Rattle.std.proofs.Common.{◌≡◌, ◌<◌, ◌++◌, ◌∷◌, [], List, length, sym, ap, ◌∙◌, subst, append_assoc}
use Rattle.std.specs.Vec.Iter.{into_iter_items, into_iter_len}
use Rattle.std.proofs.lemmas.Iterator.Adapters.{YieldsList-from_vec}
use Rattle.std.proofs.lemmas.Iterator.Consumers.{YieldsList-end}
use Rattle.std.proofs.lemmas.List.{map-id}
use Rattle.ct_types.specs.declared.entry.Kept.{Kept}
use Rattle.ct_database.specs.Steps.{AreBehind, AreWithin, Rise}
use Rattle.ct_database.proofs.ValidStored.{counted_more, next_newest, still_newest, within_more}
use Rattle.ct_database.proofs.plain.commits_of.Goals as goal

pub add_commit-requires-clause-above : goal.add_commit-requires-clause-above
add_commit-requires-clause-above c =
    let added = c.loop-one.yielded in
    let one = c.in-Some.one in
    let rest = into_iter_items c.next.new.self in
    let step = c.in-Some.ensures.steps.0 in
    let counts : 0 < c.in-Some.one.version = (subst (AreBehind 0) step c.loop-one.invariant.count).0 in
    let rising : Rise (c.loop-one.yielded ++ c.in-Some.one ∷ into_iter_items c.next.new.self) =
    subst (λ (left : List Kept). Rise (added ++ left)) step (subst Rise (sym c.loop-one.invariant.all) c.requires.rising) in
    still_newest added c.loop-one.made.commits one counts c.loop-one.invariant.within (next_newest added one rest rising)

pub loop-one-preserved : goal.loop-one-preserved
loop-one-preserved c =
    let added = c.loop-one.yielded in
    let stored = c.loop-one.made.commits in
    let one = c.in-Some.one in
    let rest = into_iter_items c.next.new.self in
    let step = c.in-Some.ensures.steps.0 in
    record {
      counted = c.in_ok-add_commit.ensures.counted ∙ counted_more c.args.tables.now added stored one c.loop-one.invariant.counted;
      within = λ version all. c.in_ok-add_commit.ensures.within version (within_more added stored one c.loop-one.invariant.within version all);
      count = (subst (AreBehind 0) step c.loop-one.invariant.count).1;
      all = append_assoc added (one ∷ []) rest ∙ ap (λ (left : List Kept). added ++ left) (sym step) ∙ c.loop-one.invariant.all;
    }

pub returns-clause-within : goal.returns-clause-within
returns-clause-within c = λ version all.
    let added = c.loop-one.yielded in
    let items : into_iter_items c.into_iter-one-iterator.result ≡ c.args.kept = cc in
    let count : into_iter_len c.into_iter-one-iterator.result ≡ length c.args.kept = cc in
    let ended = YieldsList-end (YieldsList-from_vec c.args.kept items count) c.loop-one.yielded c.loop-one.one-iterator c.loop-one.yielded_by c.next.result c.next.new.self c.in-None.is c.next.ensures.steps in
    let every : c.args.kept ≡ c.loop-one.yielded = sym ended.0 ∙ map-id c.loop-one.yielded in
    c.loop-one.invariant.within version (subst (AreWithin version) every all)
