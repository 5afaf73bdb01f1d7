use Rattle.std.proofs.Common.{◌≡◌, ◌+◌, ◌-◌, true, drop, subst, arith}
use Rattle.ct_rows.specs.Versions.{versions_of, is_seen}
use Rattle.ct_rows.specs.Prunes.{behind}
use Rattle.ct_rows.proofs.Seen.{at_seen, none_at, none_behind, last_here, behind_here}
use Rattle.ct_rows.proofs.versions.seen_up_to.Goals as goal

pub returns-then-deref-view-clause-last : goal.returns-then-deref-view-clause-last
returns-then-deref-view-clause-last c = λ some.
    let next : c.loop-end.end - 1 + 1 ≡ c.loop-end.end = omega arith in
    let seen : is_seen c.args.view c.index-versions-end.result.value ≡ true = at_seen c.args.view c.deref.result.now c.index-versions-end.result.value c.deref.ensures c.if-deref-view.true in
    last_here c.args.view c.args.versions.now (c.loop-end.end - 1) c.index-versions-end.result (omega arith) c.index-versions-end.is seen (rw next c.loop-end.invariant.unseen)

pub returns-then-deref-view-clause-behind : goal.returns-then-deref-view-clause-behind
returns-then-deref-view-clause-behind c =
    let next : c.loop-end.end - 1 + 1 ≡ c.loop-end.end = omega arith in
    let seen : is_seen c.args.view c.index-versions-end.result.value ≡ true = at_seen c.args.view c.deref.result.now c.index-versions-end.result.value c.deref.ensures c.if-deref-view.true in
    subst (λ n. behind (versions_of c.args.versions.now) c.args.view ≡ versions_of (drop n c.args.versions.now)) next
    (behind_here c.args.view c.args.versions.now (c.loop-end.end - 1) c.index-versions-end.result (omega arith) c.index-versions-end.is seen (rw next c.loop-end.invariant.unseen))

pub returns-clause-none : goal.returns-clause-none
returns-clause-none c = λ e. none_at c.args.view (versions_of c.args.versions.now) (rw e at c.loop-end.invariant.unseen)

pub returns-clause-behind : goal.returns-clause-behind
returns-clause-behind c =
    let e : c.loop-end.end ≡ 0 = omega arith in
    rw e (none_behind c.args.view (versions_of c.args.versions.now) (rw e at c.loop-end.invariant.unseen))
