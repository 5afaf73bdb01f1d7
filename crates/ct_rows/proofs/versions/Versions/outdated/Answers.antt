use Rattle.std.proofs.Common.{◌≡◌, ◌+◌, ◌-◌, true, false, drop, subst, arith}
use Rattle.ct_rows.specs.Versions.{versions_of}
use Rattle.ct_rows.specs.Prunes.{behind, has_row}
use Rattle.ct_rows.proofs.Kept.{row_is, kept_with, kept_without}
use Rattle.ct_rows.proofs.versions.Versions.outdated.Goals as goal

pub returns-then-is_some-clause-rest : goal.returns-then-is_some-clause-rest
returns-then-is_some-clause-rest c =
    let xs = c.as_slice-versions.result.now in
    let end = c.seen_up_to-end.result in
    let it = c.index-versions-end.result in
    let whole : versions_of c.as_slice-versions.result.now ≡ c.args.self.now = rw c.as_slice-versions.ensures.value c.self.view_is in
    let next : c.seen_up_to-end.result ≡ c.seen_up_to-end.result - 1 + 1 = omega arith in
    let rest : behind (versions_of xs) c.args.least ≡ versions_of (drop (end - 1 + 1) xs) = subst (λ n. behind (versions_of xs) c.args.least ≡ versions_of (drop n xs)) next c.seen_up_to-end.ensures.behind in
    let row : has_row c.index-versions-end.result.value ≡ true = row_is c.deref.result.now c.index-versions-end.result.value c.is_some.result true c.deref.ensures c.is_some.ensures c.if-is_some.true in
    rw (← whole) (kept_with c.args.least xs (end - 1) it (omega arith) c.index-versions-end.is (c.seen_up_to-end.ensures.last (omega arith) it c.index-versions-end.is) rest row)

pub returns-else-is_some-clause-rest : goal.returns-else-is_some-clause-rest
returns-else-is_some-clause-rest c =
    let xs = c.as_slice-versions.result.now in
    let it = c.index-versions-end.result in
    let whole : versions_of c.as_slice-versions.result.now ≡ c.args.self.now = rw c.as_slice-versions.ensures.value c.self.view_is in
    let row : has_row c.index-versions-end.result.value ≡ false = row_is c.deref.result.now c.index-versions-end.result.value c.is_some.result false c.deref.ensures c.is_some.ensures c.if-is_some.false in
    rw (← whole) (kept_without c.args.least xs c.seen_up_to-end.result it.value (c.seen_up_to-end.ensures.last (omega arith) it c.index-versions-end.is) c.seen_up_to-end.ensures.behind row)
