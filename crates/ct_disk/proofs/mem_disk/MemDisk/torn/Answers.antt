use Rattle.std.proofs.Common.{◌≡◌, ◌∙◌, ℕ, List, [], ap, sym, subst, length, take, drop}
use Rattle.std.proofs.lemmas.Result.{IfOk-weaker}
use Rattle.ct_disk.specs.Areas.{image_of, area_at, contents_of}
use Rattle.ct_disk.specs.Mem.{DiskState, unused, steps_of, CallsWithin, EndsSynced, NoneSynced}
use Rattle.ct_disk.specs.Crash.{torn_at, tear_all, crashed}
use Rattle.ct_disk.specs.declared.call.Call.{Call}
use Rattle.ct_disk.proofs.Placed.{contents-length}
use Rattle.ct_disk.proofs.Crashes.{crashed-again, within-take, within-drop}
use Rattle.ct_disk.proofs.mem_disk.MemDisk.torn.Goals as goal

pub replay_all-requires-clause-count : goal.replay_all-requires-clause-count
replay_all-requires-clause-count c =
    let copied : contents_of c.in_ok-areas.areas.items ≡ contents_of c.self.inside.first.items = c.in_ok-areas.ensures ∙ ap contents_of c.as_slice.ensures.value in
    sym (contents-length c.in_ok-areas.areas.items) ∙ ap length copied ∙ contents-length c.self.inside.first.items ∙ c.self.invariant.first_count

pub replay_all-requires-clause-within : goal.replay_all-requires-clause-within
replay_all-requires-clause-within c =
    let d = c.self.inside in
    let n : ℕ = c.synced_calls-synced.result in
    let front : c.split_at.result.0.now ≡ take n d.calls.items = c.split_at.ensures.front ∙ ap (take n) c.as_slice-3.ensures.value in
    subst (λ (l : List ℕ). CallsWithin (length l) c.split_at.result.0.now) (sym c.as_slice-written.ensures.value)
    (subst (λ (l : List Call). CallsWithin (length d.written.items) l) (sym front) (within-take (length d.written.items) d.calls.items n c.self.invariant.within))

pub replay_all-requires-clause-place : goal.replay_all-requires-clause-place
replay_all-requires-clause-place c = λ h. h

pub replay_all-requires-2-clause-within : goal.replay_all-requires-2-clause-within
replay_all-requires-2-clause-within c =
    let d = c.self.inside in
    let n : ℕ = c.synced_calls-synced.result in
    let back : c.split_at.result.1.now ≡ drop n d.calls.items = c.split_at.ensures.back ∙ ap (drop n) c.as_slice-3.ensures.value in
    subst (λ (l : List ℕ). CallsWithin (length l) c.split_at.result.1.now) (sym c.as_slice-written.ensures.value)
    (subst (λ (l : List Call). CallsWithin (length d.written.items) l) (sym back) (within-drop (length d.written.items) d.calls.items n c.self.invariant.within))

pub replay_all-requires-2-clause-place : goal.replay_all-requires-2-clause-place
replay_all-requires-2-clause-place c = λ h. h

pub returns-clause-left : goal.returns-clause-left
returns-clause-left c =
    let d = c.self.inside in
    let n : ℕ = c.synced_calls-synced.result in
    let torn : List ℕ = c.args.torn.now in
    let written = c.as_slice-written.ensures.value in
    let copied : contents_of c.in_ok-areas.areas.items ≡ contents_of d.first.items = c.in_ok-areas.ensures ∙ ap contents_of c.as_slice.ensures.value in
    let front : c.split_at.result.0.now ≡ take n d.calls.items = c.split_at.ensures.front ∙ ap (take n) c.as_slice-3.ensures.value in
    let back : c.split_at.result.1.now ≡ drop n d.calls.items = c.split_at.ensures.back ∙ ap (drop n) c.as_slice-3.ensures.value in
    let again = torn_at (area_at c.replay_all.new.areas.items) c.replay_all.new.next in
    let left = torn_at (area_at c.replay_all-2.new.areas.items) c.replay_all-2.new.next in
    let is : area_at c.replay_all-2.new.areas.items ≡ crashed torn (area_at d.first.items) (steps_of d.written.items d.calls.items) =
    crashed-again torn d.written.items (area_at d.first.items) d.calls.items n 0 again left
    (subst (λ (l : List Call). EndsSynced (take n l)) c.as_slice-2.ensures.value c.synced_calls-synced.ensures.synced)
    (subst (λ (l : List Call). NoneSynced (drop n l)) c.as_slice-2.ensures.value c.synced_calls-synced.ensures.since)
    (c.in_ok-replay_all.ensures.image ∙ (λ k. tear_all [] (torn_at (image_of (copied k)) 0) (steps_of (written k) (front k))))
    (c.in_ok-replay_all-2.ensures.image ∙ (λ k. tear_all torn (torn_at (area_at c.replay_all.new.areas.items) 0) (steps_of (written k) (back k)))) in
    IfOk-weaker c.over.result _ _
    (λ made e. ap (λ (v : DiskState). image_of v.first) e ∙ is ∙ ap (λ (v : DiskState). crashed torn (image_of v.first) v.steps) c.self.view_is) c.over.ensures

pub returns-clause-fresh : goal.returns-clause-fresh
returns-clause-fresh c = IfOk-weaker c.over.result _ _ (λ made e. e ∙ ap unused (sym (ap (λ (v : DiskState). v.first) e))) c.over.ensures

pub over-requires : goal.over-requires
over-requires c = c.replay_all-2.ensures.count
