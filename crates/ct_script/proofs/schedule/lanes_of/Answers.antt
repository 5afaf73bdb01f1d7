use Rattle.std.proofs.Common.{◌≡◌, ◌+◌, ◌<◌, ◌++◌, ◌∷◌, [], ℕ, set, get_or, length, nat_eq, count_by, slice_index, sym, ap, subst, ◌∙◌, arith}
use Rattle.std.proofs.lemmas.List.Sums.{fold_push}
use Rattle.indexmap.specs.IndexSet.{insert_key}
use Rattle.ct_script.specs.Schedule.{is_of, named}
use Rattle.std.specs.List.{IsDistinct}
use Rattle.ct_script.specs.Placing.{placed, Counted}
use Rattle.ct_script.proofs.Placements.{placed-push, Counted-push}
use Rattle.ct_script.proofs.schedule.lanes_of.Goals as goal

pub loop-said-preserved : goal.loop-said-preserved
loop-said-preserved c =
    let st = c.in-Some.said in
    let done = c.loop-said.yielded in
    let start = c.args.counts.now in
    let now = c.loop-said.counts in
    let inside : st.session < length now = omega arith in
    let first : slice_index now st.session + 1 ≡ slice_index start st.session + count_by (is_of st.session) done + 1 =
    ap (λ n. n + 1) (c.loop-said.invariant.counted st.session) in
    let is : c.from-session.result ≡ st.session = cc in
    let f : ℕ = get_or now c.from-session.result 0 + 1 in
    let distinct = subst (IsDistinct nat_eq) c.loop-said.invariant.sessions c.loop-said.invariant.distinct in
    record {
      sessions = c.in_ok-place.ensures.sessions ∙ ap (λ ks. insert_key nat_eq ks st.session) c.loop-said.invariant.sessions ∙ sym (fold_push _ _ done st);
      distinct = c.place.ensures.unique;
      lanes = c.in_ok-place.ensures.lanes
          ∙ ap (λ ks. placed ks c.loop-said.lanes.items f st) c.loop-said.invariant.sessions
          ∙ ap (λ ls. placed (named done) ls f st) c.loop-said.invariant.lanes
          ∙ placed-push start done st f distinct (ap (λ n. get_or now n 0 + 1) is ∙ first);
      counted = subst (λ n. Counted start (done ++ st ∷ []) (set now n (get_or now n 0 + 1))) (sym is) (Counted-push start now done st inside c.loop-said.invariant.counted);
    }
