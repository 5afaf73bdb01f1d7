use Rattle.std.proofs.Common.{◌≡◌, IfOk, List, [], take, fold, map, ap, ◌∙◌, subst, arith}
use Rattle.std.proofs.lemmas.Grind.{common_steps}
use denote.Ref.{Bor}
use Rattle.ct_types.specs.declared.entry.Kept.{Kept}
use Rattle.ct_model.specs.Net.{changes_above, net_rows}
use Rattle.ct_net.specs.Standings.{shown}
use Rattle.ct_net.specs.Steps.{with_change}
use Rattle.ct_net.proofs.Shown.{rows_shown}
use Rattle.ct_net.proofs.net.net_of_kept.Goals as goal

pub returns : goal.returns
returns c =
    let changes = changes_above c.args.schema.now.id c.args.floor (map (λ (one : Bor Kept). one.now) c.args.kept.now) in
    let whole : take c.loop-commit.commit-index c.args.kept.now ≡ c.args.kept.now = grind (arith, common_steps) in
    let states : c.loop-commit.gathering.states ≡ fold (with_change c.args.schema.now c.args.masks) [] changes =
    ap (λ it. it.states) c.loop-commit.invariant ∙ ap (λ (kept : List (Bor Kept)). fold (with_change c.args.schema.now c.args.masks) [] (changes_above c.args.schema.now.id c.args.floor (map (λ (one : Bor Kept). one.now) kept))) whole in
    let same : map (λ pair. shown pair.value) c.loop-commit.gathering.states ≡ net_rows c.args.schema.now c.args.masks changes =
    ap (map (λ pair. shown pair.value)) states ∙ rows_shown c.args.schema.now c.args.masks changes in
    subst (λ rows. IfOk c.rows.result (λ made. made ≡ rows)) same c.rows.ensures
