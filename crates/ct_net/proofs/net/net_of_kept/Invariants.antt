use Rattle.std.proofs.Common.{◌≡◌, [], take, fold, map}
use Rattle.ct_model.specs.Net.{changes_above}
use Rattle.ct_net.specs.Steps.{with_change}
use Rattle.ct_net.proofs.net.net_of_kept.Given as goal

abbrev pub invariant-loop-commit : goal.invariant-loop-commit
invariant-loop-commit l =
    l.gathering ≡ record l.initial.gathering { states = fold (with_change l.schema l.masks) [] (changes_above l.schema.id l.floor (map (λ one. one.now) (take l.commit-index l.kept))) }
