use Rattle.std.proofs.Common.{◌≡◌, ◌==◌, take, fold, map, filter}
use Rattle.ct_net.specs.Steps.{with_change}
use Rattle.ct_net.proofs.gathering.Gathering.add_all.Given as goal

abbrev pub invariant-loop-change : goal.invariant-loop-change
invariant-loop-change l =
    l.self ≡ record l.initial.self { states = fold (with_change l.initial.self.schema.now l.initial.self.masks) l.initial.self.states (map (λ change. record { version = l.version; change = change }) (filter (λ change. change.table == l.initial.self.schema.now.id) (take l.change-index l.changes))) }
