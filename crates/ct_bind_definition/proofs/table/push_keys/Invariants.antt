use Rattle.std.proofs.Common.{◌≡◌, ◌++◌, filter, drop}
use Rattle.ct_bind_definition.specs.Definitions.{is_key_rule}
use Rattle.ct_bind_definition.proofs.table.push_keys.Given as goal

abbrev pub invariant-loop-rule : goal.invariant-loop-rule
invariant-loop-rule l = l.made ++ filter is_key_rule (drop l.rule-index l.rules) ≡ l.initial.made ++ filter is_key_rule l.rules
