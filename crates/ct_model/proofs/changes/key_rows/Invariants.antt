use Rattle.std.proofs.Common.{◌≡◌, take}
use Rattle.std.specs.Option.{option_map}
use Rattle.std.specs.List.{filter_map}
use Rattle.ct_model.specs.Net.{window, last_of, row_of}
use Rattle.ct_model.proofs.changes.key_rows.Given as goal

abbrev pub invariant-loop-key : goal.invariant-loop-key
invariant-loop-key l = l.made ≡ filter_map (λ key. option_map (row_of l.schema l.masks (window l.changes key)) (last_of (window l.changes key))) (take l.key-index l.keys)
