use Rattle.std.proofs.Common.{◌≡◌, subst}
use Rattle.ct_found.specs.Checkpoint.{PiecesStop}
use Rattle.ct_checkpoint.proofs.Stepping.{whole_checkpoint, stops_behind}
use Rattle.ct_checkpoint.proofs.reading.ended.Goals as goal

pub returns-then-at-bytes-clause-whole : goal.returns-then-at-bytes-clause-whole
returns-then-at-bytes-clause-whole c = whole_checkpoint c.args.bytes.now c.args.db c.args.at c.requires c.if-at-bytes.true

pub returns-else-at-bytes-clause-stopped : goal.returns-else-at-bytes-clause-stopped
returns-else-at-bytes-clause-stopped c = λ offset e.
    let same : c.args.at ≡ offset = cc in
    subst (λ n. PiecesStop c.args.bytes.now n) same (stops_behind c.args.bytes.now c.args.db c.args.at c.requires c.if-at-bytes.false)
