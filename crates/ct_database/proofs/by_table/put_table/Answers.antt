use Rattle.std.proofs.Common.{ap, ◌∙◌}
use Rattle.std.specs.Option.{option_copied}
use Rattle.std.proofs.lemmas.Result.{on_ok_weaker}
use Rattle.ct_ptree.specs.Pairs.{set_pair, value_at}
use Rattle.ct_database.specs.Steps.{chunks_on, found_chunks, with_chunk}
use Rattle.ct_database.proofs.ByTable.{table_changed}
use Rattle.ct_database.proofs.by_table.put_table.Goals as goal

pub returns : goal.returns
returns c =
    let chunk = option_copied c.args.chunk in
    let key = c.args.key.now in
    let by_table = c.args.by_table.now in
    on_ok_weaker c.put.result
    (λ e other.
    ap (chunks_on other) (e ∙ ap (λ own. set_pair c.args.made.now own c.in_ok-chunks.chunks) c.in_ok-own.ensures)
    ∙ table_changed c.args.made.now by_table c.args.table other key chunk c.in_ok-chunks.chunks
    (c.in_ok-chunks.ensures ∙ ap (λ found. with_chunk chunk key (found_chunks found)) (c.get.ensures ∙ ap (value_at by_table) c.in_ok-own.ensures)))
    c.put.ensures.ok
