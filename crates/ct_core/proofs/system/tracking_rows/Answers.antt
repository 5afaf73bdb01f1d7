use Rattle.std.proofs.Common.{◌∷◌, [], ◌∙◌, ap, arith, take, sym}
use Rattle.std.specs.List.{filter_map}
use Rattle.std.proofs.lemmas.List.Elements.{filter_map-append}
use Rattle.ct_scan.proofs.Asked.{upto_next}
use Rattle.ct_machine.specs.Reads.{shown_tracking}
use Rattle.ct_core.proofs.Rows.{one_picked}
use Rattle.ct_core.proofs.system.tracking_rows.Goals as goal

pub loop-table-preserved : goal.loop-table-preserved
loop-table-preserved c =
    let upto = upto_next c.args.tables.now c.loop-table.table-index c.table-item.result (omega arith) c.table-item.is in
    c.in_ok-push_tracking.ensures ∙ sym (ap (filter_map shown_tracking) upto ∙ filter_map-append shown_tracking (take c.loop-table.table-index c.args.tables.now) (c.table-item.result ∷ []) ∙ one_picked shown_tracking _ c.table-item.result _ (sym c.loop-table.invariant))
