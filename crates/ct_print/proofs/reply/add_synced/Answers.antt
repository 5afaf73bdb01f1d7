use Rattle.std.proofs.Common.{◌++◌, length, flat_map, codes, string_bytes}
use Rattle.std.specs.Fmt.{decimal}
use Rattle.ct_machine.specs.Transcript.{touched_text, verdict_text}
use Rattle.ct_print.proofs.Appends.{appended_twice}
use Rattle.ct_print.proofs.reply.add_synced.Goals as goal

pub returns : goal.returns
unfolding verdict_text
returns c =
    let changes = c.args.changes.now in
    let head = codes "Synced from " ++ decimal c.args.from ++ codes " to " ++ decimal c.args.to ++ codes " changes " ++ decimal (length changes) ++ codes "\n" in
    appended_twice c.add_changes.result (string_bytes c.add_changes.new.out) (string_bytes c.add_synced_head.new.out) (string_bytes c.args.out.now) head (flat_map touched_text changes)
    (rw c.as_slice-changes.ensures at c.in_ok-add_synced_head.ensures) (rw c.as_slice-changes.ensures at c.add_changes.ensures)
