use Rattle.std.proofs.Common.{◌++◌, length, flat_map, codes, string_bytes}
use Rattle.std.specs.Fmt.{decimal}
use Rattle.ct_machine.specs.Transcript.{row_text}
use Rattle.ct_print.proofs.Appends.{appended_twice}
use Rattle.ct_print.proofs.reply.add_copy.Goals as goal

pub returns-in_ok-add_pair-in-Some : goal.returns-in_ok-add_pair-in-Some
returns-in_ok-add_pair-in-Some c =
    let rows = c.in-Some.copied.rows in
    let head = codes "copy version " ++ decimal c.in-Some.copied.noted ++ codes " rows " ++ decimal (length rows) ++ codes "\n" in
    rw c.in-Some.is (appended_twice c.add_rows.result (string_bytes c.add_rows.new.out) (string_bytes c.add_pair.new.out) (string_bytes c.args.out.now) head (flat_map row_text rows)
    (rw c.as_slice-rows.ensures at c.in_ok-add_pair-in-Some.ensures) (rw c.as_slice-rows.ensures at c.add_rows.ensures))
