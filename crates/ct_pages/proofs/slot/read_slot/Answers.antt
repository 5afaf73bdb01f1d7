use Rattle.std.proofs.Common.{refl}
use Rattle.std.proofs.lemmas.Bool.{iff_false}
use Rattle.ct_pages.proofs.Decoding.{spells, open_gate, strange_zeros, strange_fields}
use Rattle.ct_pages.proofs.slot.read_slot.Goals.{else-has_zeros-via-then-has_zeros+else-may_stand, else-has_zeros-via-else-has_zeros}
use Rattle.ct_pages.proofs.slot.read_slot.Goals as goal

pub returns-then-may_stand : goal.returns-then-may_stand
returns-then-may_stand c = record {
  spells = spells c.args.bytes.now c.fields_in-slot.result c.fields_in-slot.ensures.fields c.if-bytes-ne-OPEN.false (c.has_zeros.ensures.0 c.if-has_zeros.true);
  stands = c.may_stand.ensures.0 c.if-may_stand.true;
}

pub returns-else-has_zeros : goal.returns-else-has_zeros
returns-else-has_zeros c =
    let bytes = c.args.bytes.now in
    let opens = open_gate bytes c.requires.size c.if-bytes-ne-OPEN.false in (
      refl,
      c.offset.ensures,
      elim c.else-has_zeros.branch [
        | else-has_zeros-via-then-has_zeros+else-may_stand w ↦ strange_fields c.args.place bytes c.fields_in-slot.result opens c.fields_in-slot.ensures.fits c.fields_in-slot.ensures.fields (iff_false w.may_stand.ensures w.if-may_stand.false)
        | else-has_zeros-via-else-has_zeros w ↦ strange_zeros c.args.place bytes opens (iff_false c.has_zeros.ensures w.if-has_zeros.false)
      ],
    )
