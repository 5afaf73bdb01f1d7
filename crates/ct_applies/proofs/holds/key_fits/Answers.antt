use Rattle.ct_applies.proofs.holds.key_fits.Goals as goal

pub returns : goal.returns
returns c = rw (c.as_slice.ensures, c.as_slice-2.ensures, c.as_slice-3.ensures) at c.ids_hold.ensures
