use Rattle.std.proofs.Common.{List, map, sym, ap, ◌∙◌, subst}
use Rattle.ct_model.specs.declared.db.Table.{Table}
use Rattle.ct_model.specs.Apply.{tracked_as}
use Rattle.ct_model.specs.Valid.{AreNumbered}
use Rattle.ct_database.proofs.Listing.{numbered_tracked}
use Rattle.ct_database.proofs.tables.Tables.track.Goals as goal

pub replace-requires : goal.replace-requires
replace-requires c =
    subst (AreNumbered 1) (sym (c.in_ok-made.ensures ∙ ap (λ (tables : List Table). map (tracked_as c.args.id c.args.tracked) tables) c.as_slice.ensures.value))
    (numbered_tracked c.args.id c.args.tracked c.self.inside.tables.items c.self.invariant.numbered)
