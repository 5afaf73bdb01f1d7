use Rattle.std.proofs.Common.{List, map, sym, ap, ◌∙◌, subst}
use Rattle.ct_model.specs.declared.db.Table.{Table}
use Rattle.ct_model.specs.Apply.{truncated}
use Rattle.ct_model.specs.Valid.{AreNumbered}
use Rattle.ct_database.proofs.Listing.{numbered_truncated}
use Rattle.ct_database.proofs.tables.Tables.truncate.Goals as goal

pub replace-requires : goal.replace-requires
replace-requires c =
    subst (AreNumbered 1) (sym (c.in_ok-made.ensures ∙ ap (λ (tables : List Table). map (truncated c.args.id c.args.version c.args.draws) tables) c.as_slice.ensures.value))
    (numbered_truncated c.args.id c.args.version c.args.draws c.self.inside.tables.items c.self.invariant.numbered)
