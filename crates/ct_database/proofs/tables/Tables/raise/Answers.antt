use Rattle.std.proofs.Common.{◌≡◌, List, map, fold, sym, ap, ◌∙◌, subst}
use Rattle.std.proofs.lemmas.Result.{on_ok_weaker}
use Rattle.ct_model.specs.declared.db.Table.{Table}
use Rattle.ct_model.specs.Apply.{raised}
use Rattle.ct_model.specs.Valid.{AreNumbered}
use Rattle.ct_database.proofs.Listing.{numbered_raised}
use Rattle.ct_database.proofs.Needs.{raised_all, raised_each}
use Rattle.ct_database.proofs.tables.Tables.raise.Goals as goal

pub replace-requires : goal.replace-requires
replace-requires c =
    let each : c.in_ok-made.made.items ≡ fold (λ before listed. map (raised listed) before) c.self.inside.tables.items c.args.minima.now =
    c.in_ok-made.ensures ∙ ap (λ (tables : List Table). map (raised_all c.args.minima.now) tables) c.as_slice.ensures.value ∙ sym (raised_each c.args.minima.now c.self.inside.tables.items) in
    subst (AreNumbered 1) (sym each) (numbered_raised c.args.minima.now c.self.inside.tables.items c.self.invariant.numbered)

pub returns-clause-ok : goal.returns-clause-ok
returns-clause-ok c =
    let each : c.in_ok-made.made.items ≡ fold (λ before listed. map (raised listed) before) c.args.self.now c.args.minima.now =
    c.in_ok-made.ensures ∙ ap (λ (tables : List Table). map (raised_all c.args.minima.now) tables) (c.as_slice.ensures.value ∙ c.self.view_is) ∙ sym (raised_each c.args.minima.now c.args.self.now) in
    on_ok_weaker c.replace.result (λ e. e ∙ each) c.replace.ensures.ok
