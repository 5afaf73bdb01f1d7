-- One step of a walk over items, onto what is made already.
use Rattle.std.proofs.Common.{◌≡◌, ℕ, ◌+◌, List, ◌∷◌, Ok, Err, ap, sym, ◌∙◌, drop}
use Rattle.ct_types.specs.declared.catalogue.Catalogued.{Catalogued}
use Rattle.ct_types.specs.declared.catalogue.Variable.{Variable}
use Rattle.ct_types.specs.declared.refusal.Refusal.{Refusal}
use Rattle.ct_types.specs.declared.stmt.SelectItem.{SelectItem}
use Rattle.ct_types.specs.Answers.{onto}
use Rattle.ct_bind_names.proofs.Walks.{onto_more, onto_stops}
use Rattle.ct_bind_expr.specs.declared.place.Shape.{Shape}
use Rattle.ct_bind.specs.declared.queries.Item.{Item}
use Rattle.ct_bind.specs.Queries.{bound_item, items_of}

pub items_onto : (tables : List Catalogued) (variables : List Variable) (sources : List Shape) (it : SelectItem) (more : List SelectItem) (made later : List Item)
    → onto made (bound_item tables variables sources it) ≡ Ok later
    → onto made (items_of tables variables sources (it ∷ more)) ≡ onto later (items_of tables variables sources more)
unfolding items_of
items_onto tables variables sources it more made later e = onto_more made later (bound_item tables variables sources it) (items_of tables variables sources more) e

pub items_stop : (tables : List Catalogued) (variables : List Variable) (sources : List Shape) (it : SelectItem) (more : List SelectItem) (made : List Item) (refusal : Refusal)
    → bound_item tables variables sources it ≡ Err refusal
    → onto made (items_of tables variables sources (it ∷ more)) ≡ Err refusal
unfolding items_of
items_stop tables variables sources it more made refusal e = onto_stops made (bound_item tables variables sources it) (items_of tables variables sources more) refusal e

-- the same within a list, of which this is the rest
pub items_next : (tables : List Catalogued) (variables : List Variable) (sources : List Shape) (all : List SelectItem) (at : ℕ) (it : SelectItem) (made later : List Item)
    → drop at all ≡ it ∷ drop (at + 1) all
    → onto made (bound_item tables variables sources it) ≡ Ok later
    → onto made (items_of tables variables sources (drop at all)) ≡ items_of tables variables sources all
    → onto later (items_of tables variables sources (drop (at + 1) all)) ≡ items_of tables variables sources all
items_next tables variables sources all at it made later rest step before =
    sym (items_onto tables variables sources it (drop (at + 1) all) made later step)
    ∙ (ap (λ more. onto made (items_of tables variables sources more)) (sym rest) ∙ before)
