use Rattle.std.proofs.Common.{◌≡◌, ◌++◌, ◌∷◌, [], List, None, sym, ap₂, ◌∙◌, subst, arith}
use Rattle.ct_model.specs.declared.db.Table.{Table}
use Rattle.ct_model.specs.Valid.{AreNumbered}
use Rattle.ct_database.specs.Storable.{IsSchemaStorable}
use Rattle.ct_database.proofs.Numbered.{numbered_more}
use Rattle.ct_database.proofs.tables.Tables.define.Goals as goal

pub replace-requires : goal.replace-requires
replace-requires c =
    let tables = c.self.inside.tables.items in
    let table : Table = record { schema = c.args.schema; rows = []; tracked = None } in
    let storable : IsSchemaStorable c.self.inside.tables.items c.args.schema = subst (λ (it : List Table). IsSchemaStorable it c.args.schema) (sym c.self.view_is) c.requires in
    let made : c.push.new.self.items ≡ c.self.inside.tables.items ++ record { schema = c.args.schema; rows = []; tracked = None } ∷ [] =
    c.in_ok-push.ensures.items ∙ ap₂ (λ (front : List Table) (last : Table). front ++ last ∷ []) (c.in_ok-made.ensures ∙ c.as_slice.ensures.value) c.in_ok-new.ensures in
    subst (AreNumbered 1) (sym made) (numbered_more 1 tables table c.self.invariant.numbered (storable.0 ∙ omega arith))
