-- What names mean to a binder.
use Rattle.std.specs.Prelude.{List}
use Rattle.ct_types.specs.declared.catalogue.Catalogued.{Catalogued}
use Rattle.ct_types.specs.declared.catalogue.Variable.{Variable}
use Rattle.ct_bind_expr.specs.declared.walk.Binder.{Binder}

-- a definition, among the binder's tables and variables
abbrev pub among : {A : Type 0} → Binder → (List Catalogued → List Variable → A) → A
among binder meaning = meaning binder.tables.now binder.variables.now
