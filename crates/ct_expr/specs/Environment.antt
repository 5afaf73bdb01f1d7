-- What an expression may read besides the row on which it is evaluated.
use Rattle.std.specs.Prelude.{ℕ, List, Option}
use Rattle.ct_types.specs.declared.catalogue.Catalogued.{Catalogued}
use Rattle.ct_types.specs.declared.catalogue.Variables.{Variables}

pub record Environment : Type 0 where
  -- in the order in which the expression numbers them
  pub variables : Variables
  -- the version of the last commit; none where the database does not track changes
  pub current : Option ℕ
  -- the tables that names and ids may mean, with how they are tracked
  pub tables : List Catalogued
