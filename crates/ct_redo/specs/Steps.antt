-- What one step of a replay over the database in memory answers.
use Rattle.std.specs.Prelude.{◌≡◌, ℕ, Bool, true, List}
use Rattle.ct_model.specs.declared.db.Db.{Db}
use Rattle.ct_replay.specs.Steps.{IsTried}
use Rattle.ct_redo.specs.Numbers.{AreNumbersWithin}

-- the payload was tried, and where transaction numbers were known to be within the last one, they still are
pub record IsRedone (within : Bool) (db : Db) (payload : List ℕ) (was : Bool) (after : Db) : Type 0 where
  pub tried : IsTried db payload was after
  pub numbers : was ≡ true → within ≡ true → AreNumbersWithin after
