-- What a database in memory asks is no more than what applying asks; and which commits tell the changes of a table.
use Rattle.std.specs.Prelude.{◌≡◌, ℕ, List}
use Rattle.ct_types.specs.declared.entry.Entry.{Entry}
use Rattle.ct_types.specs.declared.entry.Kept.{Kept}
use Rattle.ct_model.specs.declared.db.Db.{Db}
use Rattle.ct_model.specs.Applies.{Applies}
use Rattle.ct_model.specs.Net.{changes_above}
use Rattle.ct_database.specs.Commits.{commits_on}
use Rattle.ct_database.specs.Storable.{IsStorable}

-- an entry that applies may be given to a database in memory
abbrev pub ApplyingIsStorable : Type 0
ApplyingIsStorable = (db : Db) (entry : Entry) → Applies db entry → IsStorable db entry

-- leaving out the commits that have no change of a table leaves the changes of the table as they are
abbrev pub ChangesOfOwnCommits : Type 0
ChangesOfOwnCommits = (table floor : ℕ) (kept : List Kept) → changes_above table floor (commits_on table kept) ≡ changes_above table floor kept
