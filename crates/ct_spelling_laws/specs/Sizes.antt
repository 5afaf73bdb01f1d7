-- Which entries and kept commits are short enough for their fields. This project's own.
use Rattle.std.specs.Prelude.{ℕ, ◌^◌, ◌<◌, length}
use Rattle.std.specs.List.{AllByRecursion}
use Rattle.ct_types.specs.declared.entry.Act.{Act}
use Rattle.ct_types.specs.declared.entry.Act.TheVariants.{Commit, Define, Truncate, Enable, Disable, Database, Raise}
use Rattle.ct_types.specs.declared.entry.Entry.{Entry}
use Rattle.ct_types.specs.declared.entry.Kept.{Kept}
use Rattle.ct_model.specs.declared.db.Db.{Db}
use Rattle.ct_codec.specs.Spellings.{spell_entry, bare, spell_kept}

-- how many writes an act has; only a commit has any
abbrev pub count_of_writes : Act → ℕ
count_of_writes (Commit writes) = length writes
count_of_writes (Define schema) = 0
count_of_writes (Truncate table) = 0
count_of_writes (Enable table masks) = 0
count_of_writes (Disable table) = 0
count_of_writes (Database keep) = 0
count_of_writes (Raise minima) = 0

-- the length of an entry's spelling, without the keys of writes that have a row, fits the four bytes of a record
abbrev pub IsShortEntry : Entry → Type 0
IsShortEntry entry = length (spell_entry (bare entry)) < 2 ^ 32

-- the length of a kept commit's spelling fits the four bytes of a piece
abbrev pub IsShortCommit : Kept → Type 0
IsShortCommit kept = length (spell_kept kept) < 2 ^ 32

-- so does that of each kept commit of a database
abbrev pub HasShortCommits : Db → Type 0
HasShortCommits db = AllByRecursion IsShortCommit db.kept
