-- The row of one write that is put into the tables.
use Rattle.std.proofs.Common.{◌≡◌, false, List, [], ◌∷◌, map, sym, ap, ◌∙◌, subst}
use Rattle.std.specs.List.{AllByRecursion}
use Rattle.std.specs.Option.{IsSomeAnd}
use Rattle.ct_types.specs.declared.entry.Act.TheVariants.{Commit}
use Rattle.ct_types.specs.declared.entry.Write.{Write}
use Rattle.ct_model.specs.declared.db.Db.{Db}
use Rattle.ct_model.specs.declared.db.Table.{Table}
use Rattle.ct_model.specs.Applies.{WriteFits}
use Rattle.ct_model.specs.Apply.{tables_after, written}
use Rattle.ct_model.specs.Tables.{table_of}
use Rattle.ct_database.specs.Storable.{IsWriteStorable}
use Rattle.ct_database.proofs.Storing.{write_of}

pub write_storable : (tables : List Table) (write : Write) (writes : List Write) → IsSomeAnd (table_of tables write.table) (WriteFits write) → writes ≡ write ∷ [] → AllByRecursion (IsWriteStorable tables) writes
write_storable tables write writes fits one = subst (AllByRecursion (IsWriteStorable tables)) (sym one) (write_of write (table_of tables write.table) fits, tt)

pub put_tables : (old new : Db) (write : Write) (writes : List Write) → writes ≡ write ∷ [] → new ≡ record old { tables = tables_after (Commit writes) old.version false old.tables }
    → new.tables ≡ map (written write) old.tables
put_tables old new write writes one put = ap (λ (db : Db). db.tables) put ∙ ap (λ (ws : List Write). tables_after (Commit ws) old.version false old.tables) one
