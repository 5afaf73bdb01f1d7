use Rattle.std.proofs.Common.{◌≡◌, ◌<◌, ◌⊎◌, inl, inr, length, arith}
use Rattle.std.proofs.lemmas.Result.{on_ok_weaker}
use Rattle.ct_database.proofs.Numbered.{none_written, written_at, row_storable}
use Rattle.ct_database.proofs.writes.write_one.Goals as goal

pub write_row-requires : goal.write_row-requires
write_row-requires c =
    row_storable c.args.tables.now.items c.args.write c.in-Some.at c.index_mut.result.now c.requires.numbered c.in-Some.ensures.0 (omega (arith, c.in-Some.ensures.1)) c.index_mut.ensures.value c.requires.storable

pub returns-in-None-clause-ok : goal.returns-in-None-clause-ok
returns-in-None-clause-ok c =
    let out : (c.args.write.table ≡ 0) ⊎ (length c.args.tables.now.items < c.args.write.table) = elim c.in-None.ensures [ inl none ↦ inl none | inr past ↦ inr (omega arith) ] in
    none_written c.args.tables.now.items c.args.write c.requires.numbered out

pub returns-in-Some-clause-ok : goal.returns-in-Some-clause-ok
returns-in-Some-clause-ok c =
    on_ok_weaker c.write_row.result (λ e. written_at c.args.tables.now.items c.args.write c.in-Some.at c.index_mut.result.now c.write_row.new.table c.requires.numbered c.in-Some.ensures.0 (omega (arith, c.in-Some.ensures.1)) c.index_mut.ensures.value e) c.write_row.ensures.ok
