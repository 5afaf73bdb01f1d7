use Rattle.std.proofs.Common.{refl}
use Rattle.std.proofs.lemmas.Result.{on_ok_weaker}
use Rattle.ct_database.proofs.Lasts.{noted_others, noted_settled}
use Rattle.ct_database.proofs.noted.note_one.Goals as goal

pub returns-clause-done : goal.returns-clause-done
returns-clause-done c =
    on_ok_weaker c.note.result
    (λ own older noted. noted_settled older c.args.one.now c.as_slice.result.now c.args.one.now.version c.note.new.lasts c.as_slice.ensures refl
    (noted_others older c.args.one.now c.as_slice.result.now c.args.lasts.now c.note.new.lasts c.as_slice.ensures noted c.note.ensures.others) own)
    c.note.ensures.own

pub returns-clause-others : goal.returns-clause-others
returns-clause-others c =
    λ older noted. noted_others older c.args.one.now c.as_slice.result.now c.args.lasts.now c.note.new.lasts c.as_slice.ensures noted c.note.ensures.others
