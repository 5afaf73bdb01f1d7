use Rattle.std.proofs.Common.{◌++◌, sym, ap, subst, ◌∙◌}
use Rattle.ct_codec.specs.Spellings.{bare_write, spell_write, WriteFits, spell_counted, CountedFit}
use Rattle.ct_codec.proofs.Bare.{commit_fits, spell_commit}
use Rattle.ct_codec.proofs.Turns.{on_ok}
use Rattle.ct_codec.proofs.entry.put_act.Goals as goal

pub put_many-requires : goal.put_many-requires
put_many-requires c = subst (λ l. CountedFit 4 (λ write. WriteFits (bare_write write)) l) (sym c.as_slice.ensures) (commit_fits c.args.act.now c.in-Commit.writes c.in-Commit.is c.requires)

pub returns-in-Commit : goal.returns-in-Commit
returns-in-Commit c =
    on_ok c.put_many.result (λ e.
    e ∙ ap (λ l. c.args.out.now.items ++ spell_counted 4 (λ write. spell_write (bare_write write)) l) c.as_slice.ensures
    ∙ ap (λ l. c.args.out.now.items ++ l) (sym (spell_commit c.args.act.now c.in-Commit.writes c.in-Commit.is))) c.put_many.ensures
