use Rattle.std.proofs.Common.{◌∙◌}
use Rattle.ct_locks.proofs.Taking.{key_there, no_key_there}
use Rattle.ct_locks.proofs.sessions.key_at.Goals as goal

pub returns-then-is_at : goal.returns-then-is_at
returns-then-is_at c =
    c.key_at.ensures
    ∙ key_there c.args.sessions.now c.place_of-at.result c.args.session c.args.place c.is_at.result c.index-sessions-at.result c.requires c.if-is_at.true
    (c.is_at.ensures.within c.if-is_at.true) c.is_at.ensures.same c.index-sessions-at.is

pub returns : goal.returns
returns c =
    no_key_there c.args.sessions.now c.place_of-at.result c.args.session c.args.place c.is_at.result c.requires c.if-is_at.false
    c.place_of-at.ensures.before c.place_of-at.ensures.at c.is_at.ensures.same
