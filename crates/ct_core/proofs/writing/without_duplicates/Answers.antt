use Rattle.std.proofs.Common.{◌∙◌, ap}
use Rattle.ct_session.specs.Sessions.{is_open}
use Rattle.ct_core.proofs.writing.without_duplicates.Goals as goal

pub returns-in-None-clause-kept : goal.returns-in-None-clause-kept
returns-in-None-clause-kept c = λ newest db state same reaches. c.counted.ensures.kept newest db state (c.is_open.ensures ∙ ap is_open same) reaches
