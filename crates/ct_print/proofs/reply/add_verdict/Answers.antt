use Rattle.ct_machine.specs.Transcript.{verdict_text}
use Rattle.ct_print.proofs.reply.add_verdict.Goals as goal

pub returns-in-Initialised : goal.returns-in-Initialised
unfolding verdict_text
returns-in-Initialised c = rw c.in-Initialised.is c.add_pair.ensures

pub returns-in-Synced : goal.returns-in-Synced
unfolding verdict_text
returns-in-Synced c = rw c.in-Synced.is c.add_synced.ensures

pub returns-in-Looked : goal.returns-in-Looked
unfolding verdict_text
returns-in-Looked c = rw c.in-Looked.is c.add_pair-in-Looked.ensures

pub returns-in-Reinitialise : goal.returns-in-Reinitialise
unfolding verdict_text
returns-in-Reinitialise c = rw c.in-Reinitialise.is c.add_pair-in-Reinitialise.ensures

pub returns-in-NotTracked : goal.returns-in-NotTracked
unfolding verdict_text
returns-in-NotTracked c = rw c.in-NotTracked.is c.add_words.ensures
