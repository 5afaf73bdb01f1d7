use Rattle.ct_machine.specs.Transcript.{reply_text}
use Rattle.ct_print.proofs.reply.add_reply.Goals as goal

pub returns-in-Done : goal.returns-in-Done
unfolding reply_text
returns-in-Done c = rw c.in-Done.is c.add_words.ensures

pub returns-in-Count : goal.returns-in-Count
unfolding reply_text
returns-in-Count c = rw c.in-Count.is c.add_count.ensures

pub returns-in-Rows : goal.returns-in-Rows
unfolding reply_text
returns-in-Rows c = rw c.in-Rows.is c.add_grid.ensures

pub returns-in-Raised : goal.returns-in-Raised
unfolding reply_text
returns-in-Raised c = rw c.in-Raised.is (rw c.from.ensures at c.add_count-in-Raised.ensures)

pub returns-in-Verdict : goal.returns-in-Verdict
unfolding reply_text
returns-in-Verdict c = rw c.in-Verdict.is c.add_verdict.ensures

pub returns-in-Copied : goal.returns-in-Copied
unfolding reply_text
returns-in-Copied c = rw c.in-Copied.is c.add_copy.ensures

pub returns-in-Refused : goal.returns-in-Refused
unfolding reply_text
returns-in-Refused c = rw c.in-Refused.is c.add_refusal.ensures
