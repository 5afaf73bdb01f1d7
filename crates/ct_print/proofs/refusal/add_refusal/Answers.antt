use Rattle.ct_machine.specs.Transcript.{refusal_text}
use Rattle.ct_print.proofs.refusal.add_refusal.Goals as goal

pub returns-in-Syntax : goal.returns-in-Syntax
unfolding refusal_text
returns-in-Syntax c = rw c.in-Syntax.is (rw c.from.ensures at c.add_count.ensures)

pub returns-in-NoColumn : goal.returns-in-NoColumn
unfolding refusal_text
returns-in-NoColumn c = rw c.in-NoColumn.is c.add_named.ensures

pub returns-in-NoObject : goal.returns-in-NoObject
unfolding refusal_text
returns-in-NoObject c = rw c.in-NoObject.is c.add_named-in-NoObject.ensures

pub returns-in-NotNull : goal.returns-in-NotNull
unfolding refusal_text
returns-in-NotNull c = rw c.in-NotNull.is c.add_named-in-NotNull.ensures

pub returns-in-Victim : goal.returns-in-Victim
unfolding refusal_text
returns-in-Victim c = rw c.in-Victim.is c.add_words.ensures

pub returns-in-Blocked : goal.returns-in-Blocked
unfolding refusal_text
returns-in-Blocked c = rw c.in-Blocked.is c.add_blocked.ensures

pub returns-in-Duplicate : goal.returns-in-Duplicate
unfolding refusal_text
returns-in-Duplicate c = rw c.in-Duplicate.is c.add_duplicate.ensures

pub returns-in-Exists : goal.returns-in-Exists
unfolding refusal_text
returns-in-Exists c = rw c.in-Exists.is c.add_named-in-Exists.ensures

pub returns-in-NoCommit : goal.returns-in-NoCommit
unfolding refusal_text
returns-in-NoCommit c = rw c.in-NoCommit.is c.add_words-in-NoCommit.ensures

pub returns-in-NoRollback : goal.returns-in-NoRollback
unfolding refusal_text
returns-in-NoRollback c = rw c.in-NoRollback.is c.add_words-in-NoRollback.ensures

pub returns-in-Conflict : goal.returns-in-Conflict
unfolding refusal_text
returns-in-Conflict c = rw c.in-Conflict.is c.add_conflict.ensures

pub returns-in-Overflow : goal.returns-in-Overflow
unfolding refusal_text
returns-in-Overflow c = rw c.in-Overflow.is c.add_words-in-Overflow.ensures

pub returns-in-TooLong : goal.returns-in-TooLong
unfolding refusal_text
returns-in-TooLong c = rw c.in-TooLong.is c.add_named-in-TooLong.ensures

pub returns-in-LogFull : goal.returns-in-LogFull
unfolding refusal_text
returns-in-LogFull c = rw c.in-LogFull.is c.add_log_full.ensures

pub returns-in-NotTracked : goal.returns-in-NotTracked
unfolding refusal_text
returns-in-NotTracked c = rw c.in-NotTracked.is c.add_named-in-NotTracked.ensures

pub returns-in-AlreadyTracked : goal.returns-in-AlreadyTracked
unfolding refusal_text
returns-in-AlreadyTracked c = rw c.in-AlreadyTracked.is c.add_named-in-AlreadyTracked.ensures

pub returns-in-TrackingOff : goal.returns-in-TrackingOff
unfolding refusal_text
returns-in-TrackingOff c = rw c.in-TrackingOff.is c.add_words-in-TrackingOff.ensures

pub returns-in-InTransaction : goal.returns-in-InTransaction
unfolding refusal_text
returns-in-InTransaction c = rw c.in-InTransaction.is c.add_words-in-InTransaction.ensures

pub returns-in-NoCheckpoint : goal.returns-in-NoCheckpoint
unfolding refusal_text
returns-in-NoCheckpoint c = rw c.in-NoCheckpoint.is c.add_words-in-NoCheckpoint.ensures

pub returns-in-NoLook : goal.returns-in-NoLook
unfolding refusal_text
returns-in-NoLook c = rw c.in-NoLook.is c.add_words-in-NoLook.ensures

pub returns-in-TypeClash : goal.returns-in-TypeClash
unfolding refusal_text
returns-in-TypeClash c = rw c.in-TypeClash.is c.add_words-in-TypeClash.ensures

pub returns-in-BadRetention : goal.returns-in-BadRetention
unfolding refusal_text
returns-in-BadRetention c = rw c.in-BadRetention.is c.add_words-in-BadRetention.ensures

pub returns-in-DiskFault : goal.returns-in-DiskFault
unfolding refusal_text
returns-in-DiskFault c = rw c.in-DiskFault.is c.add_words-in-DiskFault.ensures

pub returns-in-Memory : goal.returns-in-Memory
unfolding refusal_text
returns-in-Memory c = rw c.in-Memory.is c.add_words-in-Memory.ensures

pub returns-in-TablesTracked : goal.returns-in-TablesTracked
unfolding refusal_text
returns-in-TablesTracked c = rw c.in-TablesTracked.is c.add_tables_tracked.ensures

pub returns-in-CheckpointBusy : goal.returns-in-CheckpointBusy
unfolding refusal_text
returns-in-CheckpointBusy c = rw c.in-CheckpointBusy.is c.add_checkpoint_busy.ensures

pub returns-in-BadTable : goal.returns-in-BadTable
unfolding refusal_text
returns-in-BadTable c = rw c.in-BadTable.is (rw c.from-in-BadTable.ensures at c.add_count-in-BadTable.ensures)

pub returns-in-Ambiguous : goal.returns-in-Ambiguous
unfolding refusal_text
returns-in-Ambiguous c = rw c.in-Ambiguous.is c.add_named-in-Ambiguous.ensures

pub returns-in-NoVariable : goal.returns-in-NoVariable
unfolding refusal_text
returns-in-NoVariable c = rw c.in-NoVariable.is c.add_named-in-NoVariable.ensures

pub returns-in-VariableExists : goal.returns-in-VariableExists
unfolding refusal_text
returns-in-VariableExists c = rw c.in-VariableExists.is c.add_named-in-VariableExists.ensures

pub returns-in-KeyUpdate : goal.returns-in-KeyUpdate
unfolding refusal_text
returns-in-KeyUpdate c = rw c.in-KeyUpdate.is c.add_named-in-KeyUpdate.ensures

pub returns-in-CountClash : goal.returns-in-CountClash
unfolding refusal_text
returns-in-CountClash c = rw c.in-CountClash.is c.add_count_clash.ensures

pub returns-in-TooMany : goal.returns-in-TooMany
unfolding refusal_text
returns-in-TooMany c = rw c.in-TooMany.is (rw c.from-in-TooMany.ensures at c.add_count-in-TooMany.ensures)

pub returns-in-Exhausted : goal.returns-in-Exhausted
unfolding refusal_text
returns-in-Exhausted c = rw c.in-Exhausted.is c.add_count-in-Exhausted.ensures

pub returns-in-Stopped : goal.returns-in-Stopped
unfolding refusal_text
returns-in-Stopped c = rw c.in-Stopped.is c.add_count-in-Stopped.ensures

pub returns-in-NotBuilt : goal.returns-in-NotBuilt
unfolding refusal_text
returns-in-NotBuilt c = rw c.in-NotBuilt.is c.add_words-in-NotBuilt.ensures
