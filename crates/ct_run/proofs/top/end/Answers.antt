use Rattle.std.proofs.Common.{List, String, Global, IsTrue, arith}
use Rattle.ct_run.specs.declared.status.Status.{Status}
use Rattle.ct_run.specs.declared.status.Status.TheVariants.{Usage}
use Rattle.ct_run.specs.Top.{IsRun, SourceChange, SinkChange, DiskChange, Runs, Ends}
use Rattle.ct_run.proofs.top.end.Goals as goal

-- a run of the word `run` is what a call with it is
ran : (status : Status) (words : List (String Global)) (source : SourceChange) (sink : SinkChange) (disk : DiskChange)
    → IsRun words → Runs status source sink disk → Ends status words source sink disk
ran Usage words source sink disk is runs = absurd runs
ran status words source sink disk is runs = (is, runs)

pub returns-then-is_run-clause-ends : goal.returns-then-is_run-clause-ends
returns-then-is_run-clause-ends g c = λ disk.
    let told : IsTrue c.is_run.result = grind (arith, c.if-is_run.true) in
    let source : SourceChange = record {
      before = g.S.Source.left c.args.source.now;
      now = g.S.Source.left c.run.new.source;
      faults_before = g.S.Source.faults c.args.source.now;
      faults_now = g.S.Source.faults c.run.new.source;
    } in
    let sink : SinkChange = record {
      before = g.K.Sink.held c.args.sink.now;
      now = g.K.Sink.held c.run.new.sink;
      faults_before = g.K.Sink.faults c.args.sink.now;
      faults_now = g.K.Sink.faults c.run.new.sink;
    } in
    ran c.run.result.0 c.args.words.now source sink disk (c.is_run.ensures.0 told) (c.run.ensures.runs disk)
