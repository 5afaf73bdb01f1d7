use Rattle.std.proofs.Common.{◌≡◌, subst, ◌∙◌, append_assoc}
use Rattle.ct_run.specs.Top.{Says, SinkChange, fault_text}
use Rattle.ct_run.proofs.top.say_fault.Goals as goal

pub returns-clause-ok : goal.returns-clause-ok
returns-clause-ok g c =
    let change : SinkChange = record {
      before = g.K.Sink.held c.args.sink.now;
      now = g.K.Sink.held c.say.new.sink;
      faults_before = g.K.Sink.faults c.args.sink.now;
      faults_now = g.K.Sink.faults c.say.new.sink;
    } in
    let whole = c.as_bytes.ensures.value ∙ c.in_ok-text.ensures.ok in
    let is : c.as_bytes.result.now ≡ fault_text c.args.line c.args.rule = simp append_assoc whole in
    subst (Says change) is c.say.ensures
