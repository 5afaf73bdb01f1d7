use Rattle.ct_scan.specs.Readings.{reading}
use Rattle.ct_scan.proofs.Loops.{PinsLater}
use Rattle.ct_scan.proofs.reading.Reader.+pins.Given as goal

abbrev pub invariant-first_pin-loop-operand : goal.invariant-first_pin-loop-operand
invariant-first_pin-loop-operand l = PinsLater (reading l.self.env.now l.self.seen.now l.self.at) l.operands l.operand-index
