use Rattle.ct_scan.specs.Readings.{reading}
use Rattle.ct_scan.proofs.Loops.{QuietSoFar}
use Rattle.ct_scan.proofs.reading.Reader.+quiet.Given as goal

abbrev pub invariant-are_quiet-loop-part : goal.invariant-are_quiet-loop-part
invariant-are_quiet-loop-part l = QuietSoFar (reading l.self.env.now l.self.seen.now l.self.at) l.parts l.part-index
