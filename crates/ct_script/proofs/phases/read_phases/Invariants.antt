use Rattle.std.proofs.Common.{◌≡◌, ◌≤◌, ◌+◌, length}
use Rattle.std.specs.Str.Lines.{lines}
use Rattle.ct_script.specs.Reading.{start, run, statements_in}
use Rattle.ct_script.proofs.phases.read_phases.Given as goal

-- the run over the lines that are left answers what the whole run answers
abbrev pub invariant-loop-rest : goal.invariant-loop-rest
invariant-loop-rest l = record {
  run : run (l.number + 1) l.reading (lines l.rest) ≡ run 1 start (lines l.fn.bytes);
  count : l.number + length l.rest ≤ length l.fn.bytes;
  few : statements_in l.reading ≤ l.number;
}

abbrev pub decreases-loop-rest : goal.decreases-loop-rest
decreases-loop-rest l = length l.rest
