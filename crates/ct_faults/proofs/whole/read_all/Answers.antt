use Rattle.std.proofs.Common.{◌≡◌, ◌≤◌, ◌++◌, ℕ, length, take, arith, subst, sym, Result, Ok, Err, List, Option}
use Rattle.std.specs.Result.{IsErrAnd}
use Rattle.std.proofs.lemmas.Grind.{common_steps}
use Rattle.std.proofs.KnownBytes.{Consumes-trans}
use Rattle.ct_faults.specs.Bytes.{ReadsAll, TakesAtMost, most_bytes}
use Rattle.ct_faults.specs.declared.whole.ReadError.{ReadError}
use Rattle.ct_faults.specs.declared.whole.ReadError.TheVariants.{Memory}
use Rattle.ct_faults.proofs.whole.read_all.Goals as goal

-- of an answer that is want of memory, a whole read says that not too much was taken
ReadsAll-Memory : (old new : Option (List ℕ)) (r : Result (List ℕ) ReadError) → IsErrAnd r (λ e. e ≡ Memory) → TakesAtMost old new → ReadsAll old new r
ReadsAll-Memory old new (Ok bytes) is_memory taken = absurd is_memory
ReadsAll-Memory old new (Err e) is_memory taken = subst (λ x. ReadsAll old new (Err x)) (sym is_memory) taken

-- the last read joins those before
pub returns-then-count-len-clause-bytes : goal.returns-then-count-len-clause-bytes
returns-then-count-len-clause-bytes g c = (
  c.loop-taken.taken.items ++ take c.in_ok-count.count c.read.new.buf,
  Consumes-trans _ _ _ _ _ c.loop-taken.invariant.consumed c.in_ok-count.ensures.bytes.0,
  grind (arith, common_steps),
)

pub returns-in_err-extend_from_slice-clause-bytes : goal.returns-in_err-extend_from_slice-clause-bytes
returns-in_err-extend_from_slice-clause-bytes g c =
    let few : length (c.loop-taken.taken.items ++ take c.in_ok-count.count c.read.new.buf) ≤ most_bytes = grind (arith, common_steps) in
    ReadsAll-Memory _ _ _ c.from_residual-in_err-extend_from_slice.ensures.1 (
      c.loop-taken.taken.items ++ take c.in_ok-count.count c.read.new.buf,
      Consumes-trans _ _ _ _ _ c.loop-taken.invariant.consumed c.in_ok-count.ensures.bytes.0,
      few,
    )
