-- What a crash may leave, over calls of a disk one after the other.
use Rattle.std.proofs.Common.{◌≡◌, ⊎_elim, ℕ, ◌<◌, ◌≤◌, arith, subst, sym, ◌∙◌}
use Rattle.std.proofs.lemmas.Bool.{cases_lt}
use Rattle.ct_faults.specs.Disk.{Image, Runs, Same}

-- no call was made
pub Runs-none : (now : ℕ) (images : ℕ → Image → Type 0) (step : Image → Image → Type 0) → Runs now now images images step
Runs-none now images step = record {
  later = omega arith;
  keeps = λ m image le was. was;
  kept = λ m image le was. was;
  during = λ m image lt le was. absurd (omega arith);
}

-- the same calls, with a wider step
pub Runs-wider : (before now : ℕ) (past images : ℕ → Image → Type 0) (step wider : Image → Image → Type 0)
    → Runs before now past images step → ((old image : Image) → past before old → step old image → wider old image)
    → Runs before now past images wider
Runs-wider before now past images step wider run widens = record {
  later = run.later;
  keeps = run.keeps;
  kept = run.kept;
  during = λ m image lt le is.
      let from = run.during m image lt le is in
      (from.0, from.1, widens from.0 image from.1 from.2);
}

-- calls that raise the clock, and then more calls: an image comes by the first step, or by both
pub Runs-then : (before mid now : ℕ) (past between images : ℕ → Image → Type 0) (first second both : Image → Image → Type 0) → before < mid
    → Runs before mid past between first → Runs mid now between images second
    → ((old image : Image) → past before old → first old image → both old image)
    → ((old near image : Image) → past before old → first old near → between mid near → second near image → both old image)
    → Runs before now past images both
Runs-then before mid now past between images first second both rises one two once twice = record {
  later = omega (arith, one.later, two.later);
  keeps = λ m image le was. two.keeps m image (omega (arith, one.later)) (one.keeps m image le was);
  kept = λ m image le is. one.kept m image le (two.kept m image (omega (arith, one.later)) is);
  during = λ m image lt le is. ⊎_elim (second_part m image le is) (first_part m image lt is) (cases_lt mid m);
}
  where
    first_part : (m : ℕ) (image : Image) → before < m → images m image → m ≤ mid → (old : Image) × past before old × both old image
    first_part m image lt is le =
        let from = one.during m image lt le (two.kept m image le is) in
        (from.0, from.1, once from.0 image from.1 from.2)

    second_part : (m : ℕ) (image : Image) → m ≤ now → images m image → mid < m → (old : Image) × past before old × both old image
    second_part m image le is lt =
        let near = two.during m image lt le is in
        let from = one.during mid near.0 rises (omega arith) near.1 in
        (from.0, from.1, twice from.0 near.0 image from.1 from.2 near.1 near.2)

-- calls with a step that composes, and then more of them, also where the clock stood still
pub Runs-more : (before mid now : ℕ) (past between images : ℕ → Image → Type 0) (step : Image → Image → Type 0)
    → Runs before mid past between step → Runs mid now between images step
    → ((old near image : Image) → step old near → step near image → step old image)
    → Runs before now past images step
Runs-more before mid now past between images step one two twice = ⊎_elim
    (λ rises. Runs-then before mid now past between images step step step rises one two
    (λ old image from s. s) (λ old near image from s is t. twice old near image s t))
    (λ same. standing (omega (arith, one.later)))
    (cases_lt before mid)
  where
    standing : before ≡ mid → Runs before now past images step
    standing is = record {
      later = omega (arith, two.later);
      keeps = λ m image le was. two.keeps m image (omega arith) (one.keeps m image le was);
      kept = λ m image le was. one.kept m image le (two.kept m image (omega arith) was);
      during = λ m image lt le was.
          let from = two.during m image (omega arith) le was in
          (from.0, one.kept before from.0 (omega arith) (subst (λ (n : ℕ). between n from.0) (sym is) from.1), from.2);
    }

-- calls that change nothing, and then more of them
pub Runs-same : (before mid now : ℕ) (past between images : ℕ → Image → Type 0)
    → Runs before mid past between Same → Runs mid now between images Same → Runs before now past images Same
Runs-same before mid now past between images one two = Runs-more before mid now past between images Same one two (λ old near image s t. t ∙ s)
