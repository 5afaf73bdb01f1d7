-- What a crash may leave over calls of which some change nothing, and what of it is the same in area 0.
use Rattle.std.proofs.Common.{◌≡◌, ◌⊎◌, inl, inr, ⊎_elim, ℕ, ◌≤◌, List, arith, subst, sym, ◌∙◌, ap}
use Rattle.std.proofs.lemmas.Bool.{cases_lt}
use Rattle.ct_faults.specs.Disk.{Image, Changes, Runs, Same, LeavesOnly}
use Rattle.ct_faults.proofs.Moments.{Runs-then}
use Rattle.ct_pages.specs.Flips.{SameHead}

-- an image that is left now was left before, or comes by the step from one that was
pub leaves_now : (before now : ℕ) (past images : ℕ → Image → Type 0) (step : Image → Image → Type 0) (image : Image)
    → Runs before now past images step → images now image → past before image ⊎ ((old : Image) × past before old × step old image)
leaves_now before now past images step image run is = ⊎_elim
    (λ rises. inr (run.during now image rises (omega arith) is))
    (λ stands. inl (subst (λ (m : ℕ). past m image) (now_is stands) (run.kept now image stands is)))
    (cases_lt before now)
  where
    now_is : now ≤ before → now ≡ before
    now_is le = omega (arith, le, run.later)

-- calls that change nothing, and then more calls
pub Runs-after : (before mid now : ℕ) (past between images : ℕ → Image → Type 0) (step : Image → Image → Type 0) → ((image : Image) → past before image → step image image)
    → Runs before mid past between Same → Runs mid now between images step → Runs before now past images step
Runs-after before mid now past between images step still one two = ⊎_elim
    (λ rises. Runs-then before mid now past between images Same step step rises one two
    (λ old image from same. subst (λ (i : Image). step old i) (sym same) (still old from))
    (λ old near image from same is moves. subst (λ (i : Image). step i image) same moves))
    (λ stands. standing (omega (arith, one.later, stands)))
    (cases_lt before mid)
  where
    standing : before ≡ mid → Runs before now past images step
    standing is = record {
      later = omega (arith, two.later);
      keeps = λ m image le was. two.keeps m image (omega (arith, le, is)) (one.keeps m image le was);
      kept = λ m image le was. one.kept m image le (two.kept m image (omega (arith, le, is)) was);
      during = λ m image lt le was.
          let from = two.during m image (omega (arith, lt, is)) le was in
          (from.0, one.kept before from.0 (omega arith) (subst (λ (n : ℕ). between n from.0) (sym is) from.1), from.2);
    }

-- ---- area 0

-- after calls that change nothing it is the same in each image as it was
pub same_after : (before now : ℕ) (past images : ℕ → Image → Type 0) (old new : Image) → Runs before now past images Same → SameHead old (past before) → new ≡ old → SameHead new (images now)
same_after before now past images old new run same stays image is = ⊎_elim
    (λ was. same image was ∙ ap (λ (i : Image). i 0) (sym stays))
    (λ from. ap (λ (i : Image). i 0) from.2 ∙ same from.0 from.1 ∙ ap (λ (i : Image). i 0) (sym stays))
    (leaves_now before now past images Same image run is)

-- and after a sync it is the same in each
pub same_synced : (content : Image) (images : Image → Type 0) → LeavesOnly content images → SameHead content images
same_synced content images only image is = ap (λ (i : Image). i 0) (only image is)

-- one change of area 0 after another
pub both_heads : (first second both : List ℕ → List ℕ → Type 0) (old near image : Image) → Changes 0 first old near → Changes 0 second near image
    → (first (old 0) (near 0) → second (near 0) (image 0) → both (old 0) (image 0)) → Changes 0 both old image
both_heads first second both old near image one two makes = record {
  here = makes one.here two.here;
  elsewhere = λ other ne. two.elsewhere other ne ∙ one.elsewhere other ne;
}
