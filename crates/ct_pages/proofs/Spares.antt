-- Steps in an area that no slot names.
use Rattle.std.proofs.Common.{inr, ℕ, ◌≤◌, List, subst, arith}
use Rattle.ct_faults.specs.Disk.{Image, Changes, Runs}
use Rattle.ct_faults.proofs.Moments.{Runs-wider}
use Rattle.ct_pages.specs.Slots.{Names, IsNamed, IsLaidOut}
use Rattle.ct_pages.specs.Flips.{SameHead}
use Rattle.ct_pages.specs.Areas.{IsSpare, KeepsNamed}
use Rattle.ct_pages.proofs.Decoding.{unfinished_names_none}

-- where no slot names the area, the named ones stay
pub keeps_named : (area before now : ℕ) (past images : ℕ → Image → Type 0) (way : List ℕ → List ℕ → Type 0) → 1 ≤ area → IsSpare area (past before)
    → Runs before now past images (Changes area way) → Runs before now past images KeepsNamed
keeps_named area before now past images way above spare run = Runs-wider before now past images (Changes area way) KeepsNamed run (λ old image was step. record {
  head = step.elsewhere 0 (λ e. absurd (omega (arith, above, e)));
  named = λ slot other names is. step.elsewhere other (λ e. spare old slot was names (subst (λ a. IsNamed slot a) e is));
})

-- no slot names an area of a disk that is laid out
pub laid_out_spares : (area : ℕ) (content : Image) (images : Image → Type 0) → SameHead content images → IsLaidOut (content 0) → IsSpare area images
laid_out_spares area content images same laid image slot is names named =
    unfinished_names_none (content 0) slot (inr laid) (subst (λ l. Names l slot) (same image is) names)
