-- What the calls of a disk in memory do to what reads give and to what a crash may leave.
use Rattle.std.proofs.Common.{◌≡◌, ℕ, ◌<◌, ◌≤◌, List, [], ◌∷◌, ◌++◌, length, take, Bool, true, false, if◌then◌else◌, refl, sym, ◌∙◌, ap, subst, arith, length-append, Result, Ok, Err, is_ok, is_err}
use Rattle.std.proofs.lemmas.List.{take_all, take-append-le}
use Rattle.std.specs.Result.{OnOk}
use Rattle.ct_faults.specs.Disk.{Image, Changes, Same, overwritten, IsWritten, IsCut, MayTear, MayCut, Runs, LeavesOnly, TakesRoom}
use Rattle.ct_faults.specs.Causes.{next_count, HasCause}
use Rattle.ct_faults.proofs.Moments.{Runs-none}
use Rattle.ct_disk.specs.Areas.{image_of}
use Rattle.ct_disk.specs.Steps.{Step, with_area, done, Moment, first_moment, next_moment, moment_after, content_after, images_after}
use Rattle.ct_disk.specs.Steps.Step.{Wrote, WasCut, EndedSync}
use Rattle.ct_disk.specs.Held.{area-same, area-other, all-kept}
use Rattle.ct_disk.specs.Mem.{DiskState, content_of, clock_of, images_of, counted, stepped, with_room}

-- one call more

moment-push : (m : Moment) (steps : List Step) (step : Step) → moment_after m (steps ++ step ∷ []) ≡ next_moment (moment_after m steps) step
moment-push m [] step = refl
moment-push m (x ∷ steps) step = moment-push (next_moment m x) steps step

content-done : (m : Moment) (step : Step) → (next_moment m step).content ≡ done m.content step
content-done m (Wrote area at bytes) = refl
content-done m (WasCut area len) = refl
content-done m (EndedSync true) = refl
content-done m (EndedSync false) = refl

pub content-push : (first : Image) (steps : List Step) (step : Step) → content_after first (steps ++ step ∷ []) ≡ done (content_after first steps) step
content-push first steps step = ap (λ (m : Moment). m.content) (moment-push (first_moment first) steps step) ∙ content-done (moment_after (first_moment first) steps) step

-- an image after the call comes so from one before it
abbrev Comes : Step → (Image → Image → Type 0) → Type 1
Comes step way = (m : Moment) (image : Image) → (next_moment m step).images image → m.images m.content → (old : Image) × m.images old × way old image

runs-push : (first : Image) (steps : List Step) (step : Step) (way : Image → Image → Type 0) → Comes step way
    → Runs (length steps) (length (steps ++ step ∷ [])) (images_after first steps) (images_after first (steps ++ step ∷ [])) way
runs-push first steps step way comes = record {
  later = omega (arith, length-append steps (step ∷ []));
  keeps = λ m image le is. subst (λ (l : List Step). (moment_after (first_moment first) l).images image) (sym (take-append-le m steps (step ∷ []) le)) is;
  kept = λ m image le is. subst (λ (l : List Step). (moment_after (first_moment first) l).images image) (take-append-le m steps (step ∷ []) le) is;
  during = λ m image lt le is.
      let last : Moment = moment_after (first_moment first) steps in
      let whole : take m (steps ++ step ∷ []) ≡ steps ++ step ∷ [] = take_all m (steps ++ step ∷ []) (omega (arith, length-append steps (step ∷ []))) in
      let now : (next_moment last step).images image = subst (λ (n : Moment). n.images image) (moment-push (first_moment first) steps step) (subst (λ (l : List Step). (moment_after (first_moment first) l).images image) whole is) in
      let all : take (length steps) steps ≡ steps = take_all (length steps) steps (omega arith) in
      let from = comes last image now (all-kept (first_moment first) steps refl) in
      (from.0, subst (λ (l : List Step). (moment_after (first_moment first) l).images from.0) (sym all) from.1, from.2);
}

wrote-comes : (area at : ℕ) (bytes : List ℕ) → Comes (Wrote area at bytes) (Changes area (MayTear at (length bytes)))
wrote-comes area at bytes = λ m image is has. is

cut-comes : (area len : ℕ) → Comes (WasCut area len) (Changes area (MayCut len))
cut-comes area len = λ m image is has. is

sync-comes : (ok : Bool) → Comes (EndedSync ok) Same
sync-comes true = λ m image is has. (m.content, has, is)
sync-comes false = λ m image is has. is

-- states

module _ (s now : DiskState) (failed : Bool) where
  -- a call that is only counted

  pub counted-content : now ≡ counted s failed → content_of now ≡ content_of s
  counted-content is = ap content_of is

  pub counted-runs : now ≡ counted s failed → Runs (clock_of s) (clock_of now) (images_of s) (images_of now) Same
  counted-runs is = subst (λ (v : DiskState). Runs (clock_of s) (clock_of v) (images_of s) (images_of v) Same) (sym is) (Runs-none (clock_of s) (images_of s) Same)

  pub counted-room : now ≡ counted s failed → TakesRoom 0 0 s.room_calls s.room_bytes now.room_calls now.room_bytes
  counted-room is = subst (λ (v : DiskState). TakesRoom 0 0 s.room_calls s.room_bytes v.room_calls v.room_bytes) (sym is) (record { calls_left = omega arith; bytes_left = omega arith })

  -- a call that is kept

  pub stepped-content : (step : Step) (n : ℕ) → now ≡ counted (stepped s step n) failed → content_of now ≡ done (content_of s) step
  stepped-content step n is = ap content_of is ∙ content-push (image_of s.first) s.steps step

  pub stepped-rises : (step : Step) (n : ℕ) → now ≡ counted (stepped s step n) failed → clock_of s < clock_of now
  stepped-rises step n is = let long : clock_of now ≡ length (s.steps ++ step ∷ []) = ap clock_of is in omega (arith, long, length-append s.steps (step ∷ []))

  stepped-runs : (step : Step) (n : ℕ) (way : Image → Image → Type 0) → now ≡ counted (stepped s step n) failed → Comes step way → Runs (clock_of s) (clock_of now) (images_of s) (images_of now) way
  stepped-runs step n way is comes = subst (λ (v : DiskState). Runs (clock_of s) (clock_of v) (images_of s) (images_of v) way) (sym is) (runs-push (image_of s.first) s.steps step way comes)

  pub stepped-room : (step : Step) (n : ℕ) → now ≡ counted (stepped s step n) failed → 0 < s.room_calls → n ≤ s.room_bytes → TakesRoom 1 n s.room_calls s.room_bytes now.room_calls now.room_bytes
  stepped-room step n is calls bytes = subst (λ (v : DiskState). TakesRoom 1 n s.room_calls s.room_bytes v.room_calls v.room_bytes) (sym is) (record { calls_left = omega (arith, calls); bytes_left = omega (arith, bytes) })

  pub wrote-runs : (area at : ℕ) (bytes : List ℕ) (n : ℕ) → now ≡ counted (stepped s (Wrote area at bytes) n) failed → Runs (clock_of s) (clock_of now) (images_of s) (images_of now) (Changes area (MayTear at (length bytes)))
  wrote-runs area at bytes n is = stepped-runs (Wrote area at bytes) n _ is (wrote-comes area at bytes)

  pub cut-runs : (area len n : ℕ) → now ≡ counted (stepped s (WasCut area len) n) failed → Runs (clock_of s) (clock_of now) (images_of s) (images_of now) (Changes area (MayCut len))
  cut-runs area len n is = stepped-runs (WasCut area len) n _ is (cut-comes area len)

  pub sync-runs : (ok : Bool) (n : ℕ) → now ≡ counted (stepped s (EndedSync ok) n) failed → Runs (clock_of s) (clock_of now) (images_of s) (images_of now) Same
  sync-runs ok n is = stepped-runs (EndedSync ok) n Same is (sync-comes ok)

  pub wrote-changes : (area at : ℕ) (bytes : List ℕ) (n : ℕ) → now ≡ counted (stepped s (Wrote area at bytes) n) failed → Changes area (IsWritten at bytes) (content_of s) (content_of now)
  wrote-changes area at bytes n is =
      let e : content_of now ≡ with_area (content_of s) area (overwritten at bytes (content_of s area)) = stepped-content (Wrote area at bytes) n is in
      record {
        here = ap (λ (i : Image). i area) e ∙ area-same (content_of s) area (overwritten at bytes (content_of s area));
        elsewhere = λ other ne. ap (λ (i : Image). i other) e ∙ area-other (content_of s) area (overwritten at bytes (content_of s area)) other ne;
      }

  pub cut-changes : (area len n : ℕ) → now ≡ counted (stepped s (WasCut area len) n) failed → Changes area (IsCut len) (content_of s) (content_of now)
  cut-changes area len n is =
      let e : content_of now ≡ with_area (content_of s) area (take len (content_of s area)) = stepped-content (WasCut area len) n is in
      record {
        here = ap (λ (i : Image). i area) e ∙ area-same (content_of s) area (take len (content_of s area));
        elsewhere = λ other ne. ap (λ (i : Image). i other) e ∙ area-other (content_of s) area (take len (content_of s area)) other ne;
      }

  pub sync-content : (ok : Bool) (n : ℕ) → now ≡ counted (stepped s (EndedSync ok) n) failed → content_of now ≡ content_of s
  sync-content ok n is = stepped-content (EndedSync ok) n is

  -- after a sync that was one, nothing else is left
  pub sync-leaves : (n : ℕ) → now ≡ counted (stepped s (EndedSync true) n) failed → LeavesOnly (content_of now) (images_of now (clock_of now))
  sync-leaves n is = subst (λ (v : DiskState). LeavesOnly (content_of v) (images_of v (clock_of v))) (sym is) (λ image left.
      let first : Image = image_of s.first in
      let all : List Step = s.steps ++ EndedSync true ∷ [] in
      let last : Moment = moment_after (first_moment first) s.steps in
      let whole : take (length all) all ≡ all = take_all (length all) all (omega arith) in
      let one : (next_moment last (EndedSync true)).images image = subst (λ (m : Moment). m.images image) (moment-push (first_moment first) s.steps (EndedSync true)) (subst (λ (l : List Step). (moment_after (first_moment first) l).images image) whole left) in
      one ∙ sym (content-push first s.steps (EndedSync true)))

-- what holds in any case holds of Ok
pub on_ok : {T E : Type 0} (result : Result T E) (A : Type 0) → A → OnOk result A
on_ok (Ok x) A a = a
on_ok (Err e) A a = tt

-- the same, where the sync is one exactly where it answers Ok
pub sync-leaves-ok : (s now : DiskState) {T E : Type 0} (result : Result T E) (n : ℕ) → now ≡ counted (stepped s (EndedSync (is_ok result)) n) (is_err result) → OnOk result (LeavesOnly (content_of now) (images_of now (clock_of now)))
sync-leaves-ok s now (Ok x) n is = sync-leaves s now false n is
sync-leaves-ok s now (Err e) n is = tt

-- the cause of a fault, of a call that was counted
pub counted-cause : (s now : DiskState) (failed : Bool) {T E : Type 0} (result : Result T E) → now ≡ counted s failed → is_err result ≡ failed → s.faults ≤ now.faults → HasCause s.faults now.faults result
counted-cause s now failed (Ok x) is same later = record { later = later; failed = tt }
counted-cause s now failed (Err e) is same later =
    let rose : now.faults ≡ next_count s.faults = ap (λ (v : DiskState). v.faults) is ∙ ap (λ (b : Bool). if b then next_count s.faults else s.faults) (sym same) in
    record { later = later; failed = subst (λ (n : ℕ). next_count s.faults ≤ n) (sym rose) (omega arith) }

-- a disk that only got room
pub roomed-content : (s now : DiskState) (calls bytes : ℕ) → now ≡ with_room s calls bytes → content_of now ≡ content_of s
roomed-content s now calls bytes is = ap content_of is

pub roomed-runs : (s now : DiskState) (calls bytes : ℕ) → now ≡ with_room s calls bytes → Runs (clock_of s) (clock_of now) (images_of s) (images_of now) Same
roomed-runs s now calls bytes is = subst (λ (v : DiskState). Runs (clock_of s) (clock_of v) (images_of s) (images_of v) Same) (sym is) (Runs-none (clock_of s) (images_of s) Same)
