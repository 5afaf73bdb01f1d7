-- The calls that a disk in memory keeps.
use Rattle.std.proofs.Common.{◌≡◌, ◌⊎◌, inl, inr, ℕ, ◌+◌, ◌-◌, ◌<◌, ◌≤◌, List, [], ◌∷◌, ◌++◌, length, length-set, set, take, drop, refl, sym, ◌∙◌, ap, subst, arith, length-drop, Vec, vec_capacity}
use Rattle.std.proofs.lemmas.Bool.{cases_eq}
use Rattle.std.proofs.lemmas.List.{take_all, take-append-le, drop-append-le, drop_at, length_push}
use Rattle.std.specs.declared.alloc.Global.{Global}
use Rattle.ct_faults.specs.Disk.{Image}
use Rattle.ct_disk.specs.Areas.{area_at, contents_of, image_of, HaveRoom}
use Rattle.ct_disk.specs.Steps.{Step, with_area, done, content_after}
use Rattle.ct_disk.specs.Steps.Step.{Wrote}
use Rattle.ct_disk.specs.Mem.{step_of, steps_of, CallWithin, CallsWithin, Kept}
use Rattle.ct_disk.specs.declared.call.Call.{Call}
use Rattle.ct_disk.specs.declared.call.Call.TheVariants.{Write, Cut, Sync}
use Rattle.ct_disk.specs.Held.{area-same, area-other}
use Rattle.ct_disk.proofs.Passing.{content-push}
use Rattle.ct_disk.proofs.Placed.{HaveRoom-none, HaveRoom-set, area_at-set, area_at-other}

pub steps_of-push : (written : List ℕ) (calls : List Call) (call : Call) → steps_of written (calls ++ call ∷ []) ≡ steps_of written calls ++ step_of written call ∷ []
steps_of-push written [] call = refl
steps_of-push written (x ∷ calls) call = ap (λ (l : List Step). step_of written x ∷ l) (steps_of-push written calls call)

-- more bytes behind those of the calls change nothing

step_of-more : (written more : List ℕ) (call : Call) → CallWithin (length written) call → step_of (written ++ more) call ≡ step_of written call
step_of-more written more (Write area at from len) within =
    ap (λ (l : List ℕ). Wrote area at (take len l)) (drop-append-le from written more (omega (arith, within.1)))
    ∙ ap (λ (l : List ℕ). Wrote area at l) (take-append-le len (drop from written) more (omega (arith, within.1, length-drop from written)))
step_of-more written more (Cut area len) within = refl
step_of-more written more (Sync ok) within = refl

steps_of-more : (written more : List ℕ) (calls : List Call) → CallsWithin (length written) calls → steps_of (written ++ more) calls ≡ steps_of written calls
steps_of-more written more [] within = refl
steps_of-more written more (x ∷ calls) within = λ i. step_of-more written more x within.0 i ∷ steps_of-more written more calls within.1 i

CallWithin-more : (n m : ℕ) → n ≤ m → (call : Call) → CallWithin n call → CallWithin m call
CallWithin-more n m le (Write area at from len) within = (within.0, omega (arith, within.1))
CallWithin-more n m le (Cut area len) within = within
CallWithin-more n m le (Sync ok) within = tt

CallsWithin-push : (n m : ℕ) → n ≤ m → (calls : List Call) (call : Call) → CallsWithin n calls → CallWithin m call → CallsWithin m (calls ++ call ∷ [])
CallsWithin-push n m le [] call within new = (new, tt)
CallsWithin-push n m le (x ∷ calls) call within new = (CallWithin-more n m le x within.0, CallsWithin-push n m le calls call within.1 new)

-- the steps, with a call more

pub steps-noted : (written : List ℕ) (calls more : List Call) (call : Call) → more ≡ calls ++ call ∷ [] → steps_of written more ≡ steps_of written calls ++ step_of written call ∷ []
steps-noted written calls more call is = ap (steps_of written) is ∙ steps_of-push written calls call

pub steps-wrote : (written after bytes : List ℕ) (calls more : List Call) (area at from : ℕ) → from ≡ length written → CallsWithin (length written) calls
    → after ≡ written ++ bytes → more ≡ calls ++ Write area at from (length bytes) ∷ []
    → steps_of after more ≡ steps_of written calls ++ Wrote area at bytes ∷ []
steps-wrote written after bytes calls more area at from is within e f =
    let own : take (length bytes) (drop (length written) (written ++ bytes)) ≡ bytes =
    (ap (take (length bytes)) (drop_at written bytes (length written) refl) ∙ take_all (length bytes) bytes (omega arith)) in
    (λ i. steps_of (e i) (f i))
    ∙ ap (λ (n : ℕ). steps_of (written ++ bytes) (calls ++ Write area at n (length bytes) ∷ [])) is
    ∙ steps_of-push (written ++ bytes) calls (Write area at (length written) (length bytes))
    ∙ (λ i. steps_of-more written bytes calls within i ++ Wrote area at (own i) ∷ [])

-- an area is changed as a call changes what reads give

pub placed : (old new : List (Vec ℕ Global)) (image : Image) (area : ℕ) (bytes : List ℕ) → ((b : ℕ) → area_at old b ≡ image b) → area_at new area ≡ bytes
    → ((b : ℕ) → (b ≡ area → ⊥) → area_at new b ≡ area_at old b) → (b : ℕ) → area_at new b ≡ with_area image area bytes b
placed old new image area bytes is here others b = elim (cases_eq b area) [
  | inl same ↦ ap (area_at new) same ∙ here ∙ sym (area-same image area bytes) ∙ ap (with_area image area bytes) (sym same)
  | inr other ↦ others b other ∙ is b ∙ sym (area-other image area bytes b other)
]

-- the invariant, with a call more

module _ (first old new : List (Vec ℕ Global)) (calls more : Vec Call Global) (written after : Vec ℕ Global) (room_calls room_bytes left : ℕ) where
  pub kept-step : (step : Step) (call : Call) → Kept first old calls written room_calls room_bytes
      → steps_of after.items more.items ≡ steps_of written.items calls.items ++ step ∷ []
      → more.items ≡ calls.items ++ call ∷ [] → CallWithin (length after.items) call → length written.items ≤ length after.items
      → vec_capacity calls ≤ vec_capacity more → 0 < room_calls → length after.items + left ≤ vec_capacity after
      → length new ≡ 6 → HaveRoom left new
      → ((b : ℕ) → area_at new b ≡ done (content_after (image_of (contents_of first)) (steps_of written.items calls.items)) step b)
      → Kept first new more after (room_calls - 1) left
  kept-step step call k grows noted within longer capacity some fits count room is = record {
    first_count = k.first_count;
    count = count;
    is = λ b. is b ∙ sym (ap (λ (image : Image). image b) (ap (content_after (image_of (contents_of first))) grows ∙ content-push (image_of (contents_of first)) (steps_of written.items calls.items) step));
    within = subst (λ (l : List Call). CallsWithin (length after.items) l) (sym noted) (CallsWithin-push (length written.items) (length after.items) longer calls.items call k.within within);
    calls_fit = omega (arith, ap length noted, length_push calls.items call, capacity, k.calls_fit, some);
    bytes_fit = fits;
    room = room;
  }

-- the invariant, before the first call
pub kept-new : (first areas : List (Vec ℕ Global)) (calls : Vec Call Global) (written : Vec ℕ Global) → contents_of areas ≡ contents_of first → length first ≡ 6 → length areas ≡ 6 → calls.items ≡ []
    → Kept first areas calls written 0 0
kept-new first areas calls written same six count none = record {
  first_count = six;
  count = count;
  is = λ b. ap (λ (l : List (List ℕ)). image_of l b) same ∙ ap (λ (l : List Call). content_after (image_of (contents_of first)) (steps_of written.items l) b) (sym none);
  within = subst (λ (l : List Call). CallsWithin (length written.items) l) (sym none) tt;
  calls_fit = omega (arith, calls.ok.0, calls.ok.1);
  bytes_fit = omega (arith, written.ok.0, written.ok.1);
  room = HaveRoom-none areas;
}

-- the invariant, with more memory
pub kept-roomier : (first areas more : List (Vec ℕ Global)) (calls calls' : Vec Call Global) (written written' : Vec ℕ Global) (room_calls room_bytes calls_now bytes_now : ℕ) → Kept first areas calls written room_calls room_bytes
    → contents_of more ≡ contents_of areas → length more ≡ length areas → calls'.items ≡ calls.items → written'.items ≡ written.items
    → length calls'.items + calls_now ≤ vec_capacity calls' → length written'.items + bytes_now ≤ vec_capacity written' → HaveRoom bytes_now more
    → Kept first more calls' written' calls_now bytes_now
kept-roomier first areas more calls calls' written written' room_calls room_bytes calls_now bytes_now k same count c w calls_fit bytes_fit room = record {
  first_count = k.first_count;
  count = count ∙ k.count;
  is = λ b. ap (λ (l : List (List ℕ)). image_of l b) same ∙ k.is b ∙ (λ i. content_after (image_of (contents_of first)) (steps_of (sym w i) (sym c i)) b);
  within = subst (λ (l : List Call). CallsWithin (length written'.items) l) (sym c) (subst (λ (l : List ℕ). CallsWithin (length l) calls.items) (sym w) k.within);
  calls_fit = calls_fit;
  bytes_fit = bytes_fit;
  room = room;
}

-- the invariant, with other bytes in an area before the first call
pub kept-set : (first areas : List (Vec ℕ Global)) (calls : Vec Call Global) (written : Vec ℕ Global) (room_calls room_bytes area : ℕ) (bytes there : Vec ℕ Global) → Kept first areas calls written room_calls room_bytes
    → area < 6 → there.items ≡ bytes.items → steps_of written.items calls.items ≡ [] → length there.items + room_bytes ≤ vec_capacity there
    → Kept (set first area bytes) (set areas area there) calls written room_calls room_bytes
kept-set first areas calls written room_calls room_bytes area bytes there k lt same none fits = record {
  first_count = length-set first area bytes ∙ k.first_count;
  count = length-set areas area there ∙ k.count;
  is = λ b. either b (cases_eq b area);
  within = k.within;
  calls_fit = k.calls_fit;
  bytes_fit = k.bytes_fit;
  room = HaveRoom-set room_bytes room_bytes areas area there (omega arith) k.room fits;
}
  where
    first_is : (l : List (Vec ℕ Global)) (b : ℕ) → content_after (image_of (contents_of l)) (steps_of written.items calls.items) b ≡ area_at l b
    first_is l b = ap (λ (steps : List Step). content_after (image_of (contents_of l)) steps b) none

    either : (b : ℕ) → (b ≡ area) ⊎ (b ≡ area → ⊥) → area_at (set areas area there) b ≡ content_after (image_of (contents_of (set first area bytes))) (steps_of written.items calls.items) b
    either b (inl here) =
        ap (area_at (set areas area there)) here ∙ area_at-set areas area there (omega (arith, k.count, lt)) ∙ same
        ∙ sym (area_at-set first area bytes (omega (arith, k.first_count, lt))) ∙ ap (area_at (set first area bytes)) (sym here)
        ∙ sym (first_is (set first area bytes) b)
    either b (inr ne) =
        area_at-other areas area b there ne ∙ k.is b ∙ first_is first b ∙ sym (area_at-other first area b bytes ne)
        ∙ sym (first_is (set first area bytes) b)
