-- What a crash leaves, and how it is made again from the calls.
use Rattle.std.specs.Prelude.{T}
use Rattle.std.proofs.Common.{◌≡◌, ⊎_elim, inl, inr, ℕ, zero, suc, ◌+◌, ◌-◌, ◌<◌, ◌≤◌, min, List, [], ◌∷◌, ◌++◌, length, take, drop, set, get_or, Bool, true, false, ◌==◌, refl, sym, ◌∙◌, ap, subst, arith, length-take}
use Rattle.std.proofs.lemmas.Bool.{cases_eq, cases_lt}
use Rattle.std.proofs.lemmas.Bool.Decides.{nat_tests}
use Rattle.std.proofs.lemmas.List.{append_assoc, take_all, drop_all, drop_more, take_more, take_more_set, take-append-drop}
use Rattle.std.specs.Prelude.{slice_index}
use Rattle.ct_faults.specs.Disk.{Image, overwritten}
use Rattle.ct_disk.specs.Steps.{Step, with_area, done, Moment, first_moment, next_moment, moment_after, content_after, images_after}
use Rattle.ct_disk.specs.Steps.Step.{Wrote, WasCut, EndedSync}
use Rattle.ct_disk.specs.Crash.{place_after, torn_bytes, torn_place, Torn, torn_at, tear, tear_all, Crashing, crash_after, crash_all, uncrashed, crashed}
use Rattle.ct_disk.specs.Mem.{step_of, steps_of, CallWithin, CallsWithin, is_synced, NoneSynced, EndsSynced}
use Rattle.ct_disk.specs.declared.call.Call.{Call}
use Rattle.ct_disk.specs.declared.call.Call.TheVariants.{Write, Cut, Sync}
use Rattle.ct_disk.specs.Held.{area-same, area-other, length-overwritten, write-may, cut-may}
use Rattle.ct_disk.proofs.Recorded.{steps_of-push}

not_both : (b : Bool) → b ≡ true → b ≡ false → ⊥
not_both b is isnt = subst T (sym is ∙ isnt) tt

-- what the test of a length says
pub length_none : (n : ℕ) → (n == 0) ≡ true → n ≡ 0
length_none n is = grind (arith, nat_tests)

pub length_some : (n : ℕ) → (n == 0) ≡ false → 0 < n
length_some n is = grind (arith, nat_tests)

-- torn bytes

pub torn-length : (torn : List ℕ) (next : ℕ) (bytes : List ℕ) → length (torn_bytes torn next bytes) ≡ length bytes
torn-length [] next bytes = refl
torn-length (t ∷ torn) next [] = refl
torn-length (t ∷ torn) next (b ∷ bytes) = omega (arith, torn-length (t ∷ torn) (place_after (t ∷ torn) next) bytes)

pub torn-none : (torn : List ℕ) → length torn ≡ 0 → (next : ℕ) (bytes : List ℕ) → torn_bytes torn next bytes ≡ bytes
torn-none [] none next bytes = refl
torn-none (t ∷ torn) none next bytes = absurd (omega (arith, none))

pub place-none : (torn : List ℕ) → length torn ≡ 0 → (next : ℕ) (bytes : List ℕ) → torn_place torn next bytes ≡ next
place-none [] none next bytes = refl
place-none (t ∷ torn) none next bytes = absurd (omega (arith, none))

torn-more : (torn : List ℕ) → 0 < length torn → (next b : ℕ) (bytes : List ℕ) → torn_bytes torn next (b ∷ bytes) ≡ slice_index torn next ∷ torn_bytes torn (place_after torn next) bytes
torn-more [] some next b bytes = absurd (omega (arith, some))
torn-more (t ∷ torn) some next b bytes = refl

place-more : (torn : List ℕ) → 0 < length torn → (next b : ℕ) (bytes : List ℕ) → torn_place torn next (b ∷ bytes) ≡ torn_place torn (place_after torn next) bytes
place-more [] some next b bytes = absurd (omega (arith, some))
place-more (t ∷ torn) some next b bytes = refl

torn-end : (torn : List ℕ) (next : ℕ) → torn_bytes torn next [] ≡ []
torn-end [] next = refl
torn-end (t ∷ torn) next = refl

place-end : (torn : List ℕ) (next : ℕ) → torn_place torn next [] ≡ next
place-end [] next = refl
place-end (t ∷ torn) next = refl

-- one byte more was put in its place
pub torn-step : (torn : List ℕ) (next after i : ℕ) (now old all : List ℕ) → 0 < length torn → i < length old → length now ≡ length old → after ≡ place_after torn next
    → all ≡ take i now ++ torn_bytes torn next (drop i old) → all ≡ take (i + 1) (set now i (slice_index torn next)) ++ torn_bytes torn after (drop (i + 1) old)
torn-step torn next after i now old all some lt same is before =
    before
    ∙ ap (λ (l : List ℕ). take i now ++ torn_bytes torn next l) (drop_more old i 0 lt)
    ∙ ap (λ (l : List ℕ). take i now ++ l) (torn-more torn some next (get_or old i 0) (drop (i + 1) old))
    ∙ sym (append_assoc (take i now) (slice_index torn next ∷ []) (torn_bytes torn (place_after torn next) (drop (i + 1) old)))
    ∙ (λ k. sym (take_more_set now i (slice_index torn next) (omega (arith, same, lt))) k ++ torn_bytes torn (sym is k) (drop (i + 1) old))

pub place-step : (torn : List ℕ) (next after i : ℕ) (old : List ℕ) (last : ℕ) → 0 < length torn → i < length old → after ≡ place_after torn next
    → last ≡ torn_place torn next (drop i old) → last ≡ torn_place torn after (drop (i + 1) old)
place-step torn next after i old last some lt is before =
    before
    ∙ ap (torn_place torn next) (drop_more old i 0 lt)
    ∙ place-more torn some next (get_or old i 0) (drop (i + 1) old)
    ∙ ap (λ (n : ℕ). torn_place torn n (drop (i + 1) old)) (sym is)

pub torn-all : (torn : List ℕ) (next i : ℕ) (now old all : List ℕ) → length old ≤ i → length now ≡ length old → all ≡ take i now ++ torn_bytes torn next (drop i old) → now ≡ all
torn-all torn next i now old all le same is = sym (is
    ∙ (λ k. take_all i now (omega (arith, same, le)) k ++ (ap (torn_bytes torn next) (drop_all i old le) ∙ torn-end torn next) k)
    ∙ append-nil now)
  where
    append-nil : (l : List ℕ) → l ++ [] ≡ l
    append-nil [] = refl
    append-nil (x ∷ l) = ap (λ (m : List ℕ). x ∷ m) (append-nil l)

pub place-all : (torn : List ℕ) (next i : ℕ) (old : List ℕ) (last : ℕ) → length old ≤ i → last ≡ torn_place torn next (drop i old) → next ≡ last
place-all torn next i old last le is = sym (is ∙ ap (torn_place torn next) (drop_all i old le) ∙ place-end torn next)

-- a write again

pub overwritten-near : (at : ℕ) (bytes old : List ℕ) → overwritten (min (length old) at) bytes old ≡ overwritten at bytes old
overwritten-near at bytes old = ⊎_elim
    (λ past. (λ k. (take_all (min (length old) at) old (omega (arith, past)) ∙ sym (take_all at old (omega (arith, past)))) k
    ++ bytes ++ (drop_all (min (length old) at + length bytes) old (omega (arith, past)) ∙ sym (drop_all (at + length bytes) old (omega (arith, past)))) k))
    (λ within. let near : min (length old) at ≡ at = omega (arith, within) in ap (λ (n : ℕ). overwritten n bytes old) near)
    (cases_lt (length old) at)

-- one area of a list was changed as a call changes an image
pub image-changed : (old new : Image) (area : ℕ) (bytes : List ℕ) → new area ≡ bytes → ((other : ℕ) → (other ≡ area → ⊥) → new other ≡ old other) → new ≡ with_area old area bytes
image-changed old new area bytes here others = λ k other. pointwise other k
  where
    pointwise : (other : ℕ) → new other ≡ with_area old area bytes other
    pointwise other = elim (cases_eq other area) [
      | inl same ↦ ap new same ∙ here ∙ sym (area-same old area bytes) ∙ ap (with_area old area bytes) (sym same)
      | inr ne ↦ others other ne ∙ sym (area-other old area bytes other ne)
    ]

-- calls again

steps_of-more : (written : List ℕ) (calls : List Call) (i : ℕ) (d : Call) → i < length calls → steps_of written (drop i calls) ≡ step_of written (get_or calls i d) ∷ steps_of written (drop (i + 1) calls)
steps_of-more written calls i d lt = ap (steps_of written) (drop_more calls i d lt)

pub within-more : (n : ℕ) (calls : List Call) (i : ℕ) (d : Call) → i < length calls → CallsWithin n (drop i calls) → CallWithin n (get_or calls i d) × CallsWithin n (drop (i + 1) calls)
within-more n calls i d lt within = subst (λ (l : List Call). CallsWithin n l) (drop_more calls i d lt) within

pub within-drop : (n : ℕ) (calls : List Call) (i : ℕ) → CallsWithin n calls → CallsWithin n (drop i calls)
within-drop n calls zero within = within
within-drop n [] (suc i) within = tt
within-drop n (x ∷ calls) (suc i) within = within-drop n calls i within.1

pub within-take : (n : ℕ) (calls : List Call) (i : ℕ) → CallsWithin n calls → CallsWithin n (take i calls)
within-take n calls zero within = tt
within-take n [] (suc i) within = tt
within-take n (x ∷ calls) (suc i) within = (within.0, within-take n calls i within.1)

-- one call again

pub write-again : (torn written : List ℕ) (old new : Image) (call : Call) (next after area at from len : ℕ) (bytes : List ℕ) → call ≡ Write area at from len
    → bytes ≡ torn_bytes torn next (take len (drop from written)) → after ≡ torn_place torn next (take len (drop from written)) → new ≡ done old (Wrote area at bytes)
    → torn_at new after ≡ tear torn (torn_at old next) (step_of written call)
write-again torn written old new call next after area at from len bytes is torn_is place made =
    (λ k. torn_at (made k) (place k))
    ∙ (λ k. torn_at (done old (Wrote area at (torn_is k))) (torn_place torn next (take len (drop from written))))
    ∙ ap (λ (c : Call). tear torn (torn_at old next) (step_of written c)) (sym is)

pub cut-again : (torn written : List ℕ) (old new : Image) (call : Call) (next area len : ℕ) → call ≡ Cut area len → new ≡ done old (WasCut area len)
    → torn_at new next ≡ tear torn (torn_at old next) (step_of written call)
cut-again torn written old new call next area len is made = ap (λ (image : Image). torn_at image next) made ∙ ap (λ (c : Call). tear torn (torn_at old next) (step_of written c)) (sym is)

pub sync-again : (torn written : List ℕ) (t : Torn) (call : Call) (ok : Bool) → call ≡ Sync ok → t ≡ tear torn t (step_of written call)
sync-again torn written t call ok is = ap (λ (c : Call). tear torn t (step_of written c)) (sym is)

-- calls again, one more and all
pub replay-step : (torn written : List ℕ) (calls : List Call) (i : ℕ) (d : Call) (before after last : Torn) → i < length calls
    → last ≡ tear_all torn before (steps_of written (drop i calls)) → after ≡ tear torn before (step_of written (get_or calls i d)) → last ≡ tear_all torn after (steps_of written (drop (i + 1) calls))
replay-step torn written calls i d before after last lt is stepped =
    is ∙ ap (tear_all torn before) (steps_of-more written calls i d lt) ∙ ap (λ (t : Torn). tear_all torn t (steps_of written (drop (i + 1) calls))) (sym stepped)

pub replay-end : (torn written : List ℕ) (calls : List Call) (i : ℕ) (now last : Torn) → length calls ≤ i → last ≡ tear_all torn now (steps_of written (drop i calls)) → now ≡ last
replay-end torn written calls i now last le is = sym (is ∙ ap (λ (l : List Call). tear_all torn now (steps_of written l)) (drop_all i calls le))

-- the calls up to the last sync, and those since

steps_of-append : (written : List ℕ) (calls more : List Call) → steps_of written (calls ++ more) ≡ steps_of written calls ++ steps_of written more
steps_of-append written [] more = refl
steps_of-append written (x ∷ calls) more = ap (λ (l : List Step). step_of written x ∷ l) (steps_of-append written calls more)

crash-append : (torn : List ℕ) (c : Crashing) (steps more : List Step) → crash_all torn c (steps ++ more) ≡ crash_all torn (crash_all torn c steps) more
crash-append torn c [] more = refl
crash-append torn c (x ∷ steps) more = crash-append torn (crash_after torn c x) steps more

crash-content : (torn : List ℕ) (c : Crashing) (step : Step) → (crash_after torn c step).content ≡ done c.content step
crash-content torn c (Wrote area at bytes) = refl
crash-content torn c (WasCut area len) = refl
crash-content torn c (EndedSync true) = refl
crash-content torn c (EndedSync false) = refl

tear-none : (t : Torn) (step : Step) → (tear [] t step).image ≡ done t.image step
tear-none t (Wrote area at bytes) = refl
tear-none t (WasCut area len) = refl
tear-none t (EndedSync ok) = refl

-- without torn bytes the calls give what reads give
exact-content : (torn : List ℕ) (c : Crashing) (t : Torn) (steps : List Step) → t.image ≡ c.content → (tear_all [] t steps).image ≡ (crash_all torn c steps).content
exact-content torn c t [] is = is
exact-content torn c t (x ∷ steps) is = exact-content torn (crash_after torn c x) (tear [] t x) steps (tear-none t x ∙ ap (λ (image : Image). done image x) is ∙ sym (crash-content torn c x))

since-left : (torn written : List ℕ) (c : Crashing) (calls : List Call) → NoneSynced calls → (crash_all torn c (steps_of written calls)).left ≡ tear_all torn c.left (steps_of written calls)
since-left torn written c [] none = refl
since-left torn written c (Write area at from len ∷ calls) none = since-left torn written (crash_after torn c (step_of written (Write area at from len))) calls none.1
since-left torn written c (Cut area len ∷ calls) none = since-left torn written (crash_after torn c (WasCut area len)) calls none.1
since-left torn written c (Sync true ∷ calls) none = absurd (not_both true refl none.0)
since-left torn written c (Sync false ∷ calls) none = since-left torn written (crash_after torn c (EndedSync false)) calls none.1

synced-left : (torn written : List ℕ) (c : Crashing) (call : Call) → is_synced call ≡ true → (crash_after torn c (step_of written call)).left ≡ torn_at (crash_after torn c (step_of written call)).content 0
synced-left torn written c (Write area at from len) is = absurd (not_both false is refl)
synced-left torn written c (Cut area len) is = absurd (not_both false is refl)
synced-left torn written c (Sync true) is = refl
synced-left torn written c (Sync false) is = absurd (not_both false is refl)

-- up to a sync the crash leaves what reads give
before-left : (torn written : List ℕ) (c : Crashing) (calls : List Call) → c.left ≡ torn_at c.content 0 → EndsSynced calls
    → (crash_all torn c (steps_of written calls)).left ≡ torn_at (crash_all torn c (steps_of written calls)).content 0
before-left torn written c calls start (inl none) = subst (λ (l : List Call). (crash_all torn c (steps_of written l)).left ≡ torn_at (crash_all torn c (steps_of written l)).content 0) (sym none) start
before-left torn written c calls start (inr some) =
    let earlier : List Call = some.0 in
    let last : Call = some.1 in
    let at_last : Crashing = crash_all torn c (steps_of written earlier) in
    let pushed : crash_all torn c (steps_of written calls) ≡ crash_after torn at_last (step_of written last) =
    (ap (λ (l : List Call). crash_all torn c (steps_of written l)) some.2
    ∙ ap (crash_all torn c) (steps_of-push written earlier last)
    ∙ crash-append torn c (steps_of written earlier) (step_of written last ∷ [])) in
    subst (λ (d : Crashing). d.left ≡ torn_at d.content 0) (sym pushed) (synced-left torn written at_last last some.3)

-- what a crash leaves, from the first contents on: first the calls up to the last sync as they were made, then the others with torn bytes
pub crashed-again : (torn written : List ℕ) (first : Image) (calls : List Call) (count next : ℕ) (again left : Torn) → EndsSynced (take count calls) → NoneSynced (drop count calls)
    → again ≡ tear_all [] (torn_at first next) (steps_of written (take count calls))
    → left ≡ tear_all torn (torn_at again.image 0) (steps_of written (drop count calls))
    → left.image ≡ crashed torn first (steps_of written calls)
crashed-again torn written first calls count next again left ends none is_again is_left =
    let before : List Step = steps_of written (take count calls) in
    let since : List Step = steps_of written (drop count calls) in
    let at_sync : Crashing = crash_all torn (uncrashed first) before in
    let content : again.image ≡ at_sync.content = ap (λ (t : Torn). t.image) is_again ∙ exact-content torn (uncrashed first) (torn_at first next) before refl in
    let at_sync_left : at_sync.left ≡ torn_at again.image 0 = before-left torn written (uncrashed first) (take count calls) refl ends ∙ ap (λ (image : Image). torn_at image 0) (sym content) in
    let whole : steps_of written calls ≡ before ++ since = ap (steps_of written) (sym (take-append-drop count calls)) ∙ steps_of-append written (take count calls) (drop count calls) in
    sym (ap (λ (l : List Step). (crash_all torn (uncrashed first) l).left.image) whole
    ∙ ap (λ (c : Crashing). c.left.image) (crash-append torn (uncrashed first) before since)
    ∙ ap (λ (t : Torn). t.image) (since-left torn written at_sync (drop count calls) none
    ∙ ap (λ (t : Torn). tear_all torn t since) at_sync_left
    ∙ sym is_left))

-- what holds of the image that is left

left-may : (torn : List ℕ) (m : Moment) (c : Crashing) (steps : List Step) → m.content ≡ c.content → m.images c.left.image → (moment_after m steps).images (crash_all torn c steps).left.image
left-may torn m c [] same has = has
left-may torn m c (Wrote area at bytes ∷ steps) same has = left-may torn (next_moment m (Wrote area at bytes)) (crash_after torn c (Wrote area at bytes)) steps
    (ap (λ (image : Image). done image (Wrote area at bytes)) same)
    (c.left.image, has, write-may c.left.image area at bytes (torn_bytes torn c.left.next bytes) (torn-length torn c.left.next bytes))
left-may torn m c (WasCut area len ∷ steps) same has = left-may torn (next_moment m (WasCut area len)) (crash_after torn c (WasCut area len)) steps
    (ap (λ (image : Image). done image (WasCut area len)) same) (c.left.image, has, cut-may c.left.image area len)
left-may torn m c (EndedSync true ∷ steps) same has = left-may torn (next_moment m (EndedSync true)) (crash_after torn c (EndedSync true)) steps same (sym same)
left-may torn m c (EndedSync false ∷ steps) same has = left-may torn (next_moment m (EndedSync false)) (crash_after torn c (EndedSync false)) steps same (c.left.image, has, refl)

pub crashed-may : (torn : List ℕ) (first : Image) (steps : List Step) → images_after first steps (length steps) (crashed torn first steps)
crashed-may torn first steps = subst (λ (l : List Step). (moment_after (first_moment first) l).images (crashed torn first steps)) (sym (take_all (length steps) steps (omega arith))) (left-may torn (first_moment first) (uncrashed first) steps refl refl)

moments-content : (torn : List ℕ) (m : Moment) (c : Crashing) (steps : List Step) → m.content ≡ c.content → (moment_after m steps).content ≡ (crash_all torn c steps).content
moments-content torn m c [] same = same
moments-content torn m c (Wrote area at bytes ∷ steps) same = moments-content torn (next_moment m (Wrote area at bytes)) (crash_after torn c (Wrote area at bytes)) steps (ap (λ (image : Image). done image (Wrote area at bytes)) same)
moments-content torn m c (WasCut area len ∷ steps) same = moments-content torn (next_moment m (WasCut area len)) (crash_after torn c (WasCut area len)) steps (ap (λ (image : Image). done image (WasCut area len)) same)
moments-content torn m c (EndedSync true ∷ steps) same = moments-content torn (next_moment m (EndedSync true)) (crash_after torn c (EndedSync true)) steps same
moments-content torn m c (EndedSync false ∷ steps) same = moments-content torn (next_moment m (EndedSync false)) (crash_after torn c (EndedSync false)) steps same

-- lengths

abbrev SameLengths : Image → Image → Type 0
SameLengths image other = (area : ℕ) → length (image area) ≡ length (other area)

area-lengths : (image other : Image) (area : ℕ) (bytes more : List ℕ) → SameLengths image other → length bytes ≡ length more → SameLengths (with_area image area bytes) (with_area other area more)
area-lengths image other area bytes more same long = λ b. elim (cases_eq b area) [
  | inl is ↦ subst (λ (k : ℕ). length (with_area image area bytes k) ≡ length (with_area other area more k)) (sym is) (ap length (area-same image area bytes) ∙ long ∙ sym (ap length (area-same other area more)))
  | inr ne ↦ ap length (area-other image area bytes b ne) ∙ same b ∙ sym (ap length (area-other other area more b ne))
]

left-lengths : (torn : List ℕ) (c : Crashing) (steps : List Step) → SameLengths c.left.image c.content → SameLengths (crash_all torn c steps).left.image (crash_all torn c steps).content
left-lengths torn c [] same = same
left-lengths torn c (Wrote area at bytes ∷ steps) same = left-lengths torn (crash_after torn c (Wrote area at bytes)) steps
    (area-lengths c.left.image c.content area (overwritten at (torn_bytes torn c.left.next bytes) (c.left.image area)) (overwritten at bytes (c.content area)) same
    (omega (arith, same area, torn-length torn c.left.next bytes, length-overwritten at (torn_bytes torn c.left.next bytes) (c.left.image area), length-overwritten at bytes (c.content area))))
left-lengths torn c (WasCut area len ∷ steps) same = left-lengths torn (crash_after torn c (WasCut area len)) steps
    (area-lengths c.left.image c.content area (take len (c.left.image area)) (take len (c.content area)) same (omega (arith, same area, length-take len (c.left.image area), length-take len (c.content area))))
left-lengths torn c (EndedSync true ∷ steps) same = left-lengths torn (crash_after torn c (EndedSync true)) steps (λ area. refl)
left-lengths torn c (EndedSync false ∷ steps) same = left-lengths torn (crash_after torn c (EndedSync false)) steps same

pub crashed-lengths : (torn : List ℕ) (first : Image) (steps : List Step) (area : ℕ) → length (crashed torn first steps area) ≡ length (content_after first steps area)
crashed-lengths torn first steps area = left-lengths torn (uncrashed first) steps (λ b. refl) area ∙ sym (ap (λ (image : Image). length (image area)) (moments-content torn (first_moment first) (uncrashed first) steps refl))

-- an empty list of torn bytes leaves what reads give

left-whole : (c : Crashing) (steps : List Step) → c.left.image ≡ c.content → (crash_all [] c steps).left.image ≡ (crash_all [] c steps).content
left-whole c [] same = same
left-whole c (Wrote area at bytes ∷ steps) same = left-whole (crash_after [] c (Wrote area at bytes)) steps (ap (λ (image : Image). done image (Wrote area at bytes)) same)
left-whole c (WasCut area len ∷ steps) same = left-whole (crash_after [] c (WasCut area len)) steps (ap (λ (image : Image). done image (WasCut area len)) same)
left-whole c (EndedSync true ∷ steps) same = left-whole (crash_after [] c (EndedSync true)) steps refl
left-whole c (EndedSync false ∷ steps) same = left-whole (crash_after [] c (EndedSync false)) steps same

pub crashed-whole : (torn : List ℕ) (first : Image) (steps : List Step) → torn ≡ [] → crashed torn first steps ≡ content_after first steps
crashed-whole torn first steps none = ap (λ (l : List ℕ). crashed l first steps) none ∙ left-whole (uncrashed first) steps refl ∙ sym (moments-content [] (first_moment first) (uncrashed first) steps refl)

-- the search of the last sync, from the back

pub none-synced-end : (calls : List Call) → NoneSynced (drop (length calls) calls)
none-synced-end calls = subst NoneSynced (sym (drop_all (length calls) calls (omega arith))) tt

pub none-synced-more : (calls : List Call) (count : ℕ) (d : Call) → 0 < count → count ≤ length calls → is_synced (get_or calls (count - 1) d) ≡ false → NoneSynced (drop count calls) → NoneSynced (drop (count - 1) calls)
none-synced-more calls count d some within isnt none =
    let on : count - 1 + 1 ≡ count = omega (arith, some) in
    subst NoneSynced (sym (drop_more calls (count - 1) d (omega (arith, some, within)))) (isnt, subst (λ (n : ℕ). NoneSynced (drop n calls)) (sym on) none)

pub ends-synced-none : (calls : List Call) → EndsSynced (take 0 calls)
ends-synced-none calls = inl refl

pub ends-synced : (calls : List Call) (count : ℕ) (d : Call) → 0 < count → count ≤ length calls → is_synced (get_or calls (count - 1) d) ≡ true → EndsSynced (take count calls)
ends-synced calls count d some within is =
    let on : count - 1 + 1 ≡ count = omega (arith, some) in
    inr (take (count - 1) calls, get_or calls (count - 1) d, sym (ap (λ (n : ℕ). take n calls) on) ∙ take_more calls (count - 1) d (omega (arith, some, within)), is)
