-- What reads give stays one of the images that a crash may leave: the law that a disk in memory owes.
use Rattle.std.specs.Prelude.{◌≡◌, ℕ, ◌+◌, ◌-◌, min, List, [], ◌∷◌, ◌++◌, length, take, drop, true, false}
use Rattle.std.proofs.Common.{⊎_elim, refl, sym, ◌∙◌, ap, subst, arith, length-append, length-take, length-drop}
use Rattle.std.proofs.lemmas.List.{take_all, drop_all, take-take, take_min, drop_at, take-append-le}
use Rattle.std.proofs.lemmas.Bool.{cases_lt}
use Rattle.std.proofs.lemmas.Bool.Decides.{nat_tests}
use Rattle.ct_faults.specs.Disk.{Image, overwritten, MayTear, MayCut}
use Rattle.ct_disk.specs.Steps.{Step, with_area, done, MayDo, Moment, first_moment, next_moment, moment_after, content_after, images_after}
use Rattle.ct_disk.specs.Steps.Step.{Wrote, WasCut, EndedSync}

pub area-same : (image : Image) (area : ℕ) (bytes : List ℕ) → with_area image area bytes area ≡ bytes
area-same image area bytes = grind (arith, nat_tests)

pub area-other : (image : Image) (area : ℕ) (bytes : List ℕ) (other : ℕ) → (other ≡ area → ⊥) → with_area image area bytes other ≡ image other
area-other image area bytes other ne = grind (arith, nat_tests)

-- what a write and a cut do is among what a crash may leave of them

pub length-overwritten : (at : ℕ) (bytes old : List ℕ) → length (overwritten at bytes old) ≡ min at (length old) + length bytes + (length old - (at + length bytes))
length-overwritten at bytes old = omega (arith, length-append (take at old ++ bytes) (drop (at + length bytes) old), length-append (take at old) bytes, length-take at old, length-drop (at + length bytes) old)

tears : (at : ℕ) (bytes old : List ℕ) → MayTear at (length bytes) old (overwritten at bytes old)
tears at bytes old = record {
  before = λ k le_at le_len.
      take-append-le k (take at old ++ bytes) (drop (at + length bytes) old) (omega (arith, length-append (take at old) bytes, length-take at old))
      ∙ take-append-le k (take at old) bytes (omega (arith, length-take at old))
      ∙ take-take k at old le_at;
  behind = ⊎_elim
      (λ past.
      drop_all (at + length bytes) (overwritten at bytes old) (omega (arith, length-overwritten at bytes old))
      ∙ sym (drop_all (at + length bytes) old (omega arith)))
      (λ within. drop_at (take at old ++ bytes) (drop (at + length bytes) old) (at + length bytes) (omega (arith, length-append (take at old) bytes, length-take at old)))
      (cases_lt (length old) at);
  shortest = omega (arith, length-overwritten at bytes old);
  longest = omega (arith, length-overwritten at bytes old);
}

-- other bytes, as many as were written
pub write-may : (image : Image) (area at : ℕ) (bytes torn : List ℕ) → length torn ≡ length bytes → MayDo (Wrote area at bytes) image (done image (Wrote area at torn))
write-may image area at bytes torn same = record {
  here = subst (λ (l : List ℕ). MayTear at (length bytes) (image area) l) (sym (area-same image area (overwritten at torn (image area))))
      (subst (λ (n : ℕ). MayTear at n (image area) (overwritten at torn (image area))) same (tears at torn (image area)));
  elsewhere = area-other image area (overwritten at torn (image area));
}

cuts : (len : ℕ) (old : List ℕ) → MayCut len old (take len old)
cuts len old = record {
  front = sym (ap (λ (k : ℕ). take k old) (length-take len old) ∙ take_min len old);
  shortest = omega (arith, length-take len old);
}

pub cut-may : (image : Image) (area len : ℕ) → MayDo (WasCut area len) image (done image (WasCut area len))
cut-may image area len = record {
  here = subst (λ (l : List ℕ). MayCut len (image area) l) (sym (area-same image area (take len (image area)))) (cuts len (image area));
  elsewhere = area-other image area (take len (image area));
}

-- what reads give stays one of the images

next-kept : (m : Moment) (step : Step) → m.images m.content → (next_moment m step).images (next_moment m step).content
next-kept m (Wrote area at bytes) has = (m.content, has, write-may m.content area at bytes bytes refl)
next-kept m (WasCut area len) has = (m.content, has, cut-may m.content area len)
next-kept m (EndedSync true) has = refl
next-kept m (EndedSync false) has = (m.content, has, refl)

pub all-kept : (m : Moment) (steps : List Step) → m.images m.content → (moment_after m steps).images (moment_after m steps).content
all-kept m [] has = has
all-kept m (step ∷ steps) has = all-kept (next_moment m step) steps (next-kept m step has)

pub content-is-image : (first : Image) (steps : List Step) → images_after first steps (length steps) (content_after first steps)
content-is-image first steps = subst (λ (l : List Step). (moment_after (first_moment first) l).images (content_after first steps)) (sym (take_all (length steps) steps (omega arith))) (all-kept (first_moment first) steps refl)
