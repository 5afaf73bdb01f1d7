-- Laws of readers that are put together.
use Rattle.std.proofs.Common.{◌≡◌, ℕ, List, [], ◌∷◌, ◌++◌, Option, Some, None, refl, sym, ◌∙◌, ap, subst, append_assoc}
use Rattle.std.proofs.lemmas.List.{append-nil}
use Rattle.ct_codec.specs.Readers.{Outcome, Reader, and_then, ◌>>=◌, pure, given, making, choosing, pair, if_at_end, whole, all_of}
use Rattle.ct_codec.specs.Codes.{IsCode, BeginsNoOther, IsExact}

-- what a reading in two steps has read
pub record Steps {A B : Type 0} (outcome : Outcome A) (next : A → Reader B) (b : B) (rest : List ℕ) : Type 0 where
  pub first : A
  pub between : List ℕ
  pub is : outcome ≡ Some (first, between)
  pub second : next first between ≡ Some (b, rest)

pub steps_of : {A B : Type 0} (outcome : Outcome A) (next : A → Reader B) (b : B) (rest : List ℕ) → and_then outcome next ≡ Some (b, rest) → Steps outcome next b rest
steps_of (Some found) next b rest e = record { first = found.0; between = found.1; is = refl; second = e }
steps_of None next b rest e = absurd (cc e)

pub some_same : {A : Type 0} (a b : A) → Some a ≡ Some b → a ≡ b
some_same a b e = cc

parts_same : {A : Type 0} (p q : A × List ℕ) → p ≡ q → (p.0 ≡ q.0) × (p.1 ≡ q.1)
parts_same p q same = (ap (λ p. p.0) same, ap (λ p. p.1) same)

pub found_same : {A : Type 0} (a b : A) (bytes rest : List ℕ) → ◌≡◌ {A = Outcome A} (Some (a, bytes)) (Some (b, rest)) → (a ≡ b) × (bytes ≡ rest)
found_same {A = A} a b bytes rest e = parts_same {A = A} (a, bytes) (b, rest) (some_same {A = A × List ℕ} (a, bytes) (b, rest) e)

-- the first tells how the second is read, and stands in what that reads
pub law_then : {A B : Type 0} {first : Reader A} {next : A → Reader B} {s : A → List ℕ} {t : B → List ℕ} {P : A → Type 0} {F : B → Type 0} (tag : B → A)
    → ((b : B) → F b → P (tag b)) → IsCode first s P → ((a : A) → P a → IsCode (next a) t (λ b. (tag b ≡ a) × F b)) → IsCode (first >>= next) (λ b. s (tag b) ++ t b) F
law_then {first = first} {next = next} {s = s} {t = t} {P = P} {F = F} tag small one two = record {
  sound = λ bytes rest b e.
      let steps = steps_of (first bytes) next b rest e in
      let left = one.sound bytes steps.between steps.first steps.is in
      let right = (two steps.first left.1).sound steps.between rest b steps.second in
      (left.0 ∙ ap (λ l. s steps.first ++ l) right.0 ∙ ap (λ a. s a ++ (t b ++ rest)) (sym right.1.0) ∙ sym (append_assoc (s (tag b)) (t b) rest), right.1.1);
  complete = λ b rest f.
      ap (λ l. and_then (first l) next) (append_assoc (s (tag b)) (t b) rest)
      ∙ ap (λ o. and_then o next) (one.complete (tag b) (t b ++ rest) (small b f))
      ∙ (two (tag b) (small b f)).complete b rest (refl, f);
}

was_given : {B : Type 0} (o : Option B) (between rest : List ℕ) (b : B) → given o between ≡ Some (b, rest) → (o ≡ Some b) × (between ≡ rest)
was_given (Some a) between rest b e = let same = found_same a b between rest e in (ap Some same.0, same.1)
was_given None between rest b e = absurd (cc e)

-- a choice that can be taken back
pub law_choosing : {A B : Type 0} {reader : Reader A} {s : A → List ℕ} {P : A → Type 0} {F : B → Type 0} (chosen : A → Option B) (back : B → A)
    → ((a : A) (b : B) → P a → chosen a ≡ Some b → (back b ≡ a) × F b) → ((b : B) → F b → (chosen (back b) ≡ Some b) × P (back b))
    → IsCode reader s P → IsCode (choosing chosen reader) (λ b. s (back b)) F
law_choosing {reader = reader} {s = s} chosen back forth origin law = record {
  sound = λ bytes rest b e.
      let steps = steps_of (reader bytes) (λ a. given (chosen a)) b rest e in
      let one = law.sound bytes steps.between steps.first steps.is in
      let two = was_given (chosen steps.first) steps.between rest b steps.second in
      let fit = forth steps.first b one.1 two.0 in
      (one.0 ∙ (λ i. s (sym fit.0 i) ++ two.1 i), fit.1);
  complete = λ b rest f.
      ap (λ o. and_then o (λ a. given (chosen a))) (law.complete (back b) rest (origin b f).1) ∙ ap (λ o. given o rest) (origin b f).0;
}

pub law_making : {A B : Type 0} {reader : Reader A} {s : A → List ℕ} {P : A → Type 0} {F : B → Type 0} (made : A → B) (back : B → A)
    → ((a : A) → P a → (back (made a) ≡ a) × F (made a)) → ((b : B) → F b → (made (back b) ≡ b) × P (back b))
    → IsCode reader s P → IsCode (making made reader) (λ b. s (back b)) F
law_making {P = P} {F = F} made back forth origin law =
    law_choosing (λ a. Some (made a)) back
    (λ a b p e. let same = some_same (made a) b e in (ap back (sym same) ∙ (forth a p).0, subst F same (forth a p).1))
    (λ b f. (ap Some (origin b f).0, (origin b f).1)) law

-- another spelling, and other words for what fits
pub law_as : {A : Type 0} {reader : Reader A} {s t : A → List ℕ} {F G : A → Type 0} → ((a : A) → F a → (s a ≡ t a) × G a) → ((a : A) → G a → F a) → IsCode reader s F → IsCode reader t G
law_as {reader = reader} to from law = record {
  sound = λ bytes rest a e. let h = law.sound bytes rest a e in (h.0 ∙ ap (λ l. l ++ rest) (to a h.1).0, (to a h.1).1);
  complete = λ a rest g. ap (λ l. reader (l ++ rest)) (sym (to a (from a g)).0) ∙ law.complete a rest (from a g);
}

pub law_pure : {A : Type 0} (a : A) → IsCode (pure a) (λ b. []) (λ b. a ≡ b)
law_pure a = record {
  sound = λ bytes rest b e. let same = found_same a b bytes rest e in (same.1, same.0);
  complete = λ b rest f. ap (λ x. Some (x, rest)) f;
}

pub law_pair : {A B : Type 0} {first : Reader A} {second : A → Reader B} {s : A → List ℕ} {t : A → B → List ℕ} {F : A → Type 0} {G : A → B → Type 0} → IsCode first s F
    → ((a : A) → IsCode (second a) (t a) (G a)) → IsCode (pair first second) (λ x. s x.0 ++ t x.0 x.1) (λ x. F x.0 × G x.0 x.1)
law_pair {A = A} {B = B} {s = s} {t = t} {F = F} {G = G} one two =
    law_then {A = A} {B = A × B} (λ x. x.0) (λ x f. f.0) one (λ a fits.
    law_as {A = A × B} {s = λ x. t a x.1} {t = λ x. t x.0 x.1} {F = λ x. (a ≡ x.0) × G a x.1}
    (λ x f. (ap (λ b. t b x.1) f.0, (sym f.0, (subst F f.0 fits, subst (λ b. G b x.1) f.0 f.1))))
    (λ x f. (sym f.0, subst (λ b. G b x.1) f.0 f.1.1))
    (law_making {A = B} {B = A × B} (λ b. (a, b)) (λ x. x.1) (λ b g. (refl, (refl, g))) (λ x f. ((λ i. (f.0 i, x.1)), f.1)) (two a)))

-- ---- the whole of some bytes

was_at_end : {A : Type 0} (x a : A) (rest : List ℕ) → if_at_end x rest ≡ Some a → ◌≡◌ {A = Outcome A} (Some (x, rest)) (Some (a, []))
was_at_end x a [] e = ap (λ y. Some (y, [])) (some_same x a e)
was_at_end x a (byte ∷ rest) e = absurd (cc e)

was_all : {A : Type 0} (outcome : Outcome A) (a : A) → all_of outcome ≡ Some a → outcome ≡ Some (a, [])
was_all (Some found) a e = was_at_end found.0 a found.1 e
was_all None a e = absurd (cc e)

pub whole_is : {A : Type 0} {reader : Reader A} {s : A → List ℕ} {F : A → Type 0} → IsCode reader s F → (bytes : List ℕ) (a : A) → whole reader bytes ≡ Some a → (bytes ≡ s a) × F a
whole_is {reader = reader} {s = s} law bytes a e =
    let h = law.sound bytes [] a (was_all (reader bytes) a e) in (h.0 ∙ append-nil (s a), h.1)

pub whole_of : {A : Type 0} {reader : Reader A} {s : A → List ℕ} {F : A → Type 0} → IsCode reader s F → (a : A) → F a → whole reader (s a) ≡ Some a
whole_of {reader = reader} {s = s} law a f = ap (λ l. all_of (reader l)) (sym (append-nil (s a))) ∙ ap all_of (law.complete a [] f)

pub law_exact : {A : Type 0} {reader : Reader A} {s : A → List ℕ} {F : A → Type 0} → IsCode reader s F → IsExact (whole reader) s F
law_exact {reader = reader} {F = F} law bytes a =
    (whole_is law bytes a, λ h. subst (λ l. whole reader l ≡ Some a) (sym h.0) (whole_of law a h.1))

pub law_begins_no_other : {A : Type 0} {reader : Reader A} {s : A → List ℕ} {F : A → Type 0} → IsCode reader s F → BeginsNoOther s F
law_begins_no_other {reader = reader} law a b more other f g e = found_same a b more other (sym (law.complete a more f) ∙ ap reader e ∙ law.complete b other g)
