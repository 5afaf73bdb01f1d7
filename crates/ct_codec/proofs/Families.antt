-- Readers that a number chooses, one for each variant of a type.
use Rattle.std.proofs.Common.{◌≡◌, ℕ, Bool, true, false, cond, eqb, eqb-true, List, [], ◌++◌, Some, refl, sym, ◌∙◌, ap, subst}
use Rattle.ct_codec.specs.Readers.{Reader, and_then, pure, fails, making}
use Rattle.ct_codec.specs.Codes.{IsCode}
use Rattle.ct_codec.proofs.Combined.{steps_of, found_same}

-- what is read at a number was spelled, has that number and fits
pub record IsSoundAt {B : Type 0} (body : B → List ℕ) (tag : B → ℕ) (F : B → Type 0) (k : ℕ) (reader : Reader B) : Type 0 where
  pub was : (bytes rest : List ℕ) (b : B) → reader bytes ≡ Some (b, rest) → (bytes ≡ body b ++ rest) × ((tag b ≡ k) × F b)

pub none_here : {B : Type 0} {body : B → List ℕ} {tag : B → ℕ} {F : B → Type 0} {k : ℕ} → IsSoundAt body tag F k fails
none_here = record { was = λ bytes rest b e. absurd (cc e) }

-- here one variant, and else the others
pub either : {B : Type 0} {body : B → List ℕ} {tag : B → ℕ} {F : B → Type 0} {p q : Reader B} (k n : ℕ) → IsSoundAt body tag F n p → IsSoundAt body tag F k q → IsSoundAt body tag F k (cond (eqb k n) p q)
either {B = B} {body = body} {tag = tag} {F = F} {p = p} {q = q} k n here others = by (eqb k n) refl
  where
    by : (t : Bool) → eqb k n ≡ t → IsSoundAt body tag F k (cond t p q)
    by true is = subst (λ m. IsSoundAt body tag F m p) (sym (eqb-true k n is)) here
    by false is = others

-- a variant that is one value
pub constant : {B : Type 0} {body : B → List ℕ} {tag : B → ℕ} {F : B → Type 0} (v : B) → body v ≡ [] → F v → IsSoundAt body tag F (tag v) (pure v)
constant {body = body} {tag = tag} {F = F} v empty fits = record {
  was = λ bytes rest b e.
      let same = found_same v b bytes rest e in
      subst (λ b. (bytes ≡ body b ++ rest) × ((tag b ≡ tag v) × F b)) same.0 (same.1 ∙ ap (λ l. l ++ rest) (sym empty), (refl, fits));
}

-- a variant that is made of what is read
pub variant : {A B : Type 0} {reader : Reader A} {s : A → List ℕ} {P : A → Type 0} {body : B → List ℕ} {tag : B → ℕ} {F : B → Type 0} {k : ℕ} (made : A → B)
    → ((a : A) → P a → (s a ≡ body (made a)) × ((tag (made a) ≡ k) × F (made a))) → IsCode reader s P → IsSoundAt body tag F k (making made reader)
variant {reader = reader} {s = s} {body = body} {tag = tag} {F = F} {k = k} made is law = record {
  was = λ bytes rest b e.
      let steps = steps_of (reader bytes) (λ a. pure (made a)) b rest e in
      let one = law.sound bytes steps.between steps.first steps.is in
      let same = found_same (made steps.first) b steps.between rest steps.second in
      let two = is steps.first one.1 in
      (one.0 ∙ (λ i. two.0 i ++ same.1 i) ∙ ap (λ v. body v ++ rest) same.0, subst (λ b. (tag b ≡ k) × F b) same.0 two.1);
}

pub variant_back : {A B : Type 0} {reader : Reader A} {s : A → List ℕ} {P : A → Type 0} (made : A → B) → IsCode reader s P → (a : A) (rest : List ℕ) → P a → making made reader (s a ++ rest) ≡ Some (made a, rest)
variant_back made law a rest f = ap (λ o. and_then o (λ a. pure (made a))) (law.complete a rest f)

pub law_family : {B : Type 0} {family : ℕ → Reader B} {body : B → List ℕ} {tag : B → ℕ} {F : B → Type 0}
    → ((k : ℕ) → IsSoundAt body tag F k (family k)) → ((b : B) (rest : List ℕ) → F b → family (tag b) (body b ++ rest) ≡ Some (b, rest)) → (k : ℕ) → IsCode (family k) body (λ b. (tag b ≡ k) × F b)
law_family {family = family} {body = body} sound complete k = record {
  sound = (sound k).was;
  complete = λ b rest f. ap (λ n. family n (body b ++ rest)) (sym f.0) ∙ complete b rest f.1;
}
