-- One rule or another, and a rule that may be left out: the next lexeme tells which.
use Rattle.std.proofs.Common.{◌≡◌, ℕ, suc, inl, inr, Bool, true, false, if◌then◌else◌, [], ◌∷◌, ◌++◌, Option, Some, None, Ok, refl, ap, sym, ◌∙◌, subst}
use Rattle.ct_grammar.specs.Kinds.{Set, apart}
use Rattle.ct_grammar.specs.Lexemes.{sees}
use Rattle.ct_grammar.specs.Rules.{Rule, ◌or◌, ◌of◌, maybe}
use Rattle.ct_grammar.specs.Reading.{Reader, pure, making, pick, option}
use Rattle.ct_grammar.proofs.FirstSets.{SameNext, sees_alike, BeginsIn, NotNext, neither_next, begins_left, begins_right, begins_sees, begins_elsewhere}
use Rattle.ct_grammar.proofs.Outcomes.{Input, Prefix, Includes, Justified, Finds, Opening, ReadsRule, HasSpelling, Replaces, replaced}
use Rattle.ct_grammar.proofs.Sequences.{making_justified, making_finds}

-- the reader that a choice takes, where the next lexeme is the same
chosen_alike : {A : Type 0} (set : Set) (p q : Reader A) (input : Input) (b : Bool) → sees set input ≡ b → (other : Input) → SameNext input other → pick set p q other ≡ (if b then p other else q other)
chosen_alike set p q input b h other next = ap (λ b. if b then p other else q other) (sym (sees_alike set input other next) ∙ h)

-- ---- one or the other

pub spelled_left : {A : Type 0} (L M : Rule A) (a : A) (xs : Input) → L a xs → (L or M) a xs
spelled_left L M a xs h = inl h

pub spelled_right : {A : Type 0} (L M : Rule A) (a : A) (xs : Input) → M a xs → (L or M) a xs
spelled_right L M a xs h = inr h

pub prefix_left : {A : Type 0} (L M : Rule A) (used : Input) → Prefix L used → Prefix (L or M) used
prefix_left L M used v = record { value = v.value; further = v.further; spelled = inl v.spelled }

pub prefix_right : {A : Type 0} (L M : Rule A) (used : Input) → Prefix M used → Prefix (L or M) used
prefix_right L M used v = record { value = v.value; further = v.further; spelled = inr v.spelled }

pick_justified : {A : Type 0} (L U M V : Rule A) (set : Set) (p q : Reader A) (input : Input) → Justified L U p input (p input) → Justified M V q input (q input) → (b : Bool) → sees set input ≡ b
    → Justified (L or M) (U or V) (pick set p q) input (if b then p input else q input)
pick_justified L U M V set p q input w v true h =
    let left : Replaces L U (L or M) (U or V) p (pick set p q) input = record { spells = spelled_left L M; spells_deeper = spelled_left U V; same = chosen_alike set p q input true h } in
    replaced left (p input) w
pick_justified L U M V set p q input w v false h =
    let right : Replaces M V (L or M) (U or V) q (pick set p q) input = record { spells = spelled_right L M; spells_deeper = spelled_right U V; same = chosen_alike set p q input false h } in
    replaced right (q input) v

pub shape_or : {A : Type 0} {L U M V : Rule A} {s r : Set} → Opening L U s false → Opening M V r false → Opening (L or M) (U or V) (s ++ r) false
shape_or {s = s} {r} w v = record {
  begins = λ a xs h. elim h [ inl l ↦ begins_left s r xs (w.begins a xs l) | inr m ↦ begins_right s r xs (v.begins a xs m) ];
  wider = λ a xs h. elim h [ inl l ↦ inl (w.wider a xs l) | inr m ↦ inr (v.wider a xs m) ];
}

pub some_left : {A : Type 0} {d : ℕ} {L : ℕ → Rule A} (M : ℕ → Rule A) → HasSpelling d L → HasSpelling d (λ n. L n or M n)
some_left {L = L} M some n enough = prefix_left (L n) (M n) [] (some n enough)

pub some_right : {A : Type 0} {d : ℕ} (L : ℕ → Rule A) {M : ℕ → Rule A} → HasSpelling d M → HasSpelling d (λ n. L n or M n)
some_right L {M} some n enough = prefix_right (L n) (M n) [] (some n enough)

pub law_pick : {A : Type 0} {L M : ℕ → Rule A} {d : ℕ} {p q : Reader A} {s r g h : Set} → apart s r ≡ true → ReadsRule L d p s false g → ReadsRule M d q r false h
    → ReadsRule (λ n. L n or M n) d (pick s p q) (s ++ r) false (g ++ h)
law_pick {L = L} {M} {d} {p} {q} {s} {r} {g} {h} clear w v = record {
  opening = λ n. shape_or (w.opening n) (v.opening n);
  justified = λ input. pick_justified (L d) (L (suc d)) (M d) (M (suc d)) s p q input (w.justified input) (v.justified input) (sees s input) refl;
  complete = λ n a xs rest j next.
      let two = neither_next g h rest next in
      let found = λ (b : Bool). Finds d n (if b then p (xs ++ rest) else q (xs ++ rest)) a rest in
      elim j [
        | inl l ↦ subst found (sym (begins_sees s xs rest ((w.opening n).begins a xs l))) (w.complete n a xs rest l two.0)
        | inr m ↦ subst found (sym (begins_elsewhere s r xs rest clear ((v.opening n).begins a xs m))) (v.complete n a xs rest m two.1)
      ];
}

-- ---- once or not at all

begins_if_any : (set : Set) (xs : Input) → BeginsIn set false xs → BeginsIn set true xs
begins_if_any set [] h = refl
begins_if_any set (x ∷ xs) h = h

maybe_begins : {A : Type 0} (L U : Rule A) (s : Set) → Opening L U s false → (a : Option A) (xs : Input) → maybe L a xs → BeginsIn s true xs
maybe_begins L U s w None xs h = rw h refl
maybe_begins L U s w (Some a) xs h = begins_if_any s xs (w.begins a xs h)

maybe_wider : {A : Type 0} (L U : Rule A) → Includes L U → (a : Option A) (xs : Input) → maybe L a xs → maybe U a xs
maybe_wider L U wider None xs h = h
maybe_wider L U wider (Some a) xs h = wider a xs h

present : {A : Type 0} (L : Rule A) (a : Option A) (xs : Input) → (Some of L) a xs → maybe L a xs
present L a xs h = rw h.is h.spelled

option_justified : {A : Type 0} (L U : Rule A) (s : Set) (p : Reader A) (input : Input) → Justified L U p input (p input) → (b : Bool) → sees s input ≡ b
    → Justified (maybe L) (maybe U) (option s p) input (if b then making Some p input else Ok (None, input))
option_justified L U s p input w true h =
    let there : Replaces (Some of L) (Some of U) (maybe L) (maybe U) (making Some p) (option s p) input = record {
      spells = present L;
      spells_deeper = present U;
      same = chosen_alike s (making Some p) (pure None) input true h;
    } in
    replaced there (making Some p input) (making_justified Some L U p input (p input) w)
option_justified L U s p input w false h = record {
  used = [];
  split = refl;
  spelled = refl;
  stable = chosen_alike s (making Some p) (pure None) input false h;
}

option_finds : {A : Type 0} (L : ℕ → Rule A) (s g : Set) (p : Reader A) (d n : ℕ) → ReadsRule L d p s false g → (a : Option A) (xs rest : Input) → maybe (L n) a xs → NotNext (g ++ s) rest
    → Finds d n (option s p (xs ++ rest)) a rest
option_finds L s g p d n w None xs rest h next =
    inl (rw h (ap (λ b. if b then making Some p rest else Ok (None, rest)) ((neither_next g s rest next).1)))
option_finds L s g p d n w (Some a) xs rest h next =
    subst (λ b. Finds d n (if b then making Some p (xs ++ rest) else Ok (None, xs ++ rest)) (Some a) rest) (sym (begins_sees s xs rest ((w.opening n).begins a xs h)))
    (making_finds Some d n (p (xs ++ rest)) a rest (w.complete n a xs rest h ((neither_next g s rest next).0)))

pub shape_maybe : {A : Type 0} {L U : Rule A} {s : Set} → Opening L U s false → Opening (maybe L) (maybe U) s true
shape_maybe {L = L} {U} {s} w = record { begins = maybe_begins L U s w; wider = maybe_wider L U w.wider }

pub some_maybe : {A : Type 0} {d : ℕ} (L : ℕ → Rule A) → HasSpelling d (λ n. maybe (L n))
some_maybe L n _ = record { value = None; further = []; spelled = refl }

pub law_option : {A : Type 0} {L : ℕ → Rule A} {d : ℕ} {p : Reader A} {s g : Set} → ReadsRule L d p s false g → ReadsRule (λ n. maybe (L n)) d (option s p) s true (g ++ s)
law_option {L = L} {d} {p} {s} {g} w = record {
  opening = λ n. shape_maybe (w.opening n);
  justified = λ input. option_justified (L d) (L (suc d)) s p input (w.justified input) (sees s input) refl;
  complete = λ n a xs rest h next. option_finds L s g p d n w a xs rest h next;
}
