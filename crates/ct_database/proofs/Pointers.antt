-- Commits behind pointers, place by place.
use Rattle.std.proofs.Common.{◌≡◌, ℕ, ◌+◌, ◌<◌, List, [], ◌∷◌, ◌++◌, length, take, drop, get_or, sym, ap, ◌∙◌, subst, append_assoc, arith}
use Rattle.std.specs.List.{AllByRecursion}
use Rattle.std.specs.declared.sync.Arc.{Arc}
use Rattle.std.proofs.lemmas.List.{map-append, take_all}
use Rattle.ct_types.specs.declared.entry.Kept.{Kept}
use Rattle.ct_types.proofs.Lists.{all_back}
use Rattle.ct_ptree.proofs.Lists.{split_at, take_at}
use Rattle.ct_database.specs.Steps.{EndsWith, pointed}

module _ {Z : Type 0} where
  pointed_at : (commits : List (Arc Kept Z)) (i : ℕ) (it : Arc Kept Z) → i < length commits → it ≡ get_or commits i it → pointed (take (i + 1) commits) ≡ pointed (take i commits) ++ it.value ∷ []
  pointed_at commits i it within is = ap pointed (take_at commits i it within is) ∙ map-append (λ (it : Arc Kept Z). it.value) (take i commits) (it ∷ [])

  pub ends_at : (commits : List (Arc Kept Z)) (i : ℕ) (it : Arc Kept Z) → i + 1 ≡ length commits → it ≡ get_or commits i it → EndsWith it.value (pointed commits)
  ends_at commits i it count is =
      (pointed (take i commits), ap pointed (sym (take_all (i + 1) commits (omega arith))) ∙ pointed_at commits i it (omega arith) is)

  pub pointed_more : (older : List Kept) (commits : List (Arc Kept Z)) (i : ℕ) (it : Arc Kept Z) (one : Kept) → i < length commits → it ≡ get_or commits i it → one ≡ it.value
      → (older ++ pointed (take i commits)) ++ one ∷ [] ≡ older ++ pointed (take (i + 1) commits)
  pointed_more older commits i it one within is value =
      append_assoc older (pointed (take i commits)) (one ∷ [])
      ∙ ap (λ (kept : List Kept). older ++ kept) (ap (λ (last : Kept). pointed (take i commits) ++ last ∷ []) value ∙ sym (pointed_at commits i it within is))

  -- what holds of each commit holds of the one at a place
  pub all_pointed : (P : Kept → Type 0) (commits : List (Arc Kept Z)) (i : ℕ) (it : Arc Kept Z) (one : Kept) → i < length commits → it ≡ get_or commits i it → one ≡ it.value → AllByRecursion P (pointed commits) → P one
  all_pointed P commits i it one within is value all =
      let cut : pointed commits ≡ pointed (take i commits) ++ it.value ∷ pointed (drop (i + 1) commits) =
      ap pointed (split_at commits i it within is) ∙ map-append (λ (it : Arc Kept Z). it.value) (take i commits) (it ∷ drop (i + 1) commits) in
      subst P (sym value) (all_back P (pointed (take i commits)) (it.value ∷ pointed (drop (i + 1) commits)) (subst (AllByRecursion P) cut all)).0
