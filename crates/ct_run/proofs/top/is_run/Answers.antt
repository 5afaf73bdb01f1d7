use Rattle.std.proofs.Common.{◌≡◌, ◌≢◌, ℕ, Bool, true, false, IsTrue, List, [], ◌∷◌, length, get_or, MatchBool, sym, arith, ap, rules}
use Rattle.std.specs.Cmp.Lexicographic.{told_text}
use Rattle.ct_run.proofs.top.is_run.Goals as goal

-- a list of one
one_word : {X : Type 0} (words : List X) (word : X) → length words ≡ 1 → word ≡ get_or words 0 word → words ≡ word ∷ []
one_word [] word n e = absurd (omega arith)
one_word (x ∷ []) word n e = ap (λ y. y ∷ []) (sym e)
one_word (x ∷ y ∷ more) word n e = absurd (omega arith)

-- a test of two texts, as a fact on lists of one
same_word : (told : Bool) (xs ws ys : List ℕ) → MatchBool told (xs ≡ ys) (xs ≢ ys) → xs ≡ ws → (IsTrue told → ws ∷ [] ≡ ys ∷ []) × (ws ∷ [] ≡ ys ∷ [] → IsTrue told)
same_word true xs ws ys same e = (λ t. cc, λ q. search rules)
same_word false xs ws ys other e = (λ t. absurd (search rules), λ q. let eq : xs ≡ ys = cc in absurd (other eq))

pub returns-in-len1 : goal.returns-in-len1
returns-in-len1 c =
    let e = one_word c.args.words.now c.word-item.result (omega arith) c.word-item.is in
    rw e (same_word c.eq.result c.as_str.result.now _ _ (told_text _ _ _ c.eq.ensures) c.as_str.ensures.value)
