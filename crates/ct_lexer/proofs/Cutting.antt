-- Cuts: one piece more at the end, and that a text has one.
use Rattle.std.proofs.Common.{◌≡◌, ℕ, ◌+◌, ◌≤◌, List, [], ◌∷◌, ◌++◌, length, drop, refl, sym, ap, ◌∙◌, subst, arith, length-append, length-drop}
use Rattle.std.proofs.lemmas.List.{drop_all, drop_at, drop-drop}
use Rattle.ct_lexer.specs.declared.token.Token.{Token}
use Rattle.ct_lexer.specs.declared.token.TokenKind.{TokenKind}
use Rattle.ct_lexer.specs.Tokens.{IsToken, IsGap}
use Rattle.ct_lexer.specs.Cutting.{Cuts, here, gap, token, Never, IsStuck, IsCut}
use Rattle.ct_lexer.specs.Scanning.{Begins}
use Rattle.ct_lexer.proofs.Sizes.{some_token, some_gap, one_kind, no_both, one_token_size, one_gap_size, same_rest}

-- ---- one piece more

cut_gap : {at end : ℕ} {bytes : List ℕ} {tokens : List Token} {rest : List ℕ} (word more : List ℕ) → Cuts at bytes tokens end rest → rest ≡ word ++ more → IsGap word more
    → Cuts at bytes tokens (end + length word) more
cut_gap {at = at} word more here e g = subst (λ z. Cuts at z [] (at + length word) more) (sym e) (gap word more g here)
cut_gap word more (gap first behind f c) e g = gap first behind f (cut_gap word more c e g)
cut_gap word more (token kind first behind f c) e g = token kind first behind f (cut_gap word more c e g)

cut_token : {at end : ℕ} {bytes : List ℕ} {tokens : List Token} {rest : List ℕ} (kind : TokenKind) (word more : List ℕ) → Cuts at bytes tokens end rest → rest ≡ word ++ more → IsToken kind word more
    → Cuts at bytes (tokens ++ record { kind = kind; from = end; to = end + length word } ∷ []) (end + length word) more
cut_token {at = at} kind word more here e t =
    subst (λ z. Cuts at z (record { kind = kind; from = at; to = at + length word } ∷ []) (at + length word) more) (sym e) (token kind word more t here)
cut_token kind word more (gap first behind f c) e t = gap first behind f (cut_token kind word more c e t)
cut_token kind word more (token other first behind f c) e t = token other first behind f (cut_token kind word more c e t)

-- ---- the loop of `tokens`

-- what is cut off before the place `at`
pub record CutTo (text : List ℕ) (tokens : List Token) (at : ℕ) : Type 0 where
  pub within : at ≤ length text
  pub cut : Cuts 0 text tokens at (drop at text)

pub cut_none : (text : List ℕ) (tokens : List Token) → tokens ≡ [] → CutTo text tokens 0
cut_none text tokens e = rw e (record { within = omega arith; cut = here })

pub behind_word : (text : List ℕ) (at n : ℕ) (word more : List ℕ) → drop at text ≡ word ++ more → length word ≡ n → at ≤ length text → (more ≡ drop (at + n) text) × (at + n ≤ length text)
behind_word text at n word more e size h = (
  sym (drop_at word more n size) ∙ ap (λ z. drop n z) (sym e) ∙ drop-drop n at text,
  let long : length (drop at text) ≡ n + length more = rw e (simp length-append (omega (arith, size))) in omega (arith, long, length-drop at text),
)

pub past_gap : (text rest : List ℕ) (tokens : List Token) (at n : ℕ) → CutTo text tokens at → rest ≡ drop at text → Begins IsGap rest n → CutTo text tokens (at + n)
past_gap text rest tokens at n c e b =
    let f : drop at text ≡ b.word ++ b.more = sym e ∙ b.cut in
    let next = behind_word text at n b.word b.more f b.long c.within in
    record { within = next.1; cut = rw (← next.0, ← b.long) (cut_gap b.word b.more c.cut f b.is) }

pub past_token : (text rest : List ℕ) (tokens all : List Token) (at n : ℕ) (kind : TokenKind) → CutTo text tokens at → rest ≡ drop at text → Begins (IsToken kind) rest n
    → all ≡ tokens ++ record { kind = kind; from = at; to = at + n } ∷ [] → CutTo text all (at + n)
past_token text rest tokens all at n kind c e b g =
    let f : drop at text ≡ b.word ++ b.more = sym e ∙ b.cut in
    let next = behind_word text at n b.word b.more f b.long c.within in
    record { within = next.1; cut = rw (g, ← next.0, ← b.long) (cut_token kind b.word b.more c.cut f b.is) }

pub whole : (text : List ℕ) (tokens : List Token) (at : ℕ) → CutTo text tokens at → length text ≤ at → IsCut text tokens
whole text tokens at c h =
    let end : at ≡ length text = omega (arith, c.within) in
    let none : drop at text ≡ [] = rw end (drop_all (length text) text (omega arith)) in
    rw (none, end) at c.cut

-- ---- one cut

-- nothing more can be cut off
pub record IsOver (rest : List ℕ) : Type 0 where
  pub no_gap : Never IsGap rest
  pub no_token : (kind : TokenKind) → Never (IsToken kind) rest

pub record SameCut (tokens twins : List Token) (end last : ℕ) (rest other : List ℕ) : Type 0 where
  pub tokens_same : tokens ≡ twins
  pub end_same : end ≡ last
  pub rest_same : rest ≡ other

pub same_cut : {at end twin last : ℕ} {bytes copy : List ℕ} {tokens twins : List Token} {rest other : List ℕ} → Cuts at bytes tokens end rest → Cuts twin copy twins last other
    → at ≡ twin → bytes ≡ copy → IsOver rest → IsOver other → SameCut tokens twins end last rest other
same_cut here here p e o u = record { tokens_same = refl; end_same = p; rest_same = e }
same_cut here (gap word more g c) p e o u = absurd (o.no_gap word more e g)
same_cut here (token kind word more t c) p e o u = absurd (o.no_token kind word more e t)
same_cut (gap word more g c) here p e o u = absurd (u.no_gap word more (sym e) g)
same_cut (token kind word more t c) here p e o u = absurd (u.no_token kind word more (sym e) t)
same_cut (gap word more g c) (gap copy others h d) p e o u =
    let size = one_gap_size word more copy others e g h in
    same_cut c d (omega (arith, p, size)) (same_rest word more copy others e size) o u
same_cut (gap word more g c) (token kind copy others t d) p e o u = absurd (no_both kind copy others word more (sym e) t g)
same_cut (token kind word more t c) (gap copy others h d) p e o u = absurd (no_both kind word more copy others e t h)
same_cut (token kind word more t c) (token other copy others v d) p e o u =
    let kinds = one_kind kind other word more copy others e t v in
    let size = one_token_size kind word more copy others e t (subst (λ k. IsToken k copy others) (sym kinds) v) in
    let next : _ = same_cut c d (omega (arith, p, size)) (same_rest word more copy others e size) o u in
    record {
      tokens_same = let f = next.tokens_same in rw (kinds, p, size, f) refl;
      end_same = next.end_same;
      rest_same = next.rest_same;
    }

-- neither a gap nor a token is empty, so none stands at the end
pub over_end : IsOver []
over_end = record {
  no_gap = λ word more e g. let size : 0 ≡ length word + length more = ap length e ∙ length-append word more in omega (arith, size, some_gap word more g);
  no_token = λ kind word more e t. let size : 0 ≡ length word + length more = ap length e ∙ length-append word more in omega (arith, size, some_token kind word more t);
}

stuck_over : (text : List ℕ) (at : ℕ) (s : IsStuck text at) → IsOver s.rest
stuck_over text at s = record { no_gap = s.no_gap; no_token = s.no_token }

pub one_tokens : (text : List ℕ) (tokens others : List Token) → IsCut text tokens → IsCut text others → tokens ≡ others
one_tokens text tokens others c d = (same_cut c d refl refl over_end over_end).tokens_same

pub cut_or_stuck : (text : List ℕ) (tokens : List Token) (at : ℕ) → IsCut text tokens → IsStuck text at → ⊥
cut_or_stuck text tokens at c s =
    let same : length text ≡ at = (same_cut c s.cut refl refl over_end (stuck_over text at s)).end_same in
    omega (arith, same, s.within)

pub one_place : (text : List ℕ) (at other : ℕ) → IsStuck text at → IsStuck text other → at ≡ other
one_place text at other s t = (same_cut s.cut t.cut refl refl (stuck_over text at s) (stuck_over text other t)).end_same
