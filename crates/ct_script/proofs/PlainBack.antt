-- What a script without faults says is plain, where no line of it has a CR.
use Rattle.std.proofs.Common.{◌≡◌, ℕ, ◌+◌, ◌-◌, ◌<◌, ◌≤◌, ◌⊎◌, inl, inr, Bool, true, false, cond, eqb, nat_lt, zero, suc, List, [], ◌∷◌, ◌++◌, length, get_or, take, drop, take_while, reverse, None, Some, Result, Ok, Err, refl, sym, ap, subst, ◌∙◌, arith}
use Rattle.std.specs.Prelude.{◌≢◌, ◌&&◌, ◌||◌, not, nat_eq, codes}
use Rattle.std.specs.List.{list_all, starts_with, last_or, onto_first, prefix_len, position_or_len, after_first, AllByRecursion}
use Rattle.std.specs.Str.{IsUtf8, is_utf8}
use Rattle.std.specs.Str.Lines.{lines, lines_of_parts}
use Rattle.std.proofs.lemmas.Grind.{common_steps}
use Rattle.std.proofs.lemmas.List.{append-nil, get_or-reverse, get_or-take, length-reverse, length-take-le}
use Rattle.std.proofs.lemmas.List.Folds.{length-prefix_len}
use Rattle.std.proofs.lemmas.List.Sums.{prefix_len_stops}
use Rattle.std.proofs.lemmas.Str.{IsUtf8-append, IsUtf8-take, IsUtf8-drop, IsUtf8-from_is_utf8, IsCharBoundary-after_ascii}
use Rattle.std.proofs.lemmas.Bool.Decides.{nat_tests}
use lib.Utf8.{encode}
use Rattle.ct_script.specs.Forms.{is_blank, is_colon, without_front, without_end, trimmed, is_number, number_of, before_colon, head_text, headed, numbered, directive, form_of, kind_of}
use Rattle.ct_script.specs.Statements.{Statement, phases_of}
use Rattle.ct_script.specs.Faults.{first_fault, most_text}
use Rattle.ct_script.specs.Reading.{Progress, start, with_text, with_more, stepped, step, next, run}
use Rattle.ct_script.specs.Plain.{first_byte, last_byte, IsFirstLine, IsFurtherLine, ArePlainLines, text_lines, IsPlain, ArePlain}
use Rattle.ct_script.specs.declared.kind.Kind.{Kind}
use Rattle.ct_script.specs.declared.kind.Kind.TheVariants.{Ignored, Mark, Head, More, Fault}
use Rattle.ct_script.proofs.Blanks.{IsCharBoundary-after_blanks, IsCharBoundary-before_blanks}
use Rattle.ct_script.proofs.Lasts.{last_or-push, take-front, has_last}
use Rattle.ct_script.proofs.Parts.{HasFirst, slice_split-some, slice_split-append, slice_split-front, last_byte-append}
use Rattle.ct_script.proofs.Runs.{run-start, answer_of}

-- what holds of each element of a list holds of each of a part, and of one more
module _ {X : Type 0} (P : X → Type 0) where
  keeps-take : (n : ℕ) (xs : List X) → AllByRecursion P xs → AllByRecursion P (take n xs)
  keeps-take zero xs all = tt
  keeps-take (suc n) [] all = tt
  keeps-take (suc n) (x ∷ xs) all = (all.0, keeps-take n xs all.1)

  keeps-drop : (n : ℕ) (xs : List X) → AllByRecursion P xs → AllByRecursion P (drop n xs)
  keeps-drop zero xs all = all
  keeps-drop (suc n) [] all = tt
  keeps-drop (suc n) (x ∷ xs) all = keeps-drop n xs all.1

  keeps-push : (xs : List X) (x : X) → AllByRecursion P xs → P x → AllByRecursion P (xs ++ x ∷ [])
  keeps-push [] x all one = (one, tt)
  keeps-push (y ∷ xs) x all one = (all.0, keeps-push xs x all.1 one)

  keeps-pop : (xs : List X) (x : X) → AllByRecursion P (xs ++ x ∷ []) → AllByRecursion P xs × P x
  keeps-pop [] x all = (tt, all.0)
  keeps-pop (y ∷ xs) x all = let more = keeps-pop xs x all.1 in ((all.0, more.0), more.1)

both : {X : Type 0} (P Q : X → Type 0) (xs : List X) → AllByRecursion P xs → AllByRecursion Q xs → AllByRecursion (λ x. P x × Q x) xs
both P Q [] all also = tt
both P Q (x ∷ xs) all also = ((all.0, also.0), both P Q xs all.1 also.1)

-- no line of bytes has an LF
abbrev NoEnd : List ℕ → Type 0
NoEnd line = AllByRecursion (λ b. eqb b 10 ≡ false) line

onto_first-no_end : (b : ℕ) (parts : List (List ℕ)) → eqb b 10 ≡ false → AllByRecursion NoEnd parts → AllByRecursion NoEnd (onto_first b parts)
onto_first-no_end b [] other none = ((other, tt), tt)
onto_first-no_end b (part ∷ parts) other none = ((other, none.0), none.1)

text_lines-no_end : (bytes : List ℕ) → AllByRecursion NoEnd (text_lines bytes)
text_lines-no_end [] = (tt, tt)
text_lines-no_end (b ∷ bytes) = by (eqb b 10) refl (text_lines-no_end bytes)
  where
    by : (t : Bool) → eqb b 10 ≡ t → AllByRecursion NoEnd (text_lines bytes) → AllByRecursion NoEnd (cond t ([] ∷ text_lines bytes) (onto_first b (text_lines bytes)))
    by true e none = (tt, none)
    by false e none = onto_first-no_end b (text_lines bytes) e none

lines_of_parts-no_end : (parts : List (List ℕ)) → AllByRecursion NoEnd parts → AllByRecursion NoEnd (lines_of_parts parts)
lines_of_parts-no_end [] none = tt
lines_of_parts-no_end (x ∷ []) none = by (eqb (length x) 0)
  where
    by : (t : Bool) → AllByRecursion NoEnd (cond t [] (x ∷ []))
    by true = tt
    by false = (none.0, tt)
lines_of_parts-no_end (x ∷ y ∷ more) none = (by (eqb (last_byte x) 13), lines_of_parts-no_end (y ∷ more) none.1)
  where
    by : (t : Bool) → NoEnd (cond t (take (length x - 1) x) x)
    by true = keeps-take _ (length x - 1) x none.0
    by false = none.0

-- bytes that have no CR either
abbrev NoReturn : List ℕ → Type 0
NoReturn line = AllByRecursion (λ b. b ≢ 13) line

last_byte-no_return : (line : List ℕ) → NoReturn line → last_byte line ≢ 13
last_byte-no_return [] none = λ e. absurd (omega (arith, e))
last_byte-no_return (b ∷ []) none = none.0
last_byte-no_return (b ∷ c ∷ line) none = λ e. last_byte-no_return (c ∷ line) none.1 (sym (last_byte-append (b ∷ []) c line) ∙ e)

abbrev Clear : List ℕ → Type 0
Clear line = NoEnd line × NoReturn line

text_lines-one : (line : List ℕ) → Clear line → text_lines line ≡ line ∷ []
text_lines-one line clear =
    ap text_lines (sym (append-nil line)) ∙ slice_split-front (λ b. eqb b 10) line [] [] [] clear.0 refl ∙ ap (λ t. t ∷ []) (append-nil line)

-- what the kind of a line tells of it
kind_of-form : (line : List ℕ) (kind : Kind) → kind ≢ Fault 1 → kind_of line ≡ kind → IsUtf8 line × (form_of line ≡ kind)
unfolding kind_of
kind_of-form line kind known e = by (is_utf8 line) refl e
  where
    by : (b : Bool) → is_utf8 line ≡ b → cond b (form_of line) (Fault 1) ≡ kind → IsUtf8 line × (form_of line ≡ kind)
    by true utf8 is = (IsUtf8-from_is_utf8 line utf8, is)
    by false utf8 is = absurd (known (sym is))

more_by : (a b c d : Bool) (x y : Kind) → x ≢ More → y ≢ More → cond a Ignored (cond b Ignored (cond c x (cond d More y))) ≡ More → (a ≡ false) × (d ≡ true)
more_by true b c d x y no_x no_y e = cc
more_by false true c d x y no_x no_y e = cc
more_by false false true d x y no_x no_y e = absurd (no_x e)
more_by false false false true x y no_x no_y e = (refl, refl)
more_by false false false false x y no_x no_y e = absurd (no_y e)

head_by : (a b c d : Bool) (x y : Kind) (session : ℕ) → x ≢ Head session → cond a Ignored (cond b Ignored (cond c x (cond d More y))) ≡ Head session → y ≡ Head session
head_by true b c d x y session no_x e = cc
head_by false true c d x y session no_x e = cc
head_by false false true d x y session no_x e = absurd (no_x e)
head_by false false false true x y session no_x e = cc
head_by false false false false x y session no_x e = e

mark_or_fault : (b : Bool) (kind : Kind) → kind ≢ Mark → kind ≢ Fault 6 → cond b Mark (Fault 6) ≢ kind
mark_or_fault true kind no_mark no_fault e = no_mark (sym e)
mark_or_fault false kind no_mark no_fault e = no_fault (sym e)

directive-other : (line : List ℕ) (kind : Kind) → kind ≢ Mark → kind ≢ Fault 6 → directive line ≢ kind
unfolding directive
directive-other line kind no_mark no_fault = mark_or_fault _ kind no_mark no_fault

no_more : (t a b : Bool) (session : ℕ) → cond t (cond a (Fault 3) (cond b (Fault 4) (Head session))) (Fault 2) ≢ More
no_more true true b session e = cc
no_more true false true session e = cc
no_more true false false session e = cc
no_more false a b session e = cc

numbered-no_more : (line : List ℕ) → numbered line ≢ More
unfolding numbered headed
numbered-no_more line = no_more _ _ _ _

IsFurtherLine-kind : (line : List ℕ) → Clear line → kind_of line ≡ More → IsUtf8 line × IsFurtherLine line
unfolding form_of
IsFurtherLine-kind line clear e =
    let form = kind_of-form line More (λ e. cc) e in
    let told = more_by _ _ _ (is_blank (first_byte line)) (directive line) (numbered line) (directive-other line More (λ e. cc) (λ e. cc)) (numbered-no_more line) form.1 in
    (form.0, record { indented = told.1; not_blank = told.0; no_return = last_byte-no_return line clear.1 })

-- a text without the blanks at its ends
drop-blanks : (bytes : List ℕ) → is_blank (first_byte (drop (prefix_len is_blank bytes) bytes)) ≡ false
drop-blanks [] = refl
drop-blanks (b ∷ bytes) = by (is_blank b) refl (drop-blanks bytes)
  where
    by : (t : Bool) → is_blank b ≡ t → is_blank (first_byte (drop (prefix_len is_blank bytes) bytes)) ≡ false
        → is_blank (first_byte (drop (cond t (1 + prefix_len is_blank bytes) 0) (b ∷ bytes))) ≡ false
    by true e rest =
        let count : 1 + prefix_len is_blank bytes ≡ suc (prefix_len is_blank bytes) = omega arith in
        ap (λ n. is_blank (first_byte (drop n (b ∷ bytes)))) count ∙ rest
    by false e rest = e

first_byte-without_front : (bytes : List ℕ) → is_blank (first_byte (without_front bytes)) ≡ false
first_byte-without_front bytes = ap (λ n. is_blank (first_byte (drop n bytes))) (length-prefix_len is_blank bytes) ∙ drop-blanks bytes

first_byte-take : (n : ℕ) (bytes : List ℕ) → is_blank (first_byte bytes) ≡ false → is_blank (first_byte (take n bytes)) ≡ false
first_byte-take zero bytes none = refl
first_byte-take (suc n) [] none = refl
first_byte-take (suc n) (b ∷ bytes) none = none

last_byte-take : (bytes : List ℕ) (k : ℕ) → k < length bytes → last_byte (take (suc k) bytes) ≡ get_or bytes k 0
last_byte-take bytes k within =
    let size : length (take (suc k) bytes) ≡ suc k = length-take-le (suc k) bytes (omega arith) in
    let place : length (take (suc k) bytes) - 1 ≡ k = omega arith in
    ap (λ i. get_or (take (suc k) bytes) i 0) place ∙ get_or-take (suc k) bytes k 0 (omega arith)

take-blanks : (bytes : List ℕ) (n : ℕ) → n ≡ prefix_len is_blank (reverse bytes) → is_blank (last_byte (take (length bytes - n) bytes)) ≡ false
take-blanks bytes n e = by (length bytes - n) refl
  where
    by : (k : ℕ) → length bytes - n ≡ k → is_blank (last_byte (take k bytes)) ≡ false
    by zero left = refl
    by (suc k) left =
        let within : n < length bytes = omega arith in
        let inside : prefix_len is_blank (reverse bytes) < length (reverse bytes) = omega (arith, length-reverse bytes) in
        let place : length bytes - 1 - n ≡ k = omega arith in
        ap is_blank (last_byte-take bytes k (omega arith) ∙ sym (ap (λ i. get_or bytes i 0) place) ∙ sym (get_or-reverse bytes n 0 within) ∙ ap (λ i. get_or (reverse bytes) i 0) e)
        ∙ prefix_len_stops is_blank (reverse bytes) 0 inside

last_byte-without_end : (bytes : List ℕ) → is_blank (last_byte (without_end bytes)) ≡ false
last_byte-without_end bytes = take-blanks bytes _ (length-prefix_len is_blank (reverse bytes))

IsUtf8-trimmed : (bytes : List ℕ) → IsUtf8 bytes → IsUtf8 (trimmed bytes)
unfolding trimmed
IsUtf8-trimmed bytes utf8 =
    let rest = IsUtf8-drop bytes _ utf8 (IsCharBoundary-after_blanks bytes _ utf8 refl) in
    IsUtf8-take (without_front bytes) _ rest (IsCharBoundary-before_blanks (without_front bytes) _ rest refl)

-- the text on a statement's first line
IsUtf8-after_colon : (line : List ℕ) → IsUtf8 line → position_or_len is_colon line < length line → IsUtf8 (after_first is_colon line)
IsUtf8-after_colon line utf8 within =
    let stops = prefix_len_stops (λ b. not (is_colon b)) line 0 within in
    let colon : get_or line (position_or_len is_colon line) 0 ≡ 58 = grind (arith, nat_tests) in
    IsUtf8-drop line _ utf8 (IsCharBoundary-after_ascii line _ utf8 within (omega (arith, colon)))

head_text-keeps : (P : ℕ → Type 0) (line : List ℕ) → AllByRecursion P line → AllByRecursion P (head_text line)
unfolding head_text trimmed
head_text-keeps P line all =
    let rest : List ℕ = after_first is_colon line in
    let text : List ℕ = without_front rest in
    keeps-take P (length text - length (take_while is_blank (reverse text))) text
    (keeps-drop P (length (take_while is_blank rest)) rest (keeps-drop P (position_or_len is_colon line + 1) line all))

Clear-head_text : (line : List ℕ) → Clear line → Clear (head_text line)
Clear-head_text line clear = (head_text-keeps _ line clear.0, head_text-keeps _ line clear.1)

headed-head : (n : ℕ) (text : List ℕ) (session : ℕ) → headed n text ≡ Head session → (1 ≤ session) × (session ≤ 32) × (first_byte text ≢ 64)
unfolding headed
headed-head n text session e = by (eqb n 0 || nat_lt 32 n) refl (eqb (first_byte text) 64) refl e
  where
    by : (a : Bool) → (eqb n 0 || nat_lt 32 n) ≡ a → (b : Bool) → eqb (first_byte text) 64 ≡ b → cond a (Fault 3) (cond b (Fault 4) (Head n)) ≡ Head session → (1 ≤ session) × (session ≤ 32) × (first_byte text ≢ 64)
    by true range b command is = cc
    by false range true command is = cc
    by false range false command is =
        let same : n ≡ session = cc in
        let low : 1 ≤ session = grind (arith, nat_tests) in
        let high : session ≤ 32 = grind (arith, nat_tests) in
        let other : first_byte text ≢ 64 = grind (arith, nat_tests) in
        (low, high, other)

numbered-head : (line : List ℕ) (session : ℕ) → numbered line ≡ Head session → (position_or_len is_colon line < length line) × (headed (number_of (before_colon line)) (head_text line) ≡ Head session)
unfolding numbered
numbered-head line session e = by (nat_lt (position_or_len is_colon line) (length line)) refl (is_number (before_colon line)) e
  where
    by : (a : Bool) → nat_lt (position_or_len is_colon line) (length line) ≡ a → (b : Bool) → cond (a && b) (headed (number_of (before_colon line)) (head_text line)) (Fault 2) ≡ Head session
        → (position_or_len is_colon line < length line) × (headed (number_of (before_colon line)) (head_text line) ≡ Head session)
    by true within true is = let inside : position_or_len is_colon line < length line = grind (arith, nat_tests) in (inside, is)
    by true within false is = cc
    by false within b is = cc

module _ (line : List ℕ) where
  IsFirstLine-head_text : Clear line → first_byte (head_text line) ≢ 64 → IsFirstLine (head_text line)
  unfolding head_text trimmed
  IsFirstLine-head_text clear other =
      let text : List ℕ = without_front (after_first is_colon line) in
      record {
        no_blank_before = first_byte-take (length text - length (take_while is_blank (reverse text))) text (first_byte-without_front (after_first is_colon line));
        no_command = other;
        no_blank_behind = last_byte-without_end text;
        no_return = last_byte-no_return (head_text line) (Clear-head_text line clear).1;
      }

  IsUtf8-head_text : IsUtf8 line → position_or_len is_colon line < length line → IsUtf8 (head_text line)
  unfolding head_text
  IsUtf8-head_text utf8 within = IsUtf8-trimmed (after_first is_colon line) (IsUtf8-after_colon line utf8 within)

IsPlain-head : (line : List ℕ) (session : ℕ) → Clear line → kind_of line ≡ Head session → length (head_text line) ≤ 65536 → IsPlain (record { session = session; text = head_text line })
unfolding form_of
IsPlain-head line session clear e short =
    let form = kind_of-form line (Head session) (λ e. cc) e in
    let number = head_by (list_all is_blank line) (starts_with nat_eq line (codes "--")) (eqb (first_byte line) 35) (is_blank (first_byte line)) (directive line) (numbered line) session (directive-other line (Head session) (λ e. cc) (λ e. cc)) form.1 in
    let told = numbered-head line session number in
    let known = headed-head _ _ session told.1 in
    record {
      from_1 = known.0;
      to_32 = known.1;
      text = record {
        utf8 = IsUtf8-head_text line form.0 told.0;
        short = short;
        lines = subst ArePlainLines (sym (text_lines-one (head_text line) (Clear-head_text line clear))) (IsFirstLine-head_text line clear known.2, tt);
      };
    }

-- a plain text goes on by a further line
ArePlainLines-push : (ls : List (List ℕ)) (line : List ℕ) → HasFirst ls → ArePlainLines ls → IsFurtherLine line → ArePlainLines (ls ++ line ∷ [])
ArePlainLines-push [] line (first, further, e) plain one = cc
ArePlainLines-push (l ∷ ls) line some plain one = (plain.0, keeps-push IsFurtherLine ls line plain.1 one)

IsUtf8-lf : IsUtf8 (10 ∷ [])
unfolding encode
IsUtf8-lf = (10 ∷ [], (refl, refl))

IsPlain-more : (s : Statement) (line : List ℕ) → IsPlain s → Clear line → IsUtf8 line → IsFurtherLine line → length s.text + 1 + length line ≤ 65536 → IsPlain (record s { text = s.text ++ 10 ∷ line })
IsPlain-more s line plain clear utf8 further fits =
    let lines = slice_split-append (λ b. eqb b 10) s.text 10 line refl ∙ ap (λ l. text_lines s.text ++ l) (text_lines-one line clear) in
    let short : length (s.text ++ 10 ∷ line) ≤ 65536 = grind (arith, common_steps) in
    record {
      from_1 = plain.from_1;
      to_32 = plain.to_32;
      text = record {
        utf8 = IsUtf8-append s.text (10 ∷ line) plain.text.utf8 (IsUtf8-append (10 ∷ []) line IsUtf8-lf utf8);
        short = short;
        lines = subst ArePlainLines (sym lines) (ArePlainLines-push (text_lines s.text) line (slice_split-some (λ b. eqb b 10) s.text) plain.text.lines further);
      };
    }

-- what was read is plain
PlainNow : Progress → Type 0
PlainNow now = AllByRecursion (AllByRecursion IsPlain) now.ended × AllByRecursion IsPlain now.running

fits_by : (b : Bool) (rule : ℕ) (now after : Progress) → cond {A = Result Progress ℕ} b (Err rule) (Ok now) ≡ Ok after → (b ≡ false) × (now ≡ after)
fits_by true rule now after e = cc
fits_by false rule now after e = (refl, cc)

module _ (line : List ℕ) (clear : Clear line) (now after : Progress) (plain : PlainNow now) where
  plain-head : (session : ℕ) → kind_of line ≡ Head session → with_text session (head_text line) now ≡ Ok after → PlainNow after
  unfolding PlainNow
  plain-head session kind e =
      let s : Statement = record { session = session; text = head_text line } in
      let fit = fits_by (nat_lt most_text (length (head_text line))) 9 (record now { running = now.running ++ s ∷ [] }) after e in
      let test : nat_lt most_text (length (head_text line)) ≡ false = fit.0 in
      let short : length (head_text line) ≤ 65536 = grind (arith, nat_tests) in
      subst PlainNow fit.1 (plain.0, keeps-push IsPlain now.running s plain.1 (IsPlain-head line session clear kind short))

  plain-more : kind_of line ≡ More → with_more line now (last_or None now.running) ≡ Ok after → PlainNow after
  unfolding PlainNow
  plain-more kind e = by (has_last now.running)
    where
      by : (now.running ≡ []) ⊎ ((front : List Statement) × (x : Statement) × (now.running ≡ front ++ x ∷ [])) → PlainNow after
      by (inl none) =
          let fault : with_more line now None ≡ Ok after = subst (λ l. with_more line now (last_or None l) ≡ Ok after) none e in
          cc
      by (inr (front, x, is)) =
          let last : last_or None now.running ≡ Some x = ap (last_or None) is ∙ last_or-push None front x in
          let some = subst (λ o. with_more line now o ≡ Ok after) last e in
          let y : Statement = record x { text = x.text ++ 10 ∷ line } in
          let fit = fits_by (nat_lt most_text (length x.text + 1 + length line)) 9 (record now { running = take (length now.running - 1) now.running ++ y ∷ [] }) after some in
          let test : nat_lt most_text (length x.text + 1 + length line) ≡ false = fit.0 in
          let short : length x.text + 1 + length line ≤ 65536 = grind (arith, nat_tests) in
          let before : take (length now.running - 1) now.running ≡ front = ap (λ l. take (length l - 1) l) is ∙ take-front front x in
          let parts = keeps-pop IsPlain front x (subst (AllByRecursion IsPlain) is plain.1) in
          let further = IsFurtherLine-kind line clear kind in
          let one = IsPlain-more x line parts.1 clear further.0 further.1 short in
          subst PlainNow fit.1 (plain.0, subst (λ l. AllByRecursion IsPlain (l ++ y ∷ [])) (sym before) (keeps-push IsPlain front y parts.0 one))

  plain-stepped : (kind : Kind) → kind_of line ≡ kind → stepped kind line now ≡ Ok after → PlainNow after
  unfolding PlainNow
  plain-stepped Ignored kind e = let same : now ≡ after = cc in subst PlainNow same plain
  plain-stepped Mark kind e =
      let same : record { ended = now.ended ++ now.running ∷ []; running = [] } ≡ after = cc in
      subst PlainNow same (keeps-push (AllByRecursion IsPlain) now.ended now.running plain.0 plain.1, tt)
  plain-stepped (Head session) kind e = plain-head session kind e
  plain-stepped More kind e = plain-more kind e
  plain-stepped (Fault rule) kind e = cc

  plain-step : step line now ≡ Ok after → PlainNow after
  unfolding step
  plain-step e = plain-stepped (kind_of line) refl e

run-plain : (ls : List (List ℕ)) (number : ℕ) (now : Progress) (phases : List (List Statement)) → AllByRecursion Clear ls → PlainNow now → run number now ls ≡ Ok phases → ArePlain phases
unfolding run PlainNow
run-plain [] number now phases clear plain e =
    let same : now.ended ++ now.running ∷ [] ≡ phases = cc in
    let some : 0 < length (now.ended ++ now.running ∷ []) = grind (arith, common_steps) in
    subst ArePlain same (record { some = some; each = keeps-push (AllByRecursion IsPlain) now.ended now.running plain.0 plain.1 })
run-plain (line ∷ more) number now phases clear plain e = by (step line now) refl e (λ after kept then. run-plain more (number + 1) after phases clear.1 kept then)
  where
    by : (r : Result Progress ℕ) → step line now ≡ r → next number r (λ after. run (number + 1) after more) ≡ Ok phases
        → ((after : Progress) → PlainNow after → run (number + 1) after more ≡ Ok phases → ArePlain phases) → ArePlain phases
    by (Ok after) taken then later = later after (plain-step line clear.0 now after plain taken) then
    by (Err rule) taken then later = cc

pub gives_plain : (bytes : List ℕ) → AllByRecursion NoReturn (lines bytes) → first_fault [] (lines bytes) ≡ None → ArePlain (phases_of (lines bytes))
unfolding PlainNow
gives_plain bytes no_return none =
    let clear = both NoEnd NoReturn (lines bytes) (lines_of_parts-no_end (text_lines bytes) (text_lines-no_end bytes)) no_return in
    run-plain (lines bytes) 1 start (phases_of (lines bytes)) clear (tt, tt)
    (run-start (lines bytes) ∙ ap (λ f. answer_of f (phases_of (lines bytes))) none)
