-- How large the script of some bytes is.
use Rattle.std.proofs.Common.{◌≡◌, ℕ, ◌+◌, ◌≤◌, nat_eq, nat_lt, zero, suc, Bool, true, false, ◌||◌, cond, eqb, filter, List, [], ◌∷◌, ◌++◌, map, length, get_or, count_by, sum_by, fold, length-append, append_assoc, Some, None, Option, Result, Ok, Err, refl, sym, ap, subst, ◌∙◌, arith}
use Rattle.std.specs.List.{All, AllByRecursion, IsDistinct, list_any, position_or_len, slice_split, onto_first, last_or}
use Rattle.std.specs.Str.Lines.{lines, lines_of_parts}
use Rattle.std.proofs.lemmas.Grind.{common_steps}
use Rattle.std.proofs.lemmas.Bool.Decides.{nat_tests}
use Rattle.std.proofs.lemmas.List.{append-nil}
use Rattle.std.proofs.lemmas.List.Elements.{All-nil, All-cons, All-head, All-tail, All-push, All-take, All-map, All-filter}
use Rattle.std.proofs.lemmas.List.Sums.{sum_by-cons, sum_by-append, length-filter, count_by-le-length}
use Rattle.indexmap.specs.IndexSet.{insert_key}
use Rattle.ct_script.specs.Forms.{kind_of, head_text}
use Rattle.ct_script.specs.Statements.{Statement, begun, phases_of}
use Rattle.ct_script.specs.Faults.{most_text}
use Rattle.ct_script.specs.Reading.{Progress, start, with_more, stepped, step, next, run}
use Rattle.ct_script.specs.Answer.{Reads}
use Rattle.ct_script.specs.Schedule.{is_of, named, texts_of, lane_of, lanes_of, scheduled}
use Rattle.ct_script.specs.Placing.{with_text_at, lane_from}
use Rattle.ct_script.specs.Size.{lane_size, phase_size, IsLaneWithin, IsPhaseWithin, IsWithin}
use Rattle.ct_script.specs.declared.kind.Kind.{Kind}
use Rattle.ct_script.specs.declared.kind.Kind.TheVariants.{Ignored, Mark, Head, More, Fault}
use Rattle.ct_script.specs.declared.script.Lane.{Lane}
use Rattle.ct_script.specs.declared.script.Phase.{Phase}
use Rattle.ct_script.specs.declared.script.Script.{Script}
use Rattle.ct_script.proofs.Parts.{HasFirst, slice_split-some, lines_of_parts-cons}
use Rattle.ct_script.proofs.Placements.{placed-push}
use Rattle.ct_script.proofs.Runs.{answer_of, run-start}

-- ---- how many lines

one_line : (test : Bool) (line : List ℕ) (n : ℕ) → length (cond test [] (line ∷ [])) ≤ n + 1
one_line true line n = omega arith
one_line false line n = omega arith

-- one byte more in the first part
grown : (b n : ℕ) (parts : List (List ℕ)) → HasFirst parts → length (lines_of_parts parts) ≤ n → length (lines_of_parts (onto_first b parts)) ≤ n + 1
grown b n [] (x, more, e) few = cc
grown b n (part ∷ []) some few = one_line (eqb (length (b ∷ part)) 0) (b ∷ part) n
grown b n (part ∷ other ∷ parts) some few = omega arith

few_lines : (bytes : List ℕ) → length (lines bytes) ≤ length bytes
few_lines [] = omega arith
few_lines (b ∷ bytes) = by (eqb b 10) (few_lines bytes)
  where
    by : (test : Bool) → length (lines bytes) ≤ length bytes
        → length (lines_of_parts (cond test ([] ∷ slice_split (λ x. eqb x 10) bytes) (onto_first b (slice_split (λ x. eqb x 10) bytes)))) ≤ length (b ∷ bytes)
    by true few =
        let one = ap length (lines_of_parts-cons [] (slice_split (λ x. eqb x 10) bytes) (slice_split-some (λ x. eqb x 10) bytes)) in
        omega arith
    by false few = omega (arith, grown b (length bytes) (slice_split (λ x. eqb x 10) bytes) (slice_split-some (λ x. eqb x 10) bytes) few)

-- ---- how many statements

few_onto : (s : Statement) (phases : List (List Statement)) → sum_by length (onto_first s phases) ≤ sum_by length phases + 1
few_onto s [] = omega arith
few_onto s (phase ∷ phases) = omega (arith, sum_by-cons length (s ∷ phase) phases, sum_by-cons length phase phases)

few_begun : (kind : Kind) (line : List ℕ) (more : List (List ℕ)) (phases : List (List Statement)) → sum_by length (begun kind line more phases) ≤ sum_by length phases + 1
few_begun Ignored line more phases = omega arith
few_begun Mark line more phases = omega (arith, sum_by-cons length [] phases)
few_begun (Head session) line more phases = few_onto _ phases
few_begun More line more phases = omega arith
few_begun (Fault rule) line more phases = omega arith

few_statements : (ls : List (List ℕ)) → sum_by length (phases_of ls) ≤ length ls
unfolding phases_of
few_statements [] = omega arith
few_statements (line ∷ more) = omega (arith, few_begun (kind_of line) line more (phases_of more), few_statements more)

-- ---- how long their texts are

abbrev IsShort : Statement → Type 0
IsShort s = length s.text ≤ most_text

-- no text of what was read is too long
record AreShort (now : Progress) : Type 0 where
  ended : All (All IsShort) now.ended
  running : All IsShort now.running

short_by : (test : Bool) (one after : Progress) → (test ≡ false → AreShort one) → cond {A = Result Progress ℕ} test (Err 9) (Ok one) ≡ Ok after → AreShort after
short_by true one after short e = cc
short_by false one after short e = let same : one ≡ after = cc in subst AreShort same (short refl)

short_text : (bytes : ℕ) → nat_lt most_text bytes ≡ false → bytes ≤ most_text
short_text bytes e = grind (arith, nat_tests)

short_more : (line : List ℕ) (now after : Progress) (last : Option Statement) → AreShort now → with_more line now last ≡ Ok after → AreShort after
short_more line now after None short e = cc
short_more line now after (Some last) short e =
    short_by (nat_lt most_text (length last.text + 1 + length line)) _ after
    (λ test. record {
      ended = short.ended;
      running = All-push IsShort _ _ (All-take IsShort _ now.running short.running)
          (omega (arith, short_text (length last.text + 1 + length line) test, length-append last.text (10 ∷ line)));
    })
    e

short_stepped : (kind : Kind) (line : List ℕ) (now after : Progress) → AreShort now → stepped kind line now ≡ Ok after → AreShort after
short_stepped Ignored line now after short e = let same : now ≡ after = cc in subst AreShort same short
short_stepped Mark line now after short e =
    let same : record { ended = now.ended ++ now.running ∷ []; running = [] } ≡ after = cc in
    subst AreShort same (record { ended = All-push (All IsShort) now.ended now.running short.ended short.running; running = All-nil IsShort })
short_stepped (Head session) line now after short e =
    short_by (nat_lt most_text (length (head_text line))) _ after
    (λ test. record { ended = short.ended; running = All-push IsShort now.running _ short.running (short_text (length (head_text line)) test) })
    e
short_stepped More line now after short e = short_more line now after (last_or None now.running) short e
short_stepped (Fault rule) line now after short e = cc

short_run : (ls : List (List ℕ)) (n : ℕ) (now : Progress) (phases : List (List Statement)) → AreShort now → run n now ls ≡ Ok phases → All (All IsShort) phases
unfolding run step
short_run [] n now phases short e =
    let same : now.ended ++ now.running ∷ [] ≡ phases = cc in
    subst (All (All IsShort)) same (All-push (All IsShort) now.ended now.running short.ended short.running)
short_run (line ∷ more) n now phases short e = by (stepped (kind_of line) line now) refl e (λ after. short_run more (n + 1) after phases)
  where
    by : (r : Result Progress ℕ) → stepped (kind_of line) line now ≡ r → next n r (λ after. run (n + 1) after more) ≡ Ok phases
        → ((after : Progress) → AreShort after → run (n + 1) after more ≡ Ok phases → All (All IsShort) phases) → All (All IsShort) phases
    by (Ok after) is e later = later after (short_stepped (kind_of line) line now after short is) e
    by (Err rule) is e later = cc

-- ---- how far they are numbered

module _ (most : ℕ) where
  lane_within : (earlier phase : List Statement) (session : ℕ) → length earlier + length phase ≤ most → All IsShort phase → IsLaneWithin most (lane_of earlier phase session)
  lane_within earlier phase session few short = record {
    texts = All-map (λ text. length text ≤ most_text) (λ (s : Statement). s.text) (filter (is_of session) phase) (All-filter (is_of session) IsShort phase short);
    numbers = omega (arith, length-texts session phase, count_by-le-length (is_of session) earlier, count_by-le-length (is_of session) phase);
  }
    where
      length-texts : (session : ℕ) (phase : List Statement) → length (texts_of session phase) ≡ count_by (is_of session) phase
      length-texts session phase = grind (arith, common_steps, length-filter (is_of session) phase)

  phases_within : (earlier : List Statement) (phases : List (List Statement)) → length earlier + sum_by length phases ≤ most → All (All IsShort) phases → All (IsPhaseWithin most) (scheduled earlier phases)
  unfolding scheduled
  phases_within earlier [] few short = All-nil (IsPhaseWithin most)
  phases_within earlier (phase ∷ more) few short =
      let all = sum_by-cons length phase more in
      let lanes : All (IsLaneWithin most) (lanes_of earlier phase) =
      All-map (IsLaneWithin most) (lane_of earlier phase) (named phase)
      (λ k d inside. lane_within earlier phase (get_or (named phase) k d) (omega arith) (All-head (All IsShort) phase more short)) in
      All-cons (IsPhaseWithin most) _ (scheduled (earlier ++ phase) more) lanes
      (phases_within (earlier ++ phase) more (omega (arith, length-append earlier phase)) (All-tail (All IsShort) phase more short))

-- ---- how many statements the lanes have

apart_push : (x k : ℕ) (keys : List ℕ) → AllByRecursion (λ y. nat_eq x y ≡ false) keys → nat_eq x k ≡ false → AllByRecursion (λ y. nat_eq x y ≡ false) (keys ++ k ∷ [])
apart_push x k [] all other = (other, tt)
apart_push x k (y ∷ keys) all other = (all.0, apart_push x k keys all.1 other)

distinct_push : (keys : List ℕ) (k : ℕ) → IsDistinct nat_eq keys → list_any (nat_eq k) keys ≡ false → IsDistinct nat_eq (keys ++ k ∷ [])
unfolding IsDistinct
distinct_push [] k distinct new = (tt, tt)
distinct_push (x ∷ keys) k distinct new =
    let test = both_false (nat_eq k x) (list_any (nat_eq k) keys) new in
    let other : nat_eq k x ≡ false = test.0 in
    let turned : nat_eq x k ≡ false = grind (arith, nat_tests) in
    (apart_push x k keys distinct.0 turned, distinct_push keys k distinct.1 test.1)
  where
    both_false : (a b : Bool) → (a || b) ≡ false → (a ≡ false) × (b ≡ false)
    both_false true b e = cc
    both_false false b e = (refl, e)

distinct_insert : (keys : List ℕ) (k : ℕ) → IsDistinct nat_eq keys → IsDistinct nat_eq (insert_key nat_eq keys k)
distinct_insert keys k distinct = by (list_any (nat_eq k) keys) refl
  where
    by : (b : Bool) → list_any (nat_eq k) keys ≡ b → IsDistinct nat_eq (cond b keys (keys ++ k ∷ []))
    by true e = distinct
    by false e = distinct_push keys k distinct e

distinct_from : (keys : List ℕ) (phase : List Statement) → IsDistinct nat_eq keys → IsDistinct nat_eq (fold (λ ks (s : Statement). insert_key nat_eq ks s.session) keys phase)
distinct_from keys [] distinct = distinct
distinct_from keys (s ∷ phase) distinct = distinct_from (insert_key nat_eq keys s.session) phase (distinct_insert keys s.session distinct)

distinct_named : (phase : List Statement) → IsDistinct nat_eq (named phase)
unfolding IsDistinct
distinct_named phase = distinct_from [] phase tt

-- a text more
size_with_text : (n : ℕ) (text : List ℕ) (lanes : List Lane) → sum_by lane_size (with_text_at n text lanes) ≤ sum_by lane_size lanes + 1
size_with_text zero text [] = omega arith
size_with_text (suc n) text [] = omega arith
size_with_text zero text (lane ∷ lanes) =
    omega (arith, sum_by-cons lane_size lane lanes, sum_by-cons lane_size (record lane { statements = lane.statements ++ text ∷ [] }) lanes, length-append lane.statements (text ∷ []))
size_with_text (suc n) text (lane ∷ lanes) =
    omega (arith, size_with_text n text lanes, sum_by-cons lane_size lane lanes, sum_by-cons lane_size lane (with_text_at n text lanes))

-- a lane without texts more
size_with_lane : (test : Bool) (session first : ℕ) (lanes : List Lane)
    → sum_by lane_size (cond test lanes (lanes ++ record { session = session; first = first; statements = [] } ∷ [])) ≡ sum_by lane_size lanes
size_with_lane true session first lanes = refl
size_with_lane false session first lanes =
    let new : Lane = record { session = session; first = first; statements = [] } in
    omega (arith, sum_by-append lane_size lanes (new ∷ []))

-- the lanes of some statements, by their texts alone
abbrev own_lanes : List Statement → List Lane
own_lanes phase = map (lane_from [] phase) (named phase)

size_push : (done : List Statement) (s : Statement) → sum_by lane_size (own_lanes (done ++ s ∷ [])) ≤ sum_by lane_size (own_lanes done) + 1
size_push done s =
    let first : ℕ = get_or [] s.session 0 + count_by (is_of s.session) done + 1 in
    let is = placed-push [] done s first (distinct_named done) refl in
    let test : Bool = list_any (nat_eq s.session) (named done) in
    omega (
      arith,
      ap (sum_by lane_size) is,
      size_with_text (position_or_len (nat_eq s.session) (named done)) s.text (cond test (own_lanes done) (own_lanes done ++ record { session = s.session; first = first; statements = [] } ∷ [])),
      size_with_lane test s.session first (own_lanes done),
    )

size_more : (done more : List Statement) → sum_by lane_size (own_lanes (done ++ more)) ≤ sum_by lane_size (own_lanes done) + length more
size_more done [] = omega (arith, ap (λ l. sum_by lane_size (own_lanes l)) (append-nil done))
size_more done (s ∷ more) =
    omega (arith, ap (λ l. sum_by lane_size (own_lanes l)) (append_assoc done (s ∷ []) more), size_more (done ++ s ∷ []) more, size_push done s)

same_sizes : (f g : ℕ → Lane) (keys : List ℕ) → ((k : ℕ) → lane_size (f k) ≡ lane_size (g k)) → sum_by lane_size (map f keys) ≡ sum_by lane_size (map g keys)
same_sizes f g [] same = refl
same_sizes f g (k ∷ keys) same =
    omega (arith, sum_by-cons lane_size (f k) (map f keys), sum_by-cons lane_size (g k) (map g keys), same k, same_sizes f g keys same)

phase_few : (earlier phase : List Statement) → sum_by lane_size (lanes_of earlier phase) ≤ length phase
phase_few earlier phase =
    omega (arith, same_sizes (lane_of earlier phase) (lane_from [] phase) (named phase) (λ k. refl), size_more [] phase)

script_few : (earlier : List Statement) (phases : List (List Statement)) → sum_by phase_size (scheduled earlier phases) ≤ sum_by length phases
unfolding scheduled
script_few earlier [] = omega arith
script_few earlier (phase ∷ more) =
    let made : Phase = record { restart = false; sessions = lanes_of earlier phase } in
    omega (arith, sum_by-cons length phase more, sum_by-cons phase_size made (scheduled (earlier ++ phase) more), phase_few earlier phase, script_few (earlier ++ phase) more)

-- ---- the script of some bytes

pub reads_within : (bytes : List ℕ) (script : Script) (most : ℕ) → length bytes ≤ most → Reads bytes (Ok script) → IsWithin most script
reads_within bytes script most few reads =
    let found : run 1 start (lines bytes) ≡ Ok (phases_of (lines bytes)) =
    run-start (lines bytes) ∙ ap (λ f. answer_of f (phases_of (lines bytes))) reads.0 in
    let short = short_run (lines bytes) 1 start (phases_of (lines bytes)) (record { ended = All-nil (All IsShort); running = All-nil IsShort }) found in
    let count : sum_by length (phases_of (lines bytes)) ≤ most = omega (arith, few_statements (lines bytes), few_lines bytes) in
    subst (IsWithin most) (sym reads.1) (record {
      size = omega (arith, script_few [] (phases_of (lines bytes)));
      phases = phases_within most [] (phases_of (lines bytes)) (omega arith) short;
    })
