-- How a play goes on, from one statement and one phase to the next.
use Rattle.std.proofs.Common.{◌≡◌, ℕ, ◌+◌, ◌<◌, ◌≤◌, false, List, [], ◌∷◌, ◌++◌, length, get_or, take, refl, sym, ap, subst, ◌∙◌, append-nil, arith}
use Rattle.std.specs.List.{flat_map}
use Rattle.std.proofs.lemmas.Grind.{common_steps, flat_map-append}
use Rattle.std.proofs.lemmas.List.{take_all, take_more}
use Rattle.ct_model.specs.Apply.{no_db}
use Rattle.ct_core.specs.Stands.{CoreState, Stands}
use Rattle.ct_types.specs.declared.command.Journaled.{Journaled}
use Rattle.ct_types.proofs.Lists.{all_append}
use Rattle.ct_state.specs.Machine.{Machine, opening}
use Rattle.ct_machine.specs.Play.{Follows, IsPlay, end_of}
use Rattle.ct_machine.specs.Play as play
use Rattle.ct_script.specs.declared.script.Lane.{Lane}
use Rattle.ct_script.specs.declared.script.Phase.{Phase}
use Rattle.ct_script.specs.declared.script.Script.{Script}
use Rattle.ct_print.specs.Growing.{Growing, nothing, with_block, with_journal, with_phase, grown}
use Rattle.ct_print.proofs.Grows.{grown_push}
use Rattle.ct_run.specs.Meant.{IsMeant, AreMeant}
use Rattle.ct_run.specs.Schedule.{Numbered, numbered_from, numbered_in_lane, numbered_in, IsOf, IsInOrder, AreInOrder}
use Rattle.ct_run.specs.Steps.{Goes, HasRun}
use Rattle.ct_run.specs.Top.{all_of}
use Rattle.ct_run.proofs.Soundness.{meant_plays_stay_sound}

-- ---- plays and journals, one behind the other

IsPlay-append : (m : Machine) (journal more : List Journaled) → IsPlay m journal → IsPlay (end_of m journal) more → IsPlay m (journal ++ more)
IsPlay-append m [] more here there = there
IsPlay-append m (one ∷ journal) more here there = (here.0, IsPlay-append (play.after m one.session one.what one.reply) journal more here.1 there)

end_of-append : (m : Machine) (journal more : List Journaled) → end_of m (journal ++ more) ≡ end_of (end_of m journal) more
end_of-append m [] more = refl
end_of-append m (one ∷ journal) more = end_of-append (play.after m one.session one.what one.reply) journal more

AreMeant-append : (journal more : List Journaled) → AreMeant journal → AreMeant more → AreMeant (journal ++ more)
AreMeant-append journal more here there = all_append _ journal more here there

IsInOrder-append : (statements others : List Numbered) (journal more : List Journaled) → IsInOrder statements journal → IsInOrder others more → IsInOrder (statements ++ others) (journal ++ more)
IsInOrder-append [] others [] more here there = there
IsInOrder-append [] others (one ∷ journal) more here there = absurd here
IsInOrder-append (statement ∷ statements) others [] more here there = absurd here
IsInOrder-append (statement ∷ statements) others (one ∷ journal) more here there = (here.0, IsInOrder-append statements others journal more here.1 there)

pub length-in_order : (statements : List Numbered) (journal : List Journaled) → IsInOrder statements journal → length journal ≡ length statements
length-in_order [] [] in_order = refl
length-in_order [] (one ∷ journal) in_order = absurd in_order
length-in_order (statement ∷ statements) [] in_order = absurd in_order
length-in_order (statement ∷ statements) (one ∷ journal) in_order = let rest = length-in_order statements journal in_order.1 in omega arith

AreInOrder-push : (phases : List Phase) (phase : Phase) (journals : List (List Journaled)) (journal : List Journaled) → AreInOrder phases journals → IsInOrder (numbered_in phase) journal
    → AreInOrder (phases ++ phase ∷ []) (journals ++ journal ∷ [])
AreInOrder-push [] phase [] journal here there = (there, tt)
AreInOrder-push [] phase (one ∷ journals) journal here there = absurd here
AreInOrder-push (first ∷ phases) phase [] journal here there = absurd here
AreInOrder-push (first ∷ phases) phase (one ∷ journals) journal here there = (here.0, AreInOrder-push phases phase journals journal here.1 there)

all_of-push : (journals : List (List Journaled)) (journal : List Journaled) → all_of (journals ++ journal ∷ []) ≡ all_of journals ++ journal
all_of-push journals journal = flat_map-append (λ j. j) journals (journal ∷ []) ∙ ap (λ l. all_of journals ++ l) (append-nil journal)

-- ---- statements

numbered_from-push : (session number : ℕ) (texts : List (List ℕ)) (text : List ℕ)
    → numbered_from session number (texts ++ text ∷ []) ≡ numbered_from session number texts ++ record { session = session; number = number + length texts; text = text } ∷ []
numbered_from-push session number [] text =
    let same : number ≡ number + 0 = omega arith in
    ap (λ n. record { session = session; number = n; text = text } ∷ []) same
numbered_from-push session number (first ∷ texts) text =
    let same : (number + 1) + length texts ≡ number + length (first ∷ texts) = omega arith in
    ap (λ l. record { session = session; number = number; text = first } ∷ l)
    (numbered_from-push session (number + 1) texts text ∙ ap (λ n. numbered_from session (number + 1) texts ++ record { session = session; number = n; text = text } ∷ []) same)

-- one text more of a lane
pub numbered_more : (lane : Lane) (i : ℕ) (text : List ℕ) → i < length lane.statements → text ≡ get_or lane.statements i text
    → numbered_from lane.session lane.first (take (i + 1) lane.statements)
    ≡ numbered_from lane.session lane.first (take i lane.statements) ++ record { session = lane.session; number = lane.first + i; text = text } ∷ []
numbered_more lane i text inside is =
    let count : length (take i lane.statements) ≡ i = grind (arith, common_steps) in
    ap (numbered_from lane.session lane.first) (take_more lane.statements i text inside ∙ ap (λ t. take i lane.statements ++ t ∷ []) (sym is))
    ∙ numbered_from-push lane.session lane.first (take i lane.statements) text
    ∙ ap (λ n. numbered_from lane.session lane.first (take i lane.statements) ++ record { session = lane.session; number = lane.first + n; text = text } ∷ []) count

-- one lane more of a phase
pub lanes_more : (lanes : List Lane) (i : ℕ) (lane : Lane) → i < length lanes → lane ≡ get_or lanes i lane
    → flat_map numbered_in_lane (take (i + 1) lanes) ≡ flat_map numbered_in_lane (take i lanes) ++ numbered_in_lane lane
lanes_more lanes i lane inside is =
    ap (flat_map numbered_in_lane) (take_more lanes i lane inside ∙ ap (λ l. take i lanes ++ l ∷ []) (sym is))
    ∙ flat_map-append numbered_in_lane (take i lanes) (lane ∷ [])
    ∙ ap (λ l. flat_map numbered_in_lane (take i lanes) ++ l) (append-nil (numbered_in_lane lane))

-- ---- transcripts

with_journal-append : (it : Growing) (journal more : List Journaled) → with_journal it (journal ++ more) ≡ with_journal (with_journal it journal) more
with_journal-append it [] more = refl
with_journal-append it (one ∷ journal) more = with_journal-append (with_block it one) journal more

-- ---- steps

module _ {D : Type 0} where
  pub goes_none : (made : Growing) (core : CoreState D) → Goes [] made made core core
  goes_none made core = record { own = []; added = refl; in_order = tt; plays = λ m stands. (tt, stands); meant = tt }

  goes_one : (statement : Numbered) (old new : Growing) (one : Journaled) (before after : CoreState D) → new ≡ with_block old one → IsOf statement one → one.session < 256 → IsMeant one.what
      → ((m : Machine) → Stands before m → Follows m one.session one.what one.reply) → ((m : Machine) → Stands before m → Stands after (play.after m one.session one.what one.reply))
      → Goes (statement ∷ []) old new before after
  goes_one statement old new one before after added is byte meant follows stands = record {
    own = one ∷ [];
    added = added;
    in_order = (is, tt);
    plays = λ m s. ((follows m s, tt), stands m s);
    meant = ((byte, meant), tt);
  }

  pub goes_on : (statements others : List Numbered) (old mid new : Growing) (before between after : CoreState D)
      → Goes statements old mid before between → Goes others mid new between after → Goes (statements ++ others) old new before after
  goes_on statements others old mid new before between after here there = record {
    own = here.own ++ there.own;
    added = there.added ∙ ap (λ it. with_journal it there.own) here.added ∙ sym (with_journal-append old here.own there.own);
    in_order = IsInOrder-append statements others here.own there.own here.in_order there.in_order;
    plays = λ m s.
        let first = here.plays m s in
        let second = there.plays (end_of m here.own) first.1 in
        (IsPlay-append m here.own there.own first.0 second.0, subst (Stands after) (sym (end_of-append m here.own there.own)) second.1);
    meant = AreMeant-append here.own there.own here.meant there.meant;
  }

  -- a lane goes on by one statement
  pub goes_statement : (lane : Lane) (i : ℕ) (text : List ℕ) (old mid new : Growing) (one : Journaled) (before between after : CoreState D)
      → i < length lane.statements → text ≡ get_or lane.statements i text
      → Goes (numbered_from lane.session lane.first (take i lane.statements)) old mid before between
      → new ≡ with_block mid one → IsOf (record { session = lane.session; number = lane.first + i; text = text }) one → one.session < 256 → IsMeant one.what
      → ((m : Machine) → Stands between m → Follows m one.session one.what one.reply) → ((m : Machine) → Stands between m → Stands after (play.after m one.session one.what one.reply))
      → Goes (numbered_from lane.session lane.first (take (i + 1) lane.statements)) old new before after
  goes_statement lane i text old mid new one before between after inside is goes added of byte meant follows stands =
      subst (λ statements. Goes statements old new before after) (sym (numbered_more lane i text inside is))
      (goes_on _ _ old mid new before between after goes (goes_one _ mid new one between after added of byte meant follows stands))

  -- a phase goes on by one lane
  pub goes_lane : (lanes : List Lane) (i : ℕ) (lane : Lane) (old mid new : Growing) (before between after : CoreState D)
      → i < length lanes → lane ≡ get_or lanes i lane → Goes (flat_map numbered_in_lane (take i lanes)) old mid before between → Goes (numbered_in_lane lane) mid new between after
      → Goes (flat_map numbered_in_lane (take (i + 1) lanes)) old new before after
  goes_lane lanes i lane old mid new before between after inside is here there =
      subst (λ statements. Goes statements old new before after) (sym (lanes_more lanes i lane inside is)) (goes_on _ _ old mid new before between after here there)

  -- ---- phases

  -- the transcript of a run of phases, from the opening of the empty database, and the core that stands after them
  pub record HasPlayed (phases : List Phase) (made : Growing) (core : CoreState D) : Type 0 where
    pub journals : List (List Journaled)
    pub is_grown : made ≡ grown journals
    pub in_order : AreInOrder phases journals
    pub is_play : IsPlay (opening no_db) (all_of journals)
    pub meant : AreMeant (all_of journals)
    pub stands : Stands core (end_of (opening no_db) (all_of journals))

  pub played_none : (core : CoreState D) → Stands core (opening no_db) → HasPlayed [] nothing core
  played_none core stands = record { journals = []; is_grown = refl; in_order = tt; is_play = tt; meant = tt; stands = stands }

  played_push : (phases : List Phase) (phase : Phase) (made new : Growing) (between after : CoreState D)
      → HasPlayed phases made between → Goes (numbered_in phase) (with_phase made) new between after → HasPlayed (phases ++ phase ∷ []) new after
  played_push phases phase made new between after played goes =
      let journals = played.journals in
      let journal = goes.own in
      let m : Machine = end_of (opening no_db) (all_of journals) in
      let plays = goes.plays m played.stands in
      let whole = all_of-push journals journal in
      record {
        journals = journals ++ journal ∷ [];
        is_grown = goes.added ∙ ap (λ it. with_journal (with_phase it) journal) played.is_grown ∙ grown_push journals journal;
        in_order = AreInOrder-push phases phase journals journal played.in_order goes.in_order;
        is_play = subst (IsPlay (opening no_db)) (sym whole) (IsPlay-append (opening no_db) (all_of journals) journal played.is_play plays.0);
        meant = subst AreMeant (sym whole) (AreMeant-append (all_of journals) journal played.meant goes.meant);
        stands = subst (λ j. Stands after (end_of (opening no_db) j)) (sym whole) (subst (Stands after) (sym (end_of-append (opening no_db) (all_of journals) journal)) plays.1);
      }

  pub played_more : (phases : List Phase) (i : ℕ) (phase : Phase) (made new : Growing) (between after : CoreState D)
      → i < length phases → phase ≡ get_or phases i phase
      → HasPlayed (take i phases) made between → Goes (numbered_in phase) (with_phase made) new between after → HasPlayed (take (i + 1) phases) new after
  played_more phases i phase made new between after inside is played goes =
      let more = take_more phases i phase inside ∙ ap (λ p. take i phases ++ p ∷ []) (sym is) in
      subst (λ ps. HasPlayed ps new after) (sym more) (played_push (take i phases) phase made new between after played goes)

  -- the transcript of all phases is that of a run of the script
  has_run : (script : Script) (made : Growing) (core : CoreState D) → HasPlayed script.phases made core → HasRun script made
  has_run script made core played = (played.journals, record { in_order = played.in_order; is_play = played.is_play }, meant_plays_stay_sound (all_of played.journals) played.meant, played.is_grown)

  -- so it is once the phases so far are all
  pub has_run_whole : (script : Script) (i : ℕ) (made : Growing) (core : CoreState D) → length script.phases ≤ i → HasPlayed (take i script.phases) made core → HasRun script made
  has_run_whole script i made core over played = has_run script made core (subst (λ phases. HasPlayed phases made core) (take_all i script.phases over) played)
