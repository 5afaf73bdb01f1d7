-- Which slot is current when the other one is closed, or stands there with the next turn.
use Rattle.std.proofs.Common.{◌≡◌, inl, ⊎_elim, ℕ, ◌+◌, ◌-◌, ◌%◌, ◌<◌, true, false, cond, eqb, List, length, Option, Some, None, refl, sym, ap, subst, arith}
use Rattle.std.proofs.lemmas.Bool.Decides.{nat_tests}
use Rattle.ct_log.specs.Reading.{IsOpen}
use Rattle.ct_pages.specs.declared.slot.Super.{Super}
use Rattle.ct_pages.specs.Slots.{IsCanonical, spelled, IsSlot, current_of, slot_at, IsMarked, Names, IsLaidOut}
use Rattle.ct_pages.specs.Flips.{with_slot, IsClosedSlot}
use Rattle.ct_pages.specs.Fresh.{fresh_slot}
use Rattle.ct_pages.specs.Laws.{ClosedIsIgnored, NextIsCurrent, FreshIsCurrent}
use Rattle.ct_pages.proofs.Windows.{slot_there, zero_stays, one_stays, marked_stays}
use Rattle.ct_pages.proofs.Decoding.{length-spelled, stands}

-- ---- what stands in the other place

-- slot 0 or slot 1 holds the current slot, and the other place has other bytes
module _ (bytes other : List ℕ) (slot : Super) (size : length other ≡ 16) (marked : IsMarked bytes) where
  beside_zero : IsSlot 0 (slot_at 0 bytes) slot → IsSlot 0 (slot_at 0 (with_slot 1 other bytes)) slot
  beside_zero is = subst (λ l. IsSlot 0 l slot) (sym (zero_stays bytes other marked.long)) is

  beside_one : IsSlot 1 (slot_at 1 bytes) slot → IsSlot 1 (slot_at 1 (with_slot 0 other bytes)) slot
  beside_one is = subst (λ l. IsSlot 1 l slot) (sym (one_stays bytes other marked.long size)) is

  there_zero : slot_at 0 (with_slot 0 other bytes) ≡ other
  there_zero = slot_there 0 bytes (omega (arith, marked.long)) other size

  there_one : slot_at 1 (with_slot 1 other bytes) ≡ other
  there_one = slot_there 1 bytes (omega (arith, marked.long)) other size

-- ---- a closed slot

closed_one : (bytes other : List ℕ) (slot : Super) → IsClosedSlot other → IsMarked bytes → IsSlot 0 (slot_at 0 bytes) slot → Names (with_slot 1 other bytes) slot
closed_one bytes other slot closed marked is = record {
  marked = marked_stays 1 bytes other (omega arith) closed.size marked;
  zero = Some slot;
  one = None;
  says_zero = beside_zero bytes other slot closed.size marked is;
  says_one = subst (λ l. IsOpen l → ⊥) (sym (there_one bytes other slot closed.size marked)) closed.closed;
  current = refl;
}

closed_zero : (bytes other : List ℕ) (slot : Super) → IsClosedSlot other → IsMarked bytes → IsSlot 1 (slot_at 1 bytes) slot → Names (with_slot 0 other bytes) slot
closed_zero bytes other slot closed marked is = record {
  marked = marked_stays 0 bytes other (omega arith) closed.size marked;
  zero = None;
  one = Some slot;
  says_zero = subst (λ l. IsOpen l → ⊥) (sym (there_zero bytes other slot closed.size marked)) closed.closed;
  says_one = beside_one bytes other slot closed.size marked is;
  current = refl;
}

-- at the place that the current slot's turn leaves
at_one : (P : ℕ → Type 0) (slot : Super) → slot.turn % 2 ≡ 0 → P 1 → P (1 - slot.turn % 2)
at_one P slot even holds = let is : 1 ≡ 1 - slot.turn % 2 = omega (arith, even) in subst P is holds

at_zero : (P : ℕ → Type 0) (slot : Super) → slot.turn % 2 ≡ 1 → P 0 → P (1 - slot.turn % 2)
at_zero P slot odd holds = let is : 0 ≡ 1 - slot.turn % 2 = omega (arith, odd) in subst P is holds

pub closed_is_ignored : ClosedIsIgnored
closed_is_ignored bytes other slot closed names = ⊎_elim
    (λ is. at_one (λ place. Names (with_slot place other bytes) slot) slot is.stands.in_place (closed_one bytes other slot closed names.marked is))
    (λ is. at_zero (λ place. Names (with_slot place other bytes) slot) slot is.stands.in_place (closed_zero bytes other slot closed names.marked is))
    (stands bytes slot names)

-- ---- an open slot with the next turn

second_wins : (slot next : Super) → slot.turn < 4 → next.turn ≡ (slot.turn + 1) % 4 → current_of (Some slot) (Some next) ≡ Some next
second_wins slot next small turn =
    let no : eqb slot.turn ((next.turn + 1) % 4) ≡ false = grind (arith, nat_tests, small, turn) in
    ap (λ t. cond {A = Option Super} t (Some slot) (Some next)) no

first_wins : (slot next : Super) → next.turn ≡ (slot.turn + 1) % 4 → current_of (Some next) (Some slot) ≡ Some next
first_wins slot next turn =
    let yes : eqb next.turn ((slot.turn + 1) % 4) ≡ true = grind (arith, nat_tests, turn) in
    ap (λ t. cond {A = Option Super} t (Some next) (Some slot)) yes

is_slot : (place : ℕ) (bytes : List ℕ) (next : Super) → bytes ≡ spelled next → IsCanonical next → next.turn % 2 ≡ place → IsSlot place bytes next
is_slot place bytes next spells canonical in_place = record { spells = spells; stands = record { canonical = canonical; in_place = in_place } }

next_one : (bytes : List ℕ) (slot next : Super) → IsCanonical next → next.turn ≡ (slot.turn + 1) % 4 → IsMarked bytes → IsSlot 0 (slot_at 0 bytes) slot → Names (with_slot 1 (spelled next) bytes) next
next_one bytes slot next canonical turn marked is = record {
  marked = marked_stays 1 bytes (spelled next) (omega arith) (length-spelled next) marked;
  zero = Some slot;
  one = Some next;
  says_zero = beside_zero bytes (spelled next) slot (length-spelled next) marked is;
  says_one = is_slot 1 (slot_at 1 (with_slot 1 (spelled next) bytes)) next (there_one bytes (spelled next) next (length-spelled next) marked) canonical (omega (arith, turn, is.stands.in_place));
  current = second_wins slot next is.stands.canonical.turn turn;
}

next_zero : (bytes : List ℕ) (slot next : Super) → IsCanonical next → next.turn ≡ (slot.turn + 1) % 4 → IsMarked bytes → IsSlot 1 (slot_at 1 bytes) slot → Names (with_slot 0 (spelled next) bytes) next
next_zero bytes slot next canonical turn marked is = record {
  marked = marked_stays 0 bytes (spelled next) (omega arith) (length-spelled next) marked;
  zero = Some next;
  one = Some slot;
  says_zero = is_slot 0 (slot_at 0 (with_slot 0 (spelled next) bytes)) next (there_zero bytes (spelled next) next (length-spelled next) marked) canonical (omega (arith, turn, is.stands.in_place));
  says_one = beside_one bytes (spelled next) slot (length-spelled next) marked is;
  current = first_wins slot next turn;
}

pub next_is_current : NextIsCurrent
next_is_current bytes slot next canonical turn names = ⊎_elim
    (λ is. at_one (λ place. Names (with_slot place (spelled next) bytes) next) slot is.stands.in_place (next_one bytes slot next canonical turn names.marked is))
    (λ is. at_zero (λ place. Names (with_slot place (spelled next) bytes) next) slot is.stands.in_place (next_zero bytes slot next canonical turn names.marked is))
    (stands bytes slot names)

-- ---- the first slot

fresh_is_canonical : IsCanonical fresh_slot
fresh_is_canonical = record {
  format = refl;
  turn = omega arith;
  checkpoint = (omega arith, (λ e. refl, λ e. refl));
  fits = omega arith;
  first = (omega arith, omega arith);
  second = inl refl;
}

pub fresh_is_current : FreshIsCurrent
fresh_is_current bytes laid =
    let size = length-spelled fresh_slot in
    record {
      marked = marked_stays 0 bytes (spelled fresh_slot) (omega arith) size laid.marked;
      zero = Some fresh_slot;
      one = None;
      says_zero = is_slot 0 (slot_at 0 (with_slot 0 (spelled fresh_slot) bytes)) fresh_slot (there_zero bytes (spelled fresh_slot) fresh_slot size laid.marked) fresh_is_canonical refl;
      says_one = subst (λ l. IsOpen l → ⊥) (sym (one_stays bytes (spelled fresh_slot) laid.marked.long size)) laid.one;
      current = refl;
    }

-- and of one whose slot 0 is another closed one, none is
pub closed_is_laid_out : (bytes other : List ℕ) → IsClosedSlot other → IsLaidOut bytes → IsLaidOut (with_slot 0 other bytes)
closed_is_laid_out bytes other closed laid = record {
  marked = marked_stays 0 bytes other (omega arith) closed.size laid.marked;
  zero = subst (λ l. IsOpen l → ⊥) (sym (there_zero bytes other fresh_slot closed.size laid.marked)) closed.closed;
  one = subst (λ l. IsOpen l → ⊥) (sym (one_stays bytes other laid.marked.long closed.size)) laid.one;
}
