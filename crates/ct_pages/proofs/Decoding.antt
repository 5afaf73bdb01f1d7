-- What the bytes of a slot spell, and what is ignored.
use Rattle.std.proofs.Common.{◌≡◌, ◌⊎◌, inl, inr, ⊎_elim, ℕ, ◌+◌, ◌%◌, ◌^◌, ◌<◌, ◌≤◌, Bool, true, false, cond, eqb, List, [], ◌∷◌, ◌++◌, length, get_or, slice_index, take, drop, Option, Some, None, Result, Ok, Err, refl, sym, ◌∙◌, ap, subst, arith, length-append}
use Rattle.std.proofs.lemmas.List.{length-take, length-drop, take_all, drop_more, take-append-drop, take-append-le, drop-append-le}
use Rattle.byteorder.specs.Endian.{little_number, little_bytes}
use Rattle.byteorder.specs.Numbers.{little_number-reads_back}
use Rattle.ct_log.specs.Reading.{IsOpen}
use Rattle.ct_log.specs.declared.fault.OpenFault.{OpenFault}
use Rattle.ct_log.specs.declared.fault.OpenFault.TheVariants.{Foreign, DiskFault, Memory}
use Rattle.ct_pages.specs.declared.slot.Super.{Super}
use Rattle.ct_pages.specs.Slots.{MayStand, spelled, IsSlot, Says, IsForeignSlot, current_of, mark, slot_at, IsMarked, Names, IsLaidOut, IsUnfinished, IsForeignAt}
use Rattle.ct_pages.specs.Reading.{Reads, SpellFields, HasZeros}
use Rattle.ct_pages.specs.Laws.{OneSlot, OneOffset, OneOfThree, NamedIsCanonical, RestIsIgnored}

-- ---- the bytes of a slot

pub length-spelled : (slot : Super) → length (spelled slot) ≡ 16
unfolding spelled
length-spelled slot = refl

pub opened-spelled : (slot : Super) → IsOpen (spelled slot)
unfolding spelled
opened-spelled slot = refl

-- bytes with these fields are spelled by no other slot
pub fields_once : (bytes : List ℕ) (slot other : Super) → slot.length < 2 ^ 64 → other.length < 2 ^ 64 → SpellFields bytes slot → bytes ≡ spelled other → slot ≡ other
unfolding spelled
fields_once bytes slot other small small_too fields is =
    let e = sym fields ∙ is in
    let read = λ (l : List ℕ). little_number 8 (drop 8 l ++ []) in
    let same_length : slot.length ≡ other.length = sym (little_number-reads_back 8 slot.length [] small) ∙ ap read e ∙ little_number-reads_back 8 other.length [] small_too in
    λ i. record {
      format = get_or (e i) 1 0;
      turn = get_or (e i) 2 0;
      checkpoint = get_or (e i) 3 0;
      first = get_or (e i) 4 0;
      second = get_or (e i) 5 0;
      length = same_length i;
    }

pub spelled_once : (a b : Super) → a.length < 2 ^ 64 → b.length < 2 ^ 64 → spelled a ≡ spelled b → a ≡ b
unfolding spelled
spelled_once a b small small_too e = fields_once (spelled a) a b small small_too refl e

-- a slot that is there is open
pub opened : (place : ℕ) (bytes : List ℕ) (slot : Super) → IsSlot place bytes slot → IsOpen bytes
opened place bytes slot is = subst (λ l. IsOpen l) (sym is.spells) (opened-spelled slot)

pub said_once : (place : ℕ) (bytes : List ℕ) (said other : Option Super) → Says place bytes said → Says place bytes other → said ≡ other
said_once place bytes None None a b = refl
said_once place bytes None (Some slot) a b = absurd (a (opened place bytes slot b))
said_once place bytes (Some slot) None a b = absurd (b (opened place bytes slot a))
said_once place bytes (Some slot) (Some other) a b = ap (λ s. Some s) (spelled_once slot other a.stands.canonical.fits b.stands.canonical.fits (sym a.spells ∙ b.spells))

-- what says something or nothing is not foreign
pub said_is_not_foreign : (place : ℕ) (bytes : List ℕ) (said : Option Super) → Says place bytes said → IsForeignSlot place bytes → ⊥
said_is_not_foreign place bytes None says foreign = says foreign.opened
said_is_not_foreign place bytes (Some slot) says foreign = foreign.none slot says

-- ---- the current slot

pub current_in : (zero one : Option Super) (slot : Super) → current_of zero one ≡ Some slot → (zero ≡ Some slot) ⊎ (one ≡ Some slot)
current_in None one slot e = inr e
current_in (Some a) None slot e = inl e
current_in (Some a) (Some b) slot e = either (eqb a.turn ((b.turn + 1) % 4)) e
  where
    either : (t : Bool) → cond {A = Option Super} t (Some a) (Some b) ≡ Some slot → (Some a ≡ Some slot) ⊎ (Some b ≡ Some slot)
    either true is = inl is
    either false is = inr is

-- it stands in slot 0 or in slot 1
pub stands : (bytes : List ℕ) (slot : Super) → Names bytes slot → IsSlot 0 (slot_at 0 bytes) slot ⊎ IsSlot 1 (slot_at 1 bytes) slot
stands bytes slot names = ⊎_elim
    (λ e. inl (subst (λ said. Says 0 (slot_at 0 bytes) said) e names.says_zero))
    (λ e. inr (subst (λ said. Says 1 (slot_at 1 bytes) said) e names.says_one))
    (current_in names.zero names.one slot names.current)

pub named_is_canonical : NamedIsCanonical
named_is_canonical bytes slot names = ⊎_elim (λ is. is.stands.canonical) (λ is. is.stands.canonical) (stands bytes slot names)

pub one_slot : OneSlot
one_slot bytes slot other names names_too =
    let zero_same = said_once 0 (slot_at 0 bytes) names.zero names_too.zero names.says_zero names_too.says_zero in
    let one_same = said_once 1 (slot_at 1 bytes) names.one names_too.one names.says_one names_too.says_one in
    let both : Some slot ≡ Some other = sym names.current ∙ (λ i. current_of (zero_same i) (one_same i)) ∙ names_too.current in
    cc both

-- ---- unfinished, naming a slot, or foreign

laid_out_names_none : (bytes : List ℕ) (slot : Super) → IsLaidOut bytes → Names bytes slot → ⊥
laid_out_names_none bytes slot laid names = ⊎_elim (λ is. laid.zero (opened 0 (slot_at 0 bytes) slot is)) (λ is. laid.one (opened 1 (slot_at 1 bytes) slot is)) (stands bytes slot names)

pub unfinished_names_none : (bytes : List ℕ) (slot : Super) → IsUnfinished bytes → Names bytes slot → ⊥
unfinished_names_none bytes slot unfinished names = ⊎_elim (λ short. absurd (omega (arith, short, names.marked.long))) (λ laid. laid_out_names_none bytes slot laid names) unfinished

-- the three ways in which area 0 is foreign
foreign_cases : (P : Type 0) (offset : ℕ) (bytes : List ℕ) → IsForeignAt offset bytes
    → ((offset ≡ 0) → 40 ≤ length bytes → (take 8 bytes ≡ mark → ⊥) → P)
    → ((offset ≡ 8) → IsMarked bytes → IsForeignSlot 0 (slot_at 0 bytes) → P)
    → ((offset ≡ 24) → IsMarked bytes → ((said : Option Super) → Says 0 (slot_at 0 bytes) said → IsForeignSlot 1 (slot_at 1 bytes) → P))
    → P
foreign_cases P offset bytes foreign unmarked first second =
    ⊎_elim (λ a. unmarked a.0 a.1 a.2) (λ more. ⊎_elim (λ b. first b.0 b.1 b.2) (λ c. second c.0 c.1 c.2.0 c.2.1 c.3) more) foreign

foreign_is_long : (offset : ℕ) (bytes : List ℕ) → IsForeignAt offset bytes → 40 ≤ length bytes
foreign_is_long offset bytes foreign =
    foreign_cases (40 ≤ length bytes) offset bytes foreign (λ is long other. long) (λ is marked strange. marked.long) (λ is marked said says strange. marked.long)

laid_out_is_not_foreign : (offset : ℕ) (bytes : List ℕ) → IsForeignAt offset bytes → IsLaidOut bytes → ⊥
laid_out_is_not_foreign offset bytes foreign laid = foreign_cases ⊥ offset bytes foreign
    (λ is long other. other laid.marked.marked)
    (λ is marked strange. laid.zero strange.opened)
    (λ is marked said says strange. laid.one strange.opened)

pub one_of_three : OneOfThree
one_of_three = record {
  unfinished_names_none = unfinished_names_none;
  unfinished_is_not_foreign = λ bytes offset unfinished foreign.
      ⊎_elim (λ short. absurd (omega (arith, short, foreign_is_long offset bytes foreign))) (λ laid. laid_out_is_not_foreign offset bytes foreign laid) unfinished;
  foreign_names_none = λ bytes offset slot foreign names. foreign_cases ⊥ offset bytes foreign
      (λ is long other. other names.marked.marked)
      (λ is marked strange. said_is_not_foreign 0 (slot_at 0 bytes) names.zero names.says_zero strange)
      (λ is marked said says strange. said_is_not_foreign 1 (slot_at 1 bytes) names.one names.says_one strange);
}

pub one_offset : OneOffset
one_offset bytes offset other foreign foreign_too =
    foreign_cases (offset ≡ other) offset bytes foreign
    (λ is long unmarked. foreign_cases (offset ≡ other) other bytes foreign_too
    (λ is_too l u. is ∙ sym is_too)
    (λ is_too marked strange. absurd (unmarked marked.marked))
    (λ is_too marked said says strange. absurd (unmarked marked.marked)))
    (λ is marked strange. foreign_cases (offset ≡ other) other bytes foreign_too
    (λ is_too l unmarked. absurd (unmarked marked.marked))
    (λ is_too m s. is ∙ sym is_too)
    (λ is_too m said says s. absurd (said_is_not_foreign 0 (slot_at 0 bytes) said says strange)))
    (λ is marked said says strange. foreign_cases (offset ≡ other) other bytes foreign_too
    (λ is_too l unmarked. absurd (unmarked marked.marked))
    (λ is_too m s. absurd (said_is_not_foreign 0 (slot_at 0 bytes) said says s))
    (λ is_too m said_too says_too s. is ∙ sym is_too))

-- ---- what stands behind the slots

-- mark and slots of one list of bytes are those of another
pub record SameSlots (bytes other : List ℕ) : Type 0 where
  pub long : 40 ≤ length other
  pub front : take 8 other ≡ take 8 bytes
  pub zero : slot_at 0 other ≡ slot_at 0 bytes
  pub one : slot_at 1 other ≡ slot_at 1 bytes

pub same_slots : (bytes rest : List ℕ) → length bytes ≡ 40 → SameSlots bytes (bytes ++ rest)
same_slots bytes rest size = record {
  long = omega (arith, size, length-append bytes rest);
  front = take-append-le 8 bytes rest (omega (arith, size));
  zero = ap (λ l. take 16 l) (drop-append-le 8 bytes rest (omega (arith, size))) ∙ take-append-le 16 (drop 8 bytes) rest (omega (arith, size, length-drop 8 bytes));
  one = ap (λ l. take 16 l) (drop-append-le 24 bytes rest (omega (arith, size))) ∙ take-append-le 16 (drop 24 bytes) rest (omega (arith, size, length-drop 24 bytes));
}

module _ (bytes other : List ℕ) (same : SameSlots bytes other) where
  marked_too : IsMarked bytes → IsMarked other
  marked_too marked = record { long = same.long; marked = same.front ∙ marked.marked }

  says_zero_too : (said : Option Super) → Says 0 (slot_at 0 bytes) said → Says 0 (slot_at 0 other) said
  says_zero_too said says = subst (λ l. Says 0 l said) (sym same.zero) says

  says_one_too : (said : Option Super) → Says 1 (slot_at 1 bytes) said → Says 1 (slot_at 1 other) said
  says_one_too said says = subst (λ l. Says 1 l said) (sym same.one) says

  names_too : (slot : Super) → Names bytes slot → Names other slot
  names_too slot names = record {
    marked = marked_too names.marked;
    zero = names.zero;
    one = names.one;
    says_zero = says_zero_too names.zero names.says_zero;
    says_one = says_one_too names.one names.says_one;
    current = names.current;
  }

  laid_out_too : IsLaidOut bytes → IsLaidOut other
  laid_out_too laid = record { marked = marked_too laid.marked; zero = says_zero_too None laid.zero; one = says_one_too None laid.one }

  foreign_too : (offset : ℕ) → IsForeignAt offset bytes → IsForeignAt offset other
  foreign_too offset foreign = foreign_cases (IsForeignAt offset other) offset bytes foreign
      (λ is long unmarked. inl (is, same.long, λ marked. unmarked (sym same.front ∙ marked)))
      (λ is marked strange. inr (inl (is, marked_too marked, subst (λ l. IsForeignSlot 0 l) (sym same.zero) strange)))
      (λ is marked said says strange. inr (inr (is, marked_too marked, (said, says_zero_too said says), subst (λ l. IsForeignSlot 1 l) (sym same.one) strange)))

  reads_too : (answer : Result (Option Super) OpenFault) → 40 ≤ length bytes → Reads bytes answer → Reads other answer
  reads_too (Ok None) long reads = ⊎_elim (λ short. absurd (omega (arith, short, long))) (λ laid. inr (laid_out_too laid)) reads
  reads_too (Ok (Some slot)) long reads = names_too slot reads
  reads_too (Err (Foreign area offset)) long reads = (reads.0, foreign_too offset reads.1)
  reads_too (Err DiskFault) long reads = tt
  reads_too (Err Memory) long reads = absurd reads

pub rest_is_ignored : RestIsIgnored
rest_is_ignored bytes rest answer size reads = reads_too bytes (bytes ++ rest) (same_slots bytes rest size) answer (omega (arith, size)) reads

-- ---- the fields of a slot

-- an open slot with its two zeros is spelled by its fields
pub spells : (bytes : List ℕ) (slot : Super) → SpellFields bytes slot → slice_index bytes 0 ≡ 1 → HasZeros bytes → bytes ≡ spelled slot
unfolding spelled
spells bytes slot fields opens zeros =
    fields ∙ (λ i. opens i ∷ slot.format ∷ slot.turn ∷ slot.checkpoint ∷ slot.first ∷ slot.second ∷ zeros.0 i ∷ zeros.1 i ∷ little_bytes 8 slot.length)

-- its bytes, one by one, are the spelling
pub spelled_by : (slot : Super) (tail : List ℕ) → tail ≡ little_bytes 8 slot.length → 1 ∷ slot.format ∷ slot.turn ∷ slot.checkpoint ∷ slot.first ∷ slot.second ∷ 0 ∷ 0 ∷ tail ≡ spelled slot
unfolding spelled
spelled_by slot tail is = ap (λ l. 1 ∷ slot.format ∷ slot.turn ∷ slot.checkpoint ∷ slot.first ∷ slot.second ∷ 0 ∷ 0 ∷ l) is

-- its two zeros are there
zeros_there : (bytes : List ℕ) (slot : Super) → bytes ≡ spelled slot → HasZeros bytes
unfolding spelled
zeros_there bytes slot is = (ap (λ l. slice_index l 6) is, ap (λ l. slice_index l 7) is)

-- an open slot whose two zeros are not both there, or whose fields may not stand there, is foreign
pub strange_zeros : (place : ℕ) (bytes : List ℕ) → IsOpen bytes → (HasZeros bytes → ⊥) → IsForeignSlot place bytes
strange_zeros place bytes opens none = record { opened = opens; none = λ slot is. none (zeros_there bytes slot is.spells) }

pub strange_fields : (place : ℕ) (bytes : List ℕ) (slot : Super) → IsOpen bytes → slot.length < 2 ^ 64 → SpellFields bytes slot → (MayStand place slot → ⊥) → IsForeignSlot place bytes
strange_fields place bytes slot opens small fields none = record {
  opened = opens;
  none = λ other is.
      let same = fields_once bytes slot other small is.stands.canonical.fits fields is.spells in
      none (subst (λ s. MayStand place s) (sym same) is.stands);
}

-- the gate, as it is read
pub open_gate : (bytes : List ℕ) → length bytes ≡ 16 → get_or bytes 0 0 ≡ 1 → IsOpen bytes
open_gate bytes size e = drop_more bytes 0 0 (omega (arith, size)) ∙ ap (λ g. g ∷ drop 1 bytes) e

-- ---- what was read of an area

-- where no slot is current, both are closed
none_open : (zero one : Option Super) → current_of zero one ≡ None → (zero ≡ None) × (one ≡ None)
none_open None None e = (refl, refl)
none_open None (Some b) e = absurd (cc e)
none_open (Some a) None e = absurd (cc e)
none_open (Some a) (Some b) e = absurd (either (eqb a.turn ((b.turn + 1) % 4)) e)
  where
    either : (t : Bool) → cond {A = Option Super} t (Some a) (Some b) ≡ None → ⊥
    either true is = cc is
    either false is = cc is

module _ (bytes : List ℕ) (zero one : Option Super) (marked : IsMarked bytes) (says_zero : Says 0 (slot_at 0 bytes) zero) (says_one : Says 1 (slot_at 1 bytes) one) where
  reads_either : (answer : Option Super) → current_of zero one ≡ answer → Reads bytes (Ok answer)
  reads_either (Some slot) is = record { marked = marked; zero = zero; one = one; says_zero = says_zero; says_one = says_one; current = is }
  reads_either None is =
      let none = none_open zero one is in
      inr (record {
        marked = marked;
        zero = subst (λ said. Says 0 (slot_at 0 bytes) said) none.0 says_zero;
        one = subst (λ said. Says 1 (slot_at 1 bytes) said) none.1 says_one;
      })

  -- mark and slots tell the current slot, or that there is none
  pub reads_head : (answer : Option Super) → answer ≡ current_of zero one → Reads bytes (Ok answer)
  reads_head answer is = reads_either answer (sym is)

-- an area of which fewer bytes than mark and slots could be read is short
pub read_short : (buf area : List ℕ) (n : ℕ) → n ≤ length buf → take n buf ≡ take 40 area → n < 40 → length area < 40
read_short buf area n within is few = omega (arith, few, within, ap length is, length-take n buf, length-take 40 area)

-- what the first 40 bytes say, the area says
pub read_whole : (buf area : List ℕ) (n : ℕ) (answer : Result (Option Super) OpenFault) → length buf ≡ 40 → n ≤ length buf → 40 ≤ n → take n buf ≡ take 40 area → Reads buf answer → Reads area answer
read_whole buf area n answer size within many is reads =
    let same : buf ≡ take 40 area = sym (take_all n buf (omega (arith, size, many))) ∙ is in
    subst (λ l. Reads l answer) (ap (λ l. l ++ drop 40 area) same ∙ take-append-drop 40 area) (rest_is_ignored buf (drop 40 area) answer size reads)
