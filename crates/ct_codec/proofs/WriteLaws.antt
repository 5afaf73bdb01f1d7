-- Writes, minima and changes.
use Rattle.std.proofs.Common.{◌≡◌, ◌≢◌, ℕ, ◌^◌, ◌<◌, ◌≤◌, Bool, true, false, cond, eqb, List, ◌++◌, length, Option, Some, None, refl, sym, ◌∙◌, ap, arith}
use Rattle.std.specs.Prelude.{nat_le}
use Rattle.std.proofs.lemmas.Bool.Decides.{nat_tests}
use Rattle.ct_types.specs.declared.value.Key.{Key}
use Rattle.ct_types.specs.declared.value.Row.{Row}
use Rattle.ct_types.specs.declared.entry.Op.{Op}
use Rattle.ct_types.specs.declared.entry.Op.TheVariants.{Insert, Update, Delete}
use Rattle.ct_codec.specs.Readers.{Reader, pure, fails, making, taken}
use Rattle.ct_codec.specs.EntryReaders.{op_of, op, context_of, context, row, with_row, with_key, target, notes, made_write, write, made_min, min, made_change, change}
use Rattle.ct_codec.specs.Spellings.{op_byte, spell_op, context_byte, context_bytes, spell_context, ContextFits, spell_target, TargetFits, spell_notes, NotesFit, spell_write, WriteFits, spell_min, MinFits, spell_change, ChangeFits}
use Rattle.ct_codec.specs.Codes.{IsCode}
use Rattle.ct_codec.proofs.Combined.{law_then, law_making, law_as, law_pure, law_pair}
use Rattle.ct_codec.proofs.Families.{IsSoundAt, none_here, either, constant, variant, variant_back, law_family}
use Rattle.ct_codec.proofs.Numbers.{law_number}
use Rattle.ct_codec.proofs.Lists.{law_taken}
use Rattle.ct_codec.proofs.ValueLaws.{Any, not_found, found_or, law_table, law_flag, law_row, law_key}

pub law_op : IsCode op spell_op Any
unfolding op
law_op = law_table op_of op_byte (λ k. found_or k Insert (found_or k Update (found_or k Delete not_found))) back
  where
    back : (o : Op) → (op_of (op_byte o) ≡ Some o) × (op_byte o < 256)
    back Insert = (refl, omega arith)
    back Update = (refl, omega arith)
    back Delete = (refl, omega arith)

context_sound : (k : ℕ) → IsSoundAt context_bytes context_byte ContextFits k (context_of k)
unfolding context_of
context_sound k = either k 255 (constant None refl tt) (short (nat_le k 128) (λ t. grind (arith, nat_tests)))
  where
    short : (t : Bool) → (t ≡ true → k ≤ 128) → IsSoundAt context_bytes context_byte ContextFits k (cond t (making Some (taken k)) fails)
    short true within = variant Some (λ l f. (refl, (f, omega (arith, f, within refl)))) (law_taken k)
    short false within = none_here

context_complete : (c : Option (List ℕ)) (rest : List ℕ) → ContextFits c → context_of (context_byte c) (context_bytes c ++ rest) ≡ Some (c, rest)
unfolding context_of
context_complete None rest f = refl
context_complete (Some l) rest f =
    let other : eqb (length l) 255 ≡ false = grind (arith, nat_tests, f) in
    let within : nat_le (length l) 128 ≡ true = grind (arith, nat_tests, f) in
    (λ i. cond {A = Reader (Option (List ℕ))} (other i) (pure None) (cond {A = Reader (Option (List ℕ))} (within i) (making Some (taken (length l))) fails) (l ++ rest))
    ∙ variant_back Some (law_taken (length l)) l rest refl

pub law_context : IsCode context spell_context ContextFits
unfolding context
law_context = law_then context_byte small (law_number 1) (λ k f. law_family context_sound context_complete k)
  where
    small : (c : Option (List ℕ)) → ContextFits c → context_byte c < 256 ^ 1
    small None f = omega arith
    small (Some l) f = omega (arith, f)

-- a row, which any operation but a delete tells
law_with_row : (o : Op) → o ≢ Delete → IsCode (making with_row (row)) (λ t. spell_target t.0 t.1) (λ t. TargetFits o t.0 t.1)
law_with_row o other = record { sound = sound; complete = λ t rest f. complete t.0 t.1 rest f }
  where
    sound : (bytes rest : List ℕ) (t : Key × Option Row) → making with_row row bytes ≡ Some (t, rest) → (bytes ≡ spell_target t.0 t.1 ++ rest) × TargetFits o t.0 t.1
    sound bytes rest t e =
        let h = (variant {body = λ t. spell_target t.0 t.1} {tag = λ t. 0} {F = λ t. TargetFits o t.0 t.1} {k = 0} with_row (λ row f. (refl, (refl, (other, refl, f)))) law_row).was bytes rest t e in (h.0, h.1.1)

    complete : (key : Key) (told : Option Row) (rest : List ℕ) → TargetFits o key told → making with_row row (spell_target key told ++ rest) ≡ Some ((key, told), rest)
    complete key None rest f = absurd (other f.0)
    complete key (Some r) rest f = variant_back with_row law_row r rest f.2 ∙ (λ i. Some ((record { 0 = sym f.1 i }, Some r), rest))

pub law_target : (o : Op) → IsCode (target o) (λ t. spell_target t.0 t.1) (λ t. TargetFits o t.0 t.1)
unfolding target
law_target Insert = law_with_row Insert (λ e. absurd (cc e))
law_target Update = law_with_row Update (λ e. absurd (cc e))
law_target Delete = record {
  sound = λ bytes rest t e.
      let h = (variant {body = λ t. spell_target t.0 t.1} {tag = λ t. 0} {F = λ t. TargetFits Delete t.0 t.1} {k = 0} with_key (λ key f. (refl, (refl, (refl, f)))) law_key).was bytes rest t e in (h.0, h.1.1);
  complete = λ t rest f. complete t.0 t.1 rest f;
}
  where
    complete : (key : Key) (row : Option Row) (rest : List ℕ) → TargetFits Delete key row → target Delete (spell_target key row ++ rest) ≡ Some ((key, row), rest)
    complete key None rest f = variant_back with_key law_key key rest f.1
    complete key (Some r) rest f = absurd (f.0 refl)

pub law_notes : (b : Bool) → IsCode (notes b) (λ n. spell_notes b n.0 n.1) (λ n. NotesFit b n.0 n.1)
unfolding notes
law_notes true = law_pair (law_number 8) (λ mask. law_context)
law_notes false = law_as (λ n f. (refl, (sym (ap (λ p. p.0) f), sym (ap (λ p. p.1) f)))) (λ n f. (λ i. (sym f.0 i, sym f.1 i))) (law_pure {A = ℕ × Option (List ℕ)} (0, None))

pub law_write : IsCode write spell_write WriteFits
unfolding write
law_write =
    law_making made_write (λ w. (w.table, (w.op, ((w.key, w.row), (w.tracked, (w.mask, w.context))))))
    (λ x f. (refl, (f.0, f.1.1.0, f.1.1.1.1))) (λ w f. (refl, (f.0, (tt, (f.1, (tt, f.2))))))
    (law_pair (law_number 4) (λ table. law_pair law_op (λ o. law_pair (law_target o) (λ t. law_pair law_flag law_notes))))

pub law_min : IsCode min spell_min MinFits
unfolding min
law_min = law_making made_min (λ m. (m.table, m.min)) (λ x f. (refl, (f.0, f.1))) (λ m f. (refl, (f.0, f.1))) (law_pair (law_number 4) (λ table. law_number 8))

pub law_change : IsCode change spell_change ChangeFits
unfolding change
law_change =
    law_making made_change (λ c. (c.table, (c.op, (c.key, (c.mask, c.context)))))
    (λ x f. (refl, (f.0, f.1.1.0, f.1.1.1.0, f.1.1.1.1))) (λ c f. (refl, (f.0, (tt, (f.1, (f.2, f.3))))))
    (law_pair (law_number 4) (λ table. law_pair law_op (λ o. law_pair law_key (λ k. law_pair (law_number 8) (λ mask. law_context)))))
