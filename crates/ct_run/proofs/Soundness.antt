-- A play of what texts mean passes sound machines alone, and keeps the database valid.
use Rattle.std.proofs.Common.{List, [], ◌∷◌}
use Rattle.ct_types.specs.declared.command.Command.TheVariants.{Sql}
use Rattle.ct_types.specs.declared.command.Journaled.{Journaled}
use Rattle.ct_model.specs.Apply.{no_db}
use Rattle.ct_model.proofs.Members.{all_weaken}
use Rattle.ct_model_laws.proofs.InTurn.{no_db_valid}
use Rattle.ct_state.specs.Machine.{Machine, opening}
use Rattle.ct_state.specs.Seen.{seen_by}
use Rattle.ct_machine.specs.Play.{after}
use Rattle.ct_text_laws.proofs.Statements.{parsed_are_of_code_points}
use Rattle.ct_fit_laws.specs.Machines.{VariablesRepresentable}
use Rattle.ct_fit_laws.proofs.Rows.{valid_rows_fit}
use Rattle.ct_fit_laws.proofs.Variables.{variables_stay_representable}
use Rattle.ct_machine_laws.specs.Sound.{IsSound, EachCommitsWell, StaySound}
use Rattle.ct_machine_laws.proofs.Keeping.{commits_well, keeps_sound}
use Rattle.ct_machine_laws.proofs.Seeing.{seen_is_valid}
use Rattle.ct_machine_laws.proofs.Soundness as machines
use Rattle.ct_machine_laws.proofs.Statements.{parsed_are_spelled}
use Rattle.ct_run.specs.Meant.{AreMeant, AreRead}
use Rattle.ct_run.specs.Soundness.{SoundRowsFit, KeepsSoundAlone, ReadPlaysKeepValid, MeantAreRead, MeantPlaysKeepValid}

-- ---- what is read

pub sound_rows_fit : SoundRowsFit
sound_rows_fit m s what sound all texts = valid_rows_fit (seen_by m (m.sessions s)) what (seen_is_valid m s sound) (all s) texts

pub keeps_sound_alone : KeepsSoundAlone
keeps_sound_alone m s what reply sound all within read =
    (keeps_sound m s what reply sound within read.0 (λ told. sound_rows_fit m s what sound all read.1), variables_stay_representable m s what reply all read.1)

each_well : (m : Machine) (journal : List Journaled) → IsSound m → VariablesRepresentable m → AreRead journal → EachCommitsWell m journal
each_well m [] sound all read = tt
each_well m (one ∷ more) sound all read =
    let next = keeps_sound_alone m one.session one.what one.reply sound all read.0.0 read.0.1 in (
      read.0.0,
      commits_well m one.session one.what sound read.0.1.0 (sound_rows_fit m one.session one.what sound all read.0.1.1),
      each_well (after m one.session one.what one.reply) more next.0 next.1 read.1,
    )

pub read_plays_keep_valid : ReadPlaysKeepValid
read_plays_keep_valid journal read = machines.plays_keep_valid journal (each_well (opening no_db) journal (machines.opens_sound no_db no_db_valid) (λ s. tt) read)

stay_sound : (m : Machine) (journal : List Journaled) → IsSound m → VariablesRepresentable m → AreRead journal → StaySound m journal
stay_sound m [] sound all read = sound
stay_sound m (one ∷ more) sound all read =
    let next = keeps_sound_alone m one.session one.what one.reply sound all read.0.0 read.0.1 in
    (sound, stay_sound (after m one.session one.what one.reply) more next.0 next.1 read.1)

-- ---- what texts mean

pub meant_are_read : MeantAreRead
meant_are_read (Sql tree) meant = (parsed_are_spelled meant.text meant.tokens tree meant.cut meant.parsed, parsed_are_of_code_points meant.text meant.tokens tree meant.code_points meant.cut meant.parsed)
meant_are_read what meant = (tt, tt)

all_read : (journal : List Journaled) → AreMeant journal → AreRead journal
all_read journal meant = all_weaken _ _ (λ (one : Journaled) is. (is.0, meant_are_read one.what is.1)) journal meant

pub meant_plays_keep_valid : MeantPlaysKeepValid
meant_plays_keep_valid journal meant = read_plays_keep_valid journal (all_read journal meant)

-- each machine that such a play passes, from the empty database on, is sound
pub meant_plays_stay_sound : (journal : List Journaled) → AreMeant journal → StaySound (opening no_db) journal
meant_plays_stay_sound journal meant = stay_sound (opening no_db) journal (machines.opens_sound no_db no_db_valid) (λ s. tt) (all_read journal meant)
