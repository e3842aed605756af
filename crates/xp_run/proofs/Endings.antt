-- A run that could not read its texts leaves the sink as it was.
use Rattle.std.proofs.Common.{◌≡◌, Bool, true, List, ℕ, Option, None, Some, Result, Ok, Err, refl, ◌∙◌}
use Rattle.std.specs.Prelude.{IfSome}
use Rattle.xp_base.specs.Outside.{Files}
use Rattle.xp_base.proofs.Progress.{GrowsWithin-none}
use Rattle.xp_run.specs.Causes.{AreInOrder, Refuses}
use Rattle.xp_run.specs.Inputs.{Names, Texts, inputs_in, inputs_of, texts_in}
use Rattle.xp_run.specs.Run.{Leaves, Reports, is_fine_run, output}
use Rattle.xp_run.specs.Status.{status_of}
use Rattle.xp_run.specs.inner.Reading.{ReadsTexts, Says}
use Rattle.xp_run.specs.declared.ending.Exit.{Exit}
use Rattle.xp_run.specs.declared.ending.Ending.{Ending}
use Rattle.xp_run.specs.declared.ending.Ending.TheVariants.{Done, BadWords, BadCatalog, BadRows, TooLong, ReadFault, WriteFault, Memory}
use Rattle.xp_run.specs.declared.inputs.Inputs.{Inputs}

Leaves-unread : {T : Type 0} (held : Option Files) (said : Files → Result T Ending) (rose : Type 0) (old : Option (List ℕ)) (read : Result Inputs Ending) (end : Ending) → Refuses held said rose end → Says read (Err end) → Leaves old old read end
Leaves-unread held said rose old read (Done counted) r s = absurd r
Leaves-unread held said rose old read BadWords r s = absurd r
Leaves-unread held said rose old read (BadCatalog line why) r s = record { fault = s; unwritten = refl }
Leaves-unread held said rose old read (BadRows fault) r s = record { fault = s; unwritten = refl }
Leaves-unread held said rose old read (TooLong bytes) r s = record { fault = s; unwritten = refl }
Leaves-unread held said rose old read ReadFault r s = refl
Leaves-unread held said rose old read WriteFault r s = absurd r
Leaves-unread held said rose old read Memory r s = GrowsWithin-none old old (output read) refl

status_of-unread : {T : Type 0} (held : Option Files) (said : Files → Result T Ending) (rose : Type 0) (fine : Bool) (end : Ending) → Refuses held said rose end → status_of true end ≡ status_of fine end
status_of-unread held said rose fine (Done counted) r = absurd r
status_of-unread held said rose fine BadWords r = refl
status_of-unread held said rose fine (BadCatalog line why) r = refl
status_of-unread held said rose fine (BadRows fault) r = refl
status_of-unread held said rose fine (TooLong bytes) r = refl
status_of-unread held said rose fine ReadFault r = refl
status_of-unread held said rose fine WriteFault r = absurd r
status_of-unread held said rose fine Memory r = refl

pub Reports-unread : (held : Option Files) (names : Names) (rose : Type 0) (old new : Option (List ℕ)) (end : Ending) (exit : Exit)
    → ReadsTexts held names (Err end) → Refuses held (λ files. inputs_in files names) rose end → exit.end ≡ end → exit.status ≡ status_of true end → new ≡ old → Reports held (Some names) old new exit
Reports-unread held names rose old new end exit t r e s n = record {
  texts = t.texts;
  told = t.told;
  leaves = rw (e, n) (Leaves-unread held (λ files. inputs_in files names) rose old (inputs_of names t.texts) end r t.says);
  status = s ∙ rw e (status_of-unread held (λ files. inputs_in files names) rose (is_fine_run (inputs_of names t.texts)) end r);
}

no_texts : Texts
no_texts = record { catalog = None; script = None; rows = None }

no_names : (held : Option Files) → IfSome held (λ files. IfSome {T = Names} None (λ n. no_texts ≡ texts_in files n))
no_names None = tt
no_names (Some files) = tt

pub Reports-no_words : (held : Option Files) (names : Option Names) (old : Option (List ℕ)) (exit : Exit) → names ≡ None → exit.end ≡ BadWords → exit.status ≡ 2 → Reports held names old old exit
Reports-no_words held names old exit n e s = record {
  texts = no_texts;
  told = rw n (no_names held);
  leaves = rw (n, e) (record { fault = refl; unwritten = refl });
  status = s ∙ rw e refl;
}

-- texts that were read to their end are in order
pub in_order : (held : Option Files) (names : Names) (inputs : Inputs) → IfSome held (λ files. inputs_in files names ≡ Ok inputs) → AreInOrder held names
in_order None names inputs said = tt
in_order (Some files) names inputs said = (inputs, said)
