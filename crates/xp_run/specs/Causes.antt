-- Why a run ends as it does.
use Rattle.std.specs.Prelude.{◌≡◌, Option, Some, None, IfSome, MatchOption, Result, Ok, Err, ◌⊎◌}
use Rattle.xp_base.specs.Outside.{Files}
use Rattle.xp_run.specs.Inputs.{Names, inputs_in}
use Rattle.xp_run.specs.declared.ending.Ending.{Ending}
use Rattle.xp_run.specs.declared.ending.Ending.TheVariants.{Done, BadWords, BadCatalog, BadRows, TooLong, ReadFault, WriteFault, Memory}
use Rattle.xp_run.specs.declared.inputs.Inputs.{Inputs}

-- this is told of the texts
abbrev pub Told : {T : Type 0} → Option Files → (Files → Result T Ending) → Ending → Type 0
Told None said end = ⊥
Told (Some files) said end = said files ≡ Err end

-- why reading ends so, where the texts say `said`; `rose` is that the shelf's count rose
abbrev pub Refuses : {T : Type 0} → Option Files → (Files → Result T Ending) → Type 0 → Ending → Type 0
Refuses held said rose ReadFault = rose ⊎ Told held said ReadFault
Refuses held said rose (BadCatalog line why) = IfSome held (λ files. said files ≡ Err (BadCatalog line why))
Refuses held said rose (BadRows fault) = IfSome held (λ files. said files ≡ Err (BadRows fault))
Refuses held said rose (TooLong read) = IfSome held (λ files. said files ≡ Err (TooLong read))
Refuses held said rose Memory = Unit {0}
Refuses held said rose (Done steps) = ⊥
Refuses held said rose BadWords = ⊥
Refuses held said rose WriteFault = ⊥

-- every text that the words name is in order, as far as the texts are told
abbrev pub AreInOrder : Option Files → Names → Type 0
AreInOrder held names = IfSome held (λ files. (inputs : Inputs) × (inputs_in files names ≡ Ok inputs))

-- why each ending comes, where the words are of a form; `shelf` and `sink` are that the counts rose
abbrev pub NamedCause : Option Files → Names → Type 0 → Type 0 → Ending → Type 0
NamedCause held names shelf sink (Done steps) = AreInOrder held names
NamedCause held names shelf sink WriteFault = AreInOrder held names × sink
NamedCause held names shelf sink BadWords = ⊥
NamedCause held names shelf sink (BadCatalog line why) = Refuses held (λ files. inputs_in files names) shelf (BadCatalog line why)
NamedCause held names shelf sink (BadRows fault) = Refuses held (λ files. inputs_in files names) shelf (BadRows fault)
NamedCause held names shelf sink (TooLong read) = Refuses held (λ files. inputs_in files names) shelf (TooLong read)
NamedCause held names shelf sink ReadFault = Refuses held (λ files. inputs_in files names) shelf ReadFault
NamedCause held names shelf sink Memory = Unit {0}

-- why each ending comes
abbrev pub HasCause : Option Files → Option Names → Type 0 → Type 0 → Ending → Type 0
HasCause held names shelf sink end = MatchOption names (end ≡ BadWords) (λ n. NamedCause held n shelf sink end)

-- the words name texts that are told and in order
pub record IsReady (held : Option Files) (names : Option Names) : Type 0 where
  pub files : Files
  pub texts : Names
  pub inputs : Inputs
  pub told : held ≡ Some files
  pub named : names ≡ Some texts
  pub in_order : inputs_in files texts ≡ Ok inputs

-- the run came to its end, or there was no memory
abbrev pub IsDoneOrMemory : Ending → Type 0
IsDoneOrMemory (Done steps) = Unit {0}
IsDoneOrMemory Memory = Unit {0}
IsDoneOrMemory _ = ⊥
