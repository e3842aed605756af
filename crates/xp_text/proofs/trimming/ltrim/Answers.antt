use Rattle.std.proofs.Common.{◌≡◌, ℕ, List, IfOk, subst}
use Rattle.xp_characters.specs.Characters.{over}
use Rattle.xp_text.specs.Sets.{ltrim}
use Rattle.xp_text.proofs.Trimmed.{chars_of_space}
use Rattle.xp_text.proofs.trimming.ltrim.Goals as goal

pub returns : goal.returns
returns c =
    let P : List ℕ → Type 0 = λ set. IfOk c.ltrim_set.result (λ text. text ≡ over (ltrim set) c.args.a.now) in
    subst P chars_of_space c.ltrim_set.ensures
