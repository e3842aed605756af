use Rattle.std.proofs.Common.{◌≡◌, ℕ, List, IfOk, subst}
use Rattle.xp_characters.specs.Characters.{over}
use Rattle.xp_text.specs.Sets.{rtrim}
use Rattle.xp_text.proofs.Trimmed.{chars_of_space}
use Rattle.xp_text.proofs.trimming.rtrim.Goals as goal

pub returns : goal.returns
returns c =
    let P : List ℕ → Type 0 = λ set. IfOk c.rtrim_set.result (λ text. text ≡ over (rtrim set) c.args.a.now) in
    subst P chars_of_space c.rtrim_set.ensures
