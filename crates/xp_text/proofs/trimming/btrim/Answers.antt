use Rattle.std.proofs.Common.{◌≡◌, ℕ, List, IfOk, subst}
use Rattle.xp_characters.specs.Characters.{over}
use Rattle.xp_text.specs.Sets.{btrim}
use Rattle.xp_text.proofs.Trimmed.{chars_of_space}
use Rattle.xp_text.proofs.trimming.btrim.Goals as goal

pub returns : goal.returns
returns c =
    let P : List ℕ → Type 0 = λ set. IfOk c.btrim_set.result (λ text. text ≡ over (btrim set) c.args.a.now) in
    subst P chars_of_space c.btrim_set.ensures
