use Rattle.std.proofs.Common.{◌≡◌, ℕ, List, [], ◌∷◌, subst, rules}
use Rattle.std.specs.Str.{chars, encode_utf8_all}
use Rattle.xp_base.specs.OrMemory.{OrMemory}
use Rattle.xp_characters.specs.Faults.{is_memory, limited}
use Rattle.xp_text.specs.Made.{times}
use Rattle.xp_text.specs.Parts.{lpad}
use Rattle.xp_text.proofs.Trimmed.{chars_of_space}
use Rattle.xp_text.proofs.padding.lpad.Goals as goal

pub returns : goal.returns
returns c =
    let P : ℕ → List ℕ → Type 0 = λ n fill. OrMemory is_memory (limited (encode_utf8_all (lpad (chars c.args.a.now) n fill))) c.filled_before.result in
    let count : c.at_least_none.result ≡ times c.args.n = search rules in
    subst (P (times c.args.n)) chars_of_space (subst (λ n. P n (chars (32 ∷ []))) count c.filled_before.ensures)
