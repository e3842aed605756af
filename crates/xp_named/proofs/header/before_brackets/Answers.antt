use Rattle.std.proofs.Common.{◌≡◌, None, Some, option_map, refl}
use Rattle.xp_named.proofs.Stripped.{with_brackets, without_brackets}
use Rattle.xp_named.specs.Named.{before_brackets}
use Rattle.xp_named.proofs.header.before_brackets.Goals as goal

pub returns : goal.returns
returns c =
    let cases = c.strip_suffix.ensures.cases in
    elim c.strip_suffix.result as (λ r. c.strip_suffix.result ≡ r → option_map (λ text. text.now) r ≡ before_brackets c.args.name.now) [
      | None ↦ λ is. without_brackets c.args.name.now (rw is at cases)
      | Some text ↦ λ is. let h = rw is at cases in with_brackets c.args.name.now text.now h.0 h.1.0 h.1.1 h.2
    ] refl
