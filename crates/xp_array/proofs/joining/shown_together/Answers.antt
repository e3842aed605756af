use Rattle.std.proofs.Common.{◌≡◌, ◌++◌, [], ap, ◌∙◌, arith, length, rules, option_copied}
use Rattle.std.specs.Prelude.{filter_map}
use Rattle.std.specs.String.{string_bytes}
use Rattle.xp_array.specs.Strings.{shown}
use Rattle.xp_array.proofs.Shown.{onward_all, rest}
use Rattle.xp_array.proofs.joining.shown_together.Goals as goal

pub loop-element-init : goal.loop-element-init
loop-element-init c =
    let null = option_copied c.args.null in
    let empty : string_bytes c.new-text.result ≡ [] = search rules in
    record {
      utf8 = search rules;
      value = ap (λ l. l ++ rest null [] c.args.delimiter.now c.args.elements.now) empty ∙ onward_all c.args.delimiter.now (filter_map (shown null) c.args.elements.now);
      within = omega (arith, ap length empty);
    }
