use Rattle.std.proofs.Common.{◌≡◌, ◌-◌, ◌*◌, ◌/◌, ◌^◌, ◌<◌, max, min, sym, ap, ◌∙◌, arith}
use Rattle.std.proofs.Math.Nat.{mul-pos}
use Rattle.xp_value.proofs.Powers.{pow_positive}
use Rattle.xp_numeric.proofs.Division.{still_div}
use Rattle.xp_numeric.proofs.quotients.whole_size.Goals as goal

pub nonzero_div-result : goal.nonzero_div-result
nonzero_div-result c =
    let p : 0 < c.args.b.coef * 10 ^ (c.args.a.scale - c.args.b.scale) = mul-pos c.requires (pow_positive (c.args.a.scale - c.args.b.scale)) in
    omega arith

pub returns-else-a-b : goal.returns-else-a-b
returns-else-a-b c =
    let a = c.args.a in
    let b = c.args.b in
    let s : max a.scale b.scale ≡ a.scale = omega arith in
    let z : a.scale - a.scale ≡ 0 = omega arith in
    let one : a.coef ≡ a.coef * 10 ^ 0 = omega arith in
    let one' : a.coef ≡ a.coef * 10 ^ (a.scale - a.scale) = one ∙ ap (λ k. a.coef * 10 ^ k) (sym z) in
    ap (λ k. a.coef / k) c.aligned.ensures
    ∙ still_div a.coef (b.coef * 10 ^ (a.scale - b.scale)) a.digits
    ∙ ap (λ k. min (k / (b.coef * 10 ^ (a.scale - b.scale))) (2 ^ 128 - 1)) one'
    ∙ ap (λ m. min (a.coef * 10 ^ (m - a.scale) / (b.coef * 10 ^ (m - b.scale))) (2 ^ 128 - 1)) (sym s)
