use Rattle.std.proofs.Common.{◌≡◌, ◌-◌, ◌*◌, ◌%◌, ◌^◌, ◌<◌, max, sym, ap, ◌∙◌, arith}
use Rattle.std.proofs.Math.Nat.{mul-pos}
use Rattle.xp_value.proofs.Powers.{pow_positive}
use Rattle.xp_numeric.proofs.Division.{still_mod}
use Rattle.xp_numeric.proofs.quotients.rest_size.Goals as goal

pub nonzero_rem-result : goal.nonzero_rem-result
nonzero_rem-result c =
    let p : 0 < c.args.b.coef * 10 ^ (c.args.a.scale - c.args.b.scale) = mul-pos c.requires (pow_positive (c.args.a.scale - c.args.b.scale)) in
    omega arith

pub returns-else-a-b : goal.returns-else-a-b
returns-else-a-b c =
    let a = c.args.a in
    let b = c.args.b in
    let s : max a.scale b.scale ≡ a.scale = omega arith in
    let z : a.scale - a.scale ≡ 0 = omega arith in
    let one : a.coef ≡ a.coef * 10 ^ 0 = omega arith in
    let one' : a.coef ≡ a.coef * 10 ^ (a.scale - a.scale) = one ∙ ap (λ k. a.coef * 10 ^ k) (sym z) in
    ap (λ k. a.coef % k) c.aligned.ensures
    ∙ still_mod a.coef (b.coef * 10 ^ (a.scale - b.scale)) a.digits
    ∙ ap (λ k. k % (b.coef * 10 ^ (a.scale - b.scale))) one'
    ∙ ap (λ m. (a.coef * 10 ^ (m - a.scale)) % (b.coef * 10 ^ (m - b.scale))) (sym s)
