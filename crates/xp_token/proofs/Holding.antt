-- Tokens are what their plain data tell.
use Rattle.std.proofs.Common.{◌≡◌, ℕ, ◌^◌, ◌<◌, ◌≤◌, Bool, true, false, not, ◌||◌, List, [], ◌∷◌, refl, sym, ap, ◌∙◌}
use Rattle.std.specs.Prelude.{nat_lt, nat_le}
use Rattle.std.proofs.lemmas.Bool.{lt-ltb, le-leb, true≢false}
use Rattle.std.proofs.Math.Path.{fun_ext}
use Rattle.std.proofs.Math.Bridge.{le_prop}
use Rattle.xp_base.specs.declared.decimal.Dec.{Dec}
use Rattle.xp_token.specs.declared.token.Token.{Token}
use Rattle.xp_token.specs.declared.token.TokenKind.{TokenKind}
use Rattle.xp_token.specs.declared.token.TokenKind.TheVariants as kind
use Rattle.xp_token.specs.Lexemes.{seen, placed, all_placed}
use Rattle.xp_token.specs.Held.{dec_by, dec_of, kind_of, token_of, tokens_of}

dec : (negative : Bool) (c s : ℕ) → c < 10 ^ 38 → s ≤ 38 → (negative ≡ true → 0 < c) → Dec
dec negative c s p q r = record { neg = negative; coef = c; scale = s; digits = p; decimals = q; no_negative_zero = r }

-- whatever keeps them within their limits
same_dec : (negative : Bool) (c s : ℕ) (p p' : c < 10 ^ 38) (q q' : s ≤ 38) (r r' : negative ≡ true → 0 < c) → dec negative c s p q r ≡ dec negative c s p' q' r'
same_dec negative c s p p' q q' r r' =
    ap (λ z. dec negative c s z q r) (le_prop p p') ∙ ap (λ z. dec negative c s p' z r) (le_prop q q') ∙ ap (λ z. dec negative c s p' q' z) (fun_ext (λ h. le_prop (r h) (r' h)))

sign_kept : (negative : Bool) (c : ℕ) → (negative ≡ true → 0 < c) → (not negative || nat_lt 0 c) ≡ true
sign_kept true c h = lt-ltb 0 c (h refl)
sign_kept false c h = refl

pub dec_again : (d : Dec) → dec_of d.neg d.coef d.scale ≡ d
unfolding dec_of dec
dec_again d = by _ refl _ refl _ refl
  where
    by : (a : Bool) (p : nat_lt d.coef (10 ^ 38) ≡ a) (b : Bool) (q : nat_le d.scale 38 ≡ b) (c : Bool) (r : (not d.neg || nat_lt 0 d.coef) ≡ c) → dec_by d.neg d.coef d.scale a p b q c r ≡ d
    by true p true q true r = same_dec d.neg d.coef d.scale _ d.digits _ d.decimals _ d.no_negative_zero
    by false p b q c r = absurd (true≢false (sym (lt-ltb d.coef (10 ^ 38) d.digits) ∙ p))
    by true p false q c r = absurd (true≢false (sym (le-leb d.scale 38 d.decimals) ∙ q))
    by true p true q false r = absurd (true≢false (sym (sign_kept d.neg d.coef d.no_negative_zero) ∙ r))

pub kind_again : (k : TokenKind) → kind_of (seen k) ≡ k
kind_again (kind.Name n) = refl
kind_again (kind.Quoted n) = refl
kind_again (kind.Word w) = refl
kind_again (kind.Str t) = refl
kind_again (kind.Number d whole) = ap (λ z. kind.Number z whole) (dec_again d)
kind_again kind.Wide = refl
kind_again (kind.Operator o) = refl
kind_again (kind.Mark m) = refl
kind_again kind.End = refl

pub token_again : (t : Token) → token_of (placed t) ≡ t
token_again t = ap (λ k. record { span = t.span; kind = k }) (kind_again t.kind)

pub tokens_again : (ts : List Token) → tokens_of (all_placed ts) ≡ ts
tokens_again [] = refl
tokens_again (t ∷ ts) = ap (λ z. token_of (placed t) ∷ z) (tokens_again ts) ∙ ap (λ z. z ∷ ts) (token_again t)
