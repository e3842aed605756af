-- A numeric as a whole number of units of its last decimal and a scale, and the limits on it (manual 8.1.2).
use Rattle.std.specs.Prelude.{◌≡◌, ℕ, ◌-◌, ◌*◌, ◌^◌, ◌<◌, nat_le, nat_lt, ℤ, pos, negsuc, neg_ℤ, unsigned_abs, Bool, true, false, cond, Result, Ok, Err, refl}
use Rattle.std.proofs.lemmas.Bool.{ltb-true, leb-true, false≢true}
use Rattle.std.proofs.Math.Nat.{zero-lt-suc}
use Rattle.xp_base.specs.declared.codes.EvalError.{EvalError}
use Rattle.xp_base.specs.declared.codes.EvalError.TheVariants.{Limit}
use Rattle.xp_base.specs.declared.decimal.Dec.{Dec}

-- a size with a sign
abbrev pub signed : Bool → ℕ → ℤ
signed negative size = cond negative (neg_ℤ (pos size)) (pos size)

-- how many units of its last decimal a number is
abbrev pub whole : Dec → ℤ
whole x = signed x.neg x.coef

-- how many units of decimal s it is, which is its last one or one behind that
abbrev pub at : ℕ → Dec → ℤ
at s x = signed x.neg (x.coef * 10 ^ (s - x.scale))

abbrev pub is_negative : ℤ → Bool
is_negative (pos n) = false
is_negative (negsuc n) = true

-- what is negative isn't zero
abbrev pub nonzero : (z : ℤ) → is_negative z ≡ true → 0 < unsigned_abs z
nonzero (pos n) h = absurd (false≢true h)
nonzero (negsuc n) h = zero-lt-suc n

-- so many units of decimal s, by whether they have at most 38 digits, and s is at most 38
abbrev pub made_by : (z : ℤ) (s : ℕ) (digits : Bool) → nat_lt (unsigned_abs z) (10 ^ 38) ≡ digits → (decimals : Bool) → nat_le s 38 ≡ decimals → Result Dec EvalError
made_by z s true p true q = Ok (record {
  neg = is_negative z;
  coef = unsigned_abs z;
  scale = s;
  digits = ltb-true (unsigned_abs z) (10 ^ 38) p;
  decimals = leb-true s 38 q;
  no_negative_zero = nonzero z;
})
made_by z s _ p _ q = Err Limit

-- z units of decimal s: the numeric, or Limit where it would have more than 38 digits or decimals
unfoldable pub made : ℤ → ℕ → Result Dec EvalError
made z s = made_by z s _ refl _ refl
