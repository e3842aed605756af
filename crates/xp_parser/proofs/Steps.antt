-- Reading in steps: what is left, and steps that are alike.
use Rattle.std.proofs.Common.{◌≡◌, Bool, true, false, List, [], ◌∷◌, Option, Some, None, Ok, Err, refl, ap, if◌then◌else◌}
use denote.Ref.{Bor}
use Rattle.xp_token.specs.declared.token.Token.{Token}
use Rattle.xp_grammar.specs.declared.kind.Class.{Class}
use Rattle.xp_grammar.specs.declared.kind.Kind.{Kind}
use Rattle.xp_grammar.specs.declared.kind.Kind.TheVariants as k
use Rattle.xp_grammar.specs.Kinds.{kind, has, same}
use Rattle.xp_grammar.specs.Table.{Value}
use Rattle.xp_grammar.specs.inner.Machine.{Outcome, Parser, and_then, ◌>>=◌, pure, expect, eat, taken, after}
use Rattle.xp_parser.specs.inner.Reading.{Eats}

-- a token that may be there or not, and makes no difference
pub skipped : (c : Class) (ts new : List Token) (o : Option (Bor Token)) (p : Parser Value) → Eats (eat c ts) o new → after c (λ t. p) p ts ≡ p new
skipped c ts new (Some t) p e = ap (λ z. and_then z (taken (λ t'. p) p)) e
skipped c ts new None p e = ap (λ z. and_then z (taken (λ t'. p) p)) e

-- what is done behind a token makes the difference
pub after_same : {A : Type 0} (c : Class) (f g : Token → Parser A) (p q : Parser A) (ts : List Token)
    → ((t : Token) (r : List Token) → f t r ≡ g t r) → ((r : List Token) → p r ≡ q r) → after c f p ts ≡ after c g q ts
after_same c f g p q [] h k = k []
after_same {A = A} c f g p q (t ∷ ts) h k = by (has c (kind t))
  where
    by : (b : Bool) → ◌≡◌ {A = Outcome A} (and_then (if b then Ok (Some t, ts) else Ok (None, t ∷ ts)) (taken f p)) (and_then (if b then Ok (Some t, ts) else Ok (None, t ∷ ts)) (taken g q))
    by true = h t ts
    by false = k (t ∷ ts)

pub expect_same : {A : Type 0} (c : Class) (f g : Token → Parser A) (ts : List Token) → ((t : Token) (r : List Token) → f t r ≡ g t r) → (expect c >>= f) ts ≡ (expect c >>= g) ts
expect_same {A = A} c f g ts h = by (expect c ts)
  where
    by : (o : Outcome Token) → and_then o f ≡ and_then o g
    by (Ok p) = h p.0 p.1
    by (Err n) = refl

-- a value in between
pub pure_then : {A B C : Type 0} (o : Outcome A) (g : A → B) (f : B → Parser C) → and_then (and_then o (λ a. pure (g a))) f ≡ and_then o (λ a. f (g a))
pure_then (Ok p) g f = refl
pure_then (Err n) g f = refl

-- a kind is one of these where it is this
pub other_flip : (a : Kind) → same a k.Other ≡ same k.Other a
other_flip k.Whole = refl
other_flip k.Decimal = refl
other_flip k.Wide = refl
other_flip k.String = refl
other_flip k.Name = refl
other_flip k.Double = refl
other_flip k.Precision = refl
other_flip k.Character = refl
other_flip k.Varying = refl
other_flip k.Timestamp = refl
other_flip k.Time = refl
other_flip k.With = refl
other_flip k.Without = refl
other_flip k.Zone = refl
other_flip k.Quoted = refl
other_flip (k.Word w) = refl
other_flip k.Sign = refl
other_flip k.Times = refl
other_flip k.Power = refl
other_flip k.Compare = refl
other_flip k.Other = refl
other_flip k.Arrow = refl
other_flip (k.Mark m) = refl
other_flip k.EndOfStatement = refl
other_flip k.Nothing = refl

pub whole_flip : (a : Kind) → same a k.Whole ≡ same k.Whole a
whole_flip k.Whole = refl
whole_flip k.Decimal = refl
whole_flip k.Wide = refl
whole_flip k.String = refl
whole_flip k.Name = refl
whole_flip k.Double = refl
whole_flip k.Precision = refl
whole_flip k.Character = refl
whole_flip k.Varying = refl
whole_flip k.Timestamp = refl
whole_flip k.Time = refl
whole_flip k.With = refl
whole_flip k.Without = refl
whole_flip k.Zone = refl
whole_flip k.Quoted = refl
whole_flip (k.Word w) = refl
whole_flip k.Sign = refl
whole_flip k.Times = refl
whole_flip k.Power = refl
whole_flip k.Compare = refl
whole_flip k.Other = refl
whole_flip k.Arrow = refl
whole_flip (k.Mark m) = refl
whole_flip k.EndOfStatement = refl
whole_flip k.Nothing = refl
